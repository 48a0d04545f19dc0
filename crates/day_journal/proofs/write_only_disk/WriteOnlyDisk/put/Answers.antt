-- All bytes go with the writes.
use Rattle.std.proofs.Common.{rules, ap, ◌∙◌, map}
use Rattle.day_journal.proofs.WriteOnlyDisks.{front_put, put_to, state_put}
use Rattle.day_journal.proofs.write_only_disk.WriteOnlyDisk.put.Goals as goal

pub invariant_of-self-2 : goal.invariant_of-self-2
invariant_of-self-2 c =
    front_put c.self.inside.front.items c.keep.new.front.items c.self.inside.size c.max-size.result
    (map (λ put. put.value) c.self.inside.puts.items) (map (λ put. put.value) c.note.new.puts.items)
    (record { at = c.args.at; piece = c.args.piece.now }) c.self.invariant (search rules) (search rules) (search rules)

pub returns-clause-ok : goal.returns-clause-ok
returns-clause-ok c =
    state_put (map (λ put. put.value) c.self.inside.puts.items) (map (λ put. put.value) c.note.new.puts.items)
    (record { at = c.args.at; piece = c.args.piece.now }) c.self.inside.faults (search rules)
    ∙ ap (put_to c.args.at c.args.piece.now) (search rules)
