use Rattle.day_entries.proofs.Steps.{adds_flushed, adds_kind}
use Rattle.day_entries.proofs.writing.push_first_ask.Goals as goal

pub returns-clause-ok : goal.returns-clause-ok
returns-clause-ok c =
    adds_kind 1 c.args.out.now.payload c.push.new.self.payload c.add_gathered.new.out.payload c.args.ask.now c.in_ok-push.ensures.ok
    (adds_flushed _ _ _ _ c.new-pieces.ensures c.in_ok-gather_ask.ensures.ok c.in_ok-add_gathered.ensures.payload)
