-- One line more, and the end.
use Rattle.std.proofs.Common.{◌∙◌, ◌+◌, ◌++◌, List, [], ℕ, take, drop, slice_index_or, refl, sym, ap, subst, arith, Err, Ok, append-nil}
use Rattle.std.proofs.lemmas.List.{take_all, take-append-drop}
use Rattle.std.proofs.lemmas.List.Concat.{flat_map-append}
use Rattle.std.specs.List.{flat_map}
use Rattle.adx_io.specs.TalkState.{state_of}
use Rattle.formats.specs.Parts.{ended}
use Rattle.history_runs.specs.Putting.{PutsBytes, PutsFront}
use Rattle.history_runs.proofs.Putting.{front_none}
use Rattle.command_close.proofs.Steps.{one_more, steps_on, stops_first}
use Rattle.command_close.proofs.pieces.put_lines.Goals as goal

pub loop-at-init : goal.loop-at-init
loop-at-init g c =
    let before = state_of c.args.talk.now in record {
      told = subst (λ (b : List ℕ). PutsFront before.held before.held b before.out) (sym (append-nil before.out)) (front_none before.held before.out);
      rest = refl;
      read_same = refl;
      write_same = refl;
      place = refl;
    }

pub loop-at-preserved : goal.loop-at-preserved
loop-at-preserved g c =
    let before = state_of c.args.talk.now in
    let mid = state_of c.loop-at.talk in
    let now = state_of c.put_line.new.talk in
    let lines = g.L.Lines.lines c.args.lines.now in
    let i = c.loop-at.at in
    let step = c.put_line.ensures in record {
      told = subst (λ (bytes : List ℕ). PutsFront before.held now.held (before.out ++ bytes) now.out) (sym (one_more lines i (omega (arith, c.count-count.ensures))))
          (steps_on before.held mid.held now.held before.out mid.out now.out (flat_map ended (take i lines)) (ended (slice_index_or lines i [])) (Ok tt) c.loop-at.invariant.told c.in-Ok.ensures.puts);
      rest = step.rest ∙ c.loop-at.invariant.rest;
      read_same = step.causes.read_same (λ e. cc (e, c.in-Ok.is)) ∙ c.loop-at.invariant.read_same;
      write_same = step.causes.write_same (λ e. cc (e, c.in-Ok.is)) ∙ c.loop-at.invariant.write_same;
      place = step.same ∙ c.loop-at.invariant.place;
    }

pub returns-in-Err-clause-puts : goal.returns-in-Err-clause-puts
returns-in-Err-clause-puts g c =
    let before = state_of c.args.talk.now in
    let mid = state_of c.loop-at.talk in
    let now = state_of c.put_line.new.talk in
    let lines = g.L.Lines.lines c.args.lines.now in
    let i = c.loop-at.at in
    let others = flat_map ended (drop (i + 1) lines) in
    subst (λ (bytes : List ℕ). PutsBytes before.held now.held (before.out ++ bytes) (Err c.in-Err.stop))
    (ap (λ (b : List ℕ). b ++ others) (sym (one_more lines i (omega (arith, c.count-count.ensures))))
    ∙ sym (flat_map-append ended (take (i + 1) lines) (drop (i + 1) lines)) ∙ ap (flat_map ended) (take-append-drop (i + 1) lines))
    (stops_first before.held now.held before.out (flat_map ended (take i lines) ++ ended (slice_index_or lines i [])) others c.in-Err.stop
    (steps_on before.held mid.held now.held before.out mid.out now.out (flat_map ended (take i lines)) (ended (slice_index_or lines i [])) (Err c.in-Err.stop) c.loop-at.invariant.told c.in-Err.ensures.puts))

pub returns-clause-puts : goal.returns-clause-puts
returns-clause-puts g c =
    let before = state_of c.args.talk.now in
    let mid = state_of c.loop-at.talk in
    let lines = g.L.Lines.lines c.args.lines.now in
    subst (λ (ls : List (List ℕ)). PutsFront before.held mid.held (before.out ++ flat_map ended ls) mid.out)
    (take_all c.loop-at.at lines (omega (arith, c.count-count.ensures))) c.loop-at.invariant.told
