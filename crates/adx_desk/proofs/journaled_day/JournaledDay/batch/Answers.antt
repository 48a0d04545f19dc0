-- By the law that notices of different awards commute.
use Rattle.std.proofs.Common.{◌≡◌, ℕ, ◌+◌, ◌<◌, List, length, All, Some, sym, ◌∙◌, ap, subst, arith}
use Rattle.std.specs.Prelude.{Err, Ok}
use Rattle.std.proofs.lemmas.Bool.{eq-eqb, eqb-true, false≢true}
use Rattle.day_entries.specs.Entries.{Fits, entries_bytes}
use Rattle.day_journal.specs.Tails.{size_of}
use Rattle.day_rules.specs.declared.answer.Answer.{Answer}
use Rattle.day_rules.specs.Laws.{Arrival}
use Rattle.day_machine.specs.Batches.{BatchState, answers_in_turn, entries_in_turn}
use Rattle.adx_desk.specs.Journaled.{JournaledState, on_disk}
use Rattle.adx_desk.specs.Serving.{ServesAll}
use Rattle.day_machine.proofs.InTurn.{entries_few, none_added, some_added}
use Rattle.adx_desk.proofs.Batching.{ran_in_turn}
use Rattle.adx_desk.proofs.Serving.{serves_unmoved}
use Rattle.adx_desk.proofs.journaled_day.JournaledDay.batch.Goals as goal

pub returns-then-is_empty-clause-answers : goal.returns-then-is_empty-clause-answers
returns-then-is_empty-clause-answers g c =
    let s : JournaledState = c.args.self.now in
    let xs = c.args.batch.now.calls in
    let b = ran_in_turn c.self.inside.day c.self.inside.digest c.self.inside.journal c.self.inside.faults c.self.inside.without_end s xs c.day.result.now.history c.format.result c.run.new.frame.payload c.self.invariant c.self.view_is c.run.ensures.apart c.day.ensures.history c.format.ensures c.run.ensures.payload c.run.ensures.fits in
    c.run.ensures.answers ∙ ap (λ (l : List Answer). record { calls = xs; answers = Some l }) b.answers

pub returns-then-is_empty-clause-serves : goal.returns-then-is_empty-clause-serves
returns-then-is_empty-clause-serves g c =
    let D = g.D.Disk in
    let s : JournaledState = c.args.self.now in
    let xs = c.args.batch.now.calls in
    let b = ran_in_turn c.self.inside.day c.self.inside.digest c.self.inside.journal c.self.inside.faults c.self.inside.without_end s xs c.day.result.now.history c.format.result c.run.new.frame.payload c.self.invariant c.self.view_is c.run.ensures.apart c.day.ensures.history c.format.ensures c.run.ensures.payload c.run.ensures.fits in
    let none = none_added s.desk.journal.format (entries_in_turn s.desk.history xs) c.run.new.frame.payload b.bytes (sym (ap (λ (l : List ℕ). length l) c.payload.ensures) ∙ eqb-true (length c.payload.result.now) 0 (sym c.is_empty.ensures ∙ c.if-is_empty.true)) in
    serves_unmoved D.may_leave D.moment D.left_since _ (on_disk s c.args.disk.now) (entries_in_turn s.desk.history xs) none (g.met.D.Disk.only_now c.args.disk.now)

pub returns-then-is_empty-clause-grown : goal.returns-then-is_empty-clause-grown
returns-then-is_empty-clause-grown g c = λ some.
    let s : JournaledState = c.args.self.now in
    let xs = c.args.batch.now.calls in
    let b = ran_in_turn c.self.inside.day c.self.inside.digest c.self.inside.journal c.self.inside.faults c.self.inside.without_end s xs c.day.result.now.history c.format.result c.run.new.frame.payload c.self.invariant c.self.view_is c.run.ensures.apart c.day.ensures.history c.format.ensures c.run.ensures.payload c.run.ensures.fits in
    let none = none_added s.desk.journal.format (entries_in_turn s.desk.history xs) c.run.new.frame.payload b.bytes (sym (ap (λ (l : List ℕ). length l) c.payload.ensures) ∙ eqb-true (length c.payload.result.now) 0 (sym c.is_empty.ensures ∙ c.if-is_empty.true)) in
    absurd (omega (arith, some, ap length none))

pub append_all-requires-clause-payload : goal.append_all-requires-clause-payload
append_all-requires-clause-payload g c =
    let s : JournaledState = c.args.self.now in
    let xs = c.args.batch.now.calls in
    let b = ran_in_turn c.self.inside.day c.self.inside.digest c.self.inside.journal c.self.inside.faults c.self.inside.without_end s xs c.day.result.now.history c.format.result c.run.new.frame.payload c.self.invariant c.self.view_is c.run.ensures.apart c.day.ensures.history c.format.ensures c.run.ensures.payload c.run.ensures.fits in
    let same : c.run.new.self.calls ≡ xs = ap (λ (t : BatchState). t.calls) c.run.ensures.answers in
    subst (λ (l : List Arrival). c.run.new.frame.payload ≡ entries_bytes s.desk.journal.format (entries_in_turn s.desk.history l)) (sym same) b.bytes

pub append_all-requires-clause-fits : goal.append_all-requires-clause-fits
append_all-requires-clause-fits g c =
    let s : JournaledState = c.args.self.now in
    let xs = c.args.batch.now.calls in
    let b = ran_in_turn c.self.inside.day c.self.inside.digest c.self.inside.journal c.self.inside.faults c.self.inside.without_end s xs c.day.result.now.history c.format.result c.run.new.frame.payload c.self.invariant c.self.view_is c.run.ensures.apart c.day.ensures.history c.format.ensures c.run.ensures.payload c.run.ensures.fits in
    let same : c.run.new.self.calls ≡ xs = ap (λ (t : BatchState). t.calls) c.run.ensures.answers in
    subst (λ (l : List Arrival). All (Fits s.desk.journal.format) (entries_in_turn s.desk.history l)) (sym same) b.fits

pub append_all-requires-clause-some : goal.append_all-requires-clause-some
append_all-requires-clause-some g c =
    let s : JournaledState = c.args.self.now in
    let xs = c.args.batch.now.calls in
    let b = ran_in_turn c.self.inside.day c.self.inside.digest c.self.inside.journal c.self.inside.faults c.self.inside.without_end s xs c.day.result.now.history c.format.result c.run.new.frame.payload c.self.invariant c.self.view_is c.run.ensures.apart c.day.ensures.history c.format.ensures c.run.ensures.payload c.run.ensures.fits in
    let same : c.run.new.self.calls ≡ xs = ap (λ (t : BatchState). t.calls) c.run.ensures.answers in
    subst (λ (l : List Arrival). 0 < length (entries_in_turn s.desk.history l)) (sym same)
    (some_added s.desk.journal.format (entries_in_turn s.desk.history xs) c.run.new.frame.payload b.bytes (λ none. false≢true (sym c.if-is_empty.false ∙ (c.is_empty.ensures ∙ eq-eqb (length c.payload.result.now) 0 (ap (λ (l : List ℕ). length l) c.payload.ensures ∙ none)))))

pub append_all-requires-clause-answers : goal.append_all-requires-clause-answers
append_all-requires-clause-answers g c =
    let s : JournaledState = c.args.self.now in
    let xs = c.args.batch.now.calls in
    let b = ran_in_turn c.self.inside.day c.self.inside.digest c.self.inside.journal c.self.inside.faults c.self.inside.without_end s xs c.day.result.now.history c.format.result c.run.new.frame.payload c.self.invariant c.self.view_is c.run.ensures.apart c.day.ensures.history c.format.ensures c.run.ensures.payload c.run.ensures.fits in
    ap (λ (t : BatchState). t.answers) c.run.ensures.answers
    ∙ (ap (λ (l : List Answer). Some l) b.answers ∙ ap (λ (t : BatchState). Some (answers_in_turn s.desk.history t.calls)) (sym c.run.ensures.answers))

pub returns-in-Ok-clause-answers : goal.returns-in-Ok-clause-answers
returns-in-Ok-clause-answers g c =
    let s : JournaledState = c.args.self.now in
    let xs = c.args.batch.now.calls in
    let b = ran_in_turn c.self.inside.day c.self.inside.digest c.self.inside.journal c.self.inside.faults c.self.inside.without_end s xs c.day.result.now.history c.format.result c.run.new.frame.payload c.self.invariant c.self.view_is c.run.ensures.apart c.day.ensures.history c.format.ensures c.run.ensures.payload c.run.ensures.fits in
    c.run.ensures.answers ∙ ap (λ (l : List Answer). record { calls = xs; answers = Some l }) b.answers

pub returns-in-Ok-clause-serves : goal.returns-in-Ok-clause-serves
returns-in-Ok-clause-serves g c =
    let D = g.D.Disk in
    let s : JournaledState = c.args.self.now in
    let xs = c.args.batch.now.calls in
    let same : c.run.new.self.calls ≡ xs = ap (λ (t : BatchState). t.calls) c.run.ensures.answers in
    subst (λ (l : List Arrival). ServesAll {T = Unit {0}} D.may_leave D.moment D.left_since (on_disk s c.args.disk.now) (on_disk c.append_all.new.self c.append_all.new.disk) (entries_in_turn s.desk.history l) (Ok tt)) same c.in-Ok.ensures.serves

pub returns-in-Ok-clause-grown : goal.returns-in-Ok-clause-grown
returns-in-Ok-clause-grown g c = λ some.
    let s : JournaledState = c.args.self.now in
    let xs = c.args.batch.now.calls in
    let same : c.run.new.self.calls ≡ xs = ap (λ (t : BatchState). t.calls) c.run.ensures.answers in
    subst (λ (l : List Arrival). size_of c.append_all.new.self.desk.journal ≡ size_of s.desk.journal + (length (entries_bytes s.desk.journal.format (entries_in_turn s.desk.history l)) + 5)) same c.in-Ok.ensures.grown

pub returns-in-Err-clause-waits : goal.returns-in-Err-clause-waits
returns-in-Err-clause-waits g c =
    let calls = ap (λ (b : BatchState). b.calls) c.run.ensures.answers in
    c.wait.ensures ∙ (λ i. record { calls = calls i; answers = sym c.requires.waits i })

pub returns-in-Err-clause-serves : goal.returns-in-Err-clause-serves
returns-in-Err-clause-serves g c =
    let D = g.D.Disk in
    let s : JournaledState = c.args.self.now in
    let xs = c.args.batch.now.calls in
    let same : c.run.new.self.calls ≡ xs = ap (λ (t : BatchState). t.calls) c.run.ensures.answers in
    subst (λ (l : List Arrival). ServesAll {T = Unit {0}} D.may_leave D.moment D.left_since (on_disk s c.args.disk.now) (on_disk c.append_all.new.self c.append_all.new.disk) (entries_in_turn s.desk.history l) (Err c.in-Err.fault)) same c.in-Err.ensures.serves

pub returns-in-Ok-clause-unmoved : goal.returns-in-Ok-clause-unmoved
returns-in-Ok-clause-unmoved g c = λ none.
    let s : JournaledState = c.args.self.now in
    let xs = c.args.batch.now.calls in
    let b = ran_in_turn c.self.inside.day c.self.inside.digest c.self.inside.journal c.self.inside.faults c.self.inside.without_end s xs c.day.result.now.history c.format.result c.run.new.frame.payload c.self.invariant c.self.view_is c.run.ensures.apart c.day.ensures.history c.format.ensures c.run.ensures.payload c.run.ensures.fits in
    let some = some_added s.desk.journal.format (entries_in_turn s.desk.history xs) c.run.new.frame.payload b.bytes (λ empty. false≢true (sym c.if-is_empty.false ∙ (c.is_empty.ensures ∙ eq-eqb (length c.payload.result.now) 0 (ap (λ (l : List ℕ). length l) c.payload.ensures ∙ empty)))) in
    absurd (omega (arith, some, ap length none))

pub returns-in-Err-clause-unmoved : goal.returns-in-Err-clause-unmoved
returns-in-Err-clause-unmoved g c = λ none.
    let s : JournaledState = c.args.self.now in
    let xs = c.args.batch.now.calls in
    let b = ran_in_turn c.self.inside.day c.self.inside.digest c.self.inside.journal c.self.inside.faults c.self.inside.without_end s xs c.day.result.now.history c.format.result c.run.new.frame.payload c.self.invariant c.self.view_is c.run.ensures.apart c.day.ensures.history c.format.ensures c.run.ensures.payload c.run.ensures.fits in
    let some = some_added s.desk.journal.format (entries_in_turn s.desk.history xs) c.run.new.frame.payload b.bytes (λ empty. false≢true (sym c.if-is_empty.false ∙ (c.is_empty.ensures ∙ eq-eqb (length c.payload.result.now) 0 (ap (λ (l : List ℕ). length l) c.payload.ensures ∙ empty)))) in
    absurd (omega (arith, some, ap length none))

pub returns-then-is_empty-clause-few : goal.returns-then-is_empty-clause-few
returns-then-is_empty-clause-few g c = omega (arith, entries_few c.args.self.now.desk.history c.args.batch.now.calls, c.run.ensures.few)

pub returns-in-Ok-clause-few : goal.returns-in-Ok-clause-few
returns-in-Ok-clause-few g c = omega (arith, entries_few c.args.self.now.desk.history c.args.batch.now.calls, c.run.ensures.few)

pub returns-in-Err-clause-few : goal.returns-in-Err-clause-few
returns-in-Err-clause-few g c = omega (arith, entries_few c.args.self.now.desk.history c.args.batch.now.calls, c.run.ensures.few)
