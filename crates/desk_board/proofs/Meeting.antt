-- What passes have seen behind a meeting and behind a look.
use Rattle.std.proofs.Common.{◌≡◌, ℕ, ◌≤◌, List, [], ◌++◌, length, take, sym, ap, ◌∙◌, subst, arith, append_assoc, append-nil, length-append}
use Rattle.std.specs.Prelude.{Result, Ok, Err, IfOk, OnErr, ⊤}
use Rattle.std.proofs.Math.Seq.{take-length}
use Rattle.std.proofs.lemmas.List.{length-take}
use mathlib.Core.List.{IsPrefix}
use Rattle.day_rules.specs.declared.entry.Entry.{Entry}
use Rattle.adx_desk.specs.declared.shared.OpenedWith.{OpenedWith}
use Rattle.adx_desk.specs.declared.turn.Turn.{Turn}
use Rattle.turnstile.specs.Passes.{PassView, told}
use Rattle.turnstile.specs.Places.{AreOneList, greater}
use Rattle.day_rules.specs.declared.step.MeterStep.{MeterStep}
use Rattle.day_rules.specs.DayMeters.{steps_of}
use Rattle.meter_board.proofs.Beginnings.{still_begins}
use Rattle.shared_desk.specs.Callers.{Looks, Passed}
use Rattle.shared_desk.proofs.Steps.{as_many, prefix_of_steps, steps_front}

-- a pass that was told what another has seen has seen all of both
pub met_seen : (p q p' : PassView Entry OpenedWith Turn) → p' ≡ told p q → AreOneList p.seen q.seen → IsPrefix p.seen p'.seen × IsPrefix q.seen p'.seen
met_seen p q p' is one =
    let seen = ap (λ (v : PassView Entry OpenedWith Turn). v.seen) is in (
      subst (λ (l : List Entry). IsPrefix p.seen l) (sym seen) one.0,
      subst (λ (l : List Entry). IsPrefix q.seen l) (sym seen) one.1,
    )

-- and it knows of no fewer faults
pub met_faults : (p q p' : PassView Entry OpenedWith Turn) → p' ≡ told p q → p.faults ≤ p'.faults
met_faults p q p' is = subst (λ (n : ℕ). p.faults ≤ n) (sym (ap (λ (v : PassView Entry OpenedWith Turn). v.faults) is)) (first_less p.faults q.faults)
  where
    first_less : (a b : ℕ) → a ≤ greater a b
    first_less a b = grind arith

-- a look adds nothing to what its pass finds
pub looked_seen : (opened : OpenedWith) (before : List Entry) (n : ℕ) (p q : PassView Entry OpenedWith Turn) → Passed opened before [] n p q → IsPrefix p.seen q.seen
looked_seen opened before n p q passed =
    let b = passed.answered.begins in (b.0, b.1 ∙ (sym (append-nil before) ∙ sym passed.answered.seen))

pub prefix_short : {A : Type 0} (xs ys : List A) → IsPrefix xs ys → length xs ≤ length ys
prefix_short {A} xs ys p = omega (arith, length-append xs p.0, ap (λ (l : List A). length l) p.1)

pub prefix_on : {A : Type 0} (xs ys zs : List A) → IsPrefix xs ys → IsPrefix ys zs → IsPrefix xs zs
prefix_on {A} xs ys zs p q = (p.0 ++ q.0, sym (append_assoc xs p.0 q.0) ∙ (ap (λ (l : List A). l ++ q.0) p.1 ∙ q.1))

-- what a pass has seen behind a meeting and a look begins with what it had seen, and with what the other has seen then
pub seen_on : (opened : OpenedWith) (p q p' q' p2 : PassView Entry OpenedWith Turn) → p' ≡ told p q → AreOneList p.seen q.seen → p'.seen ≡ q'.seen → Looks opened p' p2
    → IsPrefix p.seen p2.seen × IsPrefix q'.seen p2.seen
seen_on opened p q p' q' p2 is one same looks =
    let met = met_seen p q p' is one in
    let looked = looked_seen opened looks.0 0 p' p2 looks.1 in (
      prefix_on p.seen p'.seen p2.seen met.0 looked,
      subst (λ (l : List Entry). IsPrefix l p2.seen) same looked,
    )

-- what begins the steps of a history begins those of a longer one
pub begins_on : (first : List MeterStep) (xs ys : List Entry) → take (length first) (steps_of xs) ≡ first → IsPrefix xs ys → take (length first) (steps_of ys) ≡ first
begins_on first xs ys begins p = still_begins first (steps_of xs) (steps_of ys) begins (prefix_of_steps xs ys p)

-- steps that begin those of a history are those of its first entries
pub steps_of_front : (shown : List MeterStep) (history : List Entry) (n : ℕ) → n ≡ length shown → take (length shown) (steps_of history) ≡ shown → shown ≡ steps_of (take n history)
steps_of_front shown history n long begins =
    let short : length shown ≤ length history = omega (arith, length-take (length shown) (steps_of history), ap (λ (l : List MeterStep). length l) begins, as_many history) in
    sym begins ∙ (steps_front (length shown) history short ∙ ap (λ (k : ℕ). steps_of (take k history)) (sym long))

-- what is kept behind a call begins all steps, where it is all of them if the call is done and else what was kept
pub shown_on : {E : Type 0} (r : Result ⊤ E) (shown now all : List MeterStep) → IfOk r (λ _. now ≡ all) → OnErr r (now ≡ shown) → take (length shown) all ≡ shown → take (length now) all ≡ now
shown_on (Ok done) shown now all is stays begins = subst (λ (l : List MeterStep). take (length l) all ≡ l) (sym is) (take-length all)
shown_on (Err fault) shown now all is stays begins = subst (λ (l : List MeterStep). take (length l) all ≡ l) (sym stays) begins

-- what holds anyway holds where a call is done
pub if_done : {T E : Type 0} (P : Type 0) (r : Result T E) → P → IfOk r (λ _. P)
if_done P (Ok done) p = p
if_done P (Err fault) p = record {}
