-- What a board that was published shows, and what a reader that was told of it has read.
use Rattle.std.proofs.Common.{◌≡◌, ℕ, List, length, Bool, true, if◌then◌else◌, Option, Some, None, IfSome, sym, ap, ◌∙◌, arith}
use Rattle.std.proofs.lemmas.Bool.{le-leb}
use Rattle.std.specs.Prelude.{is_some}
use mathlib.Core.List.{IsPrefix}
use Rattle.logbook.specs.Pages.{Book}
use Rattle.adx_desk.specs.declared.shared.OpenedWith.{OpenedWith}
use Rattle.day_rules.specs.DayMeters.{steps_of}
use Rattle.day_rules.specs.declared.entry.Entry.{Entry}
use Rattle.desk_board.proofs.Meeting.{met_seen, prefix_on, prefix_short}
use Rattle.meter_board.proofs.Beginnings.{entries_of, prefix_whole}
use Rattle.day_rules.specs.Steps.{meters_of}
use Rattle.day_rules.specs.declared.meters.Meters.{Meters}
use Rattle.day_rules.specs.declared.step.MeterStep.{MeterStep}
use Rattle.shared_desk.specs.Callers.{DeskPass}
use Rattle.shared_desk.specs.Idle.{IsIdle}
use Rattle.turnstile.specs.Passes.{IsOf, IsSamePass, TurnstileState, told}
use Rattle.turnstile.specs.Places.{AreOneList, longer}
use Rattle.desk_board.specs.Boards.{IsBoard}

-- of a list and one that begins with it the longer is that one
longer_is : (xs ys : List Entry) → IsPrefix xs ys → longer xs ys ≡ ys
longer_is xs ys p = ap (λ (b : Bool). if b then ys else xs) (le-leb (length xs) (length ys) (prefix_short xs ys p))

-- what is published, once its pass and the other have met again
pub met_again : (own p p_now : DeskPass) (shown : List MeterStep) → shown ≡ steps_of own.seen → IsPrefix p.seen own.seen → p_now ≡ told p own → shown ≡ steps_of p_now.seen
met_again own p p_now shown is met p_is =
    is ∙ ap steps_of (sym (ap (λ (v : DeskPass). v.seen) p_is ∙ longer_is p.seen own.seen met))

-- what its own pass has seen then
pub own_later : (before own p own_now : DeskPass) → IsPrefix before.seen own.seen → AreOneList own.seen p.seen → own_now ≡ told own p → IsPrefix before.seen own_now.seen
own_later before own p own_now later one is = prefix_on before.seen own.seen own_now.seen later (met_seen own p own_now is one).0

-- a read with as many entries as were told
pub read_whole : (shown before now : List MeterStep) (m : Meters) (count : ℕ) → count ≡ length shown → IsPrefix shown before → IsPrefix before now → m ≡ meters_of now → m.entries ≡ count → now ≡ shown
read_whole shown before now m count long told later is same =
    let many : length now ≡ length shown = sym (entries_of now) ∙ (ap (λ (k : Meters). k.entries) (sym is) ∙ (same ∙ long)) in
    sym (prefix_whole shown now (prefix_on shown before now told later) (omega (arith, many)))

pub same_again : (p q s : DeskPass) → IsSamePass p q → IsSamePass q s → IsSamePass p s
same_again p q s a b = (b.0 ∙ a.0, b.1 ∙ a.1, b.2 ∙ a.2, b.3 ∙ a.3, b.4 ∙ a.4)

-- a board's pass is of the desk
pub of_desk : (first p : DeskPass) (desk : TurnstileState OpenedWith) → IsOf first desk → IsIdle first p → IsOf p desk
of_desk first p desk of idle = (idle.turnstile ∙ of.0, idle.fixed ∙ of.1)

-- what stays of a board whose pass gained no turn
pub board_on : (first : DeskPass) (book list list_now : Book) (p q : DeskPass) → list_now ≡ list → IsSamePass p q → q.turns ≡ p.turns → IsPrefix p.seen q.seen → IsBoard first book list p → IsBoard first book list_now q
board_on first book list list_now p q is same turns later board = record {
  named = is ∙ board.named;
  idle = record {
    turnstile = same.0 ∙ board.idle.turnstile;
    fixed = same.3 ∙ board.idle.fixed;
    split = same.1 ∙ board.idle.split;
    none = turns ∙ board.idle.none;
    begins = prefix_on first.seen p.seen q.seen board.idle.begins later;
  };
}

-- what was read, where that is what was published
pub shown_read : {T : Type 0} (seen_now : List Entry) (shown now : List MeterStep) (r : Option T) → IfSome r (λ _. now ≡ shown) → shown ≡ steps_of seen_now → IfSome r (λ _. now ≡ steps_of seen_now)
shown_read seen_now shown now (Some m) is all = is ∙ all
shown_read seen_now shown now None is all = tt

-- and by whether something was
pub shown_where : {T : Type 0} (seen_now : List Entry) (now : List MeterStep) (r : Option T) (b : Bool) → b ≡ is_some r → IfSome r (λ _. now ≡ steps_of seen_now) → b ≡ true → now ≡ steps_of seen_now
shown_where seen_now now (Some m) b is shown e = shown
shown_where seen_now now None b is shown e = absurd (cc (is, e))
