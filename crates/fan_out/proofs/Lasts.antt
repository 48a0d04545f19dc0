-- Lanes whose work was left in them, and then taken.
use Rattle.std.specs.Prelude.{◌≡◌, ◌<◌, ℕ, zero, suc, List, [], ◌∷◌, length, map, slice_index_or, get_or, drop, unwrap_or, Option, Some, None, Result, Ok, Err, IfOk, refl}
use Rattle.std.specs.List.{All}
use Rattle.std.proofs.Common.{sym, ◌∙◌, ap, subst, arith}
use Rattle.adx_units.specs.declared.memory.OutOfMemory.{OutOfMemory}
use Rattle.fan_out.specs.declared.answer.BidderAnswer.{BidderAnswer}
use Rattle.fan_out.specs.declared.lane.Lane.{Lane}
use Rattle.fan_out.specs.Answers.{said_by}
use Rattle.fan_out.specs.Lanes.{Outcome, outcome_of}
use Rattle.fan_out.specs.Gathering.{AreWorked, WereWorked, outcomes_of}
use Rattle.fan_out.specs.Lasts.{emptied, AreTaken, Leaves, EachLeaves}

module _ {L : Type 0} (Works : Lane L → Lane L → Outcome → Type 0) (kept : (l n : Lane L) (o : Outcome) → Works l n o → Works l (emptied n) o) where
  -- what the lanes' work came to, and that it is the answers where they are all taken
  pub record TakenOf (olds news : List (Lane L)) : Type 0 where
    pub outcomes : List Outcome
    pub worked : AreWorked Works olds (map emptied news) outcomes
    pub answers : (told : List BidderAnswer) → AreTaken news told → outcomes ≡ outcomes_of told

  taken_none : (told : List BidderAnswer) → AreTaken {L = L} [] told → [] ≡ outcomes_of told
  taken_none [] taken = refl
  taken_none (a ∷ told) taken = absurd (cc taken)

  taken_more : (n : Lane L) (ns : List (Lane L)) (r : Result BidderAnswer OutOfMemory) (os : List Outcome) → n.last ≡ Some r
      → ((told : List BidderAnswer) → AreTaken ns told → os ≡ outcomes_of told)
      → (told : List BidderAnswer) → AreTaken (n ∷ ns) told → outcome_of r ∷ os ≡ outcomes_of told
  taken_more n ns r os last rest [] taken = absurd (cc taken)
  taken_more n ns r os last rest (a ∷ told) taken =
      let first : n.last ≡ Some (Ok a) = ap (λ (t : List (Option (Result BidderAnswer OutOfMemory))). get_or t 0 None) taken in
      let is : r ≡ Ok a = ap (λ (o : Option (Result BidderAnswer OutOfMemory)). unwrap_or o r) (sym last ∙ first) in
      let behind : AreTaken ns told = ap (λ (t : List (Option (Result BidderAnswer OutOfMemory))). drop 1 t) taken in
      ap (λ (x : Result BidderAnswer OutOfMemory). outcome_of x ∷ os) is ∙ ap (λ (t : List Outcome). Ok (said_by a) ∷ t) (rest told behind)

  pub taken_of : (olds news : List (Lane L)) → length news ≡ length olds
      → ((k : ℕ) (d : Lane L) → k < length olds → Leaves Works (slice_index_or olds k d) (slice_index_or news k d)) → TakenOf olds news
  taken_of [] [] long each = record { outcomes = []; worked = tt; answers = taken_none }
  taken_of [] (n ∷ ns) long each = absurd (omega (arith, long))
  taken_of (l ∷ ls) [] long each = absurd (omega (arith, long))
  taken_of (l ∷ ls) (n ∷ ns) long each =
      let here : Leaves Works l n = each 0 l (omega arith) in
      let rest : TakenOf ls ns = taken_of ls ns (omega (arith, long)) (λ k d within. each (suc k) d (omega (arith, within))) in
      record {
        outcomes = outcome_of here.answer ∷ rest.outcomes;
        worked = (kept l n (outcome_of here.answer) here.works, rest.worked);
        answers = taken_more n ns here.answer rest.outcomes here.last rest.answers;
      }

  pub were_worked : (olds news : List (Lane L)) → EachLeaves Works olds news → WereWorked Works olds (map emptied news)
  were_worked olds news left = let t = taken_of olds news left.long left.each in (t.outcomes, t.worked)

  pub are_worked : (olds news : List (Lane L)) (told : List BidderAnswer) → EachLeaves Works olds news → AreTaken news told → AreWorked Works olds (map emptied news) (outcomes_of told)
  are_worked olds news told left taken =
      let t = taken_of olds news left.long left.each in
      subst (λ (os : List Outcome). AreWorked Works olds (map emptied news) os) (t.answers told taken) t.worked

emptied_at : {L : Type 0} (ls : List (Lane L)) (k : ℕ) (d : Lane L) → k < length (map emptied ls) → (slice_index_or (map emptied ls) k d).last ≡ None
emptied_at [] k d within = absurd (omega (arith, within))
emptied_at (l ∷ ls) zero d within = refl
emptied_at (l ∷ ls) (suc k) d within = emptied_at ls k d (omega (arith, within))

module _ {L V : Type 0} (items : V → List BidderAnswer) (Works : Lane L → Lane L → Outcome → Type 0) (kept : (l n : Lane L) (o : Outcome) → Works l n o → Works l (emptied n) o)
    (olds news ends : List (Lane L)) (left : EachLeaves Works olds news) (is : ends ≡ map emptied news) where
  pub gathered : (res : Result V OutOfMemory) → IfOk res (λ v. AreTaken news (items v)) → IfOk res (λ v. AreWorked Works olds ends (outcomes_of (items v)))
  gathered (Ok v) taken = subst (λ (e : List (Lane L)). AreWorked Works olds e (outcomes_of (items v))) (sym is) (are_worked Works kept olds news (items v) left taken)
  gathered (Err e) taken = tt

  pub gathered_some : WereWorked Works olds ends
  gathered_some = subst (λ (e : List (Lane L)). WereWorked Works olds e) (sym is) (were_worked Works kept olds news left)

pub all_emptied : {L : Type 0} (news ends : List (Lane L)) → ends ≡ map emptied news → All (λ (l : Lane L). l.last ≡ None) ends
all_emptied {L} news ends is = subst (λ (e : List (Lane L)). All (λ (l : Lane L). l.last ≡ None) e) (sym is) (emptied_at news)
