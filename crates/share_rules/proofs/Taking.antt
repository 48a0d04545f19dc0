-- What a day answers to a change is the machine's step.
use Rattle.std.proofs.Common.{◌≡◌, ℕ, ◌<◌, ◌≤◌, List, [], ◌∷◌, ◌++◌, length, Bool, true, false, cond, eqb, ltb, refl, sym, ap, ◌∙◌, arith, Option, Some, None, is_some, ◌⊎◌, inl, inr}
use Rattle.std.specs.Prelude.{nat_le, nat_lt}
use Rattle.std.proofs.lemmas.Bool.{cond_both, cond-true, ltb-false, ltb-true, eq-eqb, both_ways}
use Rattle.std.proofs.lemmas.Bool.Decides.{nat_tests}
use Rattle.day_rules.specs.declared.entry.Entry.{Entry}
use Rattle.day_rules.specs.declared.limits.TheConstants.{MAX_CHANGES}
use Rattle.day_rules.specs.Entries.{BudgetChange, entry_of_change}
use Rattle.day_rules.specs.Changes.{last_change, number_by, same_change}
use Rattle.day_rules.specs.Books.{committed}
use Rattle.day_rules.specs.Terms.{Terms}
use Rattle.day_rules.specs.Legal.{IsLegal}
use Rattle.day_rules.specs.Replies.{Reply, with_entry, new_change_reply, change_reply, budget_reply, changes_with}
use Rattle.day_rules.proofs.Budgets.{budget_set, change_found, has_change, last_change_push, later_fresh, new_later}
use Rattle.day_rules.proofs.Within.{committed_budget}
use Rattle.share_rules.specs.declared.budget.Budget.{Budget}
use Rattle.share_rules.specs.Shares.{is_done, taken}
use Rattle.share_rules.specs.Machine.{Message}
use Rattle.share_rules.specs.Days.{IsMessage, IsTakenAs, budget_in, change_by, done_of}

-- ---- tests

lower : (a b : ℕ) → a < b → nat_lt a b ≡ true
lower a b h = grind (arith, nat_tests)

not_lower : (a b : ℕ) → b ≤ a → nat_lt a b ≡ false
not_lower a b h = grind (arith, nat_tests)

fits : (a b : ℕ) → a ≤ b → nat_le a b ≡ true
fits a b h = grind (arith, nat_tests)

fits_not : (a b : ℕ) → b < a → nat_le a b ≡ false
fits_not a b h = grind (arith, nat_tests)

-- the machine's step and its reply, by the tests
abbrev taken_by : Budget → ℕ → ℕ → Bool → Bool → Budget
taken_by b number budget t u = cond t (cond u (record { has = budget; last = number; committed = b.committed }) b) b

abbrev done_by : Bool → Bool → Bool
done_by t u = cond t u true

is_taken_by : (b : Budget) (number budget : ℕ) (t u : Bool) → nat_lt b.last number ≡ t → nat_le b.committed budget ≡ u → taken b number budget ≡ taken_by b number budget t u
is_taken_by b number budget t u is_t is_u =
    ap (λ (v : Bool). taken_by b number budget v (nat_le b.committed budget)) is_t ∙ ap (λ (v : Bool). taken_by b number budget t v) is_u

is_done_by : (b : Budget) (number budget : ℕ) (t u : Bool) → nat_lt b.last number ≡ t → nat_le b.committed budget ≡ u → is_done b number budget ≡ done_by t u
is_done_by b number budget t u is_t is_u =
    ap (λ (v : Bool). done_by v (nat_le b.committed budget)) is_t ∙ ap (λ (v : Bool). done_by t v) is_u

-- ---- the five answers

some_is : (a b : Bool) → Some a ≡ Some b → b ≡ a
some_is a b h = cc

no_none : (a : Bool) → Some a ≡ None → ⊥
no_none a h = cc

none_no : (a : Bool) → None ≡ Some a → ⊥
none_no a h = cc

-- an answer that says something
tells : (b : Budget) (m : Message) (is : Bool) (after : Budget) → is ≡ is_done b m.number m.budget → after ≡ taken b m.number m.budget → IsTakenAs b m (Some is) after
tells b m is after right same = record {
  some = λ other h. (some_is is other h ∙ right, same);
  none = λ h. absurd (no_none is h);
}

-- an answer that says nothing changes nothing
tells_nothing : (b : Budget) (m : Message) → IsTakenAs b m None b
tells_nothing b m = record {
  some = λ other h. absurd (none_no other h);
  none = λ h. refl;
}

-- a change that is done already
repeated : (b : Budget) (m : Message) → m.number ≤ b.last → IsTakenAs b m (Some true) b
repeated b m old =
    let t : nat_lt b.last m.number ≡ false = not_lower b.last m.number old in
    tells b m true b (sym (is_done_by b m.number m.budget false (nat_le b.committed m.budget) t refl)) (sym (is_taken_by b m.number m.budget false (nat_le b.committed m.budget) t refl))

-- one that is below the committed money
refused : (b : Budget) (m : Message) → b.last < m.number → m.budget < b.committed → IsTakenAs b m (Some false) b
refused b m new below =
    let t : nat_lt b.last m.number ≡ true = lower b.last m.number new in
    let u : nat_le b.committed m.budget ≡ false = fits_not b.committed m.budget below in
    tells b m false b (sym (is_done_by b m.number m.budget true false t u)) (sym (is_taken_by b m.number m.budget true false t u))

-- one that is new, and is taken
abbrev made_of : ℕ → ℕ → ℕ → Budget
made_of has last money = record { has = has; last = last; committed = money }

parts : (h l c x y z : ℕ) → h ≡ x → l ≡ y → c ≡ z → made_of h l c ≡ made_of x y z
parts h l c x y z e f g = ap (λ (k : ℕ). made_of k l c) e ∙ (ap (λ (k : ℕ). made_of x k c) f ∙ ap (λ (k : ℕ). made_of x y k) g)

accepted : (b after : Budget) (m : Message) → b.last < m.number → b.committed ≤ m.budget → after.has ≡ m.budget → after.last ≡ m.number → after.committed ≡ b.committed → IsTakenAs b m (Some true) after
accepted b after m new covers has last money =
    let t : nat_lt b.last m.number ≡ true = lower b.last m.number new in
    let u : nat_le b.committed m.budget ≡ true = fits b.committed m.budget covers in
    let same : after ≡ made_of m.budget m.number b.committed = parts after.has after.last after.committed m.budget m.number b.committed has last money in
    tells b m true after (sym (is_done_by b m.number m.budget true true t u)) (same ∙ sym (is_taken_by b m.number m.budget true true t u))

-- ---- what a change leaves

number_here : (x : BudgetChange) → number_by x.campaign (entry_of_change x) ≡ x.change
number_here x = cond-true (eqb x.campaign x.campaign) x.change 0 (eq-eqb x.campaign x.campaign refl)

last_after : (x : BudgetChange) (history : List Entry) → last_change x.campaign history < x.change → last_change x.campaign (history ++ entry_of_change x ∷ []) ≡ x.change
last_after x history new =
    let pushed = last_change_push x.campaign history (entry_of_change x) in
    let here = number_here x in
    omega (arith, pushed, here, new)

found_old : (x : BudgetChange) (history : List Entry) (place : ℕ) (y : BudgetChange) → same_change x history ≡ Some (place, y) → x.change ≤ last_change x.campaign history
found_old x history place y found = elim (cases_order (last_change x.campaign history) x.change) [
  | inl new ↦
      let stands : has_change x history ≡ true = change_found x history ∙ ap (λ (o : Option (ℕ × BudgetChange)). is_some o) found in
      absurd (both_ways (has_change x history) (later_fresh x history new) stands)
  | inr old ↦ old
]
  where
    cases_order : (a b : ℕ) → (a < b) ⊎ (b ≤ a)
    cases_order a b = by_test (nat_lt a b) refl
      where
        by_test : (t : Bool) → nat_lt a b ≡ t → (a < b) ⊎ (b ≤ a)
        by_test true h = inl (grind (arith, nat_tests))
        by_test false h = inr (grind (arith, nat_tests))

-- ---- the reply

abbrev Takes : Terms → List Entry → ℕ → Message → Reply → Type 0
Takes terms history campaign m r =
    IsTakenAs (budget_in terms history campaign) m (done_of r.answer) (budget_in terms (with_entry history r.entry) campaign)

new_change_takes : (terms : Terms) (history : List Entry) (campaign : ℕ) (m : Message) → campaign < length terms.budgets → 1 ≤ m.number → same_change (change_by campaign m) history ≡ None
    → Takes terms history campaign m (new_change_reply history (change_by campaign m))
new_change_takes terms history campaign m known some fresh =
    let x : BudgetChange = change_by campaign m in
    let b : Budget = budget_in terms history campaign in
    let P : Reply → Type 0 = Takes terms history campaign m in
    cond_both (ltb x.change (last_change campaign history)) _ _ P (λ late. tells_nothing b m) (λ early.
    let new : last_change campaign history < m.number = new_later x history some fresh (ltb-false _ _ early) in
    cond_both (ltb x.budget.0 (committed history campaign)) _ _ P (λ below. refused b m new (ltb-true _ _ below)) (λ covers.
    cond_both (ltb MAX_CHANGES (changes_with history)) _ _ P (λ full. tells_nothing b m) (λ few.
    accepted b (budget_in terms (history ++ entry_of_change x ∷ []) campaign) m new (ltb-false _ _ covers) (budget_set terms history x known) (last_after x history new) (committed_budget history x campaign))))

change_takes : (terms : Terms) (history : List Entry) (campaign : ℕ) (m : Message) (o : Option (ℕ × BudgetChange)) → campaign < length terms.budgets → 1 ≤ m.number → same_change (change_by campaign m) history ≡ o
    → Takes terms history campaign m (change_reply history (change_by campaign m) o)
change_takes terms history campaign m None known some found = new_change_takes terms history campaign m known some found
change_takes terms history campaign m (Some (place, y)) known some found =
    let x : BudgetChange = change_by campaign m in
    let b : Budget = budget_in terms history campaign in
    let P : Reply → Type 0 = Takes terms history campaign m in
    cond_both (eqb y.budget.0 x.budget.0) _ _ P (λ same. repeated b m (found_old x history place y found)) (λ other. tells_nothing b m)

pub takes : (terms : Terms) (history : List Entry) (campaign : ℕ) (m : Message) → IsLegal terms history → campaign < length terms.budgets → IsMessage m
    → Takes terms history campaign m (budget_reply terms history (change_by campaign m))
takes terms history campaign m legal known call =
    let b : Budget = budget_in terms history campaign in
    let P : Reply → Type 0 = Takes terms history campaign m in
    cond_both (ltb campaign (length terms.budgets)) _ _ P
    (λ is. change_takes terms history campaign m (same_change (change_by campaign m) history) known call.0 refl)
    (λ unknown. tells_nothing b m)
