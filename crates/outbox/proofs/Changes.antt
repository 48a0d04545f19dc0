-- What is found at each number behind one change more.
use Rattle.std.proofs.Common.{◌≡◌, ℕ, suc, ◌+◌, ◌-◌, ◌≤◌, List, [], ◌∷◌, ◌++◌, map, Bool, true, false, ◌||◌, cond, refl, sym, ap, ◌∙◌, arith, Option, None, ltb, eqb, eqb-true, inl, inr, append-nil, append_assoc}
use Rattle.std.specs.List.{filter, list_any, slice_get}
use Rattle.std.specs.Map.{lookup}
use Rattle.std.specs.Option.{option_and_then, option_or}
use Rattle.std.specs.Ordering.{nat_cmp}
use Rattle.std.specs.BTreeMap.{is_at}
use Rattle.std.proofs.lemmas.Map.Entries.{lookup-filter-keys}
use Rattle.std.proofs.lemmas.Bool.Decides.{nat_tests}
use Rattle.outbox.specs.declared.row.Row.{Row}
use Rattle.outbox.specs.Following.{RowsState, deadline_in, row_in}
use Rattle.outbox.specs.Keeping.{Ends, EndsAll, IsForgotten, IsMade, IsMadeAt, IsPartOf, added, due_numbers, made_deadline, made_row, put_at}
use Rattle.outbox.proofs.Keyed.{at_is, or-not}

due_head : (t : Bool) (e : ℕ × ℕ) (es : List (ℕ × ℕ)) → map (λ (p : ℕ × ℕ). p.0) (cond t (e ∷ es) es) ≡ cond t (e.0 ∷ []) [] ++ map (λ (p : ℕ × ℕ). p.0) es
due_head true e es = refl
due_head false e es = refl

-- one deadline more was taken
pub due_taken : (now : ℕ) (e : ℕ × ℕ) (es rest : List (ℕ × ℕ)) (all mid new : List ℕ) → es ≡ e ∷ rest → mid ++ due_numbers now es ≡ all → new ≡ mid ++ cond (ltb e.1 now) (e.0 ∷ []) [] → new ++ due_numbers now rest ≡ all
due_taken now e es rest all mid new first before here =
    let last : List ℕ = cond (ltb e.1 now) (e.0 ∷ []) [] in
    ap (λ (t : List ℕ). t ++ due_numbers now rest) here
    ∙ (append_assoc mid last (due_numbers now rest)
    ∙ (ap (λ (t : List ℕ). mid ++ t) (sym (due_head (ltb e.1 now) e (filter (λ (p : ℕ × ℕ). ltb p.1 now) rest)))
    ∙ (ap (λ (t : List (ℕ × ℕ)). mid ++ due_numbers now t) (sym first) ∙ before)))

pub due_all : (now : ℕ) (es : List (ℕ × ℕ)) (all mid : List ℕ) → es ≡ [] → mid ++ due_numbers now es ≡ all → mid ≡ all
due_all now es all mid none before = sym (append-nil mid) ∙ (ap (λ (t : List (ℕ × ℕ)). mid ++ due_numbers now t) (sym none) ∙ before)

or_false : (b : Bool) → (b || false) ≡ b
or_false true = refl
or_false false = refl

or_assoc : (a b c : Bool) → (a || (b || c)) ≡ ((a || b) || c)
or_assoc true b c = refl
or_assoc false b c = refl

-- one award more is ended
any_push : (test : ℕ → Bool) (ns : List ℕ) (n : ℕ) → list_any test (ns ++ n ∷ []) ≡ (list_any test ns || test n)
any_push test [] n = or_false (test n)
any_push test (m ∷ ns) n = ap (λ (b : Bool). test m || b) (any_push test ns n) ∙ or_assoc (test m) (list_any test ns) (test n)

ended_twice : {X : Type 0} (a b : Bool) (o : Option X) → cond b None (cond a None o) ≡ cond (a || b) None o
ended_twice true true o = refl
ended_twice true false o = refl
ended_twice false true o = refl
ended_twice false false o = refl

pub ends_none : (old : RowsState) → EndsAll [] old old
ends_none old = record { rows = λ q. refl; deadlines = λ q. refl }

pub ends_more : (ns : List ℕ) (n : ℕ) (old mid new : RowsState) → EndsAll ns old mid → Ends n mid new → EndsAll (ns ++ n ∷ []) old new
ends_more ns n old mid new all one = record {
  rows = λ q. one.rows q ∙ (ap (λ (o : Option Row). cond (is_at (nat_cmp n) q) None o) (all.rows q) ∙ (ended_twice (list_any (λ m. is_at (nat_cmp m) q) ns) (is_at (nat_cmp n) q) (row_in old q) ∙ sym (ap (λ (b : Bool). cond b None (row_in old q)) (any_push (λ m. is_at (nat_cmp m) q) ns n))));
  deadlines = λ q. one.deadlines q ∙ (ap (λ (o : Option ℕ). cond (is_at (nat_cmp n) q) None o) (all.deadlines q) ∙ (ended_twice (list_any (λ m. is_at (nat_cmp m) q) ns) (is_at (nat_cmp n) q) (deadline_in old q) ∙ sym (ap (λ (b : Bool). cond b None (deadline_in old q)) (any_push (λ m. is_at (nat_cmp m) q) ns n))));
}

-- what stands below a number
pub found_below : {X : Type 0} (first q : ℕ) (es : List (ℕ × X)) → lookup (is_at (nat_cmp q)) (filter (λ (e : ℕ × X). ltb e.0 first) es) ≡ cond (ltb q first) (lookup (is_at (nat_cmp q)) es) None
found_below first q es =
    lookup-filter-keys (is_at (nat_cmp q)) (λ k. ltb k first) (ltb q first) (λ k at. ap (λ j. ltb j first) (sym (eqb-true q k (sym (at_is q k) ∙ at)))) es

nothing : {X : Type 0} (b : Bool) (o : Option X) → o ≡ cond b o (option_or None o)
nothing true o = refl
nothing false o = refl

-- new awards, one more
pub made_none : (first : ℕ) (old : RowsState) → IsMade first [] old old
made_none first old = record { rows = λ q. nothing (ltb q first) (row_in old q); deadlines = λ q. nothing (ltb q first) (deadline_in old q) }

put_added : {X : Type 0} (f : Row → Option X) (n : ℕ) (r : Row) (rs : List Row) (old mid : ℕ → Option X)
    → ((q : ℕ) → mid q ≡ added (n + 1) f rs old q)
    → (q : ℕ) → put_at n (option_or (f r) (mid n)) mid q ≡ added n f (r ∷ rs) old q
put_added {X} f n r rs old mid h q =
    let start : put_at n (option_or (f r) (mid n)) mid q ≡ cond (eqb n q) (option_or (f r) (mid n)) (mid q) = ap (λ (b : Bool). cond b (option_or (f r) (mid n)) (mid q)) (at_is n q) in
    let end : (b : Bool) → ltb q n ≡ b → added n f (r ∷ rs) old q ≡ cond b (old q) (option_or (option_and_then f (slice_get (r ∷ rs) (q - n))) (old q)) =
    λ b e. ap (λ (v : Bool). cond v (old q) (option_or (option_and_then f (slice_get (r ∷ rs) (q - n))) (old q))) e in
    let was : (b : Bool) → ltb q (n + 1) ≡ b → mid q ≡ cond b (old q) (option_or (option_and_then f (slice_get rs (q - (n + 1)))) (old q)) =
    λ b e. h q ∙ ap (λ (v : Bool). cond v (old q) (option_or (option_and_then f (slice_get rs (q - (n + 1)))) (old q))) e in
    elim (or-not (eqb n q)) [
      | inl same ↦ (
          let is : n ≡ q = eqb-true n q same in
          let first : q - n ≡ 0 = omega (arith, is) in
          let old_is : mid n ≡ old q = ap mid is ∙ was true (grind (arith, nat_tests, is)) in
          start ∙ (ap (λ (b : Bool). cond b (option_or (f r) (mid n)) (mid q)) same
          ∙ (ap (option_or (f r)) old_is
          ∙ (sym (ap (λ k. option_or (option_and_then f (slice_get (r ∷ rs) k)) (old q)) first) ∙ sym (end false (grind (arith, nat_tests, is))))))
          )
      | inr other ↦ (
          start ∙ (ap (λ (b : Bool). cond b (option_or (f r) (mid n)) (mid q)) other
          ∙ elim (or-not (ltb q n)) [
            | inl below ↦ was true (grind (arith, nat_tests, below)) ∙ sym (end true below)
            | inr past ↦ (
                let next : q - n ≡ suc (q - (n + 1)) = grind (arith, nat_tests, past, other) in
                was false (grind (arith, nat_tests, past, other))
                ∙ (sym (ap (λ k. option_or (option_and_then f (slice_get (r ∷ rs) k)) (old q)) next) ∙ sym (end false past))
                )
          ])
          )
    ]

pub made_more : (n : ℕ) (r : Row) (rs : List Row) (old mid new : RowsState) → IsMade (n + 1) rs old mid → IsMadeAt n r mid new → IsMade n (r ∷ rs) old new
made_more n r rs old mid new made one = record {
  rows = λ q. one.rows q ∙ put_added made_row n r rs (row_in old) (row_in mid) made.rows q;
  deadlines = λ q. one.deadlines q ∙ put_added made_deadline n r rs (deadline_in old) (deadline_in mid) made.deadlines q;
}

below_more : (n first q : ℕ) → first ≤ n → ltb q first ≡ true → ltb q n ≡ true
below_more n first q more below = grind (arith, nat_tests, below)

below_added : {X : Type 0} (f : Row → Option X) (first q : ℕ) (rs : List Row) (old : ℕ → Option X) → ltb q first ≡ true → added first f rs old q ≡ old q
below_added f first q rs old below = ap (λ (b : Bool). cond b (old q) (option_or (option_and_then f (slice_get rs (q - first))) (old q))) below

-- what was made keeps what stands below it, and so does some of what was to be made
pub made_part : (first : ℕ) (rs : List Row) (old new : RowsState) → IsMade first rs old new → IsPartOf first old new
made_part first rs old new made = record {
  rows = λ q below. made.rows q ∙ below_added made_row first q rs (row_in old) below;
  deadlines = λ q below. made.deadlines q ∙ below_added made_deadline first q rs (deadline_in old) below;
}

pub part_less : (first n : ℕ) (old new : RowsState) → first ≤ n → IsPartOf n old new → IsPartOf first old new
part_less first n old new more a = record {
  rows = λ q below. a.rows q (below_more n first q more below);
  deadlines = λ q below. a.deadlines q (below_more n first q more below);
}

pub part_more : (first n : ℕ) (old mid new : RowsState) → first ≤ n → IsPartOf first old mid → IsPartOf n mid new → IsPartOf first old new
part_more first n old mid new more a b = record {
  rows = λ q below. b.rows q (below_more n first q more below) ∙ a.rows q below;
  deadlines = λ q below. b.deadlines q (below_more n first q more below) ∙ a.deadlines q below;
}

only_below : {X : Type 0} (b : Bool) (x y : Option X) → (b ≡ true → x ≡ y) → cond b x None ≡ cond b y None
only_below true x y h = h refl
only_below false x y h = refl

-- what is forgotten behind a part is as before
pub forgotten_part : (first : ℕ) (old mid new : RowsState) → IsPartOf first old mid → IsForgotten first mid new → IsForgotten first old new
forgotten_part first old mid new part gone = record {
  rows = λ q. gone.rows q ∙ only_below (ltb q first) (row_in mid q) (row_in old q) (part.rows q);
  deadlines = λ q. gone.deadlines q ∙ only_below (ltb q first) (deadline_in mid q) (deadline_in old q) (part.deadlines q);
}
