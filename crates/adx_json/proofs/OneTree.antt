-- A JSON text has one tree.
use Rattle.std.proofs.Common.{◌≡◌, ℕ, List, [], ◌∷◌, ◌++◌, true, false, cond, refl, sym, ap, ap₂, ◌∙◌, subst, arith, eqb, append_assoc}
use Rattle.std.proofs.lemmas.Bool.{cond-false, false≢true}
use Rattle.std.specs.List.{flat_map}
use Rattle.adx_json.specs.Tree.{Tree, null, boolean, number, text, list, object, Items, no_items, item, Members, no_members, member}
use Rattle.adx_units.specs.Scans.{Stops}
use Rattle.adx_json.specs.Grammar.{is_space, IsSpace, IsPadded, IsString, IsValue, AreItems, AreMoreItems, AreMembers, AreMoreMembers, piece_bytes, resolved, IsJson}
use Rattle.adx_json.specs.declared.number.Numeral.TheVariants.{Start}
use Rattle.adx_json.proofs.Runs.{one_cut, head_of, tail_of, apart}
use Rattle.adx_json.proofs.NumberTexts.{number_is}
use Rattle.adx_json.proofs.Stops.{Ended, number_other, number_begins}
use Rattle.adx_json.proofs.Complete.{ended_spaces, ended_items, ended_members}
use Rattle.adx_json.proofs.OneString.{one_string, one_number}

-- the kind of a value, and of a first byte
abbrev kind : Tree → ℕ
kind null = 0
kind (boolean b) = 1
kind (number n) = 3
kind (text t) = 4
kind (list ts) = 5
kind (object ms) = 6

abbrev kind_of : ℕ → ℕ
kind_of b =
    cond (eqb b 110) 0 (cond (eqb b 116) 1 (cond (eqb b 102) 1 (cond (eqb b 34) 4 (cond (eqb b 91) 5 (cond (eqb b 123) 6 3)))))

-- a value's first byte
record Begins (t : Tree) (bytes : List ℕ) : Type 0 where
  first : ℕ
  rest : List ℕ
  whole : bytes ≡ first ∷ rest
  kind : kind_of first ≡ kind t
  space : is_space first ≡ false
  close : eqb first 93 ≡ false

begins : (t : Tree) (bytes : List ℕ) → IsValue t bytes → Begins t bytes
begins null v h = record { first = 110; rest = 117 ∷ 108 ∷ 108 ∷ []; whole = h; kind = refl; space = refl; close = refl }
begins (boolean true) v h = record { first = 116; rest = 114 ∷ 117 ∷ 101 ∷ []; whole = h; kind = refl; space = refl; close = refl }
begins (boolean false) v h = record { first = 102; rest = 97 ∷ 108 ∷ 115 ∷ 101 ∷ []; whole = h; kind = refl; space = refl; close = refl }
begins (number []) v h = absurd (false≢true h.0)
begins (number (b ∷ n)) v h =
    let other = number_other b (number_begins b n (number_is (b ∷ n) ∙ h.0)) in
    let o = other.0 in
    record {
      first = b;
      rest = n;
      whole = h.1;
      kind = cond-false _ _ _ o.n ∙ cond-false _ _ _ o.t ∙ cond-false _ _ _ o.f ∙ cond-false _ _ _ o.quote ∙ cond-false _ _ _ o.bracket ∙ cond-false _ _ _ o.brace;
      space = o.space;
      close = other.1;
    }
begins (text t) v h = record { first = 34; rest = flat_map piece_bytes h.pieces ++ 34 ∷ []; whole = h.spelled; kind = refl; space = refl; close = refl }
begins (list ts) v h = record { first = 91; rest = h.0 ++ 93 ∷ []; whole = h.1; kind = refl; space = refl; close = refl }
begins (object ms) v h = record { first = 123; rest = h.0 ++ 125 ∷ []; whole = h.1; kind = refl; space = refl; close = refl }

-- values at the front of the same bytes are of one kind
one_kind : (t u : Tree) (a b r s : List ℕ) → IsValue t a → IsValue u b → a ++ r ≡ b ++ s → kind t ≡ kind u
one_kind t u a b r s h k e =
    let x = begins t a h in
    let y = begins u b k in
    let same : x.first ≡ y.first = head_of x.first y.first (x.rest ++ r) (y.rest ++ s) (sym (ap (λ z. z ++ r) x.whole) ∙ e ∙ ap (λ z. z ++ s) y.whole) in
    sym x.kind ∙ ap kind_of same ∙ y.kind

-- what may follow white space after a value
abbrev Closed : List ℕ → Type 0
Closed r = Ended r × Stops is_space r

padded_whole : (s v a r : List ℕ) → (s ++ (v ++ a)) ++ r ≡ s ++ (v ++ (a ++ r))
padded_whole s v a r = simp append_assoc

-- with white space around, one form has one reading where it has one alone
padded_one : (P Q : List ℕ → Type 0) (E : Type 0) (a b r s : List ℕ)
    → ((v w x y : List ℕ) → P v → Q w → Ended x → Ended y → v ++ x ≡ w ++ y → E × (x ≡ y))
    → ((v x : List ℕ) → P v → Stops is_space (v ++ x)) → ((v x : List ℕ) → Q v → Stops is_space (v ++ x))
    → IsPadded P a → IsPadded Q b → Closed r → Closed s → a ++ r ≡ b ++ s → E × (r ≡ s)
padded_one P Q E a b r s one p q h k er es e =
    let whole : h.0 ++ (h.1 ++ (h.2 ++ r)) ≡ k.0 ++ (k.1 ++ (k.2 ++ s)) =
    sym (ap (λ x. x ++ r) h.3 ∙ padded_whole h.0 h.1 h.2 r) ∙ e ∙ ap (λ x. x ++ s) k.3 ∙ padded_whole k.0 k.1 k.2 s in
    let cut = one_cut is_space h.0 k.0 (h.1 ++ (h.2 ++ r)) (k.1 ++ (k.2 ++ s)) h.4 k.4 (p h.1 (h.2 ++ r) h.5) (q k.1 (k.2 ++ s) k.5) whole in
    let inner = one h.1 k.1 (h.2 ++ r) (k.2 ++ s) h.5 k.5 (ended_spaces h.2 r h.6 er.0) (ended_spaces k.2 s k.6 es.0) cut.1 in
    let last = one_cut is_space h.2 k.2 r s h.6 k.6 er.1 es.1 inner.1 in
    (inner.0, last.1)

value_stops : (t : Tree) (v x : List ℕ) → IsValue t v → Stops is_space (v ++ x)
value_stops t v x h = let b = begins t v h in subst (λ z. Stops is_space (z ++ x)) (sym b.whole) b.space

string_stops : (t v x : List ℕ) → IsString t v → Stops is_space (v ++ x)
string_stops t v x h = subst (λ z. Stops is_space (z ++ x)) (sym h.spelled) refl

strings_one : (t u v w x y : List ℕ) → IsString t v → IsString u w → Ended x → Ended y → v ++ x ≡ w ++ y → (t ≡ u) × (x ≡ y)
strings_one t u v w x y h k ex ey e = one_string t u v w x y h k e

closed_items : (ts : Items) (more r : List ℕ) → AreMoreItems ts more → Closed (more ++ 93 ∷ r)
closed_items no_items more r h = (ended_items no_items more r h, subst (λ x. Stops is_space (x ++ 93 ∷ r)) (sym h) refl)
closed_items (item t ts) more r h = (ended_items (item t ts) more r h, subst (λ x. Stops is_space (x ++ 93 ∷ r)) (sym h.2) refl)

closed_members : (ms : Members) (more r : List ℕ) → AreMoreMembers ms more → Closed (more ++ 125 ∷ r)
closed_members no_members more r h = (ended_members no_members more r h, subst (λ x. Stops is_space (x ++ 125 ∷ r)) (sym h) refl)
closed_members (member n t ms) more r h = (ended_members (member n t ms) more r h, subst (λ x. Stops is_space (x ++ 125 ∷ r)) (sym h.3) refl)

inside_whole : (inside r : List ℕ) (first last : ℕ) → (first ∷ (inside ++ last ∷ [])) ++ r ≡ first ∷ (inside ++ last ∷ r)
inside_whole inside r first last = ap (λ x. first ∷ x) (append_assoc inside (last ∷ []) r)

-- the insides of two lists or objects
insides : (a b i j r s : List ℕ) (first last : ℕ) → a ≡ first ∷ (i ++ last ∷ []) → b ≡ first ∷ (j ++ last ∷ []) → a ++ r ≡ b ++ s → i ++ last ∷ r ≡ j ++ last ∷ s
insides a b i j r s first last h k e =
    tail_of first first _ _ (sym (ap (λ x. x ++ r) h ∙ inside_whole i r first last) ∙ e ∙ ap (λ x. x ++ s) k ∙ inside_whole j s first last)

-- nothing but white space before a bracket is no value
space_no_value : (i v x r : List ℕ) (c b : ℕ) (rest : List ℕ) → IsSpace i → v ≡ b ∷ rest → is_space b ≡ false → is_space c ≡ false → eqb b c ≡ false → (s : List ℕ) → IsSpace s → i ++ c ∷ r ≡ s ++ (v ++ x) → ⊥
space_no_value i v x r c b rest h first nb nc ne s k e =
    let cut = one_cut is_space i s (c ∷ r) (v ++ x) h k nc (subst (λ z. Stops is_space (z ++ x)) (sym first) nb) e in
    apart b c _ _ ne (sym (ap (λ z. z ++ x) first) ∙ sym cut.1)

item_whole : (first more r : List ℕ) → (first ++ more) ++ r ≡ first ++ (more ++ r)
item_whole first more r = append_assoc first more r

empty_list : (t : Tree) (ts : Items) (i j r s : List ℕ) → IsSpace i → AreItems (item t ts) j → i ++ 93 ∷ r ≡ j ++ 93 ∷ s → ⊥
empty_list t ts i j r s h k e =
    let p = k.3 in
    let b = begins t p.1 p.5 in
    space_no_value i p.1 (p.2 ++ (k.1 ++ 93 ∷ s)) r 93 b.first b.rest h b.whole b.space refl b.close p.0 p.4
    (e ∙ ap (λ x. x ++ 93 ∷ s) (k.2 ∙ ap (λ x. x ++ k.1) p.3) ∙ regroup p.0 p.1 p.2 k.1 (93 ∷ s))
  where
    regroup : (a b c d x : List ℕ) → ((a ++ (b ++ c)) ++ d) ++ x ≡ a ++ (b ++ (c ++ (d ++ x)))
    regroup a b c d x = simp append_assoc

member_whole : (name value more r : List ℕ) → (name ++ 58 ∷ (value ++ more)) ++ r ≡ name ++ 58 ∷ (value ++ (more ++ r))
member_whole name value more r = simp append_assoc

empty_object : (n : List ℕ) (t : Tree) (ms : Members) (i j r s : List ℕ) → IsSpace i → AreMembers (member n t ms) j → i ++ 125 ∷ r ≡ j ++ 125 ∷ s → ⊥
empty_object n t ms i j r s h k e =
    let p = k.4 in
    space_no_value i p.1 (p.2 ++ 58 ∷ (k.1 ++ (k.2 ++ 125 ∷ s))) r 125 34 (flat_map piece_bytes p.5.pieces ++ 34 ∷ []) h p.5.spelled refl refl refl p.0 p.4
    (e ∙ ap (λ x. x ++ 125 ∷ s) k.3 ∙ member_whole k.0 k.1 k.2 (125 ∷ s) ∙ ap (λ x. x ++ 58 ∷ (k.1 ++ (k.2 ++ 125 ∷ s))) p.3 ∙ padded_whole p.0 p.1 p.2 (58 ∷ (k.1 ++ (k.2 ++ 125 ∷ s))))

colon_closed : (x : List ℕ) → Closed (58 ∷ x)
colon_closed x = (refl, refl)

mutual
  one_value : (t u : Tree) (a b r s : List ℕ) → IsValue t a → IsValue u b → Ended r → Ended s → a ++ r ≡ b ++ s → (t ≡ u) × (r ≡ s)
  one_value null null a b r s h k er es e = (refl, tail_of 108 108 _ _ (tail_of 108 108 _ _ (tail_of 117 117 _ _ (tail_of 110 110 _ _ (sym (ap (λ x. x ++ r) h) ∙ e ∙ ap (λ x. x ++ s) k)))))
  one_value null u a b r s h k er es e = let same = one_kind null u a b r s h k e in absurd (omega arith)
  one_value (boolean true) (boolean true) a b r s h k er es e = (refl, tail_of 101 101 _ _ (tail_of 117 117 _ _ (tail_of 114 114 _ _ (tail_of 116 116 _ _ (sym (ap (λ x. x ++ r) h) ∙ e ∙ ap (λ x. x ++ s) k)))))
  one_value (boolean true) (boolean false) a b r s h k er es e = absurd (apart 116 102 _ _ refl (sym (ap (λ x. x ++ r) h) ∙ e ∙ ap (λ x. x ++ s) k))
  one_value (boolean true) u a b r s h k er es e = let same = one_kind (boolean true) u a b r s h k e in absurd (omega arith)
  one_value (boolean false) (boolean false) a b r s h k er es e = (refl, tail_of 101 101 _ _ (tail_of 115 115 _ _ (tail_of 108 108 _ _ (tail_of 97 97 _ _ (tail_of 102 102 _ _ (sym (ap (λ x. x ++ r) h) ∙ e ∙ ap (λ x. x ++ s) k))))))
  one_value (boolean false) (boolean true) a b r s h k er es e = absurd (apart 102 116 _ _ refl (sym (ap (λ x. x ++ r) h) ∙ e ∙ ap (λ x. x ++ s) k))
  one_value (boolean false) u a b r s h k er es e = let same = one_kind (boolean false) u a b r s h k e in absurd (omega arith)
  one_value (number n) (number m) a b r s h k er es e =
      let one = one_number Start n m r s (number_is n ∙ h.0) (number_is m ∙ k.0) er es (sym (ap (λ x. x ++ r) h.1) ∙ e ∙ ap (λ x. x ++ s) k.1) in
      (ap number one.0, one.1)
  one_value (number n) u a b r s h k er es e = let same = one_kind (number n) u a b r s h k e in absurd (omega arith)
  one_value (text t) (text u) a b r s h k er es e =
      let one = one_string t u a b r s h k e in
      (ap text one.0, one.1)
  one_value (text t) u a b r s h k er es e = let same = one_kind (text t) u a b r s h k e in absurd (omega arith)
  one_value (list ts) (list us) a b r s h k er es e =
      let one = one_items ts us h.0 k.0 r s h.2 k.2 (insides a b h.0 k.0 r s 91 93 h.1 k.1 e) in
      (ap list one.0, one.1)
  one_value (list ts) u a b r s h k er es e = let same = one_kind (list ts) u a b r s h k e in absurd (omega arith)
  one_value (object ms) (object us) a b r s h k er es e =
      let one = one_members ms us h.0 k.0 r s h.2 k.2 (insides a b h.0 k.0 r s 123 125 h.1 k.1 e) in
      (ap object one.0, one.1)
  one_value (object ms) u a b r s h k er es e = let same = one_kind (object ms) u a b r s h k e in absurd (omega arith)

  one_items : (ts us : Items) (i j r s : List ℕ) → AreItems ts i → AreItems us j → i ++ 93 ∷ r ≡ j ++ 93 ∷ s → (ts ≡ us) × (r ≡ s)
  one_items no_items no_items i j r s h k e = (refl, tail_of 93 93 r s (one_cut is_space i j (93 ∷ r) (93 ∷ s) h k refl refl e).1)
  one_items no_items (item u us) i j r s h k e = absurd (empty_list u us i j r s h k e)
  one_items (item t ts) no_items i j r s h k e = absurd (empty_list t ts j i s r k h (sym e))
  one_items (item t ts) (item u us) i j r s h k e =
      let first = padded_one (IsValue t) (IsValue u) (t ≡ u) h.0 k.0 (h.1 ++ 93 ∷ r) (k.1 ++ 93 ∷ s) (λ v w x y p q ex ey same. one_value t u v w x y p q ex ey same) (value_stops t) (value_stops u) h.3 k.3 (closed_items ts h.1 r h.4) (closed_items us k.1 s k.4)
      (sym (ap (λ x. x ++ 93 ∷ r) h.2 ∙ item_whole h.0 h.1 (93 ∷ r)) ∙ e ∙ ap (λ x. x ++ 93 ∷ s) k.2 ∙ item_whole k.0 k.1 (93 ∷ s)) in
      let more = one_more_items ts us h.1 k.1 r s h.4 k.4 first.1 in
      (ap₂ item first.0 more.0, more.1)

  one_more_items : (ts us : Items) (i j r s : List ℕ) → AreMoreItems ts i → AreMoreItems us j → i ++ 93 ∷ r ≡ j ++ 93 ∷ s → (ts ≡ us) × (r ≡ s)
  one_more_items no_items no_items i j r s h k e = (refl, tail_of 93 93 r s (sym (ap (λ x. x ++ 93 ∷ r) h) ∙ e ∙ ap (λ x. x ++ 93 ∷ s) k))
  one_more_items no_items (item u us) i j r s h k e = absurd (apart 93 44 _ _ refl (sym (ap (λ x. x ++ 93 ∷ r) h) ∙ e ∙ ap (λ x. x ++ 93 ∷ s) k.2))
  one_more_items (item t ts) no_items i j r s h k e = absurd (apart 44 93 _ _ refl (sym (ap (λ x. x ++ 93 ∷ r) h.2) ∙ e ∙ ap (λ x. x ++ 93 ∷ s) k))
  one_more_items (item t ts) (item u us) i j r s h k e =
      let behind = tail_of 44 44 _ _ (sym (ap (λ x. x ++ 93 ∷ r) h.2) ∙ e ∙ ap (λ x. x ++ 93 ∷ s) k.2) in
      let first = padded_one (IsValue t) (IsValue u) (t ≡ u) h.0 k.0 (h.1 ++ 93 ∷ r) (k.1 ++ 93 ∷ s) (λ v w x y p q ex ey same. one_value t u v w x y p q ex ey same) (value_stops t) (value_stops u) h.3 k.3 (closed_items ts h.1 r h.4) (closed_items us k.1 s k.4)
      (sym (item_whole h.0 h.1 (93 ∷ r)) ∙ behind ∙ item_whole k.0 k.1 (93 ∷ s)) in
      let more = one_more_items ts us h.1 k.1 r s h.4 k.4 first.1 in
      (ap₂ item first.0 more.0, more.1)

  one_members : (ms us : Members) (i j r s : List ℕ) → AreMembers ms i → AreMembers us j → i ++ 125 ∷ r ≡ j ++ 125 ∷ s → (ms ≡ us) × (r ≡ s)
  one_members no_members no_members i j r s h k e = (refl, tail_of 125 125 r s (one_cut is_space i j (125 ∷ r) (125 ∷ s) h k refl refl e).1)
  one_members no_members (member m u us) i j r s h k e = absurd (empty_object m u us i j r s h k e)
  one_members (member n t ms) no_members i j r s h k e = absurd (empty_object n t ms j i s r k h (sym e))
  one_members (member n t ms) (member m u us) i j r s h k e =
      let name = padded_one (IsString n) (IsString m) (n ≡ m) h.0 k.0 (58 ∷ (h.1 ++ (h.2 ++ 125 ∷ r))) (58 ∷ (k.1 ++ (k.2 ++ 125 ∷ s))) (strings_one n m) (string_stops n) (string_stops m) h.4 k.4 (colon_closed (h.1 ++ (h.2 ++ 125 ∷ r))) (colon_closed (k.1 ++ (k.2 ++ 125 ∷ s)))
      (sym (ap (λ x. x ++ 125 ∷ r) h.3 ∙ member_whole h.0 h.1 h.2 (125 ∷ r)) ∙ e ∙ ap (λ x. x ++ 125 ∷ s) k.3 ∙ member_whole k.0 k.1 k.2 (125 ∷ s)) in
      let first = padded_one (IsValue t) (IsValue u) (t ≡ u) h.1 k.1 (h.2 ++ 125 ∷ r) (k.2 ++ 125 ∷ s) (λ v w x y p q ex ey same. one_value t u v w x y p q ex ey same) (value_stops t) (value_stops u) h.5 k.5 (closed_members ms h.2 r h.6) (closed_members us k.2 s k.6) (tail_of 58 58 _ _ name.1) in
      let more = one_more_members ms us h.2 k.2 r s h.6 k.6 first.1 in
      (ap₂ (λ x y. member x y ms) name.0 first.0 ∙ ap (member m u) more.0, more.1)

  one_more_members : (ms us : Members) (i j r s : List ℕ) → AreMoreMembers ms i → AreMoreMembers us j → i ++ 125 ∷ r ≡ j ++ 125 ∷ s → (ms ≡ us) × (r ≡ s)
  one_more_members no_members no_members i j r s h k e = (refl, tail_of 125 125 r s (sym (ap (λ x. x ++ 125 ∷ r) h) ∙ e ∙ ap (λ x. x ++ 125 ∷ s) k))
  one_more_members no_members (member m u us) i j r s h k e = absurd (apart 125 44 _ _ refl (sym (ap (λ x. x ++ 125 ∷ r) h) ∙ e ∙ ap (λ x. x ++ 125 ∷ s) k.3))
  one_more_members (member n t ms) no_members i j r s h k e = absurd (apart 44 125 _ _ refl (sym (ap (λ x. x ++ 125 ∷ r) h.3) ∙ e ∙ ap (λ x. x ++ 125 ∷ s) k))
  one_more_members (member n t ms) (member m u us) i j r s h k e =
      let behind = tail_of 44 44 _ _ (sym (ap (λ x. x ++ 125 ∷ r) h.3) ∙ e ∙ ap (λ x. x ++ 125 ∷ s) k.3) in
      let name = padded_one (IsString n) (IsString m) (n ≡ m) h.0 k.0 (58 ∷ (h.1 ++ (h.2 ++ 125 ∷ r))) (58 ∷ (k.1 ++ (k.2 ++ 125 ∷ s))) (strings_one n m) (string_stops n) (string_stops m) h.4 k.4 (colon_closed (h.1 ++ (h.2 ++ 125 ∷ r))) (colon_closed (k.1 ++ (k.2 ++ 125 ∷ s)))
      (sym (member_whole h.0 h.1 h.2 (125 ∷ r)) ∙ behind ∙ member_whole k.0 k.1 k.2 (125 ∷ s)) in
      let first = padded_one (IsValue t) (IsValue u) (t ≡ u) h.1 k.1 (h.2 ++ 125 ∷ r) (k.2 ++ 125 ∷ s) (λ v w x y p q ex ey same. one_value t u v w x y p q ex ey same) (value_stops t) (value_stops u) h.5 k.5 (closed_members ms h.2 r h.6) (closed_members us k.2 s k.6) (tail_of 58 58 _ _ name.1) in
      let more = one_more_members ms us h.2 k.2 r s h.6 k.6 first.1 in
      (ap₂ (λ x y. member x y ms) name.0 first.0 ∙ ap (member m u) more.0, more.1)

-- a text has one tree
pub one_json : (bytes : List ℕ) (t u : Tree) → IsJson bytes t → IsJson bytes u → t ≡ u
one_json bytes t u h k =
    let one = padded_one (IsValue h.written) (IsValue k.written) (h.written ≡ k.written) bytes bytes [] [] (λ v w x y p q ex ey same. one_value h.written k.written v w x y p q ex ey same) (value_stops h.written) (value_stops k.written) h.value k.value (tt, tt) (tt, tt) refl in
    h.means ∙ ap resolved one.0 ∙ sym k.means
