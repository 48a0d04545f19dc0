-- Where the asks of a day are, by the map of their ids.
use Rattle.std.proofs.Common.{◌≡◌, ℕ, zero, suc, ◌+◌, ◌≤◌, List, [], ◌∷◌, ◌++◌, map, length, take, Bool, true, false, cond, not, eqb, ltb, refl, sym, ap, ◌∙◌, inl, inr, arith, Option, Some, None, slice_get, String, string_bytes}
use Rattle.std.specs.List.{find, position, position_or_len}
use Rattle.std.specs.Option.{option_and_then, option_map}
use Rattle.std.specs.Global.{Global}
use Rattle.std.specs.Str.{bytes_eq}
use Rattle.std.specs.String.{string_eq}
use Rattle.std.specs.Map.{lookup}
use Rattle.std.proofs.lemmas.Bool.{cases_lt, eq-eqb, le-ltb, lt-ltb, ltb-false}
use Rattle.std.proofs.lemmas.List.{get_or_at, length-map, length-take, length_push, map-append, take-map}
use Rattle.std.proofs.lemmas.List.Folds.{find_at}
use Rattle.std.proofs.lemmas.Option.{slice_get-get_or, slice_get_past}
use Rattle.day_rules.specs.declared.ask.Ask.{Ask}
use Rattle.day_rules.specs.declared.entry.Entry.{Entry}
use Rattle.day_rules.specs.declared.answer.Seen.{Seen}
use Rattle.day_rules.specs.Entries.{asked}
use Rattle.day_rules.specs.Books.{ask_count, asks_of}
use Rattle.day_rules.specs.DayState.{next_id}
use Rattle.day_rules.specs.Replies.{ask_of, seen_as, seen_in}
use Rattle.day_rules.proofs.Asked.{asked_at, asks_length, bytes_swapped}
use Rattle.day_machine.specs.DayFields.{AreIds, place_by, place_in, placed_at}

-- the place that is there with an id is at the position of its key
abbrev pub bytes_of : String Global × ℕ → List ℕ × ℕ
bytes_of p = (string_bytes p.0, p.1)

abbrev pub is_key : List ℕ → String Global → Bool
is_key auction k = bytes_eq auction (string_bytes k)

abbrev place_at_key : List ℕ → ℕ → List (String Global × ℕ) → Option ℕ
place_at_key auction asks es =
    let n : ℕ = position_or_len (is_key auction) (map (λ (e : String Global × ℕ). e.0) es) in
    cond (ltb n asks) (option_map (λ (p : List ℕ × ℕ). p.1) (slice_get (map bytes_of es) n)) None

both_none : (b : Bool) → None ≡ cond {A = Option ℕ} b None None
both_none true = refl
both_none false = refl

key_step : (auction : List ℕ) (asks : ℕ) (e : String Global × ℕ) (es : List (String Global × ℕ)) (b : Bool) → is_key auction e.0 ≡ b
    → option_map (λ (p : List ℕ × ℕ). p.1) (find (λ (p : List ℕ × ℕ). bytes_eq auction p.0) (take asks (map bytes_of es))) ≡ place_at_key auction asks es
    → option_map (λ (p : List ℕ × ℕ). p.1) (find (λ (p : List ℕ × ℕ). bytes_eq auction p.0) (take (suc asks) (map bytes_of (e ∷ es)))) ≡ place_at_key auction (suc asks) (e ∷ es)
key_step auction asks e es true h rest =
    let n : position_or_len (is_key auction) (map (λ (e : String Global × ℕ). e.0) (e ∷ es)) ≡ 0 = ap (λ (b : Bool). cond (not b) (1 + position_or_len (is_key auction) (map (λ (e : String Global × ℕ). e.0) es)) 0) h in
    ap (λ (b : Bool). option_map (λ (p : List ℕ × ℕ). p.1) (cond b (Some (bytes_of e)) (find (λ (p : List ℕ × ℕ). bytes_eq auction p.0) (take asks (map bytes_of es))))) h
    ∙ sym (ap (λ (n : ℕ). cond (ltb n (suc asks)) (option_map (λ (p : List ℕ × ℕ). p.1) (slice_get (map bytes_of (e ∷ es)) n)) None) n
    ∙ ap (λ (b : Bool). cond b (Some e.1) None) (lt-ltb 0 (suc asks) (omega arith)))
key_step auction asks e es false h rest =
    let m : ℕ = position_or_len (is_key auction) (map (λ (e : String Global × ℕ). e.0) es) in
    let more : 1 + m ≡ suc m = omega arith in
    let n : position_or_len (is_key auction) (map (λ (e : String Global × ℕ). e.0) (e ∷ es)) ≡ suc m = ap (λ (b : Bool). cond (not b) (1 + m) 0) h ∙ more in
    ap (λ (b : Bool). option_map (λ (p : List ℕ × ℕ). p.1) (cond b (Some (bytes_of e)) (find (λ (p : List ℕ × ℕ). bytes_eq auction p.0) (take asks (map bytes_of es))))) h
    ∙ (rest
    ∙ sym (ap (λ (n : ℕ). cond (ltb n (suc asks)) (option_map (λ (p : List ℕ × ℕ). p.1) (slice_get (map bytes_of (e ∷ es)) n)) None) n
    ∙ ap (λ (b : Bool). cond b (option_map (λ (p : List ℕ × ℕ). p.1) (slice_get (map bytes_of es) m)) None) (shift m asks)))
  where
    shift : (m asks : ℕ) → ltb (suc m) (suc asks) ≡ ltb m asks
    shift m asks = elim (cases_lt m asks) [
      | inl less ↦ lt-ltb (suc m) (suc asks) (omega arith) ∙ sym (lt-ltb m asks less)
      | inr more ↦ le-ltb (suc m) (suc asks) (omega arith) ∙ sym (le-ltb m asks more)
    ]

found_by_key : (auction : List ℕ) (asks : ℕ) (es : List (String Global × ℕ)) → place_in asks auction (map bytes_of es) ≡ place_at_key auction asks es
found_by_key auction zero es =
    sym (ap (λ (b : Bool). cond b (option_map (λ (p : List ℕ × ℕ). p.1) (slice_get (map bytes_of es) (position_or_len (is_key auction) (map (λ (e : String Global × ℕ). e.0) es)))) None) (le-ltb (position_or_len (is_key auction) (map (λ (e : String Global × ℕ). e.0) es)) 0 (omega arith)))
found_by_key auction (suc asks) [] = both_none (ltb 0 (suc asks))
found_by_key auction (suc asks) (e ∷ es) = key_step auction asks e es (is_key auction e.0) refl (found_by_key auction asks es)

by_position : (auction : List ℕ) (asks : ℕ) (es : List (String Global × ℕ)) → place_by asks (position (is_key auction) (map (λ (e : String Global × ℕ). e.0) es)) (map bytes_of es) ≡ place_at_key auction asks es
by_position auction asks es = by (ltb n (length ks)) refl
  where
    ks : List (String Global)
    ks = map (λ (e : String Global × ℕ). e.0) es

    n : ℕ
    n = position_or_len (is_key auction) ks

    by : (b : Bool) → ltb n (length ks) ≡ b → place_by asks (cond (ltb n (length ks)) (Some n) None) (map bytes_of es) ≡ place_at_key auction asks es
    by true e = ap (λ (b : Bool). place_by asks (cond b (Some n) None) (map bytes_of es)) e
    by false e =
        let past : length (map bytes_of es) ≤ n = omega (arith, ltb-false n (length ks) e, long es) in
        ap (λ (b : Bool). place_by asks (cond b (Some n) None) (map bytes_of es)) e
        ∙ (both_none (ltb n asks) ∙ ap (λ (o : Option (List ℕ × ℕ)). cond (ltb n asks) (option_map (λ (p : List ℕ × ℕ). p.1) o) None) (sym (slice_get_past (map bytes_of es) n past)))
      where
        long : (es : List (String Global × ℕ)) → length (map bytes_of es) ≡ length (map (λ (e : String Global × ℕ). e.0) es)
        long [] = refl
        long (e ∷ es) = ap suc (long es)

pub place_is : (auction : List ℕ) (asks : ℕ) (es : List (String Global × ℕ)) (o : Option ℕ) → o ≡ position (is_key auction) (map (λ (e : String Global × ℕ). e.0) es) → place_by asks o (map bytes_of es) ≡ place_in asks auction (map bytes_of es)
place_is auction asks es o is =
    ap (λ (o : Option ℕ). place_by asks o (map bytes_of es)) is ∙ (by_position auction asks es ∙ sym (found_by_key auction asks es))

-- so it says where the ask of an auction is
find_map : {X Y : Type 0} (f : X → Y) (p : Y → Bool) (xs : List X) → find p (map f xs) ≡ option_map f (find (λ x. p (f x)) xs)
find_map f p [] = refl
find_map {X} {Y} f p (x ∷ xs) = by (p (f x)) (find_map f p xs)
  where
    by : (b : Bool) → find p (map f xs) ≡ option_map f (find (λ x. p (f x)) xs) → cond b (Some (f x)) (find p (map f xs)) ≡ option_map f (cond b (Some x) (find (λ x. p (f x)) xs))
    by true h = refl
    by false h = h

find_same : {X : Type 0} (p q : X → Bool) (xs : List X) → ((x : X) → p x ≡ q x) → find p xs ≡ find q xs
find_same p q [] h = refl
find_same {X} p q (x ∷ xs) h = ap (λ (b : Bool). cond b (Some x) (find p xs)) (h x) ∙ ap (λ (o : Option X). cond (q x) (Some x) o) (find_same p q xs h)

pub ask_place : (h : List Entry) (ids : List (List ℕ × ℕ)) (asks : ℕ) (auction : List ℕ) → AreIds h ids → asks ≡ ask_count h → place_in asks auction ids ≡ option_map (λ (p : ℕ × Ask). p.0) (ask_of auction h)
ask_place h ids asks auction i is =
    let f : ℕ × Ask → List ℕ × ℕ = λ p. (p.1.auction, p.0) in
    let front : take asks ids ≡ map f (asks_of h) = ap (λ (n : ℕ). take n ids) is ∙ i.front in
    ap (λ (t : List (List ℕ × ℕ)). option_map (λ (p : List ℕ × ℕ). p.1) (find (λ (p : List ℕ × ℕ). bytes_eq auction p.0) t)) front
    ∙ (ap (option_map (λ (p : List ℕ × ℕ). p.1)) (find_map f (λ (p : List ℕ × ℕ). bytes_eq auction p.0) (asks_of h) ∙ ap (option_map f) (find_same (λ (p : ℕ × Ask). bytes_eq auction p.1.auction) (λ (p : ℕ × Ask). bytes_eq p.1.auction auction) (asks_of h) (λ p. bytes_swapped auction p.1.auction)))
    ∙ twice (ask_of auction h))
  where
    twice : (o : Option (ℕ × Ask)) → option_map (λ (p : List ℕ × ℕ). p.1) (option_map (λ (p : ℕ × Ask). (p.1.auction, p.0)) o) ≡ option_map (λ (p : ℕ × Ask). p.0) o
    twice None = refl
    twice (Some p) = refl

-- the ask that was found is at its place
found_ask : (h : List Entry) (auction : List ℕ) (place : ℕ) (a : Ask) → ask_of auction h ≡ Some (place, a) → placed_at h place ≡ Some (place, a)
found_ask h auction place a found =
    let n : ℕ = position_or_len (λ (p : ℕ × Ask). bytes_eq p.1.auction auction) (asks_of h) in
    let at : slice_get (asks_of h) n ≡ Some (place, a) = sym (find_at (λ (p : ℕ × Ask). bytes_eq p.1.auction auction) (asks_of h)) ∙ found in
    ap (λ (o : Option Entry). option_map (λ (b : Ask). (place, b)) (option_and_then asked o)) (asked_at h n place a at)

pub seen_none : (h : List Entry) (auction digest : List ℕ) (o : Option (ℕ × Ask)) → ask_of auction h ≡ o → None ≡ option_map (λ (p : ℕ × Ask). p.0) o → Seen.New ≡ seen_in h auction digest
seen_none h auction digest None is none = ap (seen_as digest) (sym is)
seen_none h auction digest (Some p) is none = cc

pub seen_some : (h : List Entry) (auction digest : List ℕ) (place : ℕ) (o : Option (ℕ × Ask)) → ask_of auction h ≡ o → Some place ≡ option_map (λ (p : ℕ × Ask). p.0) o → seen_as digest (placed_at h place) ≡ seen_in h auction digest
seen_some h auction digest place None is some = cc
seen_some h auction digest place (Some p) is some =
    let same : place ≡ p.0 = cc in
    ap (λ (k : ℕ). seen_as digest (placed_at h k)) same
    ∙ ap (seen_as digest) (found_ask h auction p.0 p.1 is ∙ sym is)

-- the map after so many ids were kept, and one was put after them
pub cut_front : (n : ℕ) (es : List (String Global × ℕ)) → map bytes_of (take n es) ≡ take n (map bytes_of es)
cut_front n es = sym (take-map bytes_of n es)

pub cut_again : (n : ℕ) (es : List (String Global × ℕ)) → take n (map bytes_of (take n es)) ≡ take n (map bytes_of es)
cut_again n es = ap (take n) (cut_front n es) ∙ take_again n (map bytes_of es)
  where
    take_again : {X : Type 0} (n : ℕ) (xs : List X) → take n (take n xs) ≡ take n xs
    take_again zero xs = refl
    take_again (suc n) [] = refl
    take_again {X} (suc n) (x ∷ xs) = ap (λ (t : List X). x ∷ t) (take_again n xs)

pub absent : (auction : List ℕ) (k : String Global) (es : List (String Global × ℕ)) → string_bytes k ≡ auction → option_map (λ (p : List ℕ × ℕ). p.1) (find (λ (p : List ℕ × ℕ). bytes_eq auction p.0) (map bytes_of es)) ≡ None → lookup (string_eq k) es ≡ None
absent auction k [] same none = refl
absent auction k (e ∷ es) same none = by (bytes_eq auction (string_bytes e.0)) refl (absent auction k es same)
  where
    rest : Option ℕ
    rest = option_map (λ (p : List ℕ × ℕ). p.1) (find (λ (p : List ℕ × ℕ). bytes_eq auction p.0) (map bytes_of es))

    by : (b : Bool) → bytes_eq auction (string_bytes e.0) ≡ b → (option_map (λ (p : List ℕ × ℕ). p.1) (find (λ (p : List ℕ × ℕ). bytes_eq auction p.0) (map bytes_of es)) ≡ None → lookup (string_eq k) es ≡ None) → lookup (string_eq k) (e ∷ es) ≡ None
    by true t h = absurd (no_some (sym (ap (λ (b : Bool). option_map (λ (p : List ℕ × ℕ). p.1) (cond b (Some (bytes_of e)) (find (λ (p : List ℕ × ℕ). bytes_eq auction p.0) (map bytes_of es)))) t) ∙ none))
      where
        no_some : Some e.1 ≡ None → ⊥
        no_some h = cc
    by false t h =
        ap (λ (xs : List ℕ). cond (bytes_eq xs (string_bytes e.0)) (Some e.1) (lookup (string_eq k) es)) same
        ∙ (ap (λ (b : Bool). cond b (Some e.1) (lookup (string_eq k) es)) t
        ∙ h (sym (ap (λ (b : Bool). option_map (λ (p : List ℕ × ℕ). p.1) (cond b (Some (bytes_of e)) (find (λ (p : List ℕ × ℕ). bytes_eq auction p.0) (map bytes_of es)))) t) ∙ none))

pub put_behind : (auction : List ℕ) (place n : ℕ) (k : String Global) (es new : List (String Global × ℕ)) → string_bytes k ≡ auction → new ≡ take n es ++ (k, place) ∷ [] → map bytes_of new ≡ take n (map bytes_of es) ++ (auction, place) ∷ []
put_behind auction place n k es new same is =
    ap (map bytes_of) is
    ∙ (map-append bytes_of (take n es) ((k, place) ∷ [])
    ∙ (ap (λ (t : List (List ℕ × ℕ)). t ++ (string_bytes k, place) ∷ []) (cut_front n es) ∙ ap (λ (xs : List ℕ). take n (map bytes_of es) ++ (xs, place) ∷ []) same))

pub front_stays : {X : Type 0} (n : ℕ) (xs ys : List X) (x : X) → n ≤ length xs → ys ≡ take n xs ++ x ∷ [] → take n ys ≡ take n xs
front_stays zero xs ys x long is = refl
front_stays (suc n) [] ys x long is = absurd (omega arith)
front_stays {X} (suc n) (y ∷ xs) ys x long is = ap (take (suc n)) is ∙ ap (λ (t : List X). y ∷ t) (front_stays n xs (take n xs ++ x ∷ []) x (omega arith) refl)

-- each ask has its id
pub all_ids : (h : List Entry) (ids : List (List ℕ × ℕ)) (asks : ℕ) → AreIds h ids → asks ≡ ask_count h → asks ≤ length ids
all_ids h ids asks i is =
    let f : ℕ × Ask → List ℕ × ℕ = λ p. (p.1.auction, p.0) in
    omega (arith, ap (λ (t : List (List ℕ × ℕ)). length t) i.front, length-map (asks_of h) f, asks_length h, length-take (ask_count h) ids)

pub prepared_next : (asks place : ℕ) (auction : List ℕ) (ids new : List (List ℕ × ℕ)) → asks ≤ length ids → (xs : List ℕ) (at : ℕ) → xs ≡ auction → place ≡ at → new ≡ take asks ids ++ (xs, at) ∷ [] → next_id asks place new ≡ Some auction
prepared_next asks place auction ids new long xs at same here is =
    let front : length (take asks ids) ≡ asks = omega (arith, length-take asks ids) in
    let found : slice_get new asks ≡ Some (xs, at) =
    ap (λ (t : List (List ℕ × ℕ)). slice_get t asks) is
    ∙ (slice_get-get_or (take asks ids ++ (xs, at) ∷ []) asks (xs, at) (omega (arith, length_push (take asks ids) (xs, at))) ∙ ap Some (get_or_at (take asks ids) (xs, at) [] (xs, at) asks front)) in
    ap (option_and_then (λ (p : List ℕ × ℕ). cond (eqb p.1 place) (Some p.0) None)) found
    ∙ (ap (λ (b : Bool). cond b (Some xs) None) (eq-eqb at place (sym here)) ∙ ap Some same)
