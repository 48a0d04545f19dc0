-- The rows of entries: what they show of the history, that they may be in a record, and whose awards they say.
use Rattle.std.proofs.Common.{◌≡◌, ℕ, zero, suc, ◌+◌, ◌-◌, ◌*◌, ◌<◌, ◌≤◌, ◌^◌, List, [], ◌∷◌, ◌++◌, map, length, drop, get_or, Bool, true, false, cond, ◌&&◌, refl, sym, ap, ap₂, ◌∙◌, subst, inl, inr, arith, is_some, Option, Some, None, option_map, option_and_then}
use Rattle.std.specs.List.{All, cons_option, find, position, range_with_len, slice_get}
use Rattle.std.specs.Option.{ForSome, option_map_or}
use Rattle.std.proofs.lemmas.Bool.{false≢true}
use Rattle.std.proofs.lemmas.List.{drop_more}
use Rattle.std.proofs.lemmas.List.{append_assoc, length-append, length-map, map-append}
use Rattle.std.proofs.lemmas.List.Elements.{All-append, All-cons, All-head, All-nil, All-tail}
use Rattle.std.proofs.lemmas.List.Quantifiers.{position-Some}
use Rattle.std.proofs.lemmas.List.Sums.{sum_by-cons}
use Rattle.adx_units.specs.declared.offer.Offer.{Offer}
use Rattle.adx_units.specs.Money.{units}
use Rattle.notice_book.specs.declared.award.Award.{Award}
use Rattle.day_rules.specs.declared.ask.Ask.{Ask}
use Rattle.day_rules.specs.declared.entry.Entry.{Entry}
use Rattle.day_rules.specs.Asks.{IsAdmittedOffer, IsOffer, IsRefusal, is_decided}
use Rattle.day_rules.specs.Books.{ask_count}
use Rattle.day_rules.specs.Entries.{asked}
use Rattle.day_rules.proofs.Lists.{get-append_left, get-append_right}
use Rattle.bid_record.specs.declared.rows.Charge.{Charge}
use Rattle.bid_record.specs.declared.rows.ImpRow.{ImpRow}
use Rattle.bid_record.specs.Records.{IsCharge}
use Rattle.dual_cert.specs.Assignments.{no_charge}
use Rattle.served_record.specs.Served.{admitted, charge_of, chosen_of, each_in, each_of, end_told, impression_of, is_admitted, is_awarded, name_of}
use Rattle.served_record.specs.Steps.{IsNamed, end_at, imps_of, is_award, row_by, rows_by, rows_for, rows_in, sold_by, sold_for, sold_in, sold_of}
use Rattle.served_record.proofs.Asked.{AskIsSettled, IsSettled, awarded_admitted}
use Rattle.served_record.proofs.Awards.{award_charge, charges_by, charges_for, charges_in, entry_long}
use Rattle.served_record.proofs.Lists.{cut, found_at, placed_found}
use Rattle.served_record.proofs.Told.{Told, TellsBy, told_append}

-- what the rows show of each impression

mapped_for : {X : Type 0} (f : ImpRow → X) (g : Ask → ℕ → X) (awards : List Award) → ((n : ℕ) (a : Ask) (imp : ℕ) → f (row_by awards n a imp) ≡ g a imp) → (n : ℕ) (a : Ask) (imps : List ℕ) → map f (rows_for awards n a imps) ≡ map (g a) imps
mapped_for f g awards one n a [] = refl
mapped_for {X} f g awards one n a (imp ∷ imps) =
    ap₂ (λ (x : X) (xs : List X). x ∷ xs) (one n a imp) (mapped_for f g awards one (n + sold_for a imp) a imps)

mapped_by : {X : Type 0} (f : ImpRow → X) (g : Ask → ℕ → X) (awards : List Award) → ((n : ℕ) (a : Ask) (imp : ℕ) → f (row_by awards n a imp) ≡ g a imp) → (n : ℕ) (e : Entry) → map f (rows_by awards n e) ≡ option_map_or (each_of g) (asked e) []
mapped_by f g awards one n (Entry.Ask a) = mapped_for f g awards one n a (imps_of a)
mapped_by f g awards one n (Entry.Win m) = refl
mapped_by f g awards one n (Entry.Bill m) = refl
mapped_by f g awards one n (Entry.Loss m) = refl
mapped_by f g awards one n (Entry.Expire now) = refl
mapped_by f g awards one n (Entry.Budget k change budget) = refl

pub mapped : {X : Type 0} (f : ImpRow → X) (g : Ask → ℕ → X) (awards : List Award) → ((n : ℕ) (a : Ask) (imp : ℕ) → f (row_by awards n a imp) ≡ g a imp) → (n : ℕ) (es : List Entry) → map f (rows_in awards n es) ≡ each_in g es
mapped f g awards one n [] = refl
mapped {X} f g awards one n (e ∷ es) =
    map-append f (rows_by awards n e) (rows_in awards (n + sold_by e) es)
    ∙ ap₂ (λ (xs ys : List X). xs ++ ys) (mapped_by f g awards one n e) (mapped f g awards one (n + sold_by e) es)

-- what the type of a record asks of each row but of its name and its end
pub record IsFilled (campaigns : ℕ) (row : ImpRow) : Type 0 where
  pub named : is_some row.name ≡ true
  pub few_offers : length row.offers < 2 ^ 32
  pub charges : All (IsCharge campaigns) row.offers
  pub chosen : ForSome row.chosen (λ place. place < length row.offers)

not_decided : (r : ℕ) → IsRefusal r → is_decided r ≡ true → ⊥
not_decided r (inl h) is = false≢true (sym (ap is_decided h) ∙ is)
not_decided r (inr (inl h)) is = false≢true (sym (ap is_decided h) ∙ is)
not_decided r (inr (inr (inl h))) is = false≢true (sym (ap is_decided h) ∙ is)
not_decided r (inr (inr (inr (inl h)))) is = false≢true (sym (ap is_decided h) ∙ is)
not_decided r (inr (inr (inr (inr (inl h))))) is = false≢true (sym (ap is_decided h) ∙ is)
not_decided r (inr (inr (inr (inr (inr (inl h)))))) is = false≢true (sym (ap is_decided h) ∙ is)
not_decided r (inr (inr (inr (inr (inr (inr h)))))) is = false≢true (sym (ap is_decided h) ∙ is)

decided_offer : (campaigns imps : ℕ) (o : Offer) → IsOffer campaigns imps o → is_decided o.reason ≡ true → IsAdmittedOffer campaigns imps o
decided_offer campaigns imps o (inl h) is = h
decided_offer campaigns imps o (inr h) is = absurd (not_decided o.reason h.reason is)

charged : (campaigns imps imp : ℕ) (o : Offer) → IsOffer campaigns imps o → is_admitted imp o ≡ true → IsCharge campaigns (charge_of o)
charged campaigns imps imp o is admitted =
    let h = decided_offer campaigns imps o is (first (is_decided o.reason) _ admitted) in
    record {
      campaign = h.campaign;
      amount = record { positive = h.positive; within = h.within };
    }
  where
    first : (b c : Bool) → (b && c) ≡ true → b ≡ true
    first true c h = refl
    first false c h = h

charges_all : (campaigns imps imp : ℕ) (offers : List Offer) → All (IsOffer campaigns imps) offers → All (IsCharge campaigns) (map charge_of (admitted imp offers))
charges_all campaigns imps imp [] h = All-nil (IsCharge campaigns)
charges_all campaigns imps imp (o ∷ os) h =
    by (is_admitted imp o) refl (charges_all campaigns imps imp os (All-tail (IsOffer campaigns imps) o os h))
  where
    by : (b : Bool) → is_admitted imp o ≡ b → All (IsCharge campaigns) (map charge_of (admitted imp os)) → All (IsCharge campaigns) (map charge_of (cond (is_admitted imp o) (o ∷ admitted imp os) (admitted imp os)))
    by true is rest =
        subst (λ (b : Bool). All (IsCharge campaigns) (map charge_of (cond b (o ∷ admitted imp os) (admitted imp os)))) (sym is)
        (All-cons (IsCharge campaigns) (charge_of o) (map charge_of (admitted imp os)) (charged campaigns imps imp o (All-head (IsOffer campaigns imps) o os h) is) rest)
    by false is rest =
        subst (λ (b : Bool). All (IsCharge campaigns) (map charge_of (cond b (o ∷ admitted imp os) (admitted imp os)))) (sym is) rest

pub few_admitted : (imp : ℕ) (offers : List Offer) → length (admitted imp offers) ≤ length offers
few_admitted imp [] = omega arith
few_admitted imp (o ∷ os) = by (is_admitted imp o) (few_admitted imp os)
  where
    by : (b : Bool) → length (admitted imp os) ≤ length os → length (cond b (o ∷ admitted imp os) (admitted imp os)) ≤ length (o ∷ os)
    by true h = omega arith
    by false h = omega arith

-- the chosen place is below all that were admitted
pub chosen_below : (imp : ℕ) (offers : List Offer) (place : ℕ) → position is_awarded (admitted imp offers) ≡ Some place → place < length (admitted imp offers)
chosen_below imp offers place is = (position-Some is_awarded (admitted imp offers) place no_offer is).0
  where
    no_offer : Offer
    no_offer = record { imp = 0; campaign = 0; charge = units 0; life = 0; reason = 0 }

filled : (campaigns : ℕ) (awards : List Award) (n : ℕ) (a : Ask) (imp : ℕ) → IsSettled campaigns a → IsFilled campaigns (row_by awards n a imp)
filled campaigns awards n a imp s =
    let long : length (impression_of a imp) ≡ length (admitted imp a.offers) = length-map (admitted imp a.offers) charge_of in
    record {
      named = refl;
      few_offers = let few = s.formed.few_offers in omega (arith, few_admitted imp a.offers);
      charges = charges_all campaigns (length a.imps) imp a.offers s.formed.offers;
      chosen = λ place is. omega (arith, chosen_below imp a.offers place is);
    }

filled_for : (campaigns : ℕ) (awards : List Award) (n : ℕ) (a : Ask) (imps : List ℕ) → IsSettled campaigns a → All (IsFilled campaigns) (rows_for awards n a imps)
filled_for campaigns awards n a [] s = All-nil (IsFilled campaigns)
filled_for campaigns awards n a (imp ∷ imps) s =
    All-cons (IsFilled campaigns) (row_by awards n a imp) (rows_for awards (n + sold_for a imp) a imps) (filled campaigns awards n a imp s) (filled_for campaigns awards (n + sold_for a imp) a imps s)

filled_by : (campaigns : ℕ) (awards : List Award) (n : ℕ) (e : Entry) → AskIsSettled campaigns e → All (IsFilled campaigns) (rows_by awards n e)
filled_by campaigns awards n (Entry.Ask a) s = filled_for campaigns awards n a (imps_of a) s
filled_by campaigns awards n (Entry.Win m) s = All-nil (IsFilled campaigns)
filled_by campaigns awards n (Entry.Bill m) s = All-nil (IsFilled campaigns)
filled_by campaigns awards n (Entry.Loss m) s = All-nil (IsFilled campaigns)
filled_by campaigns awards n (Entry.Expire now) s = All-nil (IsFilled campaigns)
filled_by campaigns awards n (Entry.Budget k change budget) s = All-nil (IsFilled campaigns)

pub all_filled : (campaigns : ℕ) (awards : List Award) (n : ℕ) (es : List Entry) → All (AskIsSettled campaigns) es → All (IsFilled campaigns) (rows_in awards n es)
all_filled campaigns awards n [] s = All-nil (IsFilled campaigns)
all_filled campaigns awards n (e ∷ es) s =
    let P : Entry → Type 0 = AskIsSettled campaigns in
    All-append (IsFilled campaigns) (rows_by awards n e) (rows_in awards (n + sold_by e) es)
    (filled_by campaigns awards n e (All-head P e es s)) (all_filled campaigns awards (n + sold_by e) es (All-tail P e es s))

-- how many rows there are
long_for : (awards : List Award) (n : ℕ) (a : Ask) (imps : List ℕ) → length (rows_for awards n a imps) ≡ length imps
long_for awards n a [] = refl
long_for awards n a (imp ∷ imps) = ap suc (long_for awards (n + sold_for a imp) a imps)

range_long : (from n : ℕ) → length (range_with_len from n) ≡ n
range_long from zero = refl
range_long from (suc n) = ap suc (range_long (from + 1) n)

few_by : (campaigns : ℕ) (awards : List Award) (n : ℕ) (e : Entry) → AskIsSettled campaigns e → length (rows_by awards n e) ≤ 16 * cond (is_some (asked e)) 1 0
few_by campaigns awards n (Entry.Ask a) s =
    let few = s.formed.few_imps in omega (arith, long_for awards n a (imps_of a), range_long 0 (length a.imps))
few_by campaigns awards n (Entry.Win m) s = omega arith
few_by campaigns awards n (Entry.Bill m) s = omega arith
few_by campaigns awards n (Entry.Loss m) s = omega arith
few_by campaigns awards n (Entry.Expire now) s = omega arith
few_by campaigns awards n (Entry.Budget k change budget) s = omega arith

pub few_rows : (campaigns : ℕ) (awards : List Award) (n : ℕ) (es : List Entry) → All (AskIsSettled campaigns) es → length (rows_in awards n es) ≤ 16 * ask_count es
few_rows campaigns awards n [] s = omega arith
few_rows campaigns awards n (e ∷ es) s =
    let P : Entry → Type 0 = AskIsSettled campaigns in
    omega (arith, length-append (rows_by awards n e) (rows_in awards (n + sold_by e) es), few_by campaigns awards n e (All-head P e es s), few_rows campaigns awards (n + sold_by e) es (All-tail P e es s), sum_by-cons (λ (e : Entry). cond (is_some (asked e)) 1 0) e es)

-- the awards from a number on begin with these
abbrev pub At : List Award → ℕ → List Award → Type 0
At awards n mine = (i : ℕ) (w : Award) → slice_get mine i ≡ Some w → slice_get awards (n + i) ≡ Some w

at_rest : (awards : List Award) (n : ℕ) (w : Award) (mine : List Award) → At awards n (w ∷ mine) → At awards (n + 1) mine
at_rest awards n w mine at i v is = subst (λ (k : ℕ). slice_get awards k ≡ Some v) (omega arith) (at (suc i) v is)

at_same : (awards : List Award) (n m : ℕ) (mine : List Award) → n ≡ m → At awards n mine → At awards m mine
at_same awards n m mine same at = subst (λ (k : ℕ). At awards k mine) same at

get_inside : (ws : List Award) (i : ℕ) (w : Award) → slice_get ws i ≡ Some w → i < length ws
get_inside [] i w is = cc
get_inside (v ∷ ws) zero w is = omega arith
get_inside (v ∷ ws) (suc i) w is = let h = get_inside ws i w is in omega arith

at_front : (awards : List Award) (n : ℕ) (one two : List Award) → At awards n (one ++ two) → At awards n one
at_front awards n one two at i w is = at i w (get-append_left one two i (get_inside one i w is) ∙ is)

at_back : (awards : List Award) (n : ℕ) (one two : List Award) → At awards n (one ++ two) → At awards (n + length one) two
at_back awards n one two at i w is =
    subst (λ (k : ℕ). slice_get awards k ≡ Some w) (omega arith)
    (at (length one + i) w (get-append_right one two (length one + i) (omega arith) ∙ (ap (slice_get two) (omega arith) ∙ is)))

-- what is at a place of a list that is mapped
get_mapped : {X Y : Type 0} (f : X → Y) (xs : List X) (k : ℕ) (x : X) (d : Y) → slice_get xs k ≡ Some x → get_or (map f xs) k d ≡ f x
get_mapped f [] k x d is = cc
get_mapped {X} f (y ∷ xs) zero x d is = ap f (ap unwrapped is)
  where
    unwrapped : Option X → X
    unwrapped None = y
    unwrapped (Some z) = z
get_mapped f (y ∷ xs) (suc k) x d is = get_mapped f xs k x d is

abbrev tail_of : List Charge → List Charge
tail_of [] = []
tail_of (c ∷ cs) = cs

abbrev head_of : List Charge → Charge
head_of [] = no_charge
head_of (c ∷ cs) = c

none_left : (mine : List Award) → map award_charge mine ≡ [] → mine ≡ []
none_left [] h = refl
none_left (w ∷ ws) h = absurd (let l : length (map award_charge (w ∷ ws)) ≡ 0 = ap length h in omega arith)

-- the rows of impressions, beside the awards that they say
told_for : (awards : List Award) (n : ℕ) (a : Ask) (imps : List ℕ) (mine : List Award) → map award_charge mine ≡ charges_for a imps → At awards n mine → Told (rows_for awards n a imps) mine
told_for awards n a [] [] h at = refl
told_for awards n a [] (w ∷ ws) h at = absurd (let l : length (map award_charge (w ∷ ws)) ≡ 0 = ap length h in omega arith)
told_for awards n a (imp ∷ imps) mine h at =
    by (chosen_of a imp) refl (λ m ws keys from. told_for awards m a imps ws keys from)
  where
    Rest : Type 0
    Rest = (m : ℕ) (ws : List Award) → map award_charge ws ≡ charges_for a imps → At awards m ws → Told (rows_for awards m a imps) ws

    offers : List Offer
    offers = admitted imp a.offers

    found : find (is_award imp) a.offers ≡ option_and_then (slice_get offers) (chosen_of a imp)
    found = sym (awarded_admitted imp a.offers) ∙ found_at is_awarded offers

    some : is_some (chosen_of a imp) ≡ is_some (find (is_award imp) a.offers)
    some = placed_found is_awarded offers ∙ ap is_some (awarded_admitted imp a.offers)

    row : Option ℕ → ImpRow
    row o = record { name = name_of a imp; offers = impression_of a imp; chosen = o; end = option_and_then (λ place. end_at awards n) o }

    here : (place : ℕ) (f : Option Offer) (mine : List Award) → slice_get offers place ≡ f → is_some f ≡ true → map award_charge mine ≡ cons_option (option_map charge_of f) [] ++ charges_for a imps → At awards n mine → Rest → TellsBy (Some place) (row (Some place)) (Told (rows_for awards (n + 1) a imps)) mine
    here place None mine is some h at rest = absurd (false≢true some)
    here place (Some o) [] is some h at rest = absurd (let l : 0 ≡ length (charge_of o ∷ charges_for a imps) = ap length h in omega arith)
    here place (Some o) (w ∷ ws) is some h at rest =
        let stands : slice_get awards n ≡ Some w = subst (λ (k : ℕ). slice_get awards k ≡ Some w) (omega arith) (at 0 w refl) in (
          ap (option_map (λ (w : Award). end_told w.end)) stands,
          get_mapped charge_of offers place o no_charge is ∙ sym (ap head_of h),
          rest (n + 1) ws (ap tail_of h) (at_rest awards n w ws at),
        )

    G : Option ℕ → Type 0
    G o = TellsBy o (row o) (Told (rows_for awards (n + cond (is_some o) 1 0) a imps)) mine

    by : (o : Option ℕ) → chosen_of a imp ≡ o → Rest → G (chosen_of a imp)
    by None is rest =
        subst G (sym is) (
          refl,
          rest (n + 0) mine
              (h ∙ ap (λ (f : Option Offer). cons_option (option_map charge_of f) [] ++ charges_for a imps) (found ∙ ap (option_and_then (slice_get offers)) is))
              (at_same awards n (n + 0) mine (omega arith) at),
        )
    by (Some place) is rest =
        subst G (sym is)
        (here place (find (is_award imp) a.offers) mine (sym (found ∙ ap (option_and_then (slice_get offers)) is)) (sym some ∙ ap is_some is) h at rest)

told_by : (awards : List Award) (n : ℕ) (e : Entry) (mine : List Award) → map award_charge mine ≡ charges_by e → At awards n mine → Told (rows_by awards n e) mine
told_by awards n (Entry.Ask a) mine h at = told_for awards n a (imps_of a) mine h at
told_by awards n (Entry.Win m) mine h at = none_left mine h
told_by awards n (Entry.Bill m) mine h at = none_left mine h
told_by awards n (Entry.Loss m) mine h at = none_left mine h
told_by awards n (Entry.Expire now) mine h at = none_left mine h
told_by awards n (Entry.Budget k change budget) mine h at = none_left mine h

-- the rows of entries, beside the awards that they say
pub told_in : (awards : List Award) (n : ℕ) (es : List Entry) (mine : List Award) → map award_charge mine ≡ charges_in es → At awards n mine → Told (rows_in awards n es) mine
told_in awards n [] mine h at = none_left mine h
told_in awards n (e ∷ es) mine h at =
    let c = cut award_charge mine (charges_by e) (charges_in es) h in
    let at_both : At awards n (c.one ++ c.two) = subst (At awards n) c.is at in
    let long : length c.one ≡ sold_by e = omega (arith, length-map c.one award_charge, ap (λ (t : List Charge). length t) c.first, entry_long e) in
    subst (Told (rows_in awards n (e ∷ es))) (sym c.is)
    (told_append (rows_by awards n e) (rows_in awards (n + sold_by e) es) c.one c.two
    (told_by awards n e c.one c.first (at_front awards n c.one c.two at_both))
    (told_in awards (n + sold_by e) es c.two c.second (at_same awards (n + length c.one) (n + sold_by e) c.two (ap (λ (k : ℕ). n + k) long) (at_back awards n c.one c.two at_both))))

-- one impression more, and one entry more
range_step : (imp len : ℕ) → imp < len → range_with_len imp (len - imp) ≡ imp ∷ range_with_len (imp + 1) (len - (imp + 1))
range_step imp len below =
    let more : len - imp ≡ suc (len - (imp + 1)) = omega arith in ap (range_with_len imp) more

pub rows_kept : (awards : List Award) (old : List ImpRow) (row : ImpRow) (n : ℕ) (a : Ask) (imp len : ℕ) (all : List ImpRow) → imp < len → row ≡ row_by awards n a imp → old ++ rows_for awards n a (range_with_len imp (len - imp)) ≡ all
    → (old ++ row ∷ []) ++ rows_for awards (n + sold_for a imp) a (range_with_len (imp + 1) (len - (imp + 1))) ≡ all
rows_kept awards old row n a imp len all below is h =
    let rest : List ImpRow = rows_for awards (n + sold_for a imp) a (range_with_len (imp + 1) (len - (imp + 1))) in
    append_assoc old (row ∷ []) rest
    ∙ (ap (λ (r : ImpRow). old ++ r ∷ rest) is
    ∙ (ap (λ (imps : List ℕ). old ++ rows_for awards n a imps) (sym (range_step imp len below)) ∙ h))

pub sold_step : (a : Ask) (imp len : ℕ) → imp < len → sold_of a (range_with_len imp (len - imp)) ≡ sold_for a imp + sold_of a (range_with_len (imp + 1) (len - (imp + 1)))
sold_step a imp len below = ap (sold_of a) (range_step imp len below) ∙ sum_by-cons (sold_for a) imp (range_with_len (imp + 1) (len - (imp + 1)))

pub entry_kept : (awards : List Award) (old : List ImpRow) (n i : ℕ) (es : List Entry) (e : Entry) (all : List ImpRow) → i < length es → e ≡ get_or es i e → old ++ rows_in awards n (drop i es) ≡ all
    → (old ++ rows_by awards n e) ++ rows_in awards (n + sold_by e) (drop (i + 1) es) ≡ all
entry_kept awards old n i es e all below is h =
    append_assoc old (rows_by awards n e) (rows_in awards (n + sold_by e) (drop (i + 1) es))
    ∙ (ap (λ (f : Entry). old ++ (rows_by awards n f ++ rows_in awards (n + sold_by f) (drop (i + 1) es))) is
    ∙ (ap (λ (fs : List Entry). old ++ rows_in awards n fs) (sym (drop_more es i e below)) ∙ h))

pub sold_more : (es : List Entry) (i : ℕ) (e : Entry) → i < length es → e ≡ get_or es i e → sold_in (drop i es) ≡ sold_by e + sold_in (drop (i + 1) es)
sold_more es i e below is =
    ap sold_in (drop_more es i e below)
    ∙ (sum_by-cons sold_by (get_or es i e) (drop (i + 1) es) ∙ ap (λ (f : Entry). sold_by f + sold_in (drop (i + 1) es)) (sym is))

-- a row more with a name
pub named_more : (rows more : List ImpRow) (row : ImpRow) → more ≡ rows ++ row ∷ [] → All IsNamed rows → IsNamed row → All IsNamed more
named_more rows more row is h one =
    subst (All IsNamed) (sym is) (All-append IsNamed rows (row ∷ []) h (All-cons IsNamed row [] one (All-nil IsNamed)))
