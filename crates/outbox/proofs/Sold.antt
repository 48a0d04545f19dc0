-- The awarded bids behind an entry.
use Rattle.std.proofs.Common.{◌≡◌, ℕ, zero, suc, ◌+◌, List, [], ◌∷◌, ◌++◌, map, length, Bool, true, false, ◌&&◌, cond, refl, sym, ap, ◌∙◌, arith, Option, Some, None, eqb, length-append, append-nil}
use Rattle.std.specs.List.{enumerate_from, filter, flat_map, range_with_len, slice_get, zip}
use Rattle.std.specs.Option.{option_map, option_map_or}
use Rattle.std.proofs.lemmas.Grind.{flat_map-append}
use Rattle.std.proofs.lemmas.List.{map-append}
use Rattle.std.proofs.lemmas.Option.{slice_get-map}
use Rattle.adx_units.specs.declared.offer.Offer.{Offer}
use Rattle.adx_units.specs.declared.units.Units.{Units}
use Rattle.allocator_core.specs.declared.reason.TheConstants.{AWARDED}
use Rattle.notice_book.specs.declared.award.Award.{Award}
use Rattle.notice_book.specs.declared.kind.NoticeKind.{NoticeKind}
use Rattle.notice_book.specs.AwardList.{Counts}
use Rattle.notice_book.specs.Rules.{expired_award, is_due, noticed_award}
use Rattle.day_rules.specs.declared.ask.Ask.{Ask}
use Rattle.day_rules.specs.declared.entry.Entry.{Entry}
use Rattle.day_rules.specs.Entries.{asked, entry_of_notice}
use Rattle.day_rules.specs.Books.{award_of, awarded_offers, awards_of, made, made_by, sale_of, sales_of}
use Rattle.day_rules.specs.Legal.{IsLegal}
use Rattle.day_rules.specs.Terms.{Terms}
use Rattle.day_rules.proofs.Lists.{get_numbered}
use Rattle.day_rules.proofs.Pushing.{awards_moment, awards_notice, makes_none}
use Rattle.day_rules.proofs.Asking.{awards_ask, awards_budget, awards_length}
use Rattle.outbox.specs.Bids.{Bid, awarded, awarded_bids, awarded_by, bid_of, is_award, texts_at}
use Rattle.outbox.specs.Rows.{row_made, rows_made}

-- two lists side by side
pub zip_append : {A B : Type 0} (us vs : List A) (xs ys : List B) → length us ≡ length xs → zip (us ++ vs) (xs ++ ys) ≡ zip us xs ++ zip vs ys
zip_append [] vs [] ys e = refl
zip_append [] vs (x ∷ xs) ys e = absurd (omega (arith, e))
zip_append (u ∷ us) vs [] ys e = absurd (omega (arith, e))
zip_append {A} {B} (u ∷ us) vs (x ∷ xs) ys e = ap (λ (t : List (A × B)). (u, x) ∷ t) (zip_append us vs xs ys (omega (arith, e)))

-- of two items at one place
abbrev pub both : {A B : Type 0} → Option A → Option B → Option (A × B)
both None y = None
both (Some x) None = None
both (Some x) (Some y) = Some (x, y)

both_none : {A B : Type 0} (x : Option A) → both {A = A} {B = B} x None ≡ None
both_none None = refl
both_none (Some x) = refl

pub get_zip : {A B : Type 0} (us : List A) (xs : List B) (n : ℕ) → slice_get (zip us xs) n ≡ both (slice_get us n) (slice_get xs n)
get_zip [] xs n = refl
get_zip {A} {B} (u ∷ us) [] n = sym (both_none {A = A} {B = B} (slice_get (u ∷ us) n))
get_zip (u ∷ us) (x ∷ xs) zero = refl
get_zip (u ∷ us) (x ∷ xs) (suc n) = get_zip us xs n

pub length_both : {A B : Type 0} (us : List A) (xs : List B) → length us ≡ length xs → length (zip us xs) ≡ length us
length_both [] xs e = refl
length_both (u ∷ us) [] e = absurd (omega (arith, e))
length_both (u ∷ us) (x ∷ xs) e = ap suc (length_both us xs (omega (arith, e)))

pub map_flat : {X Y Z : Type 0} (f : Y → Z) (g : X → List Y) (xs : List X) → flat_map (λ x. map f (g x)) xs ≡ map f (flat_map g xs)
map_flat f g [] = refl
map_flat {X} {Y} {Z} f g (x ∷ xs) = ap (λ (t : List Z). map f (g x) ++ t) (map_flat f g xs) ∙ sym (map-append f (g x) (flat_map g xs))

pub map_map : {X Y Z : Type 0} (f : Y → Z) (g : X → Y) (xs : List X) → map f (map g xs) ≡ map (λ x. f (g x)) xs
map_map f g [] = refl
map_map {X} {Y} {Z} f g (x ∷ xs) = ap (λ (t : List Z). f (g x) ∷ t) (map_map f g xs)

pub map_length : {X Y : Type 0} (f : X → Y) (xs : List X) → length (map f xs) ≡ length xs
map_length f [] = refl
map_length f (x ∷ xs) = ap suc (map_length f xs)

flat_same : {X Y : Type 0} (f g : X → List Y) (xs : List X) → ((x : X) → f x ≡ g x) → flat_map f xs ≡ flat_map g xs
flat_same f g [] h = refl
flat_same {X} {Y} f g (x ∷ xs) h = ap (λ (t : List Y). t ++ flat_map f xs) (h x) ∙ ap (λ (t : List Y). g x ++ t) (flat_same f g xs h)

-- the awarded offers of an ask with their places
abbrev pub winners_for : Ask → ℕ → List (ℕ × Offer)
winners_for a imp = filter (is_award imp) (enumerate_from 0 a.offers)

abbrev pub winners : Ask → List (ℕ × Offer)
winners a = flat_map (winners_for a) (range_with_len 0 (length a.imps))

abbrev pub made_bid : Ask → ℕ × Offer → Bid
made_bid a p = bid_of a (texts_at a.kept p.0) p.1

pub bids_are : (a : Ask) → awarded_by a ≡ map (made_bid a) (winners a)
bids_are a = map_flat (made_bid a) (winners_for a) (range_with_len 0 (length a.imps))

pub rows_are : (a : Ask) → rows_made a ≡ map (row_made a) (winners a)
rows_are a = map_flat (row_made a) (winners_for a) (range_with_len 0 (length a.imps))

without_place : (b : Bool) (p : ℕ × Offer) (ps : List (ℕ × Offer)) (os : List Offer) → map (λ (p : ℕ × Offer). p.1) ps ≡ os → map (λ (p : ℕ × Offer). p.1) (cond b (p ∷ ps) ps) ≡ cond b (p.1 ∷ os) os
without_place true p ps os e = ap (λ (t : List Offer). p.1 ∷ t) e
without_place false p ps os e = e

offers_for : (imp n : ℕ) (os : List Offer) → map (λ (p : ℕ × Offer). p.1) (filter (is_award imp) (enumerate_from n os)) ≡ awarded_offers os imp
offers_for imp n [] = refl
offers_for imp n (o ∷ os) = without_place (eqb o.reason AWARDED && eqb o.imp imp) (n, o) (filter (is_award imp) (enumerate_from (n + 1) os)) (awarded_offers os imp) (offers_for imp (n + 1) os)

pub sales_are : (a : Ask) → sales_of a ≡ map (λ (p : ℕ × Offer). sale_of a p.1) (winners a)
sales_are a =
    flat_same (λ imp. map (sale_of a) (awarded_offers a.offers imp)) (λ imp. map (λ (p : ℕ × Offer). sale_of a p.1) (winners_for a imp)) (range_with_len 0 (length a.imps))
    (λ imp. ap (map (sale_of a)) (sym (offers_for imp 0 a.offers)) ∙ map_map (sale_of a) (λ (p : ℕ × Offer). p.1) (winners_for a imp))
    ∙ map_flat (λ (p : ℕ × Offer). sale_of a p.1) (winners_for a) (range_with_len 0 (length a.imps))

pub as_many_sold : (a : Ask) → length (awarded_by a) ≡ length (sales_of a)
as_many_sold a = ap length (bids_are a) ∙ (map_length (made_bid a) (winners a) ∙ (sym (map_length (λ (p : ℕ × Offer). sale_of a p.1) (winners a)) ∙ sym (ap length (sales_are a))))

-- what a history awarded, and what its last entry added
abbrev pub bids_by : Entry → List Bid
bids_by e = option_map_or awarded_by (asked e) []

pub awarded_push : (history : List Entry) (e : Entry) → awarded (history ++ e ∷ []) ≡ awarded history ++ bids_by e
awarded_push history e = flat_map-append bids_by history (e ∷ []) ∙ ap (λ (t : List Bid). awarded history ++ t) (append-nil (bids_by e))

made_many : (place : ℕ) (e : Entry) → length (bids_by e) ≡ length (made_by place e)
made_many place (Entry.Ask a) = as_many_sold a ∙ sym (map_length (award_of place) (sales_of a))
made_many place (Entry.Win n) = refl
made_many place (Entry.Bill n) = refl
made_many place (Entry.Loss n) = refl
made_many place (Entry.Expire now) = refl
made_many place (Entry.Budget campaign change budget) = refl

as_many_from : (place : ℕ) (es : List Entry) → length (flat_map bids_by es) ≡ length (flat_map (λ (p : ℕ × Entry). made_by p.0 p.1) (enumerate_from place es))
as_many_from place [] = refl
as_many_from place (e ∷ es) =
    omega (arith, length-append (bids_by e) (flat_map bids_by es), length-append (made_by place e) (flat_map (λ (p : ℕ × Entry). made_by p.0 p.1) (enumerate_from (place + 1) es)), made_many place e, as_many_from (place + 1) es)

-- there are as many awarded bids as awards
pub as_many : (history : List Entry) → length (awarded history) ≡ length (awards_of history)
as_many history = as_many_from 0 history ∙ sym (awards_length history)

pub bids_length : (history : List Entry) → length (awarded_bids history) ≡ length (made history)
bids_length history = length_both (awarded history) (awards_of history) (as_many history) ∙ (as_many history ∙ awards_length history)

-- behind a notice each award has its bid, and one of them is changed
abbrev pub changed_bid : (Award → Award) → ℕ → ℕ → Bid × Award → Bid × Award
changed_bid f n q p = (p.0, cond (eqb q n) (f p.1) p.1)

both_map : {A B : Type 0} (f : B → B) (x : Option A) (y : Option B) → both x (option_map f y) ≡ option_map (λ (p : A × B). (p.0, f p.1)) (both x y)
both_map f None y = refl
both_map f (Some x) None = refl
both_map f (Some x) (Some y) = refl

pub bids_notice : (history : List Entry) (kind : NoticeKind) (n q : ℕ) → Counts kind n (awards_of history) → slice_get (awarded_bids (history ++ entry_of_notice kind n ∷ [])) q ≡ option_map (changed_bid (noticed_award kind) n q) (slice_get (awarded_bids history) q)
bids_notice history kind n q counts =
    let e : Entry = entry_of_notice kind n in
    let f : Award → Award = λ w. cond (eqb q n) (noticed_award kind w) w in
    let none : bids_by e ≡ [] = ap (λ o. option_map_or awarded_by o []) (makes_none kind n) in
    let bids : awarded (history ++ e ∷ []) ≡ awarded history = awarded_push history e ∙ (ap (λ (t : List Bid). awarded history ++ t) none ∙ append-nil (awarded history)) in
    let awards : slice_get (awards_of (history ++ e ∷ [])) q ≡ option_map f (slice_get (awards_of history) q) = ap (λ (ws : List Award). slice_get ws q) (awards_notice history kind n counts) ∙ get_numbered (λ (p : ℕ × Award). cond (eqb p.0 n) (noticed_award kind p.1) p.1) (awards_of history) q in
    get_zip (awarded (history ++ e ∷ [])) (awards_of (history ++ e ∷ [])) q
    ∙ (ap (λ (bs : List Bid). both (slice_get bs q) (slice_get (awards_of (history ++ e ∷ [])) q)) bids
    ∙ (ap (both (slice_get (awarded history) q)) awards
    ∙ (both_map f (slice_get (awarded history) q) (slice_get (awards_of history) q)
    ∙ ap (option_map (changed_bid (noticed_award kind) n q)) (sym (get_zip (awarded history) (awards_of history) q)))))

-- behind a moment those that it ends are changed
abbrev pub moment_bid : ℕ → Bid × Award → Bid × Award
moment_bid now p = (p.0, cond (is_due now p.1) (expired_award p.1) p.1)

pub bids_moment : (history : List Entry) (now q : ℕ) → slice_get (awarded_bids (history ++ Entry.Expire now ∷ [])) q ≡ option_map (moment_bid now) (slice_get (awarded_bids history) q)
bids_moment history now q =
    let e : Entry = Entry.Expire now in
    let f : Award → Award = λ w. cond (is_due now w) (expired_award w) w in
    let bids : awarded (history ++ e ∷ []) ≡ awarded history = awarded_push history e ∙ append-nil (awarded history) in
    let awards : slice_get (awards_of (history ++ e ∷ [])) q ≡ option_map f (slice_get (awards_of history) q) = ap (λ (ws : List Award). slice_get ws q) (awards_moment history now) ∙ slice_get-map f (awards_of history) q in
    get_zip (awarded (history ++ e ∷ [])) (awards_of (history ++ e ∷ [])) q
    ∙ (ap (λ (bs : List Bid). both (slice_get bs q) (slice_get (awards_of (history ++ e ∷ [])) q)) bids
    ∙ (ap (both (slice_get (awarded history) q)) awards
    ∙ (both_map f (slice_get (awarded history) q) (slice_get (awards_of history) q)
    ∙ ap (option_map (moment_bid now)) (sym (get_zip (awarded history) (awards_of history) q)))))

-- a change of a budget leaves them as they are
pub bids_change : (history : List Entry) (campaign change : ℕ) (budget : Units) → awarded_bids (history ++ Entry.Budget campaign change budget ∷ []) ≡ awarded_bids history
bids_change history campaign change budget =
    let h : List Entry = history ++ Entry.Budget campaign change budget ∷ [] in
    let bids : awarded h ≡ awarded history = awarded_push history (Entry.Budget campaign change budget) ∙ append-nil (awarded history) in
    ap (λ (bs : List Bid). zip bs (awards_of h)) bids ∙ ap (λ (ws : List Award). zip (awarded history) ws) (awards_budget history campaign change budget)

-- behind an ask its own stand behind the others
abbrev pub new_bid : ℕ → Ask → ℕ × Offer → Bid × Award
new_bid place a p = (made_bid a p, award_of place (sale_of a p.1))

zip_maps : {X A B : Type 0} (f : X → A) (g : X → B) (xs : List X) → zip (map f xs) (map g xs) ≡ map (λ x. (f x, g x)) xs
zip_maps f g [] = refl
zip_maps {X} {A} {B} f g (x ∷ xs) = ap (λ (t : List (A × B)). (f x, g x) ∷ t) (zip_maps f g xs)

pub bids_ask : (terms : Terms) (history : List Entry) (a : Ask) → IsLegal terms history → awarded_bids (history ++ Entry.Ask a ∷ []) ≡ awarded_bids history ++ map (new_bid (length history) a) (winners a)
bids_ask terms history a legal =
    let h : List Entry = history ++ Entry.Ask a ∷ [] in
    let place : ℕ = length history in
    let own : List Award = map (award_of place) (sales_of a) in
    let own_is : own ≡ map (λ (p : ℕ × Offer). award_of place (sale_of a p.1)) (winners a) = ap (map (award_of place)) (sales_are a) ∙ map_map (award_of place) (λ (p : ℕ × Offer). sale_of a p.1) (winners a) in
    ap (λ (bs : List Bid). zip bs (awards_of h)) (awarded_push history (Entry.Ask a))
    ∙ (ap (λ (ws : List Award). zip (awarded history ++ awarded_by a) ws) (awards_ask terms history a legal)
    ∙ (zip_append (awarded history) (awarded_by a) (awards_of history) own (as_many history)
    ∙ ap (λ (t : List (Bid × Award)). awarded_bids history ++ t)
    (ap (λ (bs : List Bid). zip bs own) (bids_are a)
    ∙ (ap (λ (ws : List Award). zip (map (made_bid a) (winners a)) ws) own_is
    ∙ zip_maps (made_bid a) (λ (p : ℕ × Offer). award_of place (sale_of a p.1)) (winners a)))))
