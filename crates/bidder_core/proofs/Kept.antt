-- What the ledger's fields keep, after one more notice that counts.
use Rattle.std.proofs.Common.{◌≡◌, ℕ, ◌*◌, ◌-◌, ◌^◌, ◌<◌, ◌≤◌, List, [], ◌∷◌, ◌++◌, length, get_or, set, All, Bool, true, false, cond, bytes_eq, Option, Some, String, string_bytes, refl, sym, ap, ◌∙◌, subst, arith, inl, inr, length-set, get_or-set_same, get_or-set_other}
use Rattle.std.specs.Global.{Global}
use Rattle.std.specs.Option.{unwrap_or}
use Rattle.std.specs.String.{string_eq}
use Rattle.std.proofs.lemmas.Bool.{and_parts, cases_eq}
use Rattle.std.proofs.lemmas.List.Elements.{All-push}
use Rattle.std.proofs.lemmas.Map.Text.{hash_map_updates_text}
use Rattle.std.proofs.lemmas.Slice.Eq.{bytes_eq-Decides}
use Rattle.indexmap.specs.IndexMap.{IndexMap, Updates, get_by_text}
use Rattle.notice_book.specs.declared.ruling.Ruling.{Ruling}
use Rattle.bidder_core.specs.BidIds.{is_made, price_in}
use Rattle.bidder_core.specs.Ledger.{is_of, known_ruling, rows_after, ruling_in}
use Rattle.bidder_core.specs.LedgerState.{AreKept, IsSum, has_slash, key_of, no_bill, noticed_at, noticed_by, noticed_in, sum_in, summed_by, unnoticed}
use Rattle.bidder_core.specs.declared.award.Noticed.{Noticed}
use Rattle.bidder_core.specs.declared.ledger.LedgerRow.{LedgerRow}
use Rattle.bidder_core.specs.declared.sums.BillSum.{BillSum}
use Rattle.bidder_core.proofs.BidIds.{made_apart}
use Rattle.bidder_core.proofs.Counted.{noticed_more, once_more}
use Rattle.bidder_core.proofs.Keys.{same_key}
use Rattle.bidder_core.proofs.SumsMore.{sum_more, sum_stays}

-- what is found at a key, after a change at that key or at another
found_by : (t : Bool) (next before after : Noticed) (o : Option Noticed) → (t ≡ true → next ≡ after) → unwrap_or o unnoticed ≡ before
    → unwrap_or (cond t (Some next) o) unnoticed ≡ cond t after before
found_by true next before after o same is = same refl
found_by false next before after o same is = is

module _ {S : Type 0} (rows : List LedgerRow) (known new : IndexMap (String Global) Noticed S) (key : String Global) (award : Noticed) (r : LedgerRow)
    (known_is : (auction bid : List ℕ) → has_slash bid ≡ false → noticed_at known (key_of auction bid) ≡ noticed_in auction bid rows)
    (key_is : string_bytes key ≡ key_of r.auction r.bid) (award_is : award ≡ noticed_in r.auction r.bid rows)
    (counts : ruling_in r.kind r.auction r.bid rows ≡ Ruling.Counted) (apart : has_slash r.bid ≡ false)
    (updates : Updates string_eq known new key (Some (noticed_by r.kind award))) where
  this_award : (auction bid : List ℕ) → is_of auction bid r ≡ true → (r.auction ≡ auction) × (r.bid ≡ bid)
  this_award auction bid h =
      let both = and_parts (bytes_eq r.auction auction) (bytes_eq r.bid bid) h in
      ((bytes_eq-Decides r.auction auction).0 both.0, (bytes_eq-Decides r.bid bid).0 both.1)

  counts_here : (auction bid : List ℕ) → is_of auction bid r ≡ true → ruling_in r.kind auction bid rows ≡ Ruling.Counted
  counts_here auction bid h =
      let same = this_award auction bid h in
      subst (λ b. ruling_in r.kind auction b rows ≡ Ruling.Counted) same.1 (subst (λ a. ruling_in r.kind a r.bid rows ≡ Ruling.Counted) same.0 counts)

  next_here : (auction bid : List ℕ) → is_of auction bid r ≡ true → noticed_by r.kind award ≡ noticed_by r.kind (noticed_in auction bid rows)
  next_here auction bid h =
      let same = this_award auction bid h in
      ap (noticed_by r.kind) (award_is ∙ ap (λ a. noticed_in a r.bid rows) same.0 ∙ ap (λ b. noticed_in auction b rows) same.1)

  pub known_more : (auction bid : List ℕ) → has_slash bid ≡ false → noticed_at new (key_of auction bid) ≡ noticed_in auction bid (rows ++ r ∷ [])
  known_more auction bid h =
      let q = key_of auction bid in
      let next = noticed_by r.kind award in
      let here : bytes_eq (string_bytes key) q ≡ is_of auction bid r = ap (λ k. bytes_eq k q) key_is ∙ same_key r.auction r.bid auction bid apart h in
      ap (λ o. unwrap_or o unnoticed) (hash_map_updates_text (string_bytes key) known new (Some next) updates q)
      ∙ ap (λ t. unwrap_or (cond t (Some next) (get_by_text known q)) unnoticed) here
      ∙ found_by (is_of auction bid r) next (noticed_in auction bid rows) (noticed_by r.kind (noticed_in auction bid rows)) (get_by_text known q) (next_here auction bid) (known_is auction bid h)
      ∙ sym (noticed_more auction bid rows r (counts_here auction bid))

-- each sum
pub sums_more : (rows : List LedgerRow) (sums : List BillSum) (r : LedgerRow) (place : ℕ) (sum : BillSum)
    → ((price : ℕ) → price < length sums → IsSum price rows (get_or sums price no_bill))
    → place ≡ price_in r.bid → place < length sums
    → sum ≡ summed_by r.kind r.price.0 (get_or sums place no_bill) → sum.billed ≤ sum.count * (2 ^ 64 - 1)
    → (price : ℕ) → price < length (set sums place sum) → IsSum price (rows ++ r ∷ []) (get_or (set sums place sum) price no_bill)
sums_more rows sums r place sum are is within next low price h = elim (cases_eq price place) [
  | inl same ↦ record {
    is = at_place same ∙ next ∙ ap (summed_by r.kind r.price.0) (are place within).is ∙ sym (sum_more place rows r is) ∙ ap (λ n. sum_in n (rows ++ r ∷ [])) (sym same);
    low = subst (λ (s : BillSum). s.billed ≤ s.count * (2 ^ 64 - 1)) (sym (at_place same)) low;
  }
  | inr apart ↦
      let old : IsSum price rows (get_or sums price no_bill) = are price (omega (arith, length-set sums place sum)) in
      let stays : get_or (set sums place sum) price no_bill ≡ get_or sums price no_bill = get_or-set_other sums place price sum no_bill apart in
      record {
        is = stays ∙ old.is ∙ sym (sum_stays price rows r (λ e. apart (e ∙ sym is)));
        low = subst (λ (s : BillSum). s.billed ≤ s.count * (2 ^ 64 - 1)) (sym stays) old.low;
      }
]
  where
    at_place : price ≡ place → get_or (set sums place sum) price no_bill ≡ sum
    at_place same = ap (λ n. get_or (set sums place sum) n no_bill) same ∙ get_or-set_same sums place sum no_bill within

pub kept_more : {S : Type 0} (rows : List LedgerRow) (known new : IndexMap (String Global) Noticed S) (sums : List BillSum) (key : String Global) (award : Noticed) (r : LedgerRow) (place : ℕ) (sum : BillSum)
    → AreKept rows known sums
    → string_bytes key ≡ key_of r.auction r.bid → award ≡ noticed_in r.auction r.bid rows → ruling_in r.kind r.auction r.bid rows ≡ Ruling.Counted
    → is_made (length sums) r.bid ≡ true → place ≡ price_in r.bid → place < length sums
    → Updates string_eq known new key (Some (noticed_by r.kind award))
    → sum ≡ summed_by r.kind r.price.0 (get_or sums place no_bill) → sum.billed ≤ sum.count * (2 ^ 64 - 1)
    → AreKept (rows ++ r ∷ []) new (set sums place sum)
kept_more rows known new sums key award r place sum kept key_is award_is counts made is within updates next low = record {
  some = omega (arith, kept.some, length-set sums place sum);
  made = subst (λ n. All (λ (s : LedgerRow). is_made n s.bid ≡ true) (rows ++ r ∷ [])) (sym (length-set sums place sum)) (All-push (λ (s : LedgerRow). is_made (length sums) s.bid ≡ true) rows r kept.made made);
  once = once_more rows r counts kept.once;
  known_is = known_more rows known new key award r kept.known_is key_is award_is counts (made_apart (length sums) r.bid made) updates;
  sums_are = sums_more rows sums r place sum kept.sums_are is within next low;
}

-- what is found at an award's key is what was counted for it
pub award_found : {S : Type 0} (rows : List LedgerRow) (known : IndexMap (String Global) Noticed S) (sums : List BillSum) (auction bid key : List ℕ) (award : Noticed)
    → AreKept rows known sums → is_made (length sums) bid ≡ true → award ≡ noticed_at known key → key ≡ key_of auction bid → award ≡ noticed_in auction bid rows
award_found rows known sums auction bid key award kept made found key_is =
    found ∙ ap (noticed_at known) key_is ∙ kept.known_is auction bid (made_apart (length sums) bid made)

-- a notice that doesn't count adds nothing
pub not_added : (ruling : Ruling) (r : LedgerRow) (rows : List LedgerRow) → (ruling ≡ Ruling.Counted → ⊥) → rows ≡ rows_after (known_ruling ruling) r rows
not_added Ruling.Counted r rows h = absurd (h refl)
not_added Ruling.Repeat r rows h = refl
not_added (Ruling.Conflict e) r rows h = refl
