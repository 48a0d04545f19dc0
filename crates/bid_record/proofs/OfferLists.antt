-- Reading offers one after the other, as a loop does.
use Rattle.std.proofs.Common.{◌≡◌, ℕ, zero, suc, ◌+◌, ◌<◌, ◌≤◌, List, [], ◌∷◌, ◌++◌, length, Bool, true, false, ◌&&◌, ltb, Option, Some, None, Ok, refl, sym, ap, ap₂, ◌∙◌, arith, append_assoc, append-nil, length-append}
use Rattle.std.specs.List.{list_all}
use Rattle.std.proofs.lemmas.Bool.{and_parts}
use Rattle.std.proofs.lemmas.List.Folds.{list_all-append}
use Rattle.formats.specs.Parts.{◌>>=◌}
use Rattle.bid_record.specs.declared.rows.Charge.{Charge}
use Rattle.bid_record.specs.declared.offers.Offers.{Offers}
use Rattle.bid_record.specs.Lines.{offer_part}
use Rattle.bid_record.specs.Reading.{is_listed, charge_of, offer_at, offers_at}
use Rattle.bid_record.specs.Taking.{AreKept, IsPut, IsOffersRead}
use Rattle.bid_record.proofs.ImpLines.{offer_takes}

-- what was read before, and what is still read
abbrev pub with_offers : List Charge → Option (List Charge) → Option (List Charge)
with_offers front read = read >>= λ os. Some (front ++ os)

pub record KeepsOffers (campaigns : ℕ) (bytes left : List ℕ) (o : Offers) : Type 0 where
  pub front : List Charge
  pub n : ℕ
  pub short : length left ≤ n
  pub read : with_offers front (offers_at n left) ≡ offers_at (length bytes) bytes
  pub kept : AreKept campaigns front o
  pub few : o.count + length left ≤ length bytes

begun : (read : Option (List Charge)) → with_offers [] read ≡ read
begun (Some os) = refl
begun None = refl

pub offers_begin : (campaigns : ℕ) (bytes : List ℕ) (o : Offers) → o.listed ≡ true → o.kept.items ≡ [] → o.count ≡ 0 → KeepsOffers campaigns bytes bytes o
offers_begin campaigns bytes o listed none count = record {
  front = [];
  n = length bytes;
  short = omega arith;
  read = begun (offers_at (length bytes) bytes);
  kept = record { listed = listed; kept = λ e. none; count = count };
  few = omega (arith, count);
}

pub offers_end : (campaigns : ℕ) (bytes left : List ℕ) (o : Offers) → KeepsOffers campaigns bytes left o → left ≡ [] → IsOffersRead campaigns bytes (Ok o)
unfolding offers_at
offers_end campaigns bytes left o k none =
    let all : offers_at k.n left ≡ Some [] = ap (offers_at k.n) none ∙ refl in
    (k.front, sym k.read ∙ ap (with_offers k.front) all ∙ ap (λ (t : List Charge). Some t) (append-nil k.front), k.kept)

step_none : (n : ℕ) (left : List ℕ) → 1 ≤ length left → length left ≤ n → offer_at left ≡ None → offers_at n left ≡ None
unfolding offers_at
step_none n [] some short none = absurd (omega arith)
step_none zero (b ∷ bs) some short none = refl
step_none (suc n) (b ∷ bs) some short none = rw none refl

pub offers_fail : (campaigns : ℕ) (bytes left : List ℕ) (o : Offers) → KeepsOffers campaigns bytes left o → 1 ≤ length left → offer_at left ≡ None → offers_at (length bytes) bytes ≡ None
offers_fail campaigns bytes left o k some none = sym k.read ∙ ap (with_offers k.front) (step_none k.n left some k.short none)

regroup : (front : List Charge) (o : Charge) (read : Option (List Charge)) → with_offers front (read >>= λ os. Some (o ∷ os)) ≡ with_offers (front ++ o ∷ []) read
regroup front o (Some os) = ap (λ (t : List Charge). Some t) (sym (append_assoc front (o ∷ []) os))
regroup front o None = refl

-- one offer read
record IsStep (n : ℕ) (left : List ℕ) (o : Charge) (rest : List ℕ) : Type 0 where
  m : ℕ
  short : length rest ≤ m
  read : offers_at n left ≡ (offers_at m rest >>= λ os. Some (o ∷ os))

step_some : (n : ℕ) (left : List ℕ) (o : Charge) (rest : List ℕ) → 1 ≤ length left → length left ≤ n → length rest < length left → offer_at left ≡ Some (o, rest) → IsStep n left o rest
unfolding offers_at
step_some n [] o rest some short less found = absurd (omega arith)
step_some zero (b ∷ bs) o rest some short less found = absurd (omega arith)
step_some (suc n) (b ∷ bs) o rest some short less found = record { m = n; short = omega arith; read = rw found refl }

pub offer_shorter : (left : List ℕ) (o : Charge) (rest : List ℕ) → offer_at left ≡ Some (o, rest) → length rest < length left
offer_shorter left o rest found =
    let is = offer_takes left o rest found in
    let len = ap (λ (s : List ℕ). length s) is.spelled ∙ length-append (offer_part o) rest in
    omega (arith, len)

and_true : (b : Bool) → (b && true) ≡ b
and_true true = refl
and_true false = refl

pub offers_go_on : (campaigns : ℕ) (bytes left : List ℕ) (old : Offers) (campaign charge : ℕ) (rest : List ℕ) (new : Offers) → KeepsOffers campaigns bytes left old → 1 ≤ length left → offer_at left ≡ Some (charge_of campaign charge, rest) → IsPut campaigns campaign charge old new → KeepsOffers campaigns bytes rest new
offers_go_on campaigns bytes left old campaign charge rest new k some found put =
    let o : Charge = charge_of campaign charge in
    let less = offer_shorter left o rest found in
    let step = step_some k.n left o rest some k.short less found in
    let front : List Charge = k.front ++ o ∷ [] in
    let more : list_all (is_listed campaigns) front ≡ (list_all (is_listed campaigns) k.front && (ltb campaign campaigns && true)) = list_all-append (is_listed campaigns) k.front (o ∷ []) in
    let last : (ltb campaign campaigns && true) ≡ ltb campaign campaigns = and_true (ltb campaign campaigns) in
    record {
      front = front;
      n = step.m;
      short = step.short;
      read = sym (regroup k.front o (offers_at step.m rest)) ∙ ap (with_offers k.front) (sym step.read) ∙ k.read;
      kept = record {
        listed = put.listed ∙ ap₂ (λ (a b : Bool). a && b) k.kept.listed (sym last) ∙ sym more;
        kept = (λ e.
            let both = and_parts old.listed (ltb campaign campaigns) (sym put.listed ∙ e) in
            put.kept both.1 ∙ ap (λ (t : List Charge). t ++ o ∷ []) (k.kept.kept both.0));
        count = put.count ∙ ap (λ (c : ℕ). c + 1) k.kept.count ∙ sym (length-append k.front (o ∷ []));
      };
      few = omega (arith, k.few, put.count, less);
    }
