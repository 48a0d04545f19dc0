-- The lines of campaigns and impressions: what is read is spelled so, and what is spelled so is read.
use Rattle.std.proofs.Common.{◌≡◌, ℕ, ◌+◌, ◌^◌, ◌<◌, ◌≤◌, List, [], ◌∷◌, ◌++◌, codes, Bool, true, false, cond, ◌&&◌, eqb, ltb, leb, Option, Some, None, is_some, refl, sym, ap, ap₂, ◌∙◌, subst, arith, lit≤, lit<, append-nil}
use Rattle.std.specs.Option.{ForSome}
use Rattle.std.specs.Fmt.{decimal}
use Rattle.std.proofs.lemmas.Bool.{and_parts, eq-eqb, ltb-true, lt-ltb, leb-true, le-leb}
use Rattle.std.proofs.lemmas.Option.{none-some, same_Some}
use Rattle.adx_units.specs.Number.{is_digit}
use Rattle.adx_units.specs.Money.{units}
use Rattle.adx_units.specs.JsonTexts.{text_spelling}
use Rattle.formats.specs.Parts.{◌>>=◌, behind_word, behind_byte, none_left, number_at, part, Stops}
use Rattle.formats.proofs.PartLaws.{bind_some, tested_some, word_takes, word_again, byte_takes, none_left_is, number_takes, number_again}
use Rattle.bid_record.specs.declared.rows.CampaignRow.{CampaignRow}
use Rattle.bid_record.specs.Lines.{changes_part, campaign_line, end_line}
use Rattle.bid_record.specs.Records.{IsCampaign}
use Rattle.bid_record.specs.Texts.{name_at}
use Rattle.bid_record.specs.Reading.{number_part_at, amount_at, changes_at, campaign_at, end_line_at}
use Rattle.bid_record.proofs.Texts.{name_takes, name_again}

pub small : 2 ^ 64 ≤ 10 ^ 64
small = lit≤ tt

pub number_part_takes : (bytes : List ℕ) (n : ℕ) (rest : List ℕ) → number_part_at bytes ≡ Some (n, rest) → (bytes ≡ part (decimal n) ++ rest) × (n < 2 ^ 64)
unfolding number_part_at
number_part_takes bytes n rest h =
    let a = bind_some (behind_byte 32 bytes) (λ x. number_at (2 ^ 64) x) (n, rest) h in
    let is = number_takes (2 ^ 64) a.0 n rest small a.2 in
    (byte_takes 32 bytes a.0 a.1 ∙ ap (λ (r : List ℕ). 32 ∷ r) is.0, is.1)

pub number_part_again : (n : ℕ) (rest : List ℕ) → n < 2 ^ 64 → Stops is_digit rest → number_part_at (part (decimal n) ++ rest) ≡ Some (n, rest)
unfolding number_part_at
number_part_again n rest h stops = number_again (2 ^ 64) n rest small h stops

pub amount_takes : (mark limit : ℕ) (bytes : List ℕ) (n : ℕ) (rest : List ℕ) → amount_at mark limit bytes ≡ Some (n, rest) → (bytes ≡ mark ∷ (decimal n ++ rest)) × (1 ≤ n) × (n ≤ limit)
unfolding amount_at
amount_takes mark limit bytes n rest h =
    let a = bind_some (behind_byte mark bytes) (λ x. number_at (2 ^ 64) x >>= λ m. cond (leb 1 m.0 && leb m.0 limit) (Some m) None) (n, rest) h in
    let b = bind_some (number_at (2 ^ 64) a.0) (λ m. cond (leb 1 m.0 && leb m.0 limit) (Some m) None) (n, rest) a.2 in
    let t = tested_some (leb 1 b.0.0 && leb b.0.0 limit) (Some b.0) (n, rest) b.2 in
    let same = same_Some b.0 (n, rest) t.1 in
    let value : b.0.0 ≡ n = ap (λ (p : ℕ × List ℕ). p.0) same in
    let after : b.0.1 ≡ rest = ap (λ (p : ℕ × List ℕ). p.1) same in
    let is = number_takes (2 ^ 64) a.0 b.0.0 b.0.1 small b.1 in
    let tests = and_parts (leb 1 b.0.0) (leb b.0.0 limit) t.0 in
    let low = leb-true 1 b.0.0 tests.0 in
    let high = leb-true b.0.0 limit tests.1 in
    (byte_takes mark bytes a.0 a.1 ∙ ap (λ (r : List ℕ). mark ∷ r) (is.0 ∙ ap₂ (λ (m : ℕ) (r : List ℕ). decimal m ++ r) value after), subst (λ (m : ℕ). 1 ≤ m) value low, subst (λ (m : ℕ). m ≤ limit) value high)

pub amount_again : (mark limit n : ℕ) (rest : List ℕ) → limit < 2 ^ 64 → 1 ≤ n → n ≤ limit → Stops is_digit rest → amount_at mark limit (mark ∷ (decimal n ++ rest)) ≡ Some (n, rest)
unfolding amount_at
amount_again mark limit n rest top low high stops =
    let same : eqb mark mark ≡ true = eq-eqb mark mark refl in
    let read = number_again (2 ^ 64) n rest small (omega arith) stops in
    rw (same, read, le-leb 1 n low, le-leb n limit high) refl

-- a fact of what an option has
pub of_some : {T : Type 0} (P : T → Type 0) (x : T) → P x → ForSome (Some x) P
of_some P x h = λ y e. subst P (same_Some x y e) h

pub of_none : {T : Type 0} (P : T → Type 0) → ForSome None P
of_none P = λ y e. absurd (none-some y e)

changes_takes_at : (format : ℕ) (t : Bool) (bytes : List ℕ) (o : Option ℕ) (rest : List ℕ) → eqb format 2 ≡ t → cond t (◌>>=◌ {B = Option ℕ × List ℕ} (number_part_at bytes) (λ n. cond (ltb n.0 (2 ^ 32)) (Some (Some n.0, n.1)) None)) (Some (None, bytes)) ≡ Some (o, rest) → (bytes ≡ changes_part o ++ rest) × (is_some o ≡ eqb format 2) × ForSome o (λ n. n < 2 ^ 32)
changes_takes_at format true bytes o rest f h =
    let a = bind_some (number_part_at bytes) (λ n. cond (ltb n.0 (2 ^ 32)) (Some (Some n.0, n.1)) None) (o, rest) h in
    let t = tested_some (ltb a.0.0 (2 ^ 32)) (Some (Some a.0.0, a.0.1)) (o, rest) a.2 in
    let is = number_part_takes bytes a.0.0 a.0.1 a.1 in
    subst (λ (p : Option ℕ × List ℕ). (bytes ≡ changes_part p.0 ++ p.1) × (is_some p.0 ≡ eqb format 2) × ForSome p.0 (λ n. n < 2 ^ 32)) (same_Some (Some a.0.0, a.0.1) (o, rest) t.1) (is.0, sym f, of_some (λ n. n < 2 ^ 32) a.0.0 (ltb-true a.0.0 (2 ^ 32) t.0))
changes_takes_at format false bytes o rest f h =
    subst (λ (p : Option ℕ × List ℕ). (bytes ≡ changes_part p.0 ++ p.1) × (is_some p.0 ≡ eqb format 2) × ForSome p.0 (λ n. n < 2 ^ 32)) (same_Some (None, bytes) (o, rest) h) (refl, sym f, of_none (λ (n : ℕ). n < 2 ^ 32))

pub changes_takes : (format : ℕ) (bytes : List ℕ) (o : Option ℕ) (rest : List ℕ) → changes_at format bytes ≡ Some (o, rest) → (bytes ≡ changes_part o ++ rest) × (is_some o ≡ eqb format 2) × ForSome o (λ n. n < 2 ^ 32)
unfolding changes_at
changes_takes format bytes o rest h = changes_takes_at format (eqb format 2) bytes o rest refl h

pub wide32 : (n : ℕ) → n < 2 ^ 32 → n < 2 ^ 64
wide32 n h = let more : 2 ^ 32 ≤ 2 ^ 64 = lit≤ tt in omega arith

pub changes_again : (format : ℕ) (o : Option ℕ) (rest : List ℕ) → is_some o ≡ eqb format 2 → ForSome o (λ n. n < 2 ^ 32) → Stops is_digit rest → changes_at format (changes_part o ++ rest) ≡ Some (o, rest)
unfolding changes_at
changes_again format None rest f h stops = rw (← f) refl
changes_again format (Some n) rest f h stops =
    let below : n < 2 ^ 32 = h n refl in
    let read = number_part_again n rest (wide32 n below) stops in
    rw (← f, read, lt-ltb n (2 ^ 32) below) refl

campaign_of : List ℕ → List ℕ → ℕ → Option ℕ → CampaignRow
campaign_of seat cid budget changes = record { seat = seat; cid = cid; budget = units budget; changes = changes }

pub campaign_takes : (format : ℕ) (line : List ℕ) (i : ℕ) (c : CampaignRow) → campaign_at format line ≡ Some (i, c) → (line ≡ campaign_line (i, c)) × IsCampaign format c × (i < 2 ^ 64)
unfolding campaign_at campaign_of
campaign_takes format line i c h =
    let a = bind_some (behind_word (codes "campaign") line) (λ x. number_part_at x >>= λ m. amount_at 32 (10 ^ 15) m.1 >>= λ b. changes_at format b.1 >>= λ o. name_at o.1 >>= λ s. name_at s.1 >>= λ d. none_left d.1 >>= λ u. Some (m.0, campaign_of s.0 d.0 b.0 o.0)) (i, c) h in
    let m = bind_some (number_part_at a.0) (λ m. amount_at 32 (10 ^ 15) m.1 >>= λ b. changes_at format b.1 >>= λ o. name_at o.1 >>= λ s. name_at s.1 >>= λ d. none_left d.1 >>= λ u. Some (m.0, campaign_of s.0 d.0 b.0 o.0)) (i, c) a.2 in
    let b = bind_some (amount_at 32 (10 ^ 15) m.0.1) (λ b. changes_at format b.1 >>= λ o. name_at o.1 >>= λ s. name_at s.1 >>= λ d. none_left d.1 >>= λ u. Some (m.0.0, campaign_of s.0 d.0 b.0 o.0)) (i, c) m.2 in
    let o = bind_some (changes_at format b.0.1) (λ o. name_at o.1 >>= λ s. name_at s.1 >>= λ d. none_left d.1 >>= λ u. Some (m.0.0, campaign_of s.0 d.0 b.0.0 o.0)) (i, c) b.2 in
    let s = bind_some (name_at o.0.1) (λ s. name_at s.1 >>= λ d. none_left d.1 >>= λ u. Some (m.0.0, campaign_of s.0 d.0 b.0.0 o.0.0)) (i, c) o.2 in
    let d = bind_some (name_at s.0.1) (λ d. none_left d.1 >>= λ u. Some (m.0.0, campaign_of s.0.0 d.0 b.0.0 o.0.0)) (i, c) s.2 in
    let u = bind_some (none_left d.0.1) (λ u. Some (m.0.0, campaign_of s.0.0 d.0.0 b.0.0 o.0.0)) (i, c) d.2 in
    let word = word_takes (codes "campaign") line a.0 a.1 in
    let index = number_part_takes a.0 m.0.0 m.0.1 m.1 in
    let budget = amount_takes 32 (10 ^ 15) m.0.1 b.0.0 b.0.1 b.1 in
    let changes = changes_takes format b.0.1 o.0.0 o.0.1 o.1 in
    let seat = name_takes o.0.1 s.0.0 s.0.1 s.1 in
    let cid = name_takes s.0.1 d.0.0 d.0.1 d.1 in
    let none = none_left_is d.0.1 u.0 u.1 in
    let e6 : s.0.1 ≡ part (text_spelling d.0.0) = cid.0 ∙ ap (λ (r : List ℕ). part (text_spelling d.0.0) ++ r) none ∙ append-nil (part (text_spelling d.0.0)) in
    let e5 : o.0.1 ≡ part (text_spelling s.0.0) ++ part (text_spelling d.0.0) = seat.0 ∙ ap (λ (r : List ℕ). part (text_spelling s.0.0) ++ r) e6 in
    let e4 : b.0.1 ≡ changes_part o.0.0 ++ (part (text_spelling s.0.0) ++ part (text_spelling d.0.0)) = changes.0 ∙ ap (λ (r : List ℕ). changes_part o.0.0 ++ r) e5 in
    let e3 : m.0.1 ≡ part (decimal b.0.0) ++ (changes_part o.0.0 ++ (part (text_spelling s.0.0) ++ part (text_spelling d.0.0))) = budget.0 ∙ ap (λ (r : List ℕ). 32 ∷ (decimal b.0.0 ++ r)) e4 in
    let whole : line ≡ campaign_line (m.0.0, campaign_of s.0.0 d.0.0 b.0.0 o.0.0) = word ∙ ap (λ (r : List ℕ). codes "campaign" ++ r) (index.0 ∙ ap (λ (r : List ℕ). part (decimal m.0.0) ++ r) e3) in
    let sound : IsCampaign format (campaign_of s.0.0 d.0.0 b.0.0 o.0.0) = record { seat = seat.1; cid = cid.1; positive = budget.1; within = budget.2; changes = changes.1; few_changes = changes.2 } in
    subst (λ (p : ℕ × CampaignRow). (line ≡ campaign_line (p.0, p.1)) × IsCampaign format p.1 × (p.0 < 2 ^ 64)) (same_Some (m.0.0, campaign_of s.0.0 d.0.0 b.0.0 o.0.0) (i, c) u.2) (whole, sound, index.1)

budget_top : 10 ^ 15 < 2 ^ 64
budget_top = lit< tt

pub charge_top : 10 ^ 12 < 2 ^ 64
charge_top = lit< tt

stops_changes : (o : Option ℕ) (rest : List ℕ) → Stops is_digit (changes_part o ++ part rest)
stops_changes None rest = refl
stops_changes (Some n) rest = refl

pub campaign_again : (format i : ℕ) (c : CampaignRow) → IsCampaign format c → i < 2 ^ 64 → campaign_at format (campaign_line (i, c)) ≡ Some (i, c)
unfolding campaign_at
campaign_again format i c h n =
    let e6 : List ℕ = part (text_spelling c.cid) in
    let e5 : List ℕ = part (text_spelling c.seat) ++ e6 in
    let e4 : List ℕ = changes_part c.changes ++ e5 in
    let e3 : List ℕ = part (decimal c.budget.0) ++ e4 in
    let word = word_again (codes "campaign") (part (decimal i) ++ e3) in
    let index = number_part_again i e3 n refl in
    let budget = amount_again 32 (10 ^ 15) c.budget.0 e4 budget_top h.positive h.within (stops_changes c.changes (text_spelling c.seat ++ e6)) in
    let changes = changes_again format c.changes e5 h.changes h.few_changes refl in
    let seat = name_again c.seat e6 h.seat in
    let cid : name_at e6 ≡ Some (c.cid, []) = ap name_at (sym (append-nil e6)) ∙ name_again c.cid [] h.cid in
    rw (word, index, budget, changes, seat, cid) refl

pub end_line_takes : (line : List ℕ) (n : ℕ) → end_line_at line ≡ Some n → (line ≡ end_line n) × (n < 2 ^ 64)
unfolding end_line_at
end_line_takes line n h =
    let a = bind_some (behind_word (codes "end") line) (λ x. number_part_at x >>= λ m. none_left m.1 >>= λ u. Some m.0) n h in
    let m = bind_some (number_part_at a.0) (λ m. none_left m.1 >>= λ u. Some m.0) n a.2 in
    let u = bind_some (none_left m.0.1) (λ u. Some m.0.0) n m.2 in
    let number = number_part_takes a.0 m.0.0 m.0.1 m.1 in
    let none = none_left_is m.0.1 u.0 u.1 in
    let is : m.0.0 ≡ n = same_Some m.0.0 n u.2 in
    let whole : a.0 ≡ part (decimal n) = number.0 ∙ ap (λ (r : List ℕ). part (decimal m.0.0) ++ r) none ∙ append-nil (part (decimal m.0.0)) ∙ ap (λ (k : ℕ). part (decimal k)) is in
    (word_takes (codes "end") line a.0 a.1 ∙ ap (λ (r : List ℕ). codes "end" ++ r) whole, subst (λ (k : ℕ). k < 2 ^ 64) is number.1)

pub end_line_again : (n : ℕ) → n < 2 ^ 64 → end_line_at (end_line n) ≡ Some n
unfolding end_line_at
end_line_again n h =
    let number : number_part_at (part (decimal n)) ≡ Some (n, []) = ap number_part_at (sym (append-nil (part (decimal n)))) ∙ number_part_again n [] h tt in
    rw (word_again (codes "end") (part (decimal n)), number) refl
