-- A history has one line of its guarantee: its record is one, and so are the numbers.
use Rattle.std.proofs.Common.{◌≡◌, ◌∙◌, ◌≤◌, ℕ, ◌&&◌, Bool, IfOk, IsTrue, List, Result, Ok, Err, length, sym, ap, ap₂, subst}
use Rattle.adx_units.specs.declared.memory.OutOfMemory.{OutOfMemory}
use Rattle.std.specs.List.{enumerate_from, list_all, sum_by}
use Rattle.bid_record.specs.Refusals.{AreSame}
use Rattle.bid_record.specs.declared.record.Record.{Record}
use Rattle.bid_record.specs.declared.rows.CampaignRow.{CampaignRow}
use Rattle.bid_record.specs.declared.rows.ImpRow.{ImpRow}
use Rattle.day_close.specs.Choosing.{IsChosenByRule, is_unchanged, is_undisturbed, keeps_award}
use Rattle.day_close.specs.Closing.{money_in}
use Rattle.day_close.proofs.OneClosing.{same_certs}
use Rattle.dual_cert.specs.declared.cert.Cert.{Cert}
use Rattle.ratio_law.specs.Line.{ratio_line}
use Rattle.ratio_law.specs.SmallDays.{IsBoundOf, committed_of, greatest_in, greatest_of, is_small, is_small_offer, left_of, right_of}
use Rattle.ratio_law.specs.declared.sides.Ratio.{Ratio}
use Rattle.deal_floor.specs.declared.roster.Roster.{Roster}
use Rattle.day_rules.specs.declared.entry.Entry.{Entry}
use Rattle.dual_cert.specs.Assignments.{Assignment}
use Rattle.ratio_law.proofs.Guarantee.{undisturbed_of}
use Rattle.ratio_law.proofs.Hindsight.{bounded as record_bounded, earns_within}
use Rattle.served_record.specs.Served.{IsRecordOf, earned_in}
use Rattle.served_record.proofs.Whole.{earned_same}
use Rattle.served_record.proofs.OneRecord.{same_records}
use Rattle.command_close.specs.Guarantees.{HasNumbers, HasOneGuarantee}
use Rattle.command_close.proofs.OneDocument.{same_closing}

-- the numbers by the rows of a record
abbrev small_by : List CampaignRow → List ImpRow → Bool
small_by campaigns imps =
    (list_all (λ (row : ImpRow). keeps_award row.end) imps && list_all (λ (c : CampaignRow). is_unchanged c.changes) campaigns)
    && list_all (λ (row : ImpRow). list_all (is_small_offer campaigns) row.offers) imps

abbrev committed_by : List CampaignRow → List ImpRow → ℕ
committed_by campaigns imps = sum_by (λ (p : ℕ × CampaignRow). money_in imps p.0) (enumerate_from 0 campaigns)

abbrev greatest_by : List CampaignRow → List ImpRow → ℕ
greatest_by campaigns imps = sum_by (λ (p : ℕ × CampaignRow). greatest_in imps p.0) (enumerate_from 0 campaigns)

same_small : (d e : Record) → AreSame d e → is_small d ≡ is_small e
same_small d e same = ap₂ small_by same.campaigns same.imps

same_committed : (d e : Record) → AreSame d e → committed_of d ≡ committed_of e
same_committed d e same = ap₂ committed_by same.campaigns same.imps

same_greatest : (d e : Record) → AreSame d e → greatest_of d ≡ greatest_of e
same_greatest d e same = ap₂ greatest_by same.campaigns same.imps

same_bound : (d e : Record) (m n : ℕ) → AreSame d e → IsBoundOf d m → IsBoundOf e n → m ≡ n
same_bound d e m n same a b =
    a.is_its ∙ ap (λ (c : Cert). c.bound) (same_certs d a.cert b.cert a.closing (same_closing d e b.cert same b.closing)) ∙ sym b.is_its

-- no assignment of the history's impressions earns more than the bound
bounded : (r : Roster) (history : List Entry) (day : Record) (bound : ℕ) → IsRecordOf r.day r.campaigns history day → IsBoundOf day bound → (picks : Assignment) → earned_in picks r.campaigns history ≤ bound
bounded r history day bound served b picks = subst (λ (n : ℕ). n ≤ bound) (sym (earned_same r.day r.campaigns history day picks served)) (record_bounded day bound b picks)

-- the numbers that were found of a history's record are the history's
pub numbers_by : (r : Roster) (history : List Entry) (day : Record) → IsRecordOf r.day r.campaigns history day → (IsTrue (is_undisturbed day) → IsChosenByRule day)
    → (result : Result Ratio OutOfMemory) → IfOk result (λ x. x.small ≡ is_small day) → IfOk result (λ x. x.committed ≡ committed_of day) → IfOk result (λ x. x.greatest ≡ greatest_of day)
    → IfOk result (λ x. x.imps ≡ length day.imps) → IfOk result (λ x. IsBoundOf day x.bound) → IfOk result (λ x. x.left ≡ left_of x.bound) → IfOk result (λ x. x.right ≡ right_of x.committed x.greatest x.imps)
    → IfOk result (λ x. IsChosenByRule day → IsTrue x.small → x.left ≤ x.right) → IfOk result (λ x. HasNumbers r history x)
numbers_by r history day served chosen (Ok x) small committed greatest imps bound left right guarantee = record {
  day = day;
  served = served;
  small = small;
  committed = committed;
  greatest = greatest;
  imps = imps;
  bound = bound;
  left = left;
  right = right;
  holds = λ is. guarantee (chosen (undisturbed_of day x.small small is)) is;
  hindsight = bounded r history day x.bound served bound;
  guarantee = λ is picks.
      subst (λ (n : ℕ). left_of n ≤ x.right) (sym (earned_same r.day r.campaigns history day picks served))
      (earns_within day x.bound x.left x.right bound left (guarantee (chosen (undisturbed_of day x.small small is)) is) picks);
}
numbers_by r history day served chosen (Err refused) small committed greatest imps bound left right guarantee = tt

same_numbers : (r : Roster) (history : List Entry) (x y : Ratio) → HasNumbers r history x → HasNumbers r history y → x ≡ y
same_numbers r history x y a b =
    let same : AreSame a.day b.day = same_records r.day r.campaigns history a.day b.day a.served b.served in
    let small : x.small ≡ y.small = a.small ∙ same_small a.day b.day same ∙ sym b.small in
    let committed : x.committed ≡ y.committed = a.committed ∙ same_committed a.day b.day same ∙ sym b.committed in
    let greatest : x.greatest ≡ y.greatest = a.greatest ∙ same_greatest a.day b.day same ∙ sym b.greatest in
    let imps : x.imps ≡ y.imps = a.imps ∙ ap (λ (rows : List ImpRow). length rows) same.imps ∙ sym b.imps in
    let bound : x.bound ≡ y.bound = same_bound a.day b.day x.bound y.bound same a.bound b.bound in
    let left : x.left ≡ y.left = a.left ∙ ap left_of bound ∙ sym b.left in
    let right : x.right ≡ y.right =
    a.right ∙ ap (λ (c : ℕ). right_of c x.greatest x.imps) committed ∙ ap₂ (λ (g n : ℕ). right_of y.committed g n) greatest imps ∙ sym b.right in
    by_parts x y small committed greatest imps bound left right
  where
    by_parts : (x y : Ratio) → x.small ≡ y.small → x.committed ≡ y.committed → x.greatest ≡ y.greatest → x.imps ≡ y.imps → x.bound ≡ y.bound → x.left ≡ y.left → x.right ≡ y.right → x ≡ y
    by_parts x y s c g n b l m = λ i. record { small = s i; committed = c i; greatest = g i; imps = n i; bound = b i; left = l i; right = m i }

pub one_guarantee : HasOneGuarantee
one_guarantee r history out other a b = a.spelled ∙ ap ratio_line (same_numbers r history a.numbers b.numbers a.are_its b.are_its) ∙ sym b.spelled
