use Rattle.std.proofs.Common.{◌≡◌, ◌<◌, ◌++◌, ◌∷◌, [], Some, true, subst, sym, ap, ◌∙◌}
use Rattle.std.specs.Prelude.{slice_index_or, slice_set}
use Rattle.std.specs.String.{string_eq}
use Rattle.indexmap.specs.IndexMap.{Updates}
use Rattle.notice_book.specs.declared.ruling.Ruling.{Ruling}
use Rattle.bidder_core.specs.BidIds.{is_made}
use Rattle.bidder_core.specs.Ledger.{ruling_in}
use Rattle.bidder_core.specs.LedgerState.{AreKept, no_bill, noticed_in, summed_by}
use Rattle.bidder_core.proofs.Kept.{kept_more}
use Rattle.bidder_core.proofs.ledger.Ledger.count.Goals as goal

pub invariant_of-self-2 : goal.invariant_of-self-2
invariant_of-self-2 c =
    let r = c.args.row in
    let back = sym c.self.view_is in
    let sums = c.self.inside.sums.items in
    let pushed = c.push_reserved.ensures.items ∙ ap (λ rows. rows ++ r ∷ []) c.reserve.ensures.items in
    subst (λ rows. AreKept rows c.insert.new.self (slice_set sums c.args.place c.summed.result)) (sym pushed)
    (kept_more c.self.inside.rows.items c.self.inside.known c.insert.new.self sums c.args.found.key c.args.found.award r c.args.place c.summed.result
    c.self.invariant c.requires.key
    (subst (λ s. c.args.found.award ≡ noticed_in r.auction r.bid s.rows) back c.requires.award)
    (subst (λ s. ruling_in r.kind r.auction r.bid s.rows ≡ Ruling.Counted) back c.requires.counts)
    (subst (λ s. is_made s.prices r.bid ≡ true) back c.requires.made)
    c.requires.place
    (subst (λ s. c.args.place < s.prices) back c.requires.below)
    (subst (λ n. Updates string_eq c.self.inside.known c.insert.new.self c.args.found.key (Some n)) c.with_notice.ensures c.in_ok-insert.ensures.updates)
    (c.summed.ensures.value ∙ ap (summed_by r.kind r.price.0) (c.sum_at.ensures ∙ ap (λ ss. slice_index_or ss c.args.place no_bill) c.deref.ensures.value)) c.summed.ensures.low)
