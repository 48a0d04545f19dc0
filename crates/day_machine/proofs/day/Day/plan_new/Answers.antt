use Rattle.std.proofs.Common.{◌≡◌, ◌+◌, ◌<◌, ◌≤◌, List, length, refl, sym, ap, ◌∙◌, subst, arith}
use Rattle.std.specs.List.{All}
use Rattle.day_rules.specs.declared.answer.Answer.{Answer}
use Rattle.day_rules.specs.declared.answer.Which.{Which}
use Rattle.day_rules.specs.declared.ask.Ask.{Ask}
use Rattle.day_rules.specs.declared.ask.Kept.{Kept}
use Rattle.day_rules.specs.declared.entry.Entry.{Entry}
use Rattle.day_rules.specs.Asks.{IsWellFormed, settled}
use Rattle.day_rules.specs.Books.{ask_count, bid_count, text_count}
use Rattle.day_rules.specs.DayState.{DayState}
use Rattle.day_rules.specs.Legal.{IsLegal}
use Rattle.day_rules.specs.Replies.{Reply, asks_with, bids_with, full, sale_reply, settled_reply, text_with}
use Rattle.day_rules.proofs.Counting.{day_bids, day_text}
use Rattle.day_rules.proofs.Following.{new_follows}
use Rattle.day_rules.proofs.Settling.{well_formed_settled}
use Rattle.day_rules.proofs.Within.{latest_small}
use Rattle.day_rules.specs.KeptTexts.{IsShort, sizes_of}
use Rattle.day_machine.proofs.Planning.{past_bids, past_text, reply_in, within_all}
use Rattle.day_machine.proofs.Settled.{settled_long}
use Rattle.day_rules.proofs.Texts.{few_texts, settled_short}
use Rattle.day_machine.proofs.day.Day.plan_new.Goals as goal

pub overflow_add-bids : goal.overflow_add-bids
overflow_add-bids c = omega (arith, c.self.invariant.totals_are.bids, day_bids _ c.self.inside.history.items c.self.invariant.day, c.requires.formed.few_offers, c.len.ensures)

pub returns-then-self-bids : goal.returns-then-self-bids
returns-then-self-bids c =
    let s : DayState = c.args.self.now in
    let a : Ask = settled s.terms s.history c.args.ask in
    let legal : IsLegal s.terms s.history = subst (λ (s : DayState). IsLegal s.terms s.history) c.self.view_is c.self.invariant.day.legal in
    let asks : asks_with s.history ≤ s.terms.limits.auctions =
    omega (arith, c.if-self-asks.false, c.self.invariant.totals_are.asks, ap (λ (s : DayState). ask_count s.history) c.self.view_is, ap (λ (s : DayState). s.terms.limits.auctions) c.self.view_is) in
    let count : c.self.inside.totals.bids + c.len.result ≡ bids_with s.history a =
    omega (arith, c.self.invariant.totals_are.bids, ap (λ (s : DayState). bid_count s.history) c.self.view_is, c.len.ensures, settled_long s.terms s.history c.args.ask) in
    let over : s.terms.limits.bids < bids_with s.history a = omega (arith, c.if-self-bids.true, ap (λ (s : DayState). s.terms.limits.bids) c.self.view_is) in
    let is : settled_reply s.terms.limits s.history a ≡ full Which.Bids (bids_with s.history a) = past_bids s.terms.limits s.history a asks over in
    reply_in s.terms s.history c.full-then-self-bids.result (settled_reply s.terms.limits s.history a)
    (c.full-then-self-bids.ensures.answer ∙ (ap (Answer.DayFull Which.Bids) count ∙ sym (ap (λ (r : Reply). r.answer) is)))
    (c.full-then-self-bids.ensures.entry ∙ sym (ap (λ (r : Reply). r.entry) is))
    (new_follows s.terms s.history c.args.ask legal c.requires.formed c.requires.undecided c.requires.new)

pub size_of_all-requires-clause-few : goal.size_of_all-requires-clause-few
size_of_all-requires-clause-few c =
    let s : DayState = c.args.self.now in
    let a : Ask = settled s.terms s.history c.args.ask in
    let legal : IsLegal s.terms s.history = subst (λ (s : DayState). IsLegal s.terms s.history) c.self.view_is c.self.invariant.day.legal in
    let formed : IsWellFormed (length s.terms.budgets) a = well_formed_settled (length s.terms.budgets) s.terms s.history c.args.ask c.requires.formed c.requires.undecided (latest_small s.terms s.history legal) in
    omega (arith, few_texts a.offers a.kept formed.kept, formed.few_offers, ap (λ (ks : List Kept). length ks) c.as_slice.ensures, ap (λ (b : Ask). length b.kept) c.settled-ask.ensures)

pub size_of_all-requires-clause-short : goal.size_of_all-requires-clause-short
size_of_all-requires-clause-short c =
    let s : DayState = c.args.self.now in
    let a : Ask = settled s.terms s.history c.args.ask in
    let legal : IsLegal s.terms s.history = subst (λ (s : DayState). IsLegal s.terms s.history) c.self.view_is c.self.invariant.day.legal in
    let formed : IsWellFormed (length s.terms.budgets) a = well_formed_settled (length s.terms.budgets) s.terms s.history c.args.ask c.requires.formed c.requires.undecided (latest_small s.terms s.history legal) in
    subst (All IsShort) (sym (c.as_slice.ensures ∙ ap (λ (b : Ask). b.kept) c.settled-ask.ensures)) (settled_short (length s.terms.budgets) s.terms s.history c.args.ask a refl formed)

pub overflow_add-text : goal.overflow_add-text
overflow_add-text c = omega (arith, c.self.invariant.totals_are.text, day_text _ c.self.inside.history.items c.self.invariant.day, c.size_of_all.ensures.small)

pub returns-then-self-text : goal.returns-then-self-text
returns-then-self-text c =
    let s : DayState = c.args.self.now in
    let a : Ask = settled s.terms s.history c.args.ask in
    let legal : IsLegal s.terms s.history = subst (λ (s : DayState). IsLegal s.terms s.history) c.self.view_is c.self.invariant.day.legal in
    let asks : asks_with s.history ≤ s.terms.limits.auctions =
    omega (arith, c.if-self-asks.false, c.self.invariant.totals_are.asks, ap (λ (s : DayState). ask_count s.history) c.self.view_is, ap (λ (s : DayState). s.terms.limits.auctions) c.self.view_is) in
    let bids : bids_with s.history a ≤ s.terms.limits.bids =
    omega (arith, c.if-self-bids.false, c.self.invariant.totals_are.bids, ap (λ (s : DayState). bid_count s.history) c.self.view_is, c.len.ensures, settled_long s.terms s.history c.args.ask, ap (λ (s : DayState). s.terms.limits.bids) c.self.view_is) in
    let size : c.size_of_all.result ≡ sizes_of a.kept = c.size_of_all.ensures.value ∙ ap sizes_of (c.as_slice.ensures ∙ ap (λ (b : Ask). b.kept) c.settled-ask.ensures) in
    let count : c.self.inside.totals.text + c.size_of_all.result ≡ text_with s.history a =
    omega (arith, c.self.invariant.totals_are.text, ap (λ (s : DayState). text_count s.history) c.self.view_is, size) in
    let over : s.terms.limits.text < text_with s.history a = omega (arith, c.if-self-text.true, ap (λ (s : DayState). s.terms.limits.text) c.self.view_is) in
    let is : settled_reply s.terms.limits s.history a ≡ full Which.Text (text_with s.history a) = past_text s.terms.limits s.history a asks bids over in
    reply_in s.terms s.history c.full-then-self-text.result (settled_reply s.terms.limits s.history a)
    (c.full-then-self-text.ensures.answer ∙ (ap (Answer.DayFull Which.Text) count ∙ sym (ap (λ (r : Reply). r.answer) is)))
    (c.full-then-self-text.ensures.entry ∙ sym (ap (λ (r : Reply). r.entry) is))
    (new_follows s.terms s.history c.args.ask legal c.requires.formed c.requires.undecided c.requires.new)

pub returns : goal.returns
returns c =
    let s : DayState = c.args.self.now in
    let a : Ask = settled s.terms s.history c.args.ask in
    let legal : IsLegal s.terms s.history = subst (λ (s : DayState). IsLegal s.terms s.history) c.self.view_is c.self.invariant.day.legal in
    let asks : asks_with s.history ≤ s.terms.limits.auctions =
    omega (arith, c.if-self-asks.false, c.self.invariant.totals_are.asks, ap (λ (s : DayState). ask_count s.history) c.self.view_is, ap (λ (s : DayState). s.terms.limits.auctions) c.self.view_is) in
    let bids : bids_with s.history a ≤ s.terms.limits.bids =
    omega (arith, c.if-self-bids.false, c.self.invariant.totals_are.bids, ap (λ (s : DayState). bid_count s.history) c.self.view_is, c.len.ensures, settled_long s.terms s.history c.args.ask, ap (λ (s : DayState). s.terms.limits.bids) c.self.view_is) in
    let size : c.size_of_all.result ≡ sizes_of a.kept = c.size_of_all.ensures.value ∙ ap sizes_of (c.as_slice.ensures ∙ ap (λ (b : Ask). b.kept) c.settled-ask.ensures) in
    let text : text_with s.history a ≤ s.terms.limits.text =
    omega (arith, c.if-self-text.false, c.self.invariant.totals_are.text, ap (λ (s : DayState). text_count s.history) c.self.view_is, size, ap (λ (s : DayState). s.terms.limits.text) c.self.view_is) in
    let is : settled_reply s.terms.limits s.history a ≡ sale_reply s.history a = within_all s.terms.limits s.history a asks bids text in
    let hist : c.deref.result.now ≡ s.history = c.deref.ensures.value ∙ ap (λ (s : DayState). s.history) c.self.view_is in
    let sold : sale_reply c.deref.result.now c.settled-ask.result ≡ settled_reply s.terms.limits s.history a =
    ap (λ (es : List Entry). sale_reply es c.settled-ask.result) hist ∙ (ap (sale_reply s.history) c.settled-ask.ensures ∙ sym is) in
    reply_in s.terms s.history c.sale.result (settled_reply s.terms.limits s.history a)
    (c.sale.ensures.answer ∙ ap (λ (r : Reply). r.answer) sold)
    (c.sale.ensures.entry ∙ ap (λ (r : Reply). r.entry) sold)
    (new_follows s.terms s.history c.args.ask legal c.requires.formed c.requires.undecided c.requires.new)
