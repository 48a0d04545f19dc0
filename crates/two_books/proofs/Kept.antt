-- A pump and a late delivery keep what holds of the ledger: a bidder counts each notice once, and only bills of the history.
use Rattle.std.proofs.Common.{◌≡◌, List, [], ◌∷◌, length, refl, sym, ◌∙◌, subst, All, Option, Some, None, inl, inr}
use Rattle.std.specs.Prelude.{IfSome}
use Rattle.std.proofs.lemmas.List.Elements.{All-head, All-tail}
use Rattle.bidder_core.specs.Seen.{BidderState}
use Rattle.bidder_core.specs.declared.price_line.PriceLine.{PriceLine}
use Rattle.day_rules.specs.declared.entry.Entry.{Entry}
use Rattle.outbox.specs.Bids.{awarded}
use Rattle.outbox.specs.Calls.{IsValidAs}
use Rattle.outbox.specs.declared.calling.Call.{Call}
use Rattle.outbox.specs.declared.post.Post.{Post}
use Rattle.outbox.specs.declared.report.Outcome.{Outcome}
use Rattle.two_books.specs.Delivering.{IsDelivered, StopsDelivering}
use Rattle.two_books.specs.Holding.{IsAsked, IsCharge, IsLedgerOf, IsOwnEntry, IsSent}
use Rattle.two_books.specs.Steps.{AreTried, Befalls, IsCutShort, TriesPost, fates_behind, first_fate}
use Rattle.two_books.specs.Worlds.{IsSendable, message_of}
use Rattle.two_books.specs.declared.step.Fate.{Fate}
use Rattle.two_books.proofs.Billed.{carried_ledger, plain}

-- a bidder of that line, whose ledger is of the history
pub record IsBidderOf (known : PriceLine) (history : List Entry) (b : BidderState) : Type 0 where
  pub line : b.line ≡ known
  pub ledger : IsLedgerOf known.base history b.rows

module _ (line : PriceLine) (history : List Entry) (own : All (IsOwnEntry line.base (length line.prices)) history) (charges : All IsCharge (awarded history)) where
  abbrev Kept : BidderState → Type 0
  Kept b = IsBidderOf line history b

  -- some first requests of a message that was sent were heard
  pub some_heard : (c : Call) (old new : BidderState) → IsSent history c → StopsDelivering c.request old new → Kept old → Kept new
  some_heard c old new sent (ms, begin, is) kept = record {
    line = is.line ∙ kept.line;
    ledger =
        carried_ledger line.base (length line.prices) history (plain line.base line.plain_base) line.few_prices c ms old new own charges sent begin is kept.ledger;
  }

  -- a message that was sent was delivered
  pub delivered : (c : Call) (old new : BidderState) → IsSent history c → IsDelivered c.request old new → Kept old → Kept new
  delivered c old new sent (ms, heard, is) kept = some_heard c old new sent (ms, (heard.0, heard.1), is) kept

  -- ---- a pump

  befallen : (fate : Fate) (c : Call) (b : BidderState) (o : Outcome) (now : BidderState) → IsSent history c → Befalls fate c.request b o now → Kept b → Kept now
  befallen Fate.Held c b o now sent (failed, same) kept = subst Kept (sym same) kept
  befallen Fate.Mute c b o now sent (failed, is) kept = delivered c b now sent is kept
  befallen Fate.Through c b o now sent (reply, is, replied, passed, comes) kept = delivered c b now sent is kept

  one_tried : (p : Post) (m : Option Call) → message_of p ≡ m → IfSome m (λ c. IsValidAs p.url) → IsAsked history p → (fate : Fate) (b : BidderState) (o : Outcome) (now : BidderState) → TriesPost m fate b o now → Kept b → Kept now
  one_tried p None is valid asked fate b o now (undeliverable, same) kept = subst Kept (sym same) kept
  one_tried p (Some c) is valid asked fate b o now befalls kept = befallen fate c b o now (p, asked, is, valid) befalls kept

  pub all_tried : (ps : List Post) (fates : List Fate) (b : BidderState) (os : List Outcome) (now : BidderState) → All (IsAsked history) ps → All IsSendable ps → AreTried ps fates b os now → Kept b → Kept now
  all_tried [] fates b os now asked valid (none, same) kept = subst Kept (sym same) kept
  all_tried (p ∷ ps) fates b [] now asked valid tried kept = absurd tried
  all_tried (p ∷ ps) fates b (o ∷ os) now asked valid (mid, one, rest) kept =
      all_tried ps (fates_behind (message_of p) fates) mid os now (All-tail (IsAsked history) p ps asked) (All-tail IsSendable p ps valid) rest
      (one_tried p (message_of p) refl (All-head IsSendable p ps valid) (All-head (IsAsked history) p ps asked) (first_fate fates) b o mid one kept)

  -- what a pump that stopped had sent after its front
  pub cut_short : (fate : Fate) (back : List Post) (b : BidderState) (more : List Call) (now : BidderState) → All (IsAsked history) back → IsCutShort fate back b more now → Kept b → Kept now
  cut_short fate back b more now asked (inl (none, same)) kept = subst Kept (sym same) kept
  cut_short fate back b more now asked (inr (p, ps, c, is, message, one, valid, heard, stops)) kept =
      some_heard c b now (p, All-head (IsAsked history) p ps (subst (All (IsAsked history)) is asked), message, valid) stops kept
