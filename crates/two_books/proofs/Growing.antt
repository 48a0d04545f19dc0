-- A bidder's ledger only grows, whatever it is sent.
use Rattle.std.proofs.Common.{◌≡◌, ℕ, List, [], ◌∷◌, ◌++◌, length, Bool, refl, sym, ap, ◌∙◌, subst, append_assoc, append-nil, Option, Some, None, inl, inr, ◌&&◌}
use Rattle.std.specs.List.{list_any}
use Rattle.std.proofs.lemmas.Bool.{or_left}
use Rattle.std.proofs.lemmas.List.Folds.{list_any-append}
use Rattle.bidder_core.specs.Ledger.{bidder_ruling, is_kind, is_of, rows_after, was_counted}
use Rattle.bidder_core.specs.Seen.{BidderState}
use Rattle.bidder_core.specs.declared.ledger.LedgerRow.{LedgerRow}
use Rattle.bidder_core.specs.declared.price_line.PriceLine.{PriceLine}
use Rattle.bidder_core.specs.declared.ruling.BidderRuling.{BidderRuling}
use Rattle.http_connection.specs.Messages.{Request}
use Rattle.notice_book.specs.declared.kind.NoticeKind.{NoticeKind}
use Rattle.outbox.specs.declared.calling.Call.{Call}
use Rattle.outbox.specs.declared.post.Post.{Post}
use Rattle.outbox.specs.declared.report.Outcome.{Outcome}
use Rattle.two_books.specs.OwnMessages.{notice_of}
use Rattle.two_books.specs.Delivering.{IsCarried, carried_on, carried_over}
use Rattle.two_books.specs.Steps.{AreTried, Befalls, IsCutShort, TriesPost, fates_behind, first_fate}
use Rattle.two_books.specs.Worlds.{message_of}
use Rattle.two_books.specs.declared.step.Fate.{Fate}
use Rattle.two_books.specs.Settling.{IsCounted}

-- a bidder's ledger has more rows, and nothing else of it changed
pub record Grows (b now : BidderState) : Type 0 where
  pub more : List LedgerRow
  pub rows : now.rows ≡ b.rows ++ more
  pub line : now.line ≡ b.line

pub no_growth : (b : BidderState) → Grows b b
no_growth b = record { more = []; rows = sym (append-nil b.rows); line = refl }

pub same_growth : (b now : BidderState) → now ≡ b → Grows b now
same_growth b now same = subst (Grows b) (sym same) (no_growth b)

pub grows_on : (b mid now : BidderState) → Grows b mid → Grows mid now → Grows b now
grows_on b mid now g h = record {
  more = g.more ++ h.more;
  rows = h.rows ∙ (ap (λ (l : List LedgerRow). l ++ h.more) g.rows ∙ append_assoc b.rows g.more h.more);
  line = h.line ∙ g.line;
}

abbrev Longer : List LedgerRow → List LedgerRow → Type 0
Longer rows now = (more : List LedgerRow) × (now ≡ rows ++ more)

ruled_longer : (r : BidderRuling) (row : LedgerRow) (rows : List LedgerRow) → Longer rows (rows_after r row rows)
ruled_longer BidderRuling.Counted row rows = (row ∷ [], refl)
ruled_longer BidderRuling.Repeat row rows = ([], sym (append-nil rows))
ruled_longer (BidderRuling.Conflict end) row rows = ([], sym (append-nil rows))
ruled_longer BidderRuling.Unknown row rows = ([], sym (append-nil rows))

one_longer : (n : ℕ) (rows : List LedgerRow) (o : Option LedgerRow) → Longer rows (carried_on n rows o)
one_longer n rows None = ([], sym (append-nil rows))
one_longer n rows (Some row) = ruled_longer (bidder_ruling n row.kind row.auction row.bid rows) row rows

all_longer : (n : ℕ) (rows : List LedgerRow) (ms : List Request) → Longer rows (carried_over n rows ms)
all_longer n rows [] = ([], sym (append-nil rows))
all_longer n rows (m ∷ ms) =
    let first : Longer rows (carried_on n rows (notice_of m)) = one_longer n rows (notice_of m) in
    let rest : Longer (carried_on n rows (notice_of m)) (carried_over n (carried_on n rows (notice_of m)) ms) = all_longer n (carried_on n rows (notice_of m)) ms in
    (first.0 ++ rest.0, rest.1 ∙ (ap (λ (l : List LedgerRow). l ++ rest.0) first.1 ∙ append_assoc rows first.0 rest.0))

pub carried_grows : (ms : List Request) (b now : BidderState) → IsCarried ms b now → Grows b now
carried_grows ms b now is =
    let more : Longer b.rows (carried_over (length b.line.prices) b.rows ms) = all_longer (length b.line.prices) b.rows ms in
    record { more = more.0; rows = is.rows ∙ more.1; line = is.line }

-- ---- a pump

befalls_grows : (fate : Fate) (bytes : List ℕ) (b : BidderState) (o : Outcome) (now : BidderState) → Befalls fate bytes b o now → Grows b now
befalls_grows Fate.Held bytes b o now (failed, same) = same_growth b now same
befalls_grows Fate.Mute bytes b o now (failed, (ms, heard, is)) = carried_grows ms b now is
befalls_grows Fate.Through bytes b o now (reply, (ms, heard, is), replied, passed, comes) = carried_grows ms b now is

pub tries_grows : (m : Option Call) (fate : Fate) (b : BidderState) (o : Outcome) (now : BidderState) → TriesPost m fate b o now → Grows b now
tries_grows None fate b o now (undeliverable, same) = same_growth b now same
tries_grows (Some c) fate b o now befalls = befalls_grows fate c.request b o now befalls

pub all_grow : (ps : List Post) (fates : List Fate) (b : BidderState) (os : List Outcome) (now : BidderState) → AreTried ps fates b os now → Grows b now
all_grow [] fates b os now (none, same) = same_growth b now same
all_grow (p ∷ ps) fates b [] now tried = absurd tried
all_grow (p ∷ ps) fates b (o ∷ os) now (mid, one, rest) =
    grows_on b mid now (tries_grows (message_of p) (first_fate fates) b o mid one) (all_grow ps (fates_behind (message_of p) fates) mid os now rest)

pub cut_grows : (fate : Fate) (back : List Post) (b : BidderState) (more : List Call) (now : BidderState) → IsCutShort fate back b more now → Grows b now
cut_grows fate back b more now (inl (none, same)) = same_growth b now same
cut_grows fate back b more now (inr (p, ps, c, is, message, one, valid, heard, (ms, begin, carried))) = carried_grows ms b now carried

-- ---- what was counted stays so

pub counted_still : (line : PriceLine) (b now : BidderState) (p : Post) → Grows b now → IsCounted line b.rows p → IsCounted line now.rows p
counted_still line b now p g counted t =
    let test : LedgerRow → Bool = λ (r : LedgerRow). is_kind NoticeKind.Bill r.kind && is_of t.bid.auction t.id r in
    ap (was_counted NoticeKind.Bill t.bid.auction t.id) g.rows
    ∙ (list_any-append test b.rows g.more ∙ or_left (list_any test b.rows) (list_any test g.more) (counted t))
