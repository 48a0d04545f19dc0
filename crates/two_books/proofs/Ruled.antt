-- A bidder that answers its own bill with a success has counted it.
use Rattle.std.proofs.Common.{◌≡◌, ◌≢◌, ◌⊎◌, ℕ, List, [], ◌∷◌, ◌++◌, length, Bool, true, false, cond, refl, sym, ap, ◌∙◌, subst, Option, Some, None, inl, inr, ◌&&◌, ◌||◌}
use Rattle.std.specs.Prelude.{bytes_eq}
use Rattle.std.specs.List.{list_any}
use Rattle.std.proofs.lemmas.Bool.{and_from, or_right}
use Rattle.std.proofs.lemmas.List.Folds.{list_any-append}
use Rattle.std.proofs.lemmas.Slice.Eq.{bytes_eq-Decides}
use Rattle.adx_units.specs.declared.units.Units.{Units}
use Rattle.bidder_core.specs.BidIds.{is_made}
use Rattle.bidder_core.specs.Ledger.{end_of, is_kind, is_of, known_ruling, rows_after, ruling_in, was_counted}
use Rattle.bidder_core.specs.Seen.{BidderState}
use Rattle.bidder_core.specs.declared.ledger.LedgerRow.{LedgerRow}
use Rattle.bidder_core.specs.declared.ruling.BidderRuling.{BidderRuling}
use Rattle.bidder_http.specs.Messages.{AnswersAt}
use Rattle.bidder_http.specs.Notices.{TellsNotice, notice_in, ruled_answer}
use Rattle.bidder_http.specs.declared.page.Page.{Page}
use Rattle.http_grammar.specs.declared.verb.Verb.{Verb}
use Rattle.http_service.specs.declared.answer.Answer.{Answer}
use Rattle.notice_book.specs.Rules.{ruling}
use Rattle.notice_book.specs.declared.kind.NoticeKind.{NoticeKind}
use Rattle.notice_book.specs.declared.ruling.Ruling.{Ruling}
use Rattle.two_books.specs.OwnMessages.{notice_at}
use Rattle.two_books.proofs.Statuses.{IsNoSuccess, fails_400, fails_404, fails_405, fails_409}

-- a bill's row
abbrev pub bill_row : List ℕ → List ℕ → Units → LedgerRow
bill_row auction id price = record { auction = auction; bid = id; kind = NoticeKind.Bill; price = price }

same_bytes : (a : List ℕ) → bytes_eq a a ≡ true
same_bytes a = (bytes_eq-Decides a a).1 refl

-- a bill that was added is counted
added_counts : (auction id : List ℕ) (price : Units) (rows : List LedgerRow) → was_counted NoticeKind.Bill auction id (rows ++ bill_row auction id price ∷ []) ≡ true
added_counts auction id price rows =
    let test : LedgerRow → Bool = λ (r : LedgerRow). is_kind NoticeKind.Bill r.kind && is_of auction id r in
    let here : is_of auction id (bill_row auction id price) ≡ true = and_from (bytes_eq auction auction) (bytes_eq id id) (same_bytes auction) (same_bytes id) in
    list_any-append test rows (bill_row auction id price ∷ [])
    ∙ or_right (list_any test rows) (is_of auction id (bill_row auction id price) || false) (ap (λ (t : Bool). t || false) here)

-- a repeat says that it was counted before
repeat_counted : (won bill loss : Bool) → ruling NoticeKind.Bill won (end_of bill loss) ≡ Ruling.Repeat → bill ≡ true
repeat_counted won true loss e = refl
repeat_counted won false true e = absurd (cc)
repeat_counted won false false e = absurd (cc)

module _ (auction id : List ℕ) (price : Units) where
  -- an answer that is no refusal says that the notice was counted, now or before
  tells_counted : (b : BidderState) (a : Answer) (body : List ℕ) (rows : List LedgerRow) → TellsNotice (Some (bill_row auction id price)) b a body rows → (IsNoSuccess a.status → ⊥)
      → was_counted NoticeKind.Bill auction id rows ≡ true
  tells_counted b a body rows told success =
      by (is_made (length b.line.prices) id) (ruling_in NoticeKind.Bill auction id b.rows) refl told.0 told.2
    where
      by : (t : Bool) (r : Ruling) → ruling_in NoticeKind.Bill auction id b.rows ≡ r → a ≡ ruled_answer (cond t (known_ruling r) BidderRuling.Unknown)
          → rows ≡ rows_after (cond t (known_ruling r) BidderRuling.Unknown) (bill_row auction id price) b.rows → was_counted NoticeKind.Bill auction id rows ≡ true
      by true Ruling.Counted is answer after = ap (was_counted NoticeKind.Bill auction id) after ∙ added_counts auction id price b.rows
      by true Ruling.Repeat is answer after =
          ap (was_counted NoticeKind.Bill auction id) after
          ∙ repeat_counted (was_counted NoticeKind.Win auction id b.rows) (was_counted NoticeKind.Bill auction id b.rows) (was_counted NoticeKind.Loss auction id b.rows) is
      by true (Ruling.Conflict end) is answer after = absurd (success (subst IsNoSuccess (sym (ap (λ (x : Answer). x.status) answer)) fails_409))
      by false r is answer after = absurd (success (subst IsNoSuccess (sym (ap (λ (x : Answer). x.status) answer)) fails_404))

  -- so it is with the page of a message that is got
  pub page_counted : (page : Option Page) (b : BidderState) (query bytes : List ℕ) (a : Answer) (body : List ℕ) (rows : List LedgerRow) → page ≢ Some Page.Books → page ≢ Some Page.Ledger
      → (notice_at page true query ≡ None) ⊎ (notice_at page true query ≡ Some (bill_row auction id price))
      → AnswersAt page Verb.Get b query bytes a body rows → (IsNoSuccess a.status → ⊥) → was_counted NoticeKind.Bill auction id rows ≡ true
  page_counted None b query bytes a body rows books ledger told answers success = absurd (success (subst IsNoSuccess (sym (ap (λ (x : Answer). x.status) answers.0)) fails_404))
  page_counted (Some Page.Offers) b query bytes a body rows books ledger told answers success = absurd (success (subst IsNoSuccess (sym (ap (λ (x : Answer). x.status) answers.0)) fails_405))
  page_counted (Some (Page.Notices kind)) b query bytes a body rows books ledger told answers success = by told
    where
      by : (notice_in kind query ≡ None) ⊎ (notice_in kind query ≡ Some (bill_row auction id price)) → was_counted NoticeKind.Bill auction id rows ≡ true
      by (inl none) =
          let refused = subst (λ (o : Option LedgerRow). TellsNotice o b a body rows) none answers in
          absurd (success (subst IsNoSuccess (sym (ap (λ (x : Answer). x.status) refused.0)) fails_400))
      by (inr some) = tells_counted b a body rows (subst (λ (o : Option LedgerRow). TellsNotice o b a body rows) some answers) success
  page_counted (Some Page.Books) b query bytes a body rows books ledger told answers success = absurd (books refl)
  page_counted (Some Page.Ledger) b query bytes a body rows books ledger told answers success = absurd (ledger refl)
