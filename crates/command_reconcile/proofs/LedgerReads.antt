-- What is read of a ledger, line by line.
use Rattle.std.proofs.Common.{◌≡◌, ◌∙◌, inl, inr, ℕ, ◌+◌, ◌≤◌, List, [], ◌∷◌, ◌++◌, length, false, true, Option, Some, None, Ok, Err, refl, sym, ap, ap₂, arith, append_assoc, append-nil, length-append}
use Rattle.std.specs.List.{cons_option}
use Rattle.std.proofs.lemmas.List.Concat.{flat_map-append}
use Rattle.std.proofs.lemmas.List.Elements.{All-nil, All-push, filter_map-append}
use Rattle.adx_io.specs.Lines.{tape_behind}
use Rattle.adx_io.specs.Streams.{Tape, WhereTold}
use Rattle.adx_io.specs.Talk.{ReadsNext, TalkState, ended}
use Rattle.adx_io.specs.declared.line_buffer.TheConstants.{CHUNK}
use Rattle.adx_io.specs.declared.stop.Stop.{Stop}
use Rattle.adx_io.specs.declared.talk.Next.{Next}
use Rattle.bidder_core.specs.declared.ledger.LedgerRow.{LedgerRow}
use Rattle.bidder_http.specs.Books.{ledger_line, ledger_text}
use Rattle.command_reconcile.specs.declared.bill.Bill.{Bill}
use Rattle.command_reconcile.specs.Ledgers.{IsLedgerRow, row_bill}
use Rattle.command_reconcile.specs.Reading.{IsLastPiece, OfKept, ReadsLedger, ReadsRows, TakesRow}
use Rattle.command_runs.proofs.Told.{told_behind, told_then}
use Rattle.command_runs.specs.Limits.{line_limit}

-- nothing was read yet
pub rows_none : (before : TalkState) (bills : List Bill) → bills ≡ [] → (t : Tape) → ReadsRows before before bills 1 t t
rows_none before bills none t = ([], All-nil IsLedgerRow, record { next = refl; counted = omega arith }, none, refl)

both : (bytes more : List ℕ) (input middle left : List ℕ) → input ≡ bytes ++ middle → middle ≡ more ++ left → input ≡ (bytes ++ more) ++ left
both bytes more input middle left first second = first ∙ ap (λ (b : List ℕ). bytes ++ b) second ∙ sym (append_assoc bytes more left)

module _ (before mid now : TalkState) (bills : List Bill) (n : ℕ) (so_far : WhereTold before.tape mid.tape (ReadsRows before mid bills n)) where
  -- a line that tells a row
  pub rows_line : (more : List Bill) (next_number : ℕ) → next_number ≡ n + 1 → WhereTold mid.tape now.tape (ReadsNext line_limit mid now (Ok Next.Line)) → OfKept now.overlong now.line (TakesRow bills more true)
      → WhereTold before.tape now.tape (ReadsRows before now more next_number)
  rows_line more next_number counts next takes = told_then before.tape mid.tape now.tape (ReadsRows before mid bills n) (ReadsNext line_limit mid now (Ok Next.Line)) (ReadsRows before now more next_number) so_far next (λ x y z r s.
      let t = takes s.0 s.1.keeps in
      let row : LedgerRow = t.0 in
      let text : ledger_text (r.0 ++ row ∷ []) ≡ ledger_text r.0 ++ ended s.0 =
      flat_map-append ledger_line r.0 (row ∷ []) ∙ ap (λ (l : List ℕ). ledger_text r.0 ++ l) (append-nil (ledger_line row) ∙ sym t.1.1) in (
        r.0 ++ row ∷ [],
        All-push IsLedgerRow r.0 row r.1 (t.1.0, omega (arith, t.2, ap (λ (b : List ℕ). length b) t.1.1, length-append s.0 (10 ∷ []))),
        record {
          next = both (ledger_text r.0) (ended s.0) x.left y.left z.left r.2.next s.2.next ∙ ap (λ (b : List ℕ). b ++ z.left) (sym text);
          counted = omega (arith, r.2.counted, s.2.counted, ap (λ (b : List ℕ). length b) text, length-append (ledger_text r.0) (ended s.0));
        },
        t.3 ∙ ap (λ (l : List Bill). l ++ cons_option (row_bill row) []) r.3 ∙ sym (filter_map-append row_bill r.0 (row ∷ [])),
        omega (arith, counts, r.4, length-append r.0 (row ∷ [])),
      ))

  module _ (pending : List ℕ) (told : Option Tape) where
    -- the end of the input
    pub rows_end : (last : Option ℕ) → pending ≡ [] → WhereTold mid.tape (tape_behind pending told) (ReadsNext line_limit mid now (Ok Next.End)) → OfKept now.overlong now.line (IsLastPiece n last)
        → WhereTold before.tape told (ReadsLedger before.allowed bills (Ok last))
    rows_end None none next piece = told_behind before.tape mid.tape pending told (ReadsRows before mid bills n) (ReadsNext line_limit mid now (Ok Next.End)) (ReadsLedger before.allowed bills (Ok None)) so_far next (λ x y z r s.
        let ends : z.left ≡ [] = ap (λ (p : List ℕ). p ++ z.left) (sym none) ∙ s.3 in
        let empty : s.0 ≡ [] = piece s.0 s.1.keeps in (
          ledger_text r.0,
          r.2.next ∙ ap (λ (b : List ℕ). ledger_text r.0 ++ b) (s.2.next ∙ ap₂ (λ (p q : List ℕ). p ++ (q ++ z.left)) empty none),
          r.0,
          record { each = r.1; spelled = refl; few = omega (arith, r.2.counted); all_read = ends },
          r.3,
        ))
    rows_end (Some m) none next piece = told_behind before.tape mid.tape pending told (ReadsRows before mid bills n) (ReadsNext line_limit mid now (Ok Next.End)) (ReadsLedger before.allowed bills (Ok (Some m))) so_far next (λ x y z r s.
        let ends : z.left ≡ [] = ap (λ (p : List ℕ). p ++ z.left) (sym none) ∙ s.3 in
        let p = piece s.0 s.1.keeps in (
          ledger_text r.0 ++ s.0,
          both (ledger_text r.0) s.0 x.left y.left z.left r.2.next (s.2.next ∙ ap (λ (q : List ℕ). s.0 ++ (q ++ z.left)) none),
          record {
            rows = r.0;
            each = r.1;
            behind = s.0;
            split = refl;
            number = p.1 ∙ r.4;
            fails = inr (inl (s.1.no_newline, p.0, omega (arith, r.2.counted, s.2.counted), ends));
          },
        ))

    -- the limit of the input
    pub rows_past : pending ≡ [] → WhereTold mid.tape (tape_behind pending told) (ReadsNext line_limit mid now (Ok Next.PastLimit)) → WhereTold before.tape told (ReadsLedger before.allowed bills (Ok (Some n)))
    rows_past none next = told_behind before.tape mid.tape pending told (ReadsRows before mid bills n) (ReadsNext line_limit mid now (Ok Next.PastLimit)) (ReadsLedger before.allowed bills (Ok (Some n))) so_far next (λ x y z r s. (
      ledger_text r.0 ++ (s.0 ++ s.1 ∷ []),
      both (ledger_text r.0) (s.0 ++ s.1 ∷ []) x.left y.left z.left r.2.next (s.3 ∙ ap (λ (p : List ℕ). s.0 ++ s.1 ∷ (p ++ z.left)) none ∙ sym (append_assoc s.0 (s.1 ∷ []) z.left)),
      record {
        rows = r.0;
        each = r.1;
        behind = s.0 ++ s.1 ∷ [];
        split = refl;
        number = r.4;
        fails = inr (inr (s.0, s.1, s.2, omega (arith, r.2.counted, s.4), refl));
      },
    ))

    -- a line that tells no row
    pub rows_fail : (more : List Bill) → length pending ≤ CHUNK → WhereTold mid.tape (tape_behind pending told) (ReadsNext line_limit mid now (Ok Next.Line)) → OfKept now.overlong now.line (TakesRow bills more false)
        → WhereTold before.tape told (ReadsLedger before.allowed more (Ok (Some n)))
    rows_fail more few next takes = told_behind before.tape mid.tape pending told (ReadsRows before mid bills n) (ReadsNext line_limit mid now (Ok Next.Line)) (ReadsLedger before.allowed more (Ok (Some n))) so_far next (λ x y z r s.
        let t = takes s.0 s.1.keeps in (
          ledger_text r.0 ++ (ended s.0 ++ pending),
          both (ledger_text r.0) (ended s.0 ++ pending) x.left y.left z.left r.2.next (s.2.next ∙ sym (append_assoc (ended s.0) pending z.left)),
          record {
            rows = r.0;
            each = r.1;
            behind = ended s.0 ++ pending;
            split = refl;
            number = r.4;
            fails = inl (s.0, s.1.no_newline, t.0, (pending, few, refl));
          },
        ))

    -- what was taken is within what may be read, with the piece that wasn't looked at
    within_all : (text line : List ℕ) (room : ℕ) → before.allowed ≡ length text + room → room ≡ length line + now.allowed → length pending ≤ now.allowed → length (text ++ (line ++ pending)) ≤ before.allowed
    within_all text line room first second within = omega (arith, first, second, within, length-append text (line ++ pending), length-append line pending)

    -- memory was refused behind a line
    pub rows_refused : (more : List Bill) → length pending ≤ now.allowed → WhereTold mid.tape (tape_behind pending told) (ReadsNext line_limit mid now (Ok Next.Line)) → WhereTold before.tape told (ReadsLedger before.allowed more (Err Stop.OutOfMemory))
    rows_refused more within next = told_behind before.tape mid.tape pending told (ReadsRows before mid bills n) (ReadsNext line_limit mid now (Ok Next.Line)) (ReadsLedger before.allowed more (Err Stop.OutOfMemory)) so_far next (λ x y z r s. (
      ledger_text r.0 ++ (ended s.0 ++ pending),
      both (ledger_text r.0) (ended s.0 ++ pending) x.left y.left z.left r.2.next (s.2.next ∙ sym (append_assoc (ended s.0) pending z.left)),
      within_all (ledger_text r.0) (ended s.0) mid.allowed r.2.counted s.2.counted within,
    ))

    -- the reading stopped
    pub rows_stop : (stop : Stop) → length pending ≤ now.allowed → WhereTold mid.tape (tape_behind pending told) (ReadsNext line_limit mid now (Err stop)) → WhereTold before.tape told (ReadsLedger before.allowed bills (Err stop))
    rows_stop stop within next = told_behind before.tape mid.tape pending told (ReadsRows before mid bills n) (ReadsNext line_limit mid now (Err stop)) (ReadsLedger before.allowed bills (Err stop)) so_far next (λ x y z r s. (
      ledger_text r.0 ++ (s.0 ++ pending),
      both (ledger_text r.0) (s.0 ++ pending) x.left y.left z.left r.2.next (s.2.next ∙ sym (append_assoc s.0 pending z.left)),
      within_all (ledger_text r.0) s.0 mid.allowed r.2.counted s.2.counted within,
    ))
