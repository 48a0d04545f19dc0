-- Records after records, and what a file with them represents.
use Rattle.std.proofs.Common.{◌≡◌, inl, inr, ℕ, List, [], ◌∷◌, ◌++◌, All, refl, sym, ◌∙◌, ap, arith}
use Rattle.std.proofs.lemmas.Grind.{flat_map-append}
use Rattle.std.proofs.lemmas.List.{append-nil, map-append}
use Rattle.std.proofs.lemmas.List.Elements.{All-cons, All-head, All-nil, All-push, All-tail}
use Rattle.std.specs.List.{flat_map}
use Rattle.day_journal.specs.Places.{IsPayload, StandsFor}
use Rattle.day_entries.specs.Entries.{Fits, entry_bytes, entries_bytes}
use Rattle.day_rules.specs.declared.entry.Entry.{Entry}
use Rattle.day_rules.specs.Legal.{IsLegal}
use Rattle.adx_desk.specs.Desks.{MayStandBehind}
use Rattle.adx_desk.specs.Histories.{AreRecords, DeskTerms, HasRoom, IsHistoryOf, IsRecord}

module _ (format : ℕ) where
  -- one entry is a record
  pub one_record : (e : Entry) → Fits format e → IsRecord format (e ∷ [])
  one_record e fits = record { some = omega arith; spelled = All-cons (Fits format) e [] fits (All-nil (Fits format)) }

  pub one_bytes : (e : Entry) → entries_bytes format (e ∷ []) ≡ entry_bytes format e
  one_bytes e = append-nil (entry_bytes format e)

  -- no record
  pub no_records : AreRecords format [] []
  no_records = record { records = []; each = All-nil (IsRecord format); entries = refl; spelled = refl }

  -- with a record after the others
  pub records_push : (rest : List (List ℕ)) (history tail : List Entry) → AreRecords format rest history → IsRecord format tail → AreRecords format (rest ++ entries_bytes format tail ∷ []) (history ++ tail)
  records_push rest history tail are one =
      let id : List Entry → List Entry = λ es. es in
      let all : flat_map id (are.records ++ tail ∷ []) ≡ history ++ tail =
      flat_map-append id are.records (tail ∷ [])
      ∙ (ap (λ (es : List Entry). flat_map id are.records ++ es) (append-nil tail) ∙ ap (λ (es : List Entry). es ++ tail) (sym are.entries)) in
      record {
        records = are.records ++ tail ∷ [];
        each = All-push (IsRecord format) are.records tail are.each one;
        entries = sym all;
        spelled = ap (λ (ps : List (List ℕ)). ps ++ entries_bytes format tail ∷ []) are.spelled ∙ sym (map-append (entries_bytes format) are.records (tail ∷ []));
      }

  -- a file of the digest and the records represents their history
  pub history_stands : (terms : DeskTerms) (file : List ℕ) (rest : List (List ℕ)) (history : List Entry) → AreRecords format rest history → IsLegal terms.day history → HasRoom format (terms.digest ∷ rest) history
      → StandsFor format file (terms.digest ∷ rest) → IsHistoryOf terms file history
  history_stands terms file rest history are legal room stands =
      record { format = format; payloads = terms.digest ∷ rest; stands = stands; spells = inr (rest, refl, are); legal = legal; room = room }

  -- and with a record after them it too
  pub behind_stands : (terms : DeskTerms) (file : List ℕ) (rest : List (List ℕ)) (history tail : List Entry) → AreRecords format rest history → MayStandBehind terms format (terms.digest ∷ rest) history tail
      → StandsFor format file (terms.digest ∷ rest ++ entries_bytes format tail ∷ []) → IsHistoryOf terms file (history ++ tail)
  behind_stands terms file rest history tail are may stands =
      history_stands terms file (rest ++ entries_bytes format tail ∷ []) (history ++ tail) (records_push rest history tail are may.is_record) may.legal may.room stands

pub last_payload : (payloads : List (List ℕ)) (p : List ℕ) → All IsPayload (payloads ++ p ∷ []) → IsPayload p
last_payload [] p all = All-head IsPayload p [] all
last_payload (q ∷ qs) p all = last_payload qs p (All-tail IsPayload q (qs ++ p ∷ []) all)

-- a payload has bytes
pub no_empty : (format : ℕ) (file : List ℕ) (payloads : List (List ℕ)) → StandsFor format file (payloads ++ [] ∷ []) → ⊥
no_empty format file payloads (inl un) = absurd (cons_not_nil payloads un.1)
  where
    cons_not_nil : (ps : List (List ℕ)) → ps ++ [] ∷ [] ≡ [] → ⊥
    cons_not_nil [] h = cc
    cons_not_nil (p ∷ ps) h = cc
no_empty format file payloads (inr open_) = omega (arith, (last_payload payloads [] open_.each).some)
