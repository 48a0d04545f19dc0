-- What an opening leaves that read a journal to its end, or began one.
use Rattle.std.proofs.Common.{◌≡◌, ◌⊎◌, inl, inr, ℕ, List, [], ◌∷◌, Option, Some, refl, sym, ◌∙◌, subst}
use Rattle.std.proofs.lemmas.List.Elements.{All-nil}
use Rattle.std.proofs.lemmas.Option.{same_Some}
use Rattle.day_journal.specs.Disks.{AsRead, LeavesOnly}
use Rattle.day_journal.specs.Openings.{OnlyReads, OpeningState}
use Rattle.day_journal.specs.Places.{IsClosed, IsFormat, IsPayload, StandsFor, opened}
use Rattle.day_journal.specs.Tails.{JournalState, Keeps, WithAtMostOne as WithOnePayload}
use Rattle.day_journal.proofs.Moments.{joined, weaker}
use Rattle.day_rules.specs.declared.entry.Entry.{Entry}
use Rattle.adx_desk.specs.Histories.{AreRecords, DeskTerms, StandsSame}
use Rattle.adx_desk.specs.Loading.{HasOpened, HasReadAll}
use Rattle.adx_desk.proofs.OpenedDays.{empty_stands}
use Rattle.adx_desk.proofs.Records.{no_empty, no_records}

-- before and after the first payload
pub begun_file : (format : ℕ) (file p : List ℕ) → WithOnePayload format [] [] p file → StandsFor format file [] ⊎ StandsFor format file (p ∷ [])
begun_file format file p (inl alone) = inl alone
begun_file format file p (inr (inl none)) = absurd (no_empty format file [] none)
begun_file format file p (inr (inr new)) = inr new

-- a file whose places are closed without a payload
pub none_there : (format : ℕ) (file : List ℕ) → IsFormat format → IsClosed (opened format []) file → StandsFor format file []
none_there format file known closed = inr (record { known = known; each = All-nil IsPayload; closed = closed })

pub has_opened : (digest file : List ℕ) (now : Option (List ℕ)) (images : List ℕ → Type 0) (opening : OpeningState) (journal : JournalState) (history : List Entry) (all : HasReadAll digest file opening history) → now ≡ Some file
    → journal.format ≡ opening.format → ((tail : List ℕ) → Keeps images journal (digest ∷ all.read.rest) tail) → HasOpened digest file now images journal history
has_opened digest file now images opening journal history all told same kept = record {
  rest = all.read.rest;
  records = subst (λ (f : ℕ). AreRecords f all.read.rest history) (sym same) all.read.records;
  kept = kept;
  stood = inl (
    subst (λ (f : ℕ). StandsFor f file (digest ∷ all.read.rest)) (sym same) (inr (record { known = all.read.behind.known; each = all.read.behind.each; closed = all.closed })),
    told,
  );
}

pub has_begun : (digest file : List ℕ) (now : Option (List ℕ)) (images : List ℕ → Type 0) (journal : JournalState) (history : List Entry) → IsFormat journal.format → IsClosed (opened journal.format []) file → history ≡ []
    → ((tail : List ℕ) → Keeps images journal (digest ∷ []) tail) → HasOpened digest file now images journal history
has_begun digest file now images journal history known closed none kept = record {
  rest = [];
  records = subst (λ (h : List Entry). AreRecords journal.format [] h) (sym none) (no_records journal.format);
  kept = kept;
  stood = inr (none_there journal.format file known closed, refl, none);
}

module _ {D : Type 0} (reads : D → Option (List ℕ)) (may_leave : D → List ℕ → Type 0) (moment : D → ℕ) (left_since : D → ℕ → List ℕ → Type 0) where
  -- calls that only read leave the disk durable
  pub still_durable : (old mid : D) → OnlyReads reads may_leave moment left_since old mid → AsRead (reads old) (may_leave old) → AsRead (reads mid) (may_leave mid)
  still_durable old mid only durable c left = only.same ∙ durable c (only.crash c left)

  pub read_moments : (terms : DeskTerms) (old mid : D) (file : List ℕ) → OnlyReads reads may_leave moment left_since old mid → AsRead (reads old) (may_leave old) → reads old ≡ Some file
      → LeavesOnly moment left_since old mid (StandsSame terms file)
  read_moments terms old mid file only durable told =
      weaker moment left_since old mid (may_leave old) (StandsSame terms file) only.moments
      (λ c left. inl (sym (same_Some file c (sym told ∙ durable c left))))

  pub begin_moments : (terms : DeskTerms) (format : ℕ) (old mid new : D) (file : List ℕ) → IsFormat format → OnlyReads reads may_leave moment left_since old mid → AsRead (reads old) (may_leave old) → reads old ≡ Some file → IsClosed (opened format []) file
      → LeavesOnly moment left_since mid new (λ c. StandsFor format c [] ⊎ StandsFor format c (terms.digest ∷ [])) → LeavesOnly moment left_since old new (StandsSame terms file)
  begin_moments terms format old mid new file known only durable told closed run =
      joined moment left_since old mid new (StandsSame terms file) (λ c. StandsFor format c [] ⊎ StandsFor format c (terms.digest ∷ [])) (StandsSame terms file)
      (read_moments terms old mid file only durable told) run (λ c same. same) (λ c now. empty_stands terms format format file c (none_there format file known closed) now)
