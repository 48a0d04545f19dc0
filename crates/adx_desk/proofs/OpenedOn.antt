-- What opening a desk leaves, by what its journal's opening left first.
use Rattle.std.proofs.Common.{◌≡◌, inl, inr, ℕ, List, [], Option, Some, subst}
use Rattle.day_journal.specs.Disks.{AsRead, LeavesOnly}
use Rattle.day_journal.specs.declared.fault.OpeningFault.{OpeningFault}
use Rattle.day_journal.specs.Faults.{Refuses}
use Rattle.day_journal.specs.Openings.{OpeningState, StandsBehind}
use Rattle.day_journal.specs.Places.{new_file}
use Rattle.day_journal.specs.Starts.{KeptOrMade, StandsAsRead as StandsAsPayloads}
use Rattle.day_journal.proofs.Moments.{started}
use Rattle.day_rules.specs.declared.entry.Entry.{Entry}
use Rattle.adx_desk.specs.declared.fault.DeskFault.{DeskFault}
use Rattle.adx_desk.specs.Desks.{DeskKeeps, DeskState}
use Rattle.adx_desk.specs.Histories.{DeskTerms, IsHistoryOf, StandsSame}
use Rattle.adx_desk.specs.Opened.{GivesUp, Opens}
use Rattle.adx_desk.specs.Openings.{IsRefusal, RefusesDesk, StandsAsRead, fault_of}
use Rattle.adx_desk.proofs.OpenedDays.{begun_moments, head_refused, head_untouched, history_before, opened_moments, refused_before, untouched_before}

module _ {D : Type 0} (reads : D → Option (List ℕ)) (may_leave : D → List ℕ → Type 0) (moment : D → ℕ) (left_since : D → ℕ → List ℕ → Type 0) (terms : DeskTerms) where
  -- what holds of the file where the journal was opened
  abbrev pub AtMid : D → OpeningState → (List ℕ → Type 0) → Type 0
  AtMid mid opening P = (f : List ℕ) → reads mid ≡ Some f → StandsBehind f opening [] → AsRead (reads mid) (may_leave mid) → P f

  -- the opening of a journal
  pub record Began (old mid : D) (opening : OpeningState) : Type 0 where
    pub reading : (file : List ℕ) → reads old ≡ Some file → KeptOrMade file (reads mid)
    pub behind : (f : List ℕ) → reads mid ≡ Some f → StandsBehind f opening []
    pub durable : AsRead (reads mid) (may_leave mid)
    pub run : LeavesOnly moment left_since old mid (StandsAsPayloads (may_leave old) (reads old))

  -- the file at that moment
  pub record Found (file : List ℕ) (mid : D) (P : List ℕ → Type 0) : Type 0 where
    pub mid_file : List ℕ
    pub told : reads mid ≡ Some mid_file
    pub kept : KeptOrMade file (Some mid_file)
    pub holds : P mid_file

  found_by : (file : List ℕ) (old mid : D) (opening : OpeningState) (P : List ℕ → Type 0) → Began old mid opening → AtMid mid opening P → KeptOrMade file (reads mid) → Found file mid P
  found_by file old mid opening P b at_mid (inl kept) =
      record { mid_file = file; told = kept; kept = subst (KeptOrMade file) kept (inl kept); holds = at_mid file kept (b.behind file kept) b.durable }
  found_by file old mid opening P b at_mid (inr made) =
      record { mid_file = new_file; told = made.1; kept = subst (KeptOrMade file) made.1 (inr made); holds = at_mid new_file made.1 (b.behind new_file made.1) b.durable }

  found : (old mid : D) (opening : OpeningState) (P : List ℕ → Type 0) → Began old mid opening → AtMid mid opening P → (file : List ℕ) → reads old ≡ Some file → Found file mid P
  found old mid opening P b at_mid file told = found_by file old mid opening P b at_mid (b.reading file told)

  run_on : (old mid new : D) (opening : OpeningState) → Began old mid opening → AtMid mid opening (λ f. LeavesOnly moment left_since mid new (StandsSame terms f))
      → (file : List ℕ) → reads old ≡ Some file → LeavesOnly moment left_since old new (StandsAsRead terms (may_leave old) (reads old))
  run_on old mid new opening b moments file told =
      let at = found old mid opening (λ f. LeavesOnly moment left_since mid new (StandsSame terms f)) b moments file told in
      opened_moments reads may_leave moment left_since terms old mid new file at.mid_file b.run told at.kept at.holds

  pub opens_on : (old mid new : D) (opening : OpeningState) (desk : DeskState) → Began old mid opening → desk.terms ≡ terms → desk.faults ≡ 0
      → AtMid mid opening (λ f. IsHistoryOf terms f desk.history) → AtMid mid opening (λ f. (tail : List Entry) → DeskKeeps (may_leave new) desk tail)
      → AtMid mid opening (λ f. LeavesOnly moment left_since mid new (StandsSame terms f)) → Opens reads may_leave moment left_since terms old new desk
  opens_on old mid new opening desk b same none history keeps moments = record {
    same_terms = same;
    no_fault = none;
    history = λ file told.
        let at = found old mid opening (λ f. IsHistoryOf terms f desk.history) b history file told in
        history_before terms file at.mid_file at.kept desk.history at.holds;
    keeps = λ file told.
        let at = found old mid opening (λ f. (tail : List Entry) → DeskKeeps (may_leave new) desk tail) b keeps file told in at.holds;
    any_moment = run_on old mid new opening b moments;
  }

  pub gives_up_on : (old mid new : D) (opening : OpeningState) (why : DeskFault) → Began old mid opening
      → AtMid mid opening (λ f. RefusesDesk terms f why) → AtMid mid opening (λ f. IsRefusal why → reads new ≡ Some f)
      → AtMid mid opening (λ f. LeavesOnly moment left_since mid new (StandsSame terms f)) → GivesUp reads may_leave moment left_since terms old new why
  gives_up_on old mid new opening why b refused untouched moments = record {
    refused = λ file told.
        let at = found old mid opening (λ f. RefusesDesk terms f why) b refused file told in
        refused_before terms file at.mid_file at.kept why at.holds;
    untouched = λ file told is.
        let at = found old mid opening (λ f. RefusesDesk terms f why × (IsRefusal why → reads new ≡ Some f)) b (λ f t s d. (refused f t s d, untouched f t s d)) file told in
        untouched_before terms file at.mid_file (reads new) at.kept why at.holds.0 (at.holds.1 is) is;
    any_moment = run_on old mid new opening b moments;
  }

  -- where the journal isn't opened
  pub gives_up_first : (old new : D) (why : OpeningFault) → ((at : ℕ) → why ≡ OpeningFault.BadLength at → ⊥) → ((at : ℕ) → why ≡ OpeningFault.NotAJournal at → reads new ≡ reads old)
      → ((file : List ℕ) → reads old ≡ Some file → Refuses file why) → LeavesOnly moment left_since old new (StandsAsPayloads (may_leave old) (reads old))
      → GivesUp reads may_leave moment left_since terms old new (fault_of why)
  gives_up_first old new why deny same refuses run = record {
    refused = λ file told. head_refused terms file why deny (refuses file told);
    untouched = λ file told is. head_untouched (reads old) (reads new) file why deny same (refuses file told) told is;
    any_moment = λ file told. begun_moments reads may_leave moment left_since terms old new run;
  }

  -- if memory is refused before the disk is read
  pub gives_up_nothing : (disk : D) → ((c : List ℕ) → left_since disk (moment disk) c → may_leave disk c) → GivesUp reads may_leave moment left_since terms disk disk DeskFault.OutOfMemory
  gives_up_nothing disk now = record {
    refused = λ file told. tt;
    untouched = λ file told is. absurd is;
    any_moment = λ file told. started moment left_since disk (StandsAsRead terms (may_leave disk) (reads disk)) (λ c left. inl (now c left));
  }
