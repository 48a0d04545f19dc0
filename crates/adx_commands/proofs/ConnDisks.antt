-- What a connection on a desk leaves on its disk, where the desk was opened on a loan of it, and how its run ends.
use Rattle.std.proofs.Common.{◌≡◌, ◌≢◌, ◌⊎◌, ◌∙◌, inl, inr, refl, sym, subst, arith, ℕ, zero, suc, ◌+◌, ◌<◌, ◌≤◌, min, List, [], ◌∷◌, length, Option, Some, None}
use Rattle.std.proofs.lemmas.List.Elements.{All-nil, All-cons}
use Rattle.day_journal.specs.Disks.{Each, LeavesOnly}
use Rattle.adx_io.specs.Fakes.{counted}
use Rattle.adx_io.specs.Streams.{last_count}
use Rattle.adx_desk.specs.Desks.{DeskKeeps, OnDisk}
use Rattle.adx_desk.specs.Histories.{DeskTerms, WithOrWithout}
use Rattle.adx_desk.specs.Opened.{Opens}
use Rattle.adx_desk.specs.Openings.{StandsAsRead}
use Rattle.adx_desk.proofs.Keeping.{keeps_histories}
use Rattle.answer_lines.specs.declared.faults.Fault.{Fault}
use Rattle.day_journal.proofs.Moments.{joined}
use Rattle.day_rules.specs.declared.entry.Entry.{Entry}
use Rattle.day_rules.specs.Runs.{AreTurns}
use Rattle.day_rules.specs.Terms.{Terms}
use Rattle.adx_desk.proofs.RunsCounts.{among_later}
use Rattle.adx_desk.specs.Records.{CountsAmong, MayBeLeftBy, IsLeftInDoubt, RaisesAmong, RunsOn, StandsInRunFrom, count_after, raised}
use Rattle.day_rules.specs.RunBooks.{HasBooks}
use Rattle.adx_desk.specs.Courses.{HasNoDiskFault}
use Rattle.adx_desk.specs.Meanings.{Told, turns_of}
use Rattle.adx_desk.specs.OnDisk.{FullEach, history_after}
use Rattle.adx_commands.specs.ConnDisks.{KeepsHistory, ServesTogether, StandsAmong}

-- no record is in doubt after a run, or one of the run, where none was before it
doubt_of : (terms : Terms) (start : List Entry) (told : List Told) (next : List Entry) → MayBeLeftBy terms start told [] next → (next ≡ []) ⊎ IsLeftInDoubt terms start told next
doubt_of terms start told next (inl none) = inl none
doubt_of terms start told next (inr (inl (same, still))) = inl same
doubt_of terms start told next (inr (inr doubted)) = inr doubted

-- the counts of a disk over calls never fall
pub counts_later : (told : List Told) (before now : ℕ) → CountsAmong before told now → before ≤ now
counts_later told before now counts = among_later before now told counts

-- a desk that counted no fault answered none of its calls so
more_by : (n last : ℕ) → 0 < last → 0 < min (n + 1) last
more_by n last some = omega (arith, some)

counts_some : 0 < last_count
counts_some = omega arith

counted_more : (n : ℕ) → 0 < counted n
counted_more n = more_by n last_count counts_some

raised_keeps : (times n : ℕ) → 0 < n → 0 < raised times n
raised_keeps zero n some = some
raised_keeps (suc times) n some = raised_keeps times (counted n) (counted_more n)

after_keeps : (fault : Option Fault) (n : ℕ) → 0 < n → 0 < count_after fault n
after_keeps None n some = some
after_keeps (Some Fault.Disk) n some = counted_more n
after_keeps (Some (Fault.JournalFull size)) n some = some

among_keeps : (told : List Told) (before now : ℕ) → 0 < before → RaisesAmong before told now → 0 < now
among_keeps [] before now some is = subst (λ (n : ℕ). 0 < n) (sym is) some
among_keeps (t ∷ told) before now some (times, any, rest) =
    among_keeps told (count_after t.fault (raised times before)) now (after_keeps t.fault (raised times before) (raised_keeps times before some)) rest

none_by_fault : (told : List Told) (t : Told) (fault : Option Fault) (n : ℕ) → t.fault ≡ fault → RaisesAmong (count_after fault n) told 0 → t.fault ≢ Some Fault.Disk
none_by_fault told t None n is rest = λ disk. absurd (cc (sym is ∙ disk))
none_by_fault told t (Some Fault.Disk) n is rest = absurd (no_less (among_keeps told (counted n) 0 (counted_more n) rest))
  where
    no_less : 0 < 0 → ⊥
    no_less less = omega (arith, less)
none_by_fault told t (Some (Fault.JournalFull size)) n is rest = λ disk. absurd (cc (sym is ∙ disk))

pub none_among : (told : List Told) (before : ℕ) → RaisesAmong before told 0 → HasNoDiskFault told
none_among [] before rest = All-nil (λ (t : Told). t.fault ≢ Some Fault.Disk)
none_among (t ∷ told) before (times, any, rest) =
    All-cons (λ (u : Told). u.fault ≢ Some Fault.Disk) t told (none_by_fault told t t.fault (raised times before) refl rest) (none_among told (count_after t.fault (raised times before)) rest)

-- each loan is one of a disk
module _ {D E : Type 0} (disk_of : E → D) (faults : D → ℕ) (reads : D → Option (List ℕ)) (may_leave : D → List ℕ → Type 0) (moment : D → ℕ) (left_since : D → ℕ → List ℕ → Type 0) where
  leaves_lent : (old new : E) (P : List ℕ → Type 0) → LeavesOnly (λ e. moment (disk_of e)) (λ e. left_since (disk_of e)) old new P → LeavesOnly moment left_since (disk_of old) (disk_of new) P
  leaves_lent old new P run = record { later = run.later; each = run.each; before = run.before }

  -- a desk was opened, and calls were taken on it
  serves_as : (terms : DeskTerms) (old : E) (desk now : OnDisk E) (told : List Told)
      → Opens (λ e. reads (disk_of e)) (λ e. may_leave (disk_of e)) (λ e. moment (disk_of e)) (λ e. left_since (disk_of e)) terms old desk.disk desk.desk
      → faults (disk_of desk.disk) ≡ faults (disk_of old)
      → RunsOn (λ e. faults (disk_of e)) (λ e. may_leave (disk_of e)) (λ e. moment (disk_of e)) (λ e. left_since (disk_of e)) desk now told
      → HasBooks desk.desk.terms.day desk.desk.history (turns_of told) now.desk.history
      → ServesTogether faults reads may_leave moment left_since terms desk.desk.history told (disk_of old) (disk_of now.disk)
  serves_as terms old desk now told opens same_count run books =
      let start = desk.desk.history in record {
        begins = opens.history;
        taken = subst (λ (t : DeskTerms). AreTurns (length t.day.budgets) (turns_of told)) opens.same_terms run.taken;
        books = subst (λ (t : DeskTerms). HasBooks t.day start (turns_of told) (history_after t.day start told)) opens.same_terms
            (subst (HasBooks desk.desk.terms.day start (turns_of told)) run.history books);
        counted = subst (λ (n : ℕ). CountsAmong n told (faults (disk_of now.disk))) same_count run.counted;
        full = subst (λ (t : DeskTerms). FullEach t start told) opens.same_terms run.full;
        keeps = λ file is. kept (run.keeps [] (opens.keeps file is []));
        any_moment = λ file is.
            joined moment left_since (disk_of old) (disk_of desk.disk) (disk_of now.disk)
            (StandsAsRead terms (may_leave (disk_of old)) (reads (disk_of old))) (StandsInRunFrom terms start [] told) (StandsAmong terms (may_leave (disk_of old)) (reads (disk_of old)) start told)
            (leaves_lent old desk.disk (StandsAsRead terms (may_leave (disk_of old)) (reads (disk_of old))) (opens.any_moment file is))
            (leaves_lent desk.disk now.disk (StandsInRunFrom terms start [] told)
            (subst (λ (t : DeskTerms). LeavesOnly (λ e. moment (disk_of e)) (λ e. left_since (disk_of e)) desk.disk now.disk (StandsInRunFrom t start [] told)) opens.same_terms (run.any_moment [] (opens.keeps file is []))))
            (λ c was. inl was) (λ c left. inr left);
      }
    where
      kept : ((next : List Entry) × MayBeLeftBy desk.desk.terms.day desk.desk.history told [] next × DeskKeeps (may_leave (disk_of now.disk)) now.desk next) → KeepsHistory (may_leave (disk_of now.disk)) terms desk.desk.history told
      kept (next, left, keeps) = record {
        tail = next;
        doubted = doubt_of terms.day desk.desk.history told next (subst (λ (t : DeskTerms). MayBeLeftBy t.day desk.desk.history told [] next) opens.same_terms left);
        each = subst (λ (t : DeskTerms). Each (may_leave (disk_of now.disk)) (WithOrWithout t (history_after t.day desk.desk.history told) next)) opens.same_terms
            (subst (λ (h : List Entry). Each (may_leave (disk_of now.disk)) (WithOrWithout desk.desk.terms h next)) run.history
            (subst (λ (t : DeskTerms). Each (may_leave (disk_of now.disk)) (WithOrWithout t now.desk.history next)) run.terms
            (keeps_histories (may_leave (disk_of now.disk)) now.desk next keeps)));
      }

  -- the same of the disk before the loan and after it
  pub serves_lent : (terms : DeskTerms) (old : E) (desk now : OnDisk E) (told : List Told) (first last : D) → disk_of old ≡ first → disk_of now.disk ≡ last
      → Opens (λ e. reads (disk_of e)) (λ e. may_leave (disk_of e)) (λ e. moment (disk_of e)) (λ e. left_since (disk_of e)) terms old desk.disk desk.desk
      → faults (disk_of desk.disk) ≡ faults (disk_of old)
      → RunsOn (λ e. faults (disk_of e)) (λ e. may_leave (disk_of e)) (λ e. moment (disk_of e)) (λ e. left_since (disk_of e)) desk now told
      → HasBooks desk.desk.terms.day desk.desk.history (turns_of told) now.desk.history
      → ServesTogether faults reads may_leave moment left_since terms desk.desk.history told first last
  serves_lent terms old desk now told first last begins ends opens same_count run books =
      subst (λ (d : D). ServesTogether faults reads may_leave moment left_since terms desk.desk.history told first d) ends
      (subst (λ (d : D). ServesTogether faults reads may_leave moment left_since terms desk.desk.history told d (disk_of now.disk)) begins (serves_as terms old desk now told opens same_count run books))
