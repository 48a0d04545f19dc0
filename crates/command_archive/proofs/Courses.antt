-- A command's course from those of its calls.
use Rattle.std.proofs.Common.{◌≡◌, inl, inr, arith, ℕ, List, Option, Some, None, Result, Ok, Err, refl, sym, subst}
use Rattle.std.specs.Prelude.{IsOk, OnErr}
use Rattle.std.proofs.lemmas.Bool.{false≢true}
use Rattle.adx_io.specs.Streams.{WhereTold}
use Rattle.day_archive.specs.declared.row.DayRow.{DayRow}
use Rattle.day_archive.specs.declared.refusal.KeeperRefusal.{KeeperRefusal}
use Rattle.day_archive.specs.Kept.{Archive}
use Rattle.day_archive.specs.Answers.{HasKeeperCause, TellsDays}
use Rattle.adx_units.specs.declared.memory.OutOfMemory.{OutOfMemory}
use Rattle.command_archive.specs.declared.filing.Filing.{Filing}
use Rattle.command_archive.specs.Courses.{IsAtMostUpgraded, ending, Counts, PutsUpgraded, rows_in}

-- what is told of two calls, one after the other
pub told_then : {T : Type 0} (R S Q : T → T → Type 0) (a b c : Option T) → ((x y z : T) → R x y → S y z → Q x z) → WhereTold a b R → WhereTold b c S → WhereTold a c Q
told_then R S Q None None c f r s = s
told_then R S Q None (Some y) c f r s = absurd (grind (arith, r))
told_then R S Q (Some x) None c f r s = absurd r
told_then R S Q (Some x) (Some y) None f r s = s
told_then R S Q (Some x) (Some y) (Some z) f r s = f x y z r s

-- what is told means more
pub told_as : {T : Type 0} (R Q : T → T → Type 0) (a b : Option T) → ((x y : T) → R x y → Q x y) → WhereTold a b R → WhereTold a b Q
told_as R Q None b f r = r
told_as R Q (Some x) None f r = r
told_as R Q (Some x) (Some y) f r = f x y r

-- a put that was refused
refused_put : (rows : List DayRow) (answer : Result Unit KeeperRefusal) (x z : Archive) → (IsOk answer → ⊥) → PutsUpgraded rows answer x z → IsAtMostUpgraded x z
refused_put rows (Ok done) x z never p = absurd (never refl)
refused_put rows (Err (KeeperRefusal.DayThere day)) x z never p = inr p.1
refused_put rows (Err KeeperRefusal.BadRange) x z never p = inr p
refused_put rows (Err (KeeperRefusal.BadDate day)) x z never p = inr p
refused_put rows (Err KeeperRefusal.KeeperFault) x z never p = p

-- where a kept day's line is put always, no row is kept where no line was put
pub refused_course : (rows : List DayRow) (answer : Result Unit KeeperRefusal) (r : Result Filing OutOfMemory) (a b : Option Archive) → (IsOk answer → IsOk r) → WhereTold a b (PutsUpgraded rows answer) → OnErr r (WhereTold a b IsAtMostUpgraded)
refused_course rows answer (Ok end) a b kept p = tt
refused_course rows answer (Err refused) a b kept p =
    told_as (PutsUpgraded rows answer) IsAtMostUpgraded a b (λ x z. refused_put rows answer x z (λ h. false≢true (kept h))) p

-- nothing was done
pub untouched : (a : Option Archive) → WhereTold a a IsAtMostUpgraded
untouched None = refl
untouched (Some x) = inl refl

-- the same seen as a list
pub days_in : {T : Type 0} (view : T → List DayRow) (first last : List ℕ) (answer : Result T KeeperRefusal) → TellsDays first last answer → TellsDays first last (rows_in view answer)
days_in view first last (Ok rows) t = t
days_in view first last (Err (KeeperRefusal.DayThere day)) t = t
days_in view first last (Err KeeperRefusal.BadRange) t = t
days_in view first last (Err (KeeperRefusal.BadDate day)) t = t
days_in view first last (Err KeeperRefusal.KeeperFault) t = t

-- the count by how the command ends
counts : {T : Type 0} (before now : ℕ) (answer : Result T KeeperRefusal) → HasKeeperCause before now answer → Counts before now (ending answer)
counts before now (Ok x) c = c
counts before now (Err (KeeperRefusal.DayThere day)) c = c
counts before now (Err KeeperRefusal.BadRange) c = c
counts before now (Err (KeeperRefusal.BadDate day)) c = c
counts before now (Err KeeperRefusal.KeeperFault) c = c

pub counts_by : {T : Type 0} (before now : ℕ) (answer : Result T KeeperRefusal) (end : Filing) → end ≡ ending answer → HasKeeperCause before now answer → Counts before now end
counts_by before now answer end e c = subst (λ (f : Filing). Counts before now f) (sym e) (counts before now answer c)
