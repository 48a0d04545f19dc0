-- Memory was refused before a command on the archive began.
use Rattle.std.proofs.Common.{inr, ℕ, List, Option, Err, refl, zero-le}
use Rattle.adx_io.specs.declared.sink.Sink as sink
use Rattle.adx_io.specs.declared.source.Source as source
use Rattle.adx_io.specs.declared.stop.Stop.{Stop}
use Rattle.command_archive.specs.Keeps.{KeepsAs, keeps, unasked}
use Rattle.command_archive.specs.Lists.{ListsAs, unlisted}
use Rattle.command_archive.specs.declared.list.Query.{Query}
use Rattle.command_runs.specs.Documents.{document}
use Rattle.command_runs.specs.Limits.{document_limit}
use Rattle.command_runs.proofs.Ran.{unbegun_counted, unbegun_wrote}
use Rattle.day_archive.specs.declared.keeper.Keeper as keeper
use Rattle.command_archive.proofs.Put.{untouched}

pub unkept : {S K P : Type 0} (s : source.Ghosts S) (k : sink.Ghosts K) (p : keeper.Ghosts P) (from : S) (to : K) (archive : P)
    → KeepsAs s k p from from to to archive archive 12
unkept s k p from to archive = record {
  course = unasked;
  ended = Err Stop.OutOfMemory;
  told = refl;
  left = (refl, tt);
  runs = record {
    wrote = unbegun_wrote (document document_limit (keeps unasked)) (s.tape from) (k.held to) (λ left. (refl, inr (refl, zero-le)));
    causes = unbegun_counted (s.faults from) (k.faults to);
    source_same = refl;
    sink_same = refl;
  };
}

pub unlisted_days : {P : Type 0} (p : keeper.Ghosts P) (q : Query) (archive : P) (held : Option (List ℕ)) → ListsAs p q archive archive held held 12
unlisted_days p q archive held = record { listing = unlisted; ended = Err Stop.OutOfMemory; told = refl; left = untouched p archive; puts = refl }
