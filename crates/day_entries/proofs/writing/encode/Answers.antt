use Rattle.std.proofs.Common.{◌+◌, ◌≤◌, length, ap, subst, arith}
use Rattle.day_entries.specs.declared.numbers.Numbers.{Numbers}
use Rattle.adx_io.specs.Frames.{FrameState}
use Rattle.day_entries.specs.Entries.{entry}
use Rattle.day_entries.proofs.writing.encode.Goals as goal

pub returns-then-is_err-clause-spare : goal.returns-then-is_err-clause-spare
returns-then-is_err-clause-spare c =
    λ kind. subst (λ (n : Numbers). c.args.out.now.spare ≤ c.take_back.new.self.spare + length ((entry n).write c.args.entry.now)) c.of.ensures
    (omega (arith, c.push_entry-added.ensures.spare kind, c.take_back.ensures.spare, ap (λ (f : FrameState). f.spare) c.mark.ensures))
