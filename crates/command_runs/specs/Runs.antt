-- How a command ran over a source and a sink. This project's own.
use Rattle.std.specs.Prelude.{◌≡◌, ◌≢◌, ◌≤◌, ℕ, Result, Err}
use Rattle.adx_io.specs.Streams.{Rises, WhereTold}
use Rattle.adx_io.specs.declared.source.Source as source
use Rattle.adx_io.specs.declared.sink.Sink as sink
use Rattle.adx_io.specs.declared.stop.Stop.{Stop}
use Rattle.command_runs.specs.declared.outcome.Outcome.{Outcome}
use Rattle.command_runs.specs.Meanings.{Meaning, Wrote}
use Rattle.command_runs.specs.Statuses.{status_by}

-- The counts of faults of a source and a sink: one rises where its fault stopped the run, and stays in all other runs.
pub record HasRunCauses (read read_now write write_now : ℕ) (result : Result Outcome Stop) : Type 0 where
  pub read_later : read ≤ read_now
  pub write_later : write ≤ write_now
  pub read_fault : result ≡ Err Stop.ReadFault → Rises read read_now
  pub write_fault : result ≡ Err Stop.WriteFault → Rises write write_now
  pub read_same : result ≢ Err Stop.ReadFault → read_now ≡ read
  pub write_same : result ≢ Err Stop.WriteFault → write_now ≡ write

-- A command of this meaning ran over a source and a sink, and ended so.
pub record Runs {S K : Type 0} (s : source.Ghosts S) (k : sink.Ghosts K) (m : Meaning) (old new : S) (sink_old sink_new : K)
    (result : Result Outcome Stop) : Type 0 where
  -- what it wrote for what it took, where the source reports its bytes
  pub wrote : WhereTold (s.tape old) (s.tape new)
      (λ before now. Wrote m before.left now.left (k.held sink_old) (k.held sink_new) result)
  -- the causes of its end
  pub causes : HasRunCauses (s.faults old) (s.faults new) (k.faults sink_old) (k.faults sink_new) result
  -- the source and the sink use what they used before
  pub source_same : s.place new ≡ s.place old
  pub sink_same : k.place sink_new ≡ k.place sink_old

-- A command ran so, and its exit status says how it ended. On its course it left what it uses so, and wrote what it
-- means on that course.
pub record RunsAs {S K W C : Type 0} (s : source.Ghosts S) (k : sink.Ghosts K)
    (leaves : W → W → C → Result Outcome Stop → Type 0) (meaning : C → Meaning)
    (old new : S) (sink_old sink_new : K) (world_old world_new : W) (status : ℕ) : Type 0 where
  pub course : C
  pub ended : Result Outcome Stop
  pub told : status ≡ status_by ended
  pub left : leaves world_old world_new course ended
  pub runs : Runs s k (meaning course) old new sink_old sink_new ended
