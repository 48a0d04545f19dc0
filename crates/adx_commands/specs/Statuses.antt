-- The causes of the exit statuses of a fault. This project's own.
use Rattle.std.specs.Prelude.{◌≡◌, ◌≢◌, ◌⊎◌, ℕ, ◌≤◌}
use Rattle.adx_io.specs.Streams.{Rises}

-- the counts of faults of a source and of a sink rise exactly at their statuses
pub record HasCauses (source source_now sink sink_now status : ℕ) : Type 0 where
  pub read_fault : status ≡ 4 → Rises source source_now
  pub read_passed : status ≢ 4 → source_now ≡ source
  pub write_fault : status ≡ 5 → Rises sink sink_now
  pub write_passed : status ≢ 5 → sink_now ≡ sink
  pub source_later : source ≤ source_now
  pub sink_later : sink ≤ sink_now

-- that of a disk rises at its status, and stays where the disk's fault gave up nothing
pub record HasDiskCauses (disk disk_now status : ℕ) : Type 0 where
  pub disk_fault : status ≡ 6 → Rises disk disk_now
  pub disk_passed : (status ≡ 0) ⊎ (status ≡ 7) → disk_now ≡ disk
  pub disk_later : disk ≤ disk_now
