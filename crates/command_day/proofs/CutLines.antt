-- The refusal of a last piece: none without bytes, a cut one, and a long one.
use Rattle.std.proofs.Common.{◌≡◌, ◌<◌, ◌≤◌, ℕ, List, ◌++◌, length}
use Rattle.script_lines.specs.Refusals.{refusal_line}
use Rattle.history_runs.specs.Script.{cut_line}
use Rattle.command_runs.specs.Limits.{line_limit}
use Rattle.script_lines.specs.declared.refusal.Refusal.{Refusal}
use Rattle.history_runs.proofs.AnswerLaws.{cut_long as long_cut, cut_none as none_cut, cut_short as short_cut, dropped_line as dropped, kept_line as kept_so, kept_short as short_kept, line_short as short_line}
use Rattle.adx_io.specs.Lines.{Keeps}
use Rattle.std.proofs.Common.{Bool, true, false}

pub cut_none : (number : ℕ) (kept line : List ℕ) → kept ≡ line → length kept ≡ 0 → (old : List ℕ) → old ≡ old ++ cut_line number line
cut_none number kept line same none old = none_cut number kept line same none old

pub cut_short : (number : ℕ) (line : List ℕ) → 1 ≤ length line → length line ≤ line_limit → refusal_line number Refusal.Cut ≡ cut_line number line
cut_short number line some short = short_cut number line some short

pub cut_long : (number : ℕ) (line : List ℕ) → line_limit < length line → refusal_line number Refusal.Long ≡ cut_line number line
cut_long number line long = long_cut number line long

-- the line that is kept is the line that was read
pub kept_line : (limit : ℕ) (overlong : Bool) (kept line : List ℕ) → overlong ≡ false → Keeps limit overlong kept line → kept ≡ line
kept_line limit overlong kept line short keeps = kept_so limit overlong kept line short keeps

pub dropped_line : (limit : ℕ) (overlong : Bool) (kept line : List ℕ) → overlong ≡ true → Keeps limit overlong kept line → limit < length line
dropped_line limit overlong kept line long keeps = dropped limit overlong kept line long keeps

pub kept_short : (limit : ℕ) (overlong : Bool) (kept line : List ℕ) → overlong ≡ false → Keeps limit overlong kept line → length kept ≤ limit
kept_short limit overlong kept line short keeps = short_kept limit overlong kept line short keeps

pub line_short : (limit : ℕ) (overlong : Bool) (kept line : List ℕ) → overlong ≡ false → Keeps limit overlong kept line → length line ≤ limit
line_short limit overlong kept line short keeps = short_line limit overlong kept line short keeps
