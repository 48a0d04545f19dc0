-- What the program writes for a script: what a line means, what a last piece is answered, and the closing table. This
-- project's own.
-- Example: a piece `{"tick` behind line 3 is refused as `{"answer":"refused","line":4,"why":"cut"}`, and the table
-- comes after it.
use Rattle.std.specs.Prelude.{◌≡◌, ◌⊎◌, ℕ, ◌<◌, ◌≤◌, List, [], ◌∷◌, ◌++◌, length, nat_lt, if◌then◌else◌}
use Rattle.adx_desk.specs.Rosters.{desk_terms}
use Rattle.day_rules.specs.declared.entry.Entry.{Entry}
use Rattle.day_rules.specs.Terms.{Terms}
use Rattle.command_runs.specs.Limits.{line_limit}
use Rattle.deal_floor.specs.declared.roster.Roster.{Roster}
use Rattle.script_lines.specs.Meanings.{Meaning, LineMeans, refused}
use Rattle.script_lines.specs.declared.refusal.Refusal.{Refusal}
use Rattle.script_lines.specs.declared.refusal.Refusal.TheVariants.{Cut, Long}
use Rattle.answer_lines.specs.Table.{closing_table}
use Rattle.script_lines.specs.Refusals.{refusal_line}

-- what the day of a roster is opened with
abbrev pub terms_by : Roster → Terms
terms_by r = (desk_terms r).day

-- what a whole line means: one above the limit of a line is refused
abbrev pub Means : Roster → List ℕ → Meaning → Type 0
Means r line m = ((line_limit < length line) × (m ≡ refused Long)) ⊎ ((length line ≤ line_limit) × LineMeans r line m)

-- why a last piece without a newline is refused
abbrev pub cut_why : List ℕ → Refusal
cut_why piece = if nat_lt line_limit (length piece) then Long else Cut

-- a last piece without a newline that isn't empty is refused
abbrev pub cut_line : ℕ → List ℕ → List ℕ
cut_line number [] = []
cut_line number (b ∷ bs) = refusal_line number (cut_why (b ∷ bs))

-- behind the answers to all lines: the refusal of a cut line, and the closing table
abbrev pub closing : Roster → ℕ → List ℕ → List Entry → List ℕ
closing r number last history = cut_line number last ++ closing_table r.campaigns (terms_by r) history
