-- How a line is answered, by what it means.
use Rattle.std.proofs.Common.{◌≡◌, ◌<◌, ◌≤◌, inl, inr, ℕ, List, [], ◌∷◌, ◌++◌, length, get_or, Bool, true, false, refl, sym, ap, ◌∙◌, subst, arith, append-nil, if◌then◌else◌}
use Rattle.std.proofs.lemmas.Bool.{le-ltb, lt-ltb}
use Rattle.std.proofs.lemmas.List.{length-map}
use Rattle.adx_io.specs.Lines.{Keeps}
use Rattle.adx_desk.specs.Desks.{OnDisk}
use Rattle.day_rules.specs.Replies.{Call}
use Rattle.day_rules.specs.Terms.{Terms}
use Rattle.command_runs.specs.Limits.{line_limit}
use Rattle.deal_floor.specs.declared.roster.Roster.{Roster}
use Rattle.deal_floor.specs.declared.campaign.Campaign.{Campaign}
use Rattle.script_lines.specs.Meanings.{calls, refused}
use Rattle.script_lines.specs.declared.refusal.Refusal.{Refusal}
use Rattle.history_runs.specs.Answering.{AnswersCall, AnswersTo, LeavesUnwritten}
use Rattle.adx_desk.specs.Answering.{LeavesCall}
use Rattle.adx_desk.specs.Meanings.{Told, call_answer}
use Rattle.history_runs.specs.Output.{writing}
use Rattle.script_lines.specs.Refusals.{refusal_line}
use Rattle.history_runs.specs.Script.{Means, terms_by, cut_line}

-- the call of a line was answered, and its line written
pub call_answered : {D : Type 0} (faults : D → ℕ) (may_leave : D → List ℕ → Type 0) (moment : D → ℕ) (left_since : D → ℕ → List ℕ → Type 0) (roster : Roster) (old new : OnDisk D) (number : ℕ) (IsKept : List ℕ → Type 0) (c : Call) (out_old out_new : List ℕ)
    → old.desk.terms.day ≡ terms_by roster → ((line : List ℕ) → IsKept line → Means roster line (calls c))
    → AnswersCall faults may_leave moment left_since roster.campaigns old new c out_old out_new
    → AnswersTo faults may_leave moment left_since roster old new number IsKept out_old out_new
call_answered faults may_leave moment left_since roster old new number IsKept c out_old out_new opened means a = record {
  told = a.told ∷ [];
  out = call_answer (writing roster.campaigns) old.desk.terms.day old.desk.history a.told;
  serves = a.serves;
  answered = λ line kept. record {
    meaning = calls c;
    means = means line kept;
    answered = (a.told, a.same, refl, ap (λ (x : Terms). call_answer (writing roster.campaigns) x old.desk.history a.told) opened);
  };
  written = a.written;
}

-- memory was refused for it
pub call_unwritten : {D : Type 0} (faults : D → ℕ) (may_leave : D → List ℕ → Type 0) (moment : D → ℕ) (left_since : D → ℕ → List ℕ → Type 0) (roster : Roster) (old new : OnDisk D) (IsKept : List ℕ → Type 0) (c : Call)
    → ((line : List ℕ) → IsKept line → Means roster line (calls c)) → LeavesCall faults may_leave moment left_since old new c → LeavesUnwritten faults may_leave moment left_since roster old new IsKept
call_unwritten faults may_leave moment left_since roster old new IsKept c means (inl same) = record {
  told = [];
  serves = same;
  means = λ t is line kept. absurd (cc is);
}
call_unwritten faults may_leave moment left_since roster old new IsKept c means (inr (told, is_call, serves)) = record {
  told = told ∷ [];
  serves = serves;
  means = λ t is line kept. subst (λ k. Means roster line (calls k)) (sym is_call ∙ ap (λ (l : List Told). (get_or l 0 told).call) is) (means line kept);
}

-- a line that is refused is no call
pub line_refused : {D : Type 0} (faults : D → ℕ) (may_leave : D → List ℕ → Type 0) (moment : D → ℕ) (left_since : D → ℕ → List ℕ → Type 0) (roster : Roster) (desk : OnDisk D) (number : ℕ) (IsKept : List ℕ → Type 0) (out_old out_new : List ℕ) (why : Refusal)
    → ((line : List ℕ) → IsKept line → Means roster line (refused why)) → out_new ≡ out_old ++ refusal_line number why
    → AnswersTo faults may_leave moment left_since roster desk desk number IsKept out_old out_new
line_refused faults may_leave moment left_since roster desk number IsKept out_old out_new why means written = record {
  told = [];
  out = refusal_line number why;
  serves = refl;
  answered = λ line kept. record { meaning = refused why; means = means line kept; answered = (refl, refl) };
  written = written;
}

-- as many budgets as campaigns
pub budgets_counted : (roster : Roster) (terms : Terms) → terms ≡ terms_by roster → length terms.budgets ≡ length roster.campaigns
budgets_counted roster terms opened = ap (λ (t : Terms). length t.budgets) opened ∙ length-map roster.campaigns (λ (c : Campaign). c.budget)

-- the line that is kept is the line that was read
pub kept_line : (limit : ℕ) (overlong : Bool) (kept line : List ℕ) → overlong ≡ false → Keeps limit overlong kept line → kept ≡ line
kept_line limit true kept line short keeps = absurd (cc short)
kept_line limit false kept line short keeps = keeps.0

pub dropped_line : (limit : ℕ) (overlong : Bool) (kept line : List ℕ) → overlong ≡ true → Keeps limit overlong kept line → limit < length line
dropped_line limit true kept line long keeps = keeps
dropped_line limit false kept line long keeps = absurd (cc long)

pub kept_short : (limit : ℕ) (overlong : Bool) (kept line : List ℕ) → overlong ≡ false → Keeps limit overlong kept line → length kept ≤ limit
kept_short limit true kept line short keeps = absurd (cc short)
kept_short limit false kept line short keeps = subst (λ l. length l ≤ limit) (sym keeps.0) keeps.1

pub line_short : (limit : ℕ) (overlong : Bool) (kept line : List ℕ) → overlong ≡ false → Keeps limit overlong kept line → length line ≤ limit
line_short limit true kept line short keeps = absurd (cc short)
line_short limit false kept line short keeps = keeps.1

-- a line that was read and kept: what is answered to its bytes is answered to it
kept_is : (overlong : Bool) (kept text line : List ℕ) → overlong ≡ false → text ≡ kept → Keeps line_limit overlong kept line → (line ≡ text) × (length line ≤ line_limit)
kept_is overlong kept text line short same keeps = (sym (same ∙ kept_line line_limit overlong kept line short keeps), line_short line_limit overlong kept line short keeps)

pub answered_kept : {D : Type 0} (faults : D → ℕ) (may_leave : D → List ℕ → Type 0) (moment : D → ℕ) (left_since : D → ℕ → List ℕ → Type 0) (roster : Roster) (old new : OnDisk D) (number : ℕ) (overlong : Bool) (kept text out_old out_new : List ℕ)
    → overlong ≡ false → text ≡ kept → AnswersTo faults may_leave moment left_since roster old new number (λ l. (l ≡ text) × (length l ≤ line_limit)) out_old out_new
    → AnswersTo faults may_leave moment left_since roster old new number (Keeps line_limit overlong kept) out_old out_new
answered_kept faults may_leave moment left_since roster old new number overlong kept text out_old out_new short same a = record {
  told = a.told;
  out = a.out;
  serves = a.serves;
  answered = λ line keeps. a.answered line (kept_is overlong kept text line short same keeps);
  written = a.written;
}

pub unwritten_kept : {D : Type 0} (faults : D → ℕ) (may_leave : D → List ℕ → Type 0) (moment : D → ℕ) (left_since : D → ℕ → List ℕ → Type 0) (roster : Roster) (old new : OnDisk D) (overlong : Bool) (kept text : List ℕ)
    → overlong ≡ false → text ≡ kept → LeavesUnwritten faults may_leave moment left_since roster old new (λ l. (l ≡ text) × (length l ≤ line_limit))
    → LeavesUnwritten faults may_leave moment left_since roster old new (Keeps line_limit overlong kept)
unwritten_kept faults may_leave moment left_since roster old new overlong kept text short same left = record {
  told = left.told;
  serves = left.serves;
  means = λ t is line keeps. left.means t is line (kept_is overlong kept text line short same keeps);
}

-- a last piece without bytes, a cut one, and a long one
pub cut_none : (number : ℕ) (kept line : List ℕ) → kept ≡ line → length kept ≡ 0 → (old : List ℕ) → old ≡ old ++ cut_line number line
cut_none number [] line same none old = sym (ap (λ l. old ++ cut_line number l) (sym same) ∙ append-nil old)
cut_none number (b ∷ kept) line same none old = absurd (omega (arith, none))

pub cut_short : (number : ℕ) (line : List ℕ) → 1 ≤ length line → length line ≤ line_limit → refusal_line number Refusal.Cut ≡ cut_line number line
cut_short number [] some short = absurd (omega (arith, some))
cut_short number (b ∷ bs) some short = ap (λ (long : Bool). refusal_line number (if long then Refusal.Long else Refusal.Cut)) (sym (le-ltb line_limit (length (b ∷ bs)) short))

pub cut_long : (number : ℕ) (line : List ℕ) → line_limit < length line → refusal_line number Refusal.Long ≡ cut_line number line
cut_long number [] long = absurd (omega (arith, long))
cut_long number (b ∷ bs) long = ap (λ (is : Bool). refusal_line number (if is then Refusal.Long else Refusal.Cut)) (sym (lt-ltb line_limit (length (b ∷ bs)) long))
