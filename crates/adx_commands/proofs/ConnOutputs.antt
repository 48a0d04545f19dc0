-- Days that are alike have one output for one input.
use Rattle.std.proofs.Common.{◌≡◌, ◌<◌, ℕ, List, ◌++◌, Option, Some, None, refl, sym, ap, ◌∙◌, subst, arith}
use Rattle.command_day.specs.Days.{IsWhole}
use Rattle.command_day.proofs.OneHead.{Refused, Told as HeadTold, refused_as, refused_same, told_as, told_same}
use Rattle.command_runs.specs.Limits.{input_limit, line_limit}
use Rattle.command_runs.specs.declared.outcome.Outcome.{Outcome}
use Rattle.http_service.specs.ConnectionRuns.{most_beyond}
use Rattle.http_service.proofs.OneConnection.{one_output}
use Rattle.deal_floor.specs.declared.roster.Roster.{Roster}
use Rattle.exchange_messages.specs.Floors.{IsMomentOf}
use Rattle.exchange_http.proofs.OneReply.{one_reply}
use Rattle.exchange_messages.specs.Courses.{AnswersOn, GivesUpOn, begun}
use Rattle.history_runs.specs.Rosters.{roster_heads}
use Rattle.http_service.specs.declared.limits.TheConstants.{REQUEST_LIMIT}
use Rattle.adx_commands.specs.RosterLinks.{WorksByTexts}
use Rattle.history_runs.specs.Output.{unopened_line}
use Rattle.script_lines.specs.Refusals.{roster_refused_line}
use Rattle.script_lines.specs.Rosters.{IsRosterLine}
use Rattle.script_lines.proofs.OneMeaning.{one_refusal, one_roster, roster_not_refused}
use Rattle.adx_commands.specs.Exchanges.{Day, conn_command, means, was_given_up, was_served, was_unbegun}
use Rattle.adx_commands.specs.ConnLaws.{AreAlike, AreAlikeDays, HasOneOutput}

-- first lines
one_refusal_line : (line out whole : List ℕ) → roster_heads.refuses line out → roster_heads.refuses line whole → out ≡ whole
one_refusal_line line out whole (why, refuses, said) (why', refuses', said') = said ∙ ap roster_refused_line (one_refusal line why why' refuses refuses') ∙ sym said'

not_both : (line : List ℕ) (r : Roster) (out : List ℕ) → IsRosterLine line r → roster_heads.refuses line out → ⊥
not_both line r out tells (why, refuses, said) = roster_not_refused line r why tells refuses

longer : line_limit < input_limit
longer = omega arith

abbrev FirstRefused : List ℕ → List ℕ → Type 0
FirstRefused = Refused roster_heads input_limit longer one_roster one_refusal_line not_both

abbrev FirstTold : List ℕ → Roster → List ℕ → List ℕ → Type 0
FirstTold = HeadTold roster_heads input_limit longer one_roster one_refusal_line not_both

-- the run ended of its own on the rest of the input, which this was taken of
abbrev Ended : Roster → Day → List ℕ → List ℕ → Type 0
Ended r day rest out = (outcome : Outcome) × (taken left : List ℕ) × (rest ≡ taken ++ left) × (means r day).ends outcome taken left out

-- a whole output: the refusal of the first line; or that of what comes after a roster's
abbrev Whole : Option (Roster × Day) → List ℕ → List ℕ → Type 0
Whole None input out = FirstRefused input out
Whole (Some (r, day)) input out = (line rest : List ℕ) × FirstTold input r line rest × Ended r day rest out

whole_of : (course : Option (Roster × Day)) (input out : List ℕ) → IsWhole (conn_command course) input out → Whole course input out
whole_of None input out (outcome, taken, left, is, (ends, e)) =
    subst (λ i. FirstRefused i out) (sym is) (refused_as roster_heads input_limit longer one_roster one_refusal_line not_both taken left out e)
whole_of (Some (r, day)) input out (outcome, taken, left, is, e) =
    let t = told_as roster_heads input_limit longer one_roster one_refusal_line not_both r (λ allowed more. (means r day).ends outcome more left out) taken left e in
    (t.0, t.1 ++ left, subst (λ i. FirstTold i r t.0 (t.1 ++ left)) (sym is) t.2, (outcome, t.1, left, refl, t.3))

-- after one roster's line
one_behind : (r : Roster) (day other : Day) (rest out whole : List ℕ) → AreAlikeDays day other → Ended r day rest out → Ended r other rest whole → out ≡ whole
one_behind r was_unbegun was_unbegun rest out whole alike (outcome, taken, left, is, (never, few, said)) y = absurd (cc never)
one_behind r was_unbegun (was_given_up why) rest out whole alike x y = absurd alike
one_behind r was_unbegun (was_served start lanes course) rest out whole alike x y = absurd alike
one_behind r (was_given_up why) was_unbegun rest out whole alike x y = absurd alike
one_behind r (was_given_up why) (was_given_up why') rest out whole alike (outcome, taken, left, is, (ends, few, said)) (outcome', taken', left', is', (ends', few', said')) =
    said ∙ ap unopened_line alike ∙ sym said'
one_behind r (was_given_up why) (was_served start lanes course) rest out whole alike x y = absurd alike
one_behind r (was_served start lanes course) was_unbegun rest out whole alike x y = absurd alike
one_behind r (was_served start lanes course) (was_given_up why) rest out whole alike x y = absurd alike
one_behind r (was_served start lanes course) (was_served start' lanes' course') rest out whole alike (outcome, taken, left, is, (may, e)) (outcome', taken', left', is', (may', e')) =
    let answers = AnswersOn WorksByTexts (IsMomentOf (Some r.now)) r in
    let gives = GivesUpOn WorksByTexts (IsMomentOf (Some r.now)) r in
    one_output REQUEST_LIMIT answers answers gives gives most_beyond (begun lanes) (begun lanes') course course' taken left out taken' left' whole
    (λ ms put put' a b. one_reply WorksByTexts (Some r.now) (Some r.now) r lanes lanes' ms put put' course course' a b alike) (sym is ∙ is') e e'

-- the rest of one first line is that of the other
moved : (input whole : List ℕ) (r s : Roster) (line line' rest rest' : List ℕ) (day : Day) → FirstTold input r line rest → FirstTold input s line' rest' → Ended s day rest' whole → Ended r day rest whole
moved input whole r s line line' rest rest' day a b e =
    let same = told_same roster_heads input_limit longer one_roster one_refusal_line not_both input r s line line' rest rest' a b in
    subst (λ (t : Roster). Ended t day rest whole) (sym same.0) (subst (λ (i : List ℕ). Ended s day i whole) (sym same.2) e)

one_whole : (course other : Option (Roster × Day)) (input out whole : List ℕ) → AreAlike course other → Whole course input out → Whole other input whole → out ≡ whole
one_whole None None input out whole alike a b = refused_same roster_heads input_limit longer one_roster one_refusal_line not_both input out whole a b
one_whole None (Some other) input out whole alike a b = absurd alike
one_whole (Some course) None input out whole alike a b = absurd alike
one_whole (Some (r, day)) (Some (s, other)) input out whole alike (line, rest, first, e) (line', rest', also, e') =
    one_behind r day other rest out whole alike e (moved input whole r s line line' rest rest' other first also e')

pub has_one_output : HasOneOutput
has_one_output course other input out whole alike a b = one_whole course other input out whole alike (whole_of course input out a) (whole_of other input whole b)
