-- Days that are alike have one output for one input, and what the sink took at any point of a run is a prefix of each
-- output that goes on from there.
use Rattle.std.proofs.Common.{◌≡◌, ◌⊎◌, inl, inr, ℕ, ◌+◌, ◌-◌, ◌<◌, ◌≤◌, List, [], ◌∷◌, ◌++◌, map, length, Option, None, Result, Ok, Err, refl, sym, ap, ◌∙◌, append_assoc, append-nil, length-append, arith, subst}
use Rattle.std.proofs.lemmas.List.{map-append}
use Rattle.adx_desk.specs.declared.fault.DeskFault.{DeskFault}
use Rattle.adx_io.specs.Lines.{HasNoNewline}
use Rattle.adx_io.specs.Streams.{Tape, Took, WhereTold}
use Rattle.adx_io.specs.Talk.{ended}
use Rattle.adx_io.specs.declared.stop.Stop.{Stop}
use Rattle.answer_lines.specs.declared.faults.Fault.{Fault}
use Rattle.command_runs.specs.Meanings.{TookPrefix, Wrote}
use Rattle.command_runs.specs.Scripts.{Answered, CutShort}
use Rattle.command_runs.specs.Limits.{input_limit, line_limit}
use Rattle.command_runs.specs.declared.outcome.Outcome.{Outcome}
use Rattle.command_runs.proofs.Told.{told_map}
use Rattle.day_rules.specs.Terms.{Terms}
use Rattle.day_rules.specs.declared.entry.Entry.{Entry}
use Rattle.deal_floor.specs.declared.roster.Roster.{Roster}
use Rattle.adx_desk.specs.Courses.{AreAlike, Course, GoesOn, GoesOnFrom, given_up, served, unopened}
use Rattle.adx_desk.specs.Meanings.{AnswersLine, Told, Writing, call_answer}
use Rattle.adx_desk.specs.OnDisk.{history_after}
use Rattle.history_runs.specs.Rosters.{roster_heads}
use Rattle.history_runs.specs.Unopened.{not_opened}
use Rattle.history_runs.specs.Output.{unopened_line, writing}
use Rattle.script_lines.specs.Refusals.{roster_refused_line}
use Rattle.history_runs.specs.Script.{closing, terms_by}
use Rattle.history_runs.proofs.OneMeaning.{one_meaning}
use Rattle.script_lines.specs.Meanings.{Meaning as LineMeaning, calls, refused}
use Rattle.script_lines.specs.Rosters.{IsRosterLine}
use Rattle.script_lines.proofs.OneMeaning.{one_refusal, one_roster, roster_not_refused}
use Rattle.command_day.specs.Days.{Calls, HasOneOutput, TookOfWhole, answering, day_command, lines}
use Rattle.command_day.proofs.OneHead.{Refused, Told as HeadTold, refused_as, refused_same, told_as, told_not_refused, told_same}
use Rattle.command_day.proofs.OneScript.{Whole, answered_more, put_front, whole_same}

-- calls
-- the fault that gave a call up, if one did
abbrev fault_of : Told → Option Fault
fault_of t = t.fault

abbrev faults_of : List Told → List (Option Fault)
faults_of told = map fault_of told

told_equal : (t t' : Told) → t.call ≡ t'.call → t.fault ≡ t'.fault → t ≡ t'
told_equal t t' e f = λ i. record { call = e i; fault = f i }

first_fault : (f g : Option Fault) (a b : List (Option Fault)) → f ∷ a ≡ g ∷ b → f ≡ g
first_fault f g a b e = cc

-- equal after one front
behind_same : {X : Type 0} (front a b : List X) → front ++ a ≡ front ++ b → a ≡ b
behind_same [] a b e = e
behind_same (x ∷ front) a b e = behind_same front a b (cc e)

-- the faults of two lists of calls agree as far as both go
abbrev Agree : Calls → Calls → Type 0
Agree now other = (a b : List (Option Fault)) × (faults_of now.0 ++ a ≡ faults_of other.0 ++ b)

agree_same : (told told' : List Told) (u v : Option Told) → faults_of told ≡ faults_of told' → Agree (told, u) (told', v)
agree_same told told' u v same = ([], [], ap (λ (l : List (Option Fault)). l ++ []) same)

agree_on : (told rest : List Told) (u v : Option Told) → Agree (told, u) (told ++ rest, v)
agree_on told rest u v = (faults_of rest, [], sym (append-nil (faults_of (told ++ rest)) ∙ map-append fault_of told rest))

-- calls that go on
abbrev Goes : Calls → Calls → Type 0
Goes before now = (rest : List Told) × (now.0 ≡ before.0 ++ rest)

goes_here : (now : Calls) → Goes now now
goes_here now = ([], sym (append-nil now.0))

-- a line is answered in one way
call_same : (w : Writing) (terms : Terms) (number : ℕ) (history : List Entry) (m : LineMeaning) (told told' : List Told) (out out' : List ℕ) (a b : List (Option Fault))
    → faults_of told ++ a ≡ faults_of told' ++ b → AnswersLine w terms number history m told out → AnswersLine w terms number history m told' out' → (told ≡ told') × (out ≡ out')
call_same w terms number history (calls c) told told' out out' a b agree (t, is, only, e) (t', is', only', e') =
    let both : t.fault ∷ a ≡ t'.fault ∷ b = sym (ap (λ (l : List Told). faults_of l ++ a) only) ∙ agree ∙ ap (λ (l : List Told). faults_of l ++ b) only' in
    let same : t ≡ t' = told_equal t t' (is ∙ sym is') (first_fault t.fault t'.fault a b both) in
    (only ∙ ap (λ (u : Told). u ∷ []) same ∙ sym only', e ∙ ap (call_answer w terms history) same ∙ sym e')
call_same w terms number history (refused why) told told' out out' a b agree (none, e) (none', e') = (none ∙ sym none', e ∙ sym e')

-- the faults after the calls of one line
faults_behind : (before more rest now : List Told) (a : List (Option Fault)) → now ≡ (before ++ more) ++ rest → faults_of now ++ a ≡ faults_of before ++ (faults_of more ++ (faults_of rest ++ a))
faults_behind before more rest now a is =
    ap (λ (l : List Told). faults_of l ++ a) is
    ∙ ap (λ (l : List (Option Fault)). l ++ a) (map-append fault_of (before ++ more) rest ∙ ap (λ (l : List (Option Fault)). l ++ faults_of rest) (map-append fault_of before more))
    ∙ append_assoc (faults_of before ++ faults_of more) (faults_of rest) a
    ∙ append_assoc (faults_of before) (faults_of more) (faults_of rest ++ a)

module _ (r : Roster) (start : List Entry) where
  goes_back : (s u now : Calls) (n : ℕ) (line out : List ℕ) → (answering r start).answers s n line out u → Goes u now → Goes s now
  goes_back s u now n line out (more, is, at) (rest, goes) =
      (more ++ rest, goes ∙ ap (λ (c : Calls). c.0 ++ rest) at ∙ append_assoc s.0 more rest)

  one_line : (s u v now other : Calls) (n : ℕ) (line out whole : List ℕ) → (answering r start).answers s n line out u → (answering r start).answers s n line whole v → Goes u now → Goes v other → Agree now other → (u ≡ v) × (out ≡ whole)
  one_line s u v now other n line out whole (more, is, at) (more', is', at') (rest, goes) (rest', goes') (a, b, agree) =
      let both = sym (faults_behind s.0 more rest now.0 a (goes ∙ ap (λ (c : Calls). c.0 ++ rest) at)) ∙ agree ∙ faults_behind s.0 more' rest' other.0 b (goes' ∙ ap (λ (c : Calls). c.0 ++ rest') at') in
      let meant = one_meaning r line is.meaning is'.meaning is.means is'.means in
      let same = call_same (writing r.campaigns) (terms_by r) n (history_after (terms_by r) start s.0) is'.meaning more more' out whole (faults_of rest ++ a) (faults_of rest' ++ b)
      (behind_same (faults_of s.0) (faults_of more ++ (faults_of rest ++ a)) (faults_of more' ++ (faults_of rest' ++ b)) both)
      (subst (λ (m : LineMeaning). AnswersLine (writing r.campaigns) (terms_by r) n (history_after (terms_by r) start s.0) m more out) meant is.answered) is'.answered in
      (at ∙ ap (λ (l : List Told). (s.0 ++ l, None)) same.0 ∙ sym at', same.1)

  one_end : (now other : Calls) (n : ℕ) (piece out whole : List ℕ) (outcome ended : Outcome) → now ≡ other → (answering r start).closes now n piece outcome out → (answering r start).closes other n piece ended whole → out ≡ whole
  one_end now other n piece out whole outcome ended same (ends, said) (ends', said') =
      said ∙ ap (λ (c : Calls). closing r n piece (history_after (terms_by r) start c.0)) same ∙ sym said'

  abbrev WholeScript : ℕ → List ℕ → List ℕ → Calls → Type 0
  WholeScript allowed script out now = Whole (answering r start) ([], None) 2 allowed script out now

  script_same : (allowed : ℕ) (script out whole : List ℕ) (now other : Calls) → Agree now other → WholeScript allowed script out now → WholeScript allowed script whole other → out ≡ whole
  script_same allowed script out whole now other agree x y =
      whole_same (answering r start) Goes Agree goes_back one_line one_end ([], None) 2 allowed script out whole now other (goes_here now) (goes_here other) agree x y

  script_front : (allowed : ℕ) (bytes behind script put whole : List ℕ) (u now other : Calls) (number : ℕ) → Answered (answering r start) ([], None) 2 bytes put u number → script ≡ bytes ++ behind → length bytes ≤ allowed
      → Goes u now → Agree now other → WholeScript allowed script whole other → (rest : List ℕ) × (whole ≡ put ++ rest)
  script_front allowed bytes behind script put whole u now other number one at few goes agree y =
      put_front (answering r start) Goes Agree goes_back one_line one_end ([], None) 2 allowed bytes behind script put whole u now other number one at few goes (goes_here other) agree y

  one_more : (bytes put : List ℕ) (mid : Calls) (number : ℕ) (line one : List ℕ) (now : Calls) → Answered (answering r start) ([], None) 2 bytes put mid number → HasNoNewline line → (answering r start).answers mid number line one now
      → Answered (answering r start) ([], None) 2 (bytes ++ ended line) (put ++ one) now (number + 1)
  one_more bytes put mid number line one now so_far none more = answered_more (answering r start) ([], None) 2 bytes put mid number line one now so_far none more

-- first lines
one_refusal_line : (line out whole : List ℕ) → roster_heads.refuses line out → roster_heads.refuses line whole → out ≡ whole
one_refusal_line line out whole (why, refuses, said) (why', refuses', said') = said ∙ ap roster_refused_line (one_refusal line why why' refuses refuses') ∙ sym said'

not_both : (line : List ℕ) (r : Roster) (out : List ℕ) → IsRosterLine line r → roster_heads.refuses line out → ⊥
not_both line r out tells (why, refuses, said) = roster_not_refused line r why tells refuses

longer : line_limit < input_limit
longer = omega arith

abbrev FirstRefused : List ℕ → List ℕ → Type 0
FirstRefused = Refused roster_heads input_limit longer one_roster one_refusal_line not_both

abbrev FirstTold : List ℕ → Roster → List ℕ → List ℕ → Type 0
FirstTold = HeadTold roster_heads input_limit longer one_roster one_refusal_line not_both

-- what a whole output of a day is: the refusal of the first line; the line that says why the day wasn't opened; or that of
-- its script
abbrev DayWhole : Course → List ℕ → List ℕ → Type 0
DayWhole unopened input out = FirstRefused input out
DayWhole (given_up r why) input out = (line rest : List ℕ) × FirstTold input r line rest × (out ≡ unopened_line why)
DayWhole (served r start told unwritten) input out =
    (line rest : List ℕ) × FirstTold input r line rest × WholeScript r start (input_limit - length (ended line)) rest out (told, unwritten)

-- the end of a run, with the input
ended_whole : (course : Course) (input taken left out : List ℕ) (outcome : Outcome) → input ≡ taken ++ left → (day_command course).ends outcome taken left out → DayWhole course input out
ended_whole unopened input taken left out outcome is (ends, e) =
    subst (λ i. FirstRefused i out) (sym is) (refused_as roster_heads input_limit longer one_roster one_refusal_line not_both taken left out e)
ended_whole (given_up r why) input taken left out outcome is e =
    let t = told_as roster_heads input_limit longer one_roster one_refusal_line not_both r (λ allowed more. (not_opened why).ends outcome more left out) taken left e in
    (t.0, t.1 ++ left, subst (λ i. FirstTold i r t.0 (t.1 ++ left)) (sym is) t.2, t.3.2)
ended_whole (served r start told unwritten) input taken left out outcome is e =
    let t = told_as roster_heads input_limit longer one_roster one_refusal_line not_both r (λ allowed more. (lines r start told unwritten allowed).ends outcome more left out) taken left e in
    let w = t.3 in (
      t.0,
      t.1 ++ left,
      subst (λ i. FirstTold i r t.0 (t.1 ++ left)) (sym is) t.2,
      record { outcome = outcome; taken = t.1; left = left; is = refl; bytes = w.0; piece = w.1; put = w.2; last = w.3; number = w.4; answered = w.5; none = w.6; closes = w.7; out_is = w.8 },
    )

-- a day whose output is this has no other
first_refused : (more : Course) (input out whole : List ℕ) → FirstRefused input out → DayWhole more input whole → out ≡ whole
first_refused unopened input out whole a b = refused_same roster_heads input_limit longer one_roster one_refusal_line not_both input out whole a b
first_refused (given_up r why) input out whole a (line, rest, told, said) =
    absurd (told_not_refused roster_heads input_limit longer one_roster one_refusal_line not_both input r line rest out told a)
first_refused (served r start told u) input out whole a (line, rest, head, script) =
    absurd (told_not_refused roster_heads input_limit longer one_roster one_refusal_line not_both input r line rest out head a)

abbrev ScriptOf : List Entry → Calls → List ℕ → Roster × (List ℕ × List ℕ) → Type 0
ScriptOf start now whole x = WholeScript x.0 start (input_limit - length (ended x.1.0)) x.1.1 whole now

-- the script of one first line is that of the other
moved : (input whole : List ℕ) (r s : Roster) (line line' rest rest' : List ℕ) (start : List Entry) (now : Calls) → FirstTold input r line rest → FirstTold input s line' rest'
    → WholeScript s start (input_limit - length (ended line')) rest' whole now → WholeScript r start (input_limit - length (ended line)) rest whole now
moved input whole r s line line' rest rest' start now a b w =
    let same = told_same roster_heads input_limit longer one_roster one_refusal_line not_both input r s line line' rest rest' a b in
    subst (ScriptOf start now whole) (λ i. (sym same.0 i, (sym same.1 i, sym same.2 i))) w

served_same : (r s : Roster) (start : List Entry) (told told' : List Told) (u v : Option Told) (input out whole : List ℕ) → Agree (told, u) (told', v)
    → DayWhole (served r start told u) input out → DayWhole (served s start told' v) input whole → out ≡ whole
served_same r s start told told' u v input out whole agree (line, rest, a, x) (line', rest', b, y) =
    script_same r start (input_limit - length (ended line)) rest out whole (told, u) (told', v) agree x (moved input whole r s line line' rest rest' start (told', v) a b y)

whole_alike : (course other : Course) (input out whole : List ℕ) → AreAlike course other → DayWhole course input out → DayWhole other input whole → out ≡ whole
whole_alike unopened unopened input out whole alike a b = first_refused unopened input out whole a b
whole_alike unopened (given_up s why) input out whole alike a b = absurd alike
whole_alike unopened (served s start told u) input out whole alike a b = absurd alike
whole_alike (given_up r why) unopened input out whole alike a b = absurd alike
whole_alike (given_up r why) (given_up s why') input out whole alike (line, rest, a, said) (line', rest', b, said') = said ∙ ap unopened_line alike ∙ sym said'
whole_alike (given_up r why) (served s start told u) input out whole alike a b = absurd alike
whole_alike (served r start told u) unopened input out whole alike a b = absurd alike
whole_alike (served r start told u) (given_up s why) input out whole alike a b = absurd alike
whole_alike (served r start told u) (served s start' told' v) input out whole (begins, faults) a b =
    served_same r s start told told' u v input out whole (agree_same told told' u v faults) a (subst (λ (h : List Entry). DayWhole (served s h told' v) input whole) (sym begins) b)

pub has_one_output : HasOneOutput
has_one_output course other input out whole alike (outcome, taken, left, is, a) (outcome', taken', left', is', b) =
    whole_alike course other input out whole alike (ended_whole course input taken left out outcome is a) (ended_whole other input taken' left' whole outcome' is' b)

-- prefixes
-- these bytes are a prefix of the whole
abbrev IsFront : List ℕ → List ℕ → Type 0
IsFront bytes whole = (back : List ℕ) × (whole ≡ bytes ++ back)

all_front : (bytes whole : List ℕ) → bytes ≡ whole → IsFront bytes whole
all_front bytes whole is = ([], sym is ∙ sym (append-nil bytes))

none_front : (bytes whole : List ℕ) → bytes ≡ [] → IsFront bytes whole
none_front bytes whole is = (whole, ap (λ b. b ++ whole) (sym is))

-- of a day whose opening gave up: the line that says why
given_front : (r : Roster) (why : DeskFault) (more : Course) (input bytes whole : List ℕ) → GoesOnFrom r why more → bytes ≡ unopened_line why → DayWhole more input whole → IsFront bytes whole
given_front r DeskFault.DiskFault more input bytes whole goes is b = none_front bytes whole is
given_front r (DeskFault.JournalFull size) more input bytes whole goes is b = all_front bytes whole (is ∙ sym (subst (λ (c : Course). DayWhole c input whole) goes b).3)
given_front r (DeskFault.BadEntry at) more input bytes whole goes is b = all_front bytes whole (is ∙ sym (subst (λ (c : Course). DayWhole c input whole) goes b).3)
given_front r (DeskFault.OtherRoster kept) more input bytes whole goes is b = all_front bytes whole (is ∙ sym (subst (λ (c : Course). DayWhole c input whole) goes b).3)
given_front r (DeskFault.NotAJournal at) more input bytes whole goes is b = all_front bytes whole (is ∙ sym (subst (λ (c : Course). DayWhole c input whole) goes b).3)
given_front r (DeskFault.BadLength at) more input bytes whole goes is b = all_front bytes whole (is ∙ sym (subst (λ (c : Course). DayWhole c input whole) goes b).3)
given_front r DeskFault.OutOfMemory more input bytes whole goes is b = none_front bytes whole is

-- of a day that was served: what was put for some first lines
module _ (r : Roster) (start : List Entry) (told later : List Told) (unwritten : Option Told) (allowed : ℕ) (script whole : List ℕ) (b : WholeScript r start allowed script whole (told ++ later, None)) where
  agrees : Agree (told, unwritten) (told ++ later, None)
  agrees = agree_on told later unwritten None

  put_so : (bytes behind put : List ℕ) (mid : Calls) (number : ℕ) → Answered (answering r start) ([], None) 2 bytes put mid number → script ≡ bytes ++ behind → length bytes ≤ allowed → Goes mid (told, unwritten) → IsFront put whole
  put_so bytes behind put mid number answered is few goes = script_front r start allowed bytes behind script put whole mid (told, unwritten) (told ++ later, None) number answered is few goes agrees b

  -- where the run was cut short: what was in the sink, and what the last step was to add
  cut_front : (bytes taken left put last : List ℕ) (mid : Calls) (number : ℕ) → script ≡ taken ++ left → Answered (answering r start) ([], None) 2 bytes put mid number
      → CutShort (answering r start) allowed mid (told, unwritten) number bytes taken left last → IsFront (put ++ last) whole
  cut_front bytes taken left put last mid number is answered (inl (piece, none, within, (ahead, few, at), same, nothing)) =
      let f = put_so bytes (piece ++ (ahead ++ left)) put mid number answered
      (is ∙ ap (λ t. t ++ left) at ∙ append_assoc (bytes ++ piece) ahead left ∙ append_assoc bytes piece (ahead ++ left)) (omega (arith, within, length-append bytes piece)) (subst (Goes mid) (sym same) (goes_here mid)) in
      (f.0, f.1 ∙ ap (λ p. p ++ f.0) (sym (append-nil put) ∙ ap (λ l. put ++ l) (sym nothing)))
  cut_front bytes taken left put last mid number is answered (inr (inl (line, none, within, (ahead, few, at), answers))) =
      put_so (bytes ++ ended line) (ahead ++ left) (put ++ last) (told, unwritten) (number + 1) (one_more r start bytes put mid number line last (told, unwritten) answered none answers)
      (is ∙ ap (λ t. t ++ left) at ∙ append_assoc (bytes ++ ended line) ahead left) within (goes_here (told, unwritten))
  cut_front bytes taken left put last mid number is answered (inr (inr (inl (line, none, within, (ahead, few, at), gives_up, nothing)))) =
      let f = put_so bytes (ended line ++ (ahead ++ left)) put mid number answered
      (is ∙ ap (λ t. t ++ left) at ∙ append_assoc (bytes ++ ended line) ahead left ∙ append_assoc bytes (ended line) (ahead ++ left)) (omega (arith, within, length-append bytes (ended line)))
      ([], ap (λ (c : Calls). c.0) gives_up.2 ∙ sym (append-nil mid.0)) in
      (f.0, f.1 ∙ ap (λ p. p ++ f.0) (sym (append-nil put) ∙ ap (λ l. put ++ l) (sym nothing)))
  cut_front bytes taken left put last mid number is answered (inr (inr (inr (piece, outcome, none, same, closes)))) =
      all_front (put ++ last) whole (script_same r start allowed script (put ++ last) whole (told, unwritten) (told ++ later, None) agrees (record {
        outcome = outcome;
        taken = taken;
        left = left;
        is = is;
        bytes = bytes;
        piece = piece;
        put = put;
        last = last;
        number = number;
        answered = subst (λ (m : Calls). Answered (answering r start) ([], None) 2 bytes put m number) (sym same) answered;
        none = none;
        closes = closes;
        out_is = refl;
      }) b)

given_breaks : {P : Type 0} (r : Roster) (why : DeskFault) (more : Course) (input put last whole : List ℕ) → GoesOnFrom r why more → P × (put ≡ []) × ((last ≡ unopened_line why) ⊎ (last ≡ [])) → DayWhole more input whole → IsFront (put ++ last) whole
given_breaks r why more input put last whole goes (few, unput, inl said) b = given_front r why more input (put ++ last) whole goes (ap (λ p. p ++ last) unput ∙ said) b
given_breaks r why more input put last whole goes (few, unput, inr nothing) b = none_front (put ++ last) whole (ap (λ p. p ++ last) unput ∙ nothing)

-- what a run wrote is a prefix of each whole output of a day that goes on
awaits_front : (course more : Course) (input taken left out whole : List ℕ) → GoesOn course more → input ≡ taken ++ left → (day_command course).awaits taken out → DayWhole more input whole → IsFront out whole
awaits_front unopened more input taken left out whole goes is (none, within, nothing) b = none_front out whole nothing
awaits_front (given_up r why) more input taken left out whole goes is (line, rest, none, short, tells, at, never) b = absurd never
awaits_front (served r start told u) more input taken left out whole (later, goes) is a b =
    let t = told_as roster_heads input_limit longer one_roster one_refusal_line not_both r (λ allowed more. (lines r start told u allowed).awaits more out) taken left a in
    let head = subst (λ i. FirstTold i r t.0 (t.1 ++ left)) (sym is) t.2 in
    let w = subst (λ (c : Course). DayWhole c input whole) goes b in
    let script = moved input whole r r t.0 w.0 (t.1 ++ left) w.1 start (told ++ later, None) head w.2 w.3 in
    let e = t.3 in
    put_so r start told later u (input_limit - length (ended t.0)) (t.1 ++ left) whole script e.0 (e.1 ++ left) out (told, u) e.2 e.3
    (ap (λ l. l ++ left) e.5 ∙ append_assoc e.0 e.1 left) (omega (arith, e.6, ap length e.5, length-append e.0 e.1)) (goes_here (told, u))

breaks_front : (course more : Course) (input taken left put last whole : List ℕ) → GoesOn course more → input ≡ taken ++ left → (day_command course).breaks taken left put last → DayWhole more input whole → IsFront (put ++ last) whole
breaks_front unopened more input taken left put last whole goes is (unput, inl refuses) b =
    all_front (put ++ last) whole (ap (λ p. p ++ last) unput ∙ first_refused more input last whole (subst (λ i. FirstRefused i last) (sym is) (refused_as roster_heads input_limit longer one_roster one_refusal_line not_both taken left last refuses)) b)
breaks_front unopened more input taken left put last whole goes is (unput, inr (unanswered, nothing)) b = none_front (put ++ last) whole (ap (λ p. p ++ last) unput ∙ nothing)
breaks_front (given_up r why) more input taken left put last whole goes is a b =
    given_breaks r why more input put last whole goes (told_as roster_heads input_limit longer one_roster one_refusal_line not_both r (λ allowed rest. (not_opened why).breaks rest left put last) taken left a).3 b
breaks_front (served r start told u) more input taken left put last whole (later, goes) is a b =
    let t = told_as roster_heads input_limit longer one_roster one_refusal_line not_both r (λ allowed more. (lines r start told u allowed).breaks more left put last) taken left a in
    let head = subst (λ i. FirstTold i r t.0 (t.1 ++ left)) (sym is) t.2 in
    let w = subst (λ (c : Course). DayWhole c input whole) goes b in
    let script = moved input whole r r t.0 w.0 (t.1 ++ left) w.1 start (told ++ later, None) head w.2 w.3 in
    let e = t.3 in
    cut_front r start told later u (input_limit - length (ended t.0)) (t.1 ++ left) whole script e.0 t.1 left put last e.1 e.2 refl e.3 e.4

-- the sink took a prefix of it
took_front : (held held_now : Option (List ℕ)) (put last front back whole : List ℕ) → IsFront (put ++ last) whole → last ≡ front ++ back → Took held held_now (put ++ front) → TookPrefix held held_now whole
took_front held held_now put last front back whole (rest, is) split took =
    (put ++ front, back ++ rest, is ∙ ap (λ l. (put ++ l) ++ rest) split ∙ ap (λ l. l ++ rest) (sym (append_assoc put front back)) ∙ append_assoc (put ++ front) back rest, took)

took_all : (held held_now : Option (List ℕ)) (out whole : List ℕ) → IsFront out whole → Took held held_now out → TookPrefix held held_now whole
took_all held held_now out whole (rest, is) took = (out, rest, is, took)

whole_front : (course more : Course) (input taken left out whole : List ℕ) (outcome : Outcome) → GoesOn course more → input ≡ taken ++ left → (day_command course).ends outcome taken left out → DayWhole more input whole → IsFront out whole
whole_front unopened more input taken left out whole outcome goes is a b = all_front out whole (first_refused more input out whole (ended_whole unopened input taken left out outcome is a) b)
whole_front (given_up r why) more input taken left out whole outcome goes is a b = given_front r why more input out whole goes (ended_whole (given_up r why) input taken left out outcome is a).3 b
whole_front (served r start told u) more input taken left out whole outcome (later, goes) is a b =
    all_front out whole (served_same r r start told (told ++ later) u None input out whole (agree_on told later u None) (ended_whole (served r start told u) input taken left out outcome is a)
    (subst (λ (c : Course). DayWhole c input whole) goes b))

pub took_of_whole : (course more : Course) (input left : List ℕ) (held held_now : Option (List ℕ)) (result : Result Outcome Stop) → GoesOn course more → Wrote (day_command course) input left held held_now result → TookOfWhole (day_command more) input held held_now
took_of_whole course more input left held held_now (Ok outcome) goes (taken, out, is, ends, took) whole (outcome', taken', left', is', b) =
    took_all held held_now out whole (whole_front course more input taken left out whole outcome goes is ends (ended_whole more input taken' left' whole outcome' is' b)) took
took_of_whole course more input left held held_now (Err Stop.ReadFault) goes (taken, out, is, awaits, took) whole (outcome', taken', left', is', b) =
    took_all held held_now out whole (awaits_front course more input taken left out whole goes is awaits (ended_whole more input taken' left' whole outcome' is' b)) took
took_of_whole course more input left held held_now (Err Stop.WriteFault) goes (taken, put, last, front, back, is, breaks, split, took) whole (outcome', taken', left', is', b) =
    took_front held held_now put last front back whole (breaks_front course more input taken left put last whole goes is breaks (ended_whole more input taken' left' whole outcome' is' b)) split took
took_of_whole course more input left held held_now (Err Stop.OutOfMemory) goes (taken, put, last, front, back, is, breaks, split, took) whole (outcome', taken', left', is', b) =
    took_front held held_now put last front back whole (breaks_front course more input taken left put last whole goes is breaks (ended_whole more input taken' left' whole outcome' is' b)) split took

pub took_told : (course : Course) (tape tape_now : Option Tape) (held held_now : Option (List ℕ)) (result : Result Outcome Stop) → WhereTold tape tape_now (λ before now. Wrote (day_command course) before.left now.left held held_now result)
    → WhereTold tape tape_now (λ before now. (more : Course) → GoesOn course more → TookOfWhole (day_command more) before.left held held_now)
took_told course tape tape_now held held_now result wrote = told_map tape tape_now _ _ wrote (λ x y w more goes. took_of_whole course more x.left y.left held held_now result goes w)
