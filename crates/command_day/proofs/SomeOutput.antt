-- No input is without an output in which nothing failed.
use Rattle.std.proofs.Common.{◌≡◌, ◌≢◌, ◌⊎◌, inl, inr, ℕ, zero, suc, ◌+◌, ◌-◌, ◌<◌, ◌≤◌, List, [], ◌∷◌, ◌++◌, length, All, Bool, true, false, nat_le, nat_lt, ◌==◌, Some, None, refl, sym, ap, ◌∙◌, append_assoc, append-nil, zero-le, arith, subst}
use Rattle.std.specs.List.{flat_map}
use Rattle.std.proofs.lemmas.Bool.{eqb-true, eqb-false, leb-true, leb-false, ltb-true, ltb-false}
use Rattle.std.proofs.lemmas.List.Elements.{All-nil, All-cons, All-head, All-tail}
use Rattle.adx_io.specs.Lines.{HasNoNewline}
use Rattle.adx_io.specs.Talk.{ended}
use Rattle.answer_lines.specs.declared.faults.Fault.{Fault}
use Rattle.command_runs.specs.Scripts.{Answered, Answers}
use Rattle.command_runs.specs.declared.first.NoLine.{NoLine}
use Rattle.command_runs.specs.Limits.{input_limit, line_limit}
use Rattle.command_runs.specs.declared.outcome.Outcome.{Outcome}
use Rattle.day_rules.specs.declared.entry.Entry.{Entry}
use Rattle.deal_floor.specs.declared.roster.Roster.{Roster}
use Rattle.adx_desk.specs.Courses.{Course, HasNoDiskFault, IsSound, served, unopened}
use Rattle.adx_desk.specs.Meanings.{AreDone, Told, call_answer}
use Rattle.adx_desk.specs.OnDisk.{history_after}
use Rattle.history_runs.specs.Rosters.{roster_heads}
use Rattle.history_runs.specs.Output.{writing}
use Rattle.script_lines.specs.Refusals.{refusal_line, roster_refused_line, toolong_line}
use Rattle.history_runs.specs.Script.{Means, closing, terms_by}
use Rattle.script_lines.specs.Meanings.{Meaning, calls, refused}
use Rattle.script_lines.specs.Rosters.{IsRosterLine}
use Rattle.script_lines.specs.declared.refusal.Refusal.TheVariants.{Long}
use Rattle.script_lines.proofs.SomeMeaning.{some_first, some_meaning}
use Rattle.command_day.specs.Days.{HasOutputs, IsWhole, answering, day_command}

-- an input begins with a line, or has no newline
cut_first : (input : List ℕ) → ((line rest : List ℕ) × (input ≡ ended line ++ rest) × HasNoNewline line) ⊎ HasNoNewline input
cut_first [] = inr (All-nil (λ b. b ≢ 10))
cut_first (b ∷ bs) = by (b == 10) refl (cut_first bs)
  where
    by : (is : Bool) → (b == 10) ≡ is → ((line rest : List ℕ) × (bs ≡ ended line ++ rest) × HasNoNewline line) ⊎ HasNoNewline bs
        → ((line rest : List ℕ) × (b ∷ bs ≡ ended line ++ rest) × HasNoNewline line) ⊎ HasNoNewline (b ∷ bs)
    by true is more = inl ([], bs, ap (λ x. x ∷ bs) (eqb-true b 10 is), All-nil (λ x. x ≢ 10))
    by false is (inl (line, rest, at, none)) = inl (b ∷ line, rest, ap (λ l. b ∷ l) at, All-cons (λ x. x ≢ 10) b line (eqb-false b 10 is) none)
    by false is (inr none) = inr (All-cons (λ x. x ≢ 10) b bs (eqb-false b 10 is) none)

-- every input is cut into lines and a last piece
pub record Cut (input : List ℕ) : Type 0 where
  pub lines : List (List ℕ)
  pub last : List ℕ
  pub bytes : input ≡ flat_map ended lines ++ last
  pub whole : All HasNoNewline lines
  pub piece : HasNoNewline last

cut_newline : (input : List ℕ) → Cut input → Cut (10 ∷ input)
cut_newline input c =
    record { lines = [] ∷ c.lines; last = c.last; bytes = ap (λ l. 10 ∷ l) c.bytes; whole = All-cons HasNoNewline [] c.lines (All-nil (λ x. x ≢ 10)) c.whole; piece = c.piece }

cut_byte : (b : ℕ) (input : List ℕ) → b ≢ 10 → (lines : List (List ℕ)) (last : List ℕ) → input ≡ flat_map ended lines ++ last → All HasNoNewline lines → HasNoNewline last → Cut (b ∷ input)
cut_byte b input other [] last bytes whole piece =
    record { lines = []; last = b ∷ last; bytes = ap (λ l. b ∷ l) bytes; whole = whole; piece = All-cons (λ x. x ≢ 10) b last other piece }
cut_byte b input other (line ∷ lines) last bytes whole piece = record {
  lines = (b ∷ line) ∷ lines;
  last = last;
  bytes = ap (λ l. b ∷ l) bytes;
  whole = All-cons HasNoNewline (b ∷ line) lines (All-cons (λ x. x ≢ 10) b line other (All-head HasNoNewline line lines whole)) (All-tail HasNoNewline line lines whole);
  piece = piece;
}

cut_all : (input : List ℕ) → Cut input
cut_all [] = record { lines = []; last = []; bytes = refl; whole = All-nil HasNoNewline; piece = All-nil (λ x. x ≢ 10) }
cut_all (b ∷ bs) = by (b == 10) refl (cut_all bs)
  where
    by : (is : Bool) → (b == 10) ≡ is → Cut bs → Cut (b ∷ bs)
    by true is c = subst (λ x. Cut (x ∷ bs)) (sym (eqb-true b 10 is)) (cut_newline bs c)
    by false is c = cut_byte b bs (eqb-false b 10 is) c.lines c.last c.bytes c.whole c.piece

-- there is no line without a meaning
meaning_by : (roster : Roster) (line : List ℕ) (long : Bool) → nat_lt line_limit (length line) ≡ long → ((m : Meaning) → Means roster line m → ⊥) → ⊥
meaning_by roster line true e none = none (refused Long) (inl (ltb-true line_limit (length line) e, refl))
meaning_by roster line false e none = some_meaning roster line (λ m means. none m (inr (ltb-false line_limit (length line) e, means)))

-- what a line is answered where nothing fails
abbrev IsDone : Told → Type 0
IsDone t = t.fault ≡ None

all_push : (told : List Told) (t : Told) → AreDone told → IsDone t → AreDone (told ++ t ∷ [])
all_push [] t all is = All-cons IsDone t [] is (All-nil IsDone)
all_push (u ∷ told) t all is = All-cons IsDone u (told ++ t ∷ []) (All-head IsDone u told all) (all_push told t (All-tail IsDone u told all) is)

module _ (r : Roster) (start : List Entry) where
  -- there is no line without an answer
  line_exists : (told : List Told) (n : ℕ) (line : List ℕ) (m : Meaning) → Means r line m → AreDone told
      → (now : List Told) × (out : List ℕ) × (answering r start).answers (told, None) n line out (now, None) × AreDone now
  line_exists told n line (calls c) means all =
      let t : Told = record { call = c; fault = None } in (
        told ++ t ∷ [],
        call_answer (writing r.campaigns) (terms_by r) (history_after (terms_by r) start told) t,
        (t ∷ [], record { meaning = calls c; means = means; answered = (t, refl, refl, refl) }, refl),
        all_push told t all refl,
      )
  line_exists told n line (refused why) means all = (
    told,
    refusal_line n why,
    ([], record { meaning = refused why; means = means; answered = (refl, refl) }, ap (λ (l : List Told). (l, None)) (sym (append-nil told))),
    all,
  )

  -- there are no lines without answers
  answers_exist : (told : List Told) (n : ℕ) (lines : List (List ℕ)) → AreDone told
      → ((now : List Told) (out : List ℕ) → Answers (answering r start) (told, None) n lines out (now, None) → AreDone now → ⊥) → ⊥
  answers_exist told n [] all none = none told [] (refl, refl) all
  answers_exist told n (line ∷ lines) all none =
      meaning_by r line (nat_lt line_limit (length line)) refl (λ m is.
      let one = line_exists told n line m is all in
      answers_exist one.0 (suc n) lines one.3 (λ now rest more done. none now (one.1 ++ rest) ((one.0, None), one.1, rest, one.2, more, refl) done))

-- no call was given up by the disk's fault where none was given up
no_disk_fault : (told : List Told) → AreDone told → HasNoDiskFault told
no_disk_fault [] all = All-nil (λ (t : Told). t.fault ≢ Some Fault.Disk)
no_disk_fault (t ∷ told) all =
    All-cons (λ (u : Told). u.fault ≢ Some Fault.Disk) t told (λ is. absurd (cc (sym (All-head IsDone t told all) ∙ is))) (no_disk_fault told (All-tail IsDone t told all))

-- a list of more than n items has n and one more before them
split_at : (n : ℕ) (xs : List ℕ) → n < length xs → (part : List ℕ) × (more : ℕ) × (rest : List ℕ) × (xs ≡ part ++ more ∷ rest) × (length part ≡ n)
split_at n [] long = absurd (omega (arith, long))
split_at zero (x ∷ xs) long = ([], x, xs, refl, refl)
split_at (suc n) (x ∷ xs) long =
    let more = split_at n xs (omega (arith, long)) in
    (x ∷ more.0, more.1, more.2, ap (λ l. x ∷ l) more.3, omega (arith, more.4))

-- no day from this history in which nothing failed has an output for this input
abbrev Outless : List Entry → List ℕ → Type 0
Outless start input = (course : Course) (out : List ℕ) → IsSound start course → IsWhole (day_command course) input out → ⊥

-- whole lines of a part, as they are answered
answered_so : (r : Roster) (start : List Entry) (input : List ℕ) (c : Cut input) (now : List Told) (out : List ℕ) → Answers (answering r start) ([], None) 2 c.lines out (now, None)
    → Answered (answering r start) ([], None) 2 (flat_map ended c.lines) out (now, None) (2 + length c.lines)
answered_so r start input c now out answers = record { lines = c.lines; split = refl; whole = c.whole; answered = answers; numbered = refl }

-- a roster's line begins a run
roster_short : (start : List Entry) (line rest : List ℕ) (r : Roster) → HasNoNewline line → length line ≤ line_limit → IsRosterLine line r → length rest ≤ input_limit - length (ended line) → Outless start (ended line ++ rest) → ⊥
roster_short start line rest r piece few tells short none =
    let c = cut_all rest in
    answers_exist r start [] 2 c.lines (All-nil IsDone) (λ told out answers all.
    let end = closing r (2 + length c.lines) c.last (history_after (terms_by r) start told) in
    none (served r start told None) (out ++ end) (refl, all, refl) (
      Outcome.Done,
      ended line ++ rest,
      [],
      sym (append-nil (ended line ++ rest)),
      (line, rest, piece, few, tells, refl, (flat_map ended c.lines, c.last, out, end, 2 + length c.lines, answered_so r start rest c told out answers, c.piece, inl (refl, c.bytes, short, (no_disk_fault told all, refl)), refl)),
    ))

-- also where the input passes its limit
roster_long : (start : List Entry) (line rest : List ℕ) (r : Roster) → HasNoNewline line → length line ≤ line_limit → IsRosterLine line r → input_limit - length (ended line) < length rest → Outless start (ended line ++ rest) → ⊥
roster_long start line rest r piece few tells long none =
    let past = split_at (input_limit - length (ended line)) rest long in
    let c = cut_all past.0 in
    answers_exist r start [] 2 c.lines (All-nil IsDone) (λ told out answers all.
    none (served r start told None) (out ++ toolong_line (2 + length c.lines)) (refl, all, refl) (
      Outcome.Refused,
      ended line ++ (past.0 ++ past.1 ∷ []),
      past.2,
      ap (λ l. ended line ++ l) (past.3 ∙ sym (append_assoc past.0 (past.1 ∷ []) past.2)) ∙ sym (append_assoc (ended line) (past.0 ++ past.1 ∷ []) past.2),
      (
        line,
        past.0 ++ past.1 ∷ [],
        piece,
        few,
        tells,
        refl,
        (
          flat_map ended c.lines,
          c.last,
          out,
          toolong_line (2 + length c.lines),
          2 + length c.lines,
          answered_so r start past.0 c told out answers,
          c.piece,
          inr (past.1, ap (λ l. l ++ past.1 ∷ []) c.bytes, ap length (sym c.bytes) ∙ past.4, refl, refl),
          refl,
        ),
      ),
    ))

with_roster : (start : List Entry) (line rest : List ℕ) (r : Roster) (short : Bool) → nat_le (length rest) (input_limit - length (ended line)) ≡ short → HasNoNewline line → length line ≤ line_limit → IsRosterLine line r → Outless start (ended line ++ rest) → ⊥
with_roster start line rest r true e piece few tells none = roster_short start line rest r piece few tells (leb-true (length rest) (input_limit - length (ended line)) e) none
with_roster start line rest r false e piece few tells none = roster_long start line rest r piece few tells (leb-false (length rest) (input_limit - length (ended line)) e) none

with_line : (start : List Entry) (line rest : List ℕ) (long : Bool) → nat_lt line_limit (length line) ≡ long → HasNoNewline line → Outless start (ended line ++ rest) → ⊥
with_line start line rest true e piece none =
    none unopened (roster_heads.lacks NoLine.Long) tt (Outcome.Refused, ended line, rest, refl, (refl, inr (NoLine.Long, inl (line, piece, ltb-true line_limit (length line) e, ([], zero-le, sym (append-nil (ended line)))), refl)))
with_line start line rest false e piece none =
    let few = ltb-false line_limit (length line) e in
    some_first line
    (λ r tells. with_roster start line rest r (nat_le (length rest) (input_limit - length (ended line))) refl piece few tells none)
    (λ why refuses. none unopened (roster_refused_line why) tt (Outcome.Refused, ended line, rest, refl, (refl, inl (line, piece, few, (why, refuses, refl), ([], zero-le, sym (append-nil (ended line)))))))

-- no newline comes
piece_short : (start : List Entry) (line : List ℕ) → HasNoNewline line → length line ≤ line_limit → Outless start line → ⊥
piece_short start line piece few none =
    none unopened (roster_heads.lacks NoLine.Cut) tt (Outcome.Refused, line, [], sym (append-nil line), (refl, inr (NoLine.Cut, (piece, few, omega (arith, few), refl), refl)))

all_front : (xs ys : List ℕ) → HasNoNewline (xs ++ ys) → HasNoNewline xs
all_front [] ys all = All-nil (λ b. b ≢ 10)
all_front (x ∷ xs) ys all = All-cons (λ b. b ≢ 10) x xs (All-head (λ b. b ≢ 10) x (xs ++ ys) all) (all_front xs ys (All-tail (λ b. b ≢ 10) x (xs ++ ys) all))

piece_long : (start : List Entry) (line : List ℕ) (short : Bool) → nat_le (length line) input_limit ≡ short → HasNoNewline line → line_limit < length line → Outless start line → ⊥
piece_long start line true e piece long none =
    none unopened (roster_heads.lacks NoLine.Long) tt (Outcome.Refused, line, [], sym (append-nil line), (refl, inr (NoLine.Long, inr (inl (piece, long, leb-true (length line) input_limit e, refl)), refl)))
piece_long start line false e piece long none =
    let past = split_at input_limit line (leb-false (length line) input_limit e) in
    none unopened (roster_heads.lacks NoLine.Long) tt (
      Outcome.Refused,
      past.0 ++ past.1 ∷ [],
      past.2,
      past.3 ∙ sym (append_assoc past.0 (past.1 ∷ []) past.2),
      (refl, inr (NoLine.Long, inr (inr (past.0, past.1, all_front past.0 (past.1 ∷ past.2) (subst HasNoNewline past.3 piece), past.4, refl)), refl)),
    )

with_piece : (start : List Entry) (line : List ℕ) (long : Bool) → nat_lt line_limit (length line) ≡ long → HasNoNewline line → Outless start line → ⊥
with_piece start line true e piece none = piece_long start line (nat_le (length line) input_limit) refl piece (ltb-true line_limit (length line) e) none
with_piece start line false e piece none = piece_short start line piece (ltb-false line_limit (length line) e) none

pub has_outputs : HasOutputs
has_outputs start input none =
    elim (cut_first input) [
      | inl found ↦ with_line start found.0 found.1 (nat_lt line_limit (length found.0)) refl found.3 (subst (Outless start) found.2 none)
      | inr open_line ↦ with_piece start input (nat_lt line_limit (length input)) refl open_line none
    ]
