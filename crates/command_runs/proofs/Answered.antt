-- Lines that were answered one after another, each answer put before the next line.
use Rattle.std.proofs.Common.{◌≡◌, ◌≢◌, inl, inr, ℕ, suc, ◌+◌, ◌≤◌, List, [], ◌∷◌, ◌++◌, length, Option, Result, Ok, Err, refl, sym, ap, ◌∙◌, subst, arith, add-zero, append_assoc, append-nil, length-append}
use Rattle.std.specs.List.{flat_map}
use Rattle.std.proofs.lemmas.Grind.{flat_map-append}
use Rattle.std.proofs.lemmas.List.Elements.{All-nil, All-push}
use Rattle.adx_io.specs.Lines.{HasNoNewline, Keeps, tape_behind}
use Rattle.adx_io.specs.Streams.{Tape, Took, WhereTold}
use Rattle.adx_io.specs.Talk.{Reads, ReadsNext, TalkState, ended}
use Rattle.adx_io.specs.declared.line_buffer.TheConstants.{CHUNK}
use Rattle.adx_io.specs.declared.stop.Stop.{Stop}
use Rattle.adx_io.specs.declared.talk.Next.{Next}
use Rattle.adx_io.proofs.Moved.{took_both, took_none}
use Rattle.command_runs.specs.Meanings.{PutsEnd, Wrote}
use Rattle.command_runs.specs.Scripts.{Answered, Answering, Answers, Closes, PutsAnswer, PutsClosing, script}
use Rattle.command_runs.specs.Limits.{line_limit}
use Rattle.command_runs.specs.declared.outcome.Outcome.{Outcome}
use Rattle.command_runs.proofs.Told.{told_behind, told_start, told_then}

module _ {A : Type 0} (a : Answering A) where
  -- one more line was answered
  answers_more : (s : A) (n m : ℕ) (lines : List (List ℕ)) (out : List ℕ) (mid : A) (line one : List ℕ) (now : A) → Answers a s n lines out mid → m ≡ n + length lines → a.answers mid m line one now → Answers a s n (lines ++ line ∷ []) (out ++ one) now
  answers_more s n m [] out mid line one now so_far numbered more = (
    now,
    one,
    [],
    subst (λ k. a.answers s k line one now) (numbered ∙ add-zero n) (subst (λ b. a.answers b m line one now) so_far.1 more),
    (refl, refl),
    ap (λ o. o ++ one) so_far.0 ∙ sym (append-nil one),
  )
  answers_more s n m (l ∷ lines) out mid line one now (between, first, rest, head, tail, is) numbered more = (
    between,
    first,
    rest ++ one,
    head,
    answers_more between (suc n) m lines rest mid line one now tail (omega (arith, numbered)) more,
    ap (λ o. o ++ one) is ∙ append_assoc first rest one,
  )

  flat_one : (lines : List (List ℕ)) (line : List ℕ) → flat_map ended (lines ++ line ∷ []) ≡ flat_map ended lines ++ ended line
  flat_one lines line = flat_map-append ended lines (line ∷ []) ∙ ap (λ l. flat_map ended lines ++ l) (append-nil (ended line))

  answered_more : (s : A) (first : ℕ) (bytes put : List ℕ) (mid : A) (number : ℕ) (line one : List ℕ) (now : A) → Answered a s first bytes put mid number → HasNoNewline line → a.answers mid number line one now → Answered a s first (bytes ++ ended line) (put ++ one) now (number + 1)
  answered_more s first bytes put mid number line one now so_far piece more = record {
    lines = so_far.lines ++ line ∷ [];
    split = ap (λ b. b ++ ended line) so_far.split ∙ sym (flat_one so_far.lines line);
    whole = All-push HasNoNewline so_far.lines line so_far.whole piece;
    answered = answers_more s first number so_far.lines put mid line one now so_far.answered so_far.numbered more;
    numbered = omega (arith, so_far.numbered, length-append so_far.lines (line ∷ []));
  }

  -- some lines were read and answered, and their answers put
  pub record RunsLines (s : A) (first : ℕ) (before now : TalkState) (state : A) (number : ℕ) (old new : Tape) : Type 0 where
    pub bytes : List ℕ
    pub put : List ℕ
    pub answered : Answered a s first bytes put state number
    pub reads : Reads before now old new bytes
    pub took : Took before.held now.held put

  module _ (s : A) (first : ℕ) (before : TalkState) where
    pub lines_begin : WhereTold before.tape before.tape (RunsLines s first before before s first)
    lines_begin = told_start before.tape (RunsLines s first before before s first) (λ t. record {
      bytes = [];
      put = [];
      answered = record { lines = []; split = refl; whole = All-nil HasNoNewline; answered = (refl, refl); numbered = omega arith };
      reads = record { next = refl; counted = omega arith };
      took = took_none before.held;
    })

    -- read after the lines so far
    behind : (x y : Tape) (bytes more left : List ℕ) → x.left ≡ bytes ++ y.left → y.left ≡ more ++ left → x.left ≡ (bytes ++ more) ++ left
    behind x y bytes more left read next = read ∙ ap (λ b. bytes ++ b) next ∙ sym (append_assoc bytes more left)

    module _ (mid : TalkState) (state : A) (number : ℕ) (running : WhereTold before.tape mid.tape (RunsLines s first before mid state number)) where
      abbrev Runs : Tape → Tape → Type 0
      Runs = RunsLines s first before mid state number

      -- one more line was answered and its answer put
      pub lines_go_on : (read last : TalkState) (now : A) → WhereTold mid.tape read.tape (ReadsNext line_limit mid read (Ok Next.Line)) → read.held ≡ mid.held → last.tape ≡ read.tape → last.allowed ≡ read.allowed
          → PutsAnswer a state now number (Keeps line_limit read.overlong read.line) read.held last.held (Ok tt) → WhereTold before.tape last.tape (RunsLines s first before last now (number + 1))
      lines_go_on read last now next same tape allowed (out, answers, took) = subst (λ t. WhereTold before.tape t (RunsLines s first before last now (number + 1))) (sym tape)
          (told_then before.tape mid.tape read.tape Runs (ReadsNext line_limit mid read (Ok Next.Line)) (RunsLines s first before last now (number + 1)) running next (λ x y z r n. record {
            bytes = r.bytes ++ ended n.0;
            put = r.put ++ out;
            answered = answered_more s first r.bytes r.put state number n.0 out now r.answered n.1.no_newline (answers n.0 n.1.keeps);
            reads = record { next = behind x y r.bytes (ended n.0) z.left r.reads.next n.2.next; counted = omega (arith, r.reads.counted, n.2.counted, allowed, length-append r.bytes (ended n.0)) };
            took = took_both before.held mid.held last.held r.put out r.took (subst (λ h. Took h last.held out) same took);
          }))

      module _ (read : TalkState) (pending : List ℕ) (told : Option Tape) (held_now : Option (List ℕ)) (few : length pending ≤ CHUNK) (same : read.held ≡ mid.held) where
        abbrev Ends : A → Result Outcome Stop → Type 0
        Ends now result = WhereTold before.tape told (λ x y. Wrote (script a s first before.allowed now) x.left y.left before.held held_now result)

        -- what was put after what was put before
        all : (put out : List ℕ) → Took before.held mid.held put → Took read.held held_now out → Took before.held held_now (put ++ out)
        all put out first_took took = took_both before.held mid.held held_now put out first_took (subst (λ h. Took h held_now out) same took)

        none : (put : List ℕ) → Took before.held mid.held put → held_now ≡ read.held → Took before.held held_now put
        none put first_took unput = subst (λ h. Took before.held h put) (sym (unput ∙ same)) first_took

        -- the run was cut short while a line's answer was put, or written
        pub lines_cut : (now : A) (stop : Stop) → WhereTold mid.tape (tape_behind pending told) (ReadsNext line_limit mid read (Ok Next.Line)) → PutsAnswer a state now number (Keeps line_limit read.overlong read.line) read.held held_now (Err stop) → Ends now (Err stop)
        lines_cut now Stop.ReadFault next puts = absurd puts
        lines_cut now Stop.WriteFault next (out, answers, front) = told_behind before.tape mid.tape pending told Runs (ReadsNext line_limit mid read (Ok Next.Line)) _ running next (λ x y z r n. (
          (r.bytes ++ ended n.0) ++ pending,
          r.put,
          out,
          front.0,
          front.1,
          behind x y r.bytes (ended n.0) (pending ++ z.left) r.reads.next n.2.next ∙ sym (append_assoc (r.bytes ++ ended n.0) pending z.left),
          (r.bytes, state, number, r.answered, inr (inl (n.0, n.1.no_newline, omega (arith, r.reads.counted, n.2.counted, length-append r.bytes (ended n.0)), (pending, few, refl), answers n.0 n.1.keeps))),
          front.2,
          all r.put front.0 r.took front.3,
        ))
        lines_cut now Stop.OutOfMemory next (gives_up, unput) = told_behind before.tape mid.tape pending told Runs (ReadsNext line_limit mid read (Ok Next.Line)) _ running next (λ x y z r n. (
          (r.bytes ++ ended n.0) ++ pending,
          r.put,
          [],
          [],
          [],
          behind x y r.bytes (ended n.0) (pending ++ z.left) r.reads.next n.2.next ∙ sym (append_assoc (r.bytes ++ ended n.0) pending z.left),
          (r.bytes, state, number, r.answered, inr (inr (inl (n.0, n.1.no_newline, omega (arith, r.reads.counted, n.2.counted, length-append r.bytes (ended n.0)), (pending, few, refl), gives_up n.0 n.1.keeps, refl)))),
          refl,
          subst (Took before.held held_now) (sym (append-nil r.put)) (none r.put r.took unput),
        ))

        -- the end was put, or cut short
        ended_so : (result : Result Outcome Stop) (input bytes piece put taken left out : List ℕ) (outcome : Outcome) → Answered a s first bytes put state number → HasNoNewline piece → input ≡ taken ++ left
            → Closes a before.allowed state number bytes piece outcome taken left out → Took before.held mid.held put → PutsEnd outcome read.held held_now out result
            → Wrote (script a s first before.allowed state) input left before.held held_now result
        ended_so (Ok over) input bytes piece put taken left out outcome answered no_newline is closes took puts =
            (taken, put ++ out, is, (bytes, piece, put, out, number, answered, no_newline, subst (λ o. Closes a before.allowed state number bytes piece o taken left out) (sym puts.0) closes, refl), all put out took puts.1)
        ended_so (Err Stop.ReadFault) input bytes piece put taken left out outcome answered no_newline is closes took puts = absurd puts
        ended_so (Err Stop.WriteFault) input bytes piece put taken left out outcome answered no_newline is closes took puts =
            (taken, put, out, puts.0, puts.1, is, (bytes, state, number, answered, inr (inr (inr (piece, outcome, no_newline, refl, closes)))), puts.2, all put puts.0 took puts.3)
        ended_so (Err Stop.OutOfMemory) input bytes piece put taken left out outcome answered no_newline is closes took puts =
            (taken, put, out, puts.0, puts.1, is, (bytes, state, number, answered, inr (inr (inr (piece, outcome, no_newline, refl, closes)))), puts.2, all put puts.0 took puts.3)

        -- nothing more was put
        cut_so : (input bytes piece put left : List ℕ) → Answered a s first bytes put state number → HasNoNewline piece → length (bytes ++ piece) ≤ before.allowed → input ≡ (bytes ++ piece) ++ (pending ++ left)
            → Took before.held mid.held put → held_now ≡ read.held
            → (taken put2 last front back : List ℕ) × (input ≡ taken ++ left) × (script a s first before.allowed state).breaks taken left put2 last × (last ≡ front ++ back) × Took before.held held_now (put2 ++ front)
        cut_so input bytes piece put left answered no_newline within is took unput = (
          (bytes ++ piece) ++ pending,
          put,
          [],
          [],
          [],
          is ∙ sym (append_assoc (bytes ++ piece) pending left),
          (bytes, state, number, answered, inl (piece, no_newline, within, (pending, few, refl), refl, refl)),
          refl,
          subst (Took before.held held_now) (sym (append-nil put)) (none put took unput),
        )

        pub lines_closed : (result : Result Outcome Stop) → pending ≡ [] → WhereTold mid.tape (tape_behind pending told) (ReadsNext line_limit mid read (Ok Next.End)) → PutsClosing a state number (Keeps line_limit read.overlong read.line) read.held held_now result → Ends state result
        lines_closed result looked next (inl (outcome, out, closes, puts)) = told_behind before.tape mid.tape pending told Runs (ReadsNext line_limit mid read (Ok Next.End)) _ running next (λ x y z r n.
            let ends : z.left ≡ [] = ap (λ (p : List ℕ). p ++ z.left) (sym looked) ∙ n.3 in
            ended_so result x.left r.bytes n.0 r.put (r.bytes ++ n.0) z.left out outcome r.answered n.1.no_newline
            (behind x y r.bytes n.0 z.left r.reads.next (n.2.next ∙ ap (λ (p : List ℕ). n.0 ++ (p ++ z.left)) looked))
            (inl (ends, refl, omega (arith, r.reads.counted, n.2.counted, length-append r.bytes n.0), closes n.0 n.1.keeps)) r.took puts)
        lines_closed result looked next (inr (is, unput)) = subst (Ends state) (sym is) (told_behind before.tape mid.tape pending told Runs (ReadsNext line_limit mid read (Ok Next.End)) _ running next (λ x y z r n.
            cut_so x.left r.bytes n.0 r.put z.left r.answered n.1.no_newline (omega (arith, r.reads.counted, n.2.counted, length-append r.bytes n.0)) (behind x y r.bytes n.0 (pending ++ z.left) r.reads.next n.2.next) r.took unput))

        pub lines_past : (result : Result Outcome Stop) → pending ≡ [] → WhereTold mid.tape (tape_behind pending told) (ReadsNext line_limit mid read (Ok Next.PastLimit)) → PutsEnd Outcome.Refused read.held held_now (a.passes number) result → Ends state result
        lines_past result looked next puts = told_behind before.tape mid.tape pending told Runs (ReadsNext line_limit mid read (Ok Next.PastLimit)) _ running next (λ x y z r n.
            ended_so result x.left r.bytes n.0 r.put ((r.bytes ++ n.0) ++ n.1 ∷ []) z.left (a.passes number) Outcome.Refused r.answered n.2
            (behind x y r.bytes n.0 (n.1 ∷ z.left) r.reads.next (n.3 ∙ ap (λ (p : List ℕ). n.0 ++ n.1 ∷ (p ++ z.left)) looked) ∙ sym (append_assoc (r.bytes ++ n.0) (n.1 ∷ []) z.left))
            (inr (n.1, refl, omega (arith, r.reads.counted, n.4, length-append r.bytes n.0), refl, refl)) r.took puts)

        pub lines_stopped : (stop : Stop) → (stop ≢ Stop.OutOfMemory → pending ≡ []) → WhereTold mid.tape (tape_behind pending told) (ReadsNext line_limit mid read (Err stop)) → held_now ≡ read.held → Ends state (Err stop)
        lines_stopped Stop.ReadFault looked next unput = told_behind before.tape mid.tape pending told Runs (ReadsNext line_limit mid read (Err Stop.ReadFault)) _ running next (λ x y z r n. (
          r.bytes ++ n.0,
          r.put,
          behind x y r.bytes n.0 z.left r.reads.next (n.2.next ∙ ap (λ (p : List ℕ). n.0 ++ (p ++ z.left)) (looked (λ e. cc e))),
          (r.bytes, n.0, number, r.answered, n.1, refl, omega (arith, r.reads.counted, n.2.counted, length-append r.bytes n.0)),
          none r.put r.took unput,
        ))
        lines_stopped Stop.WriteFault looked next unput = told_behind before.tape mid.tape pending told Runs (ReadsNext line_limit mid read (Err Stop.WriteFault)) _ running next (λ x y z r n.
            cut_so x.left r.bytes n.0 r.put z.left r.answered n.1 (omega (arith, r.reads.counted, n.2.counted, length-append r.bytes n.0)) (behind x y r.bytes n.0 (pending ++ z.left) r.reads.next n.2.next) r.took unput)
        lines_stopped Stop.OutOfMemory looked next unput = told_behind before.tape mid.tape pending told Runs (ReadsNext line_limit mid read (Err Stop.OutOfMemory)) _ running next (λ x y z r n.
            cut_so x.left r.bytes n.0 r.put z.left r.answered n.1 (omega (arith, r.reads.counted, n.2.counted, length-append r.bytes n.0)) (behind x y r.bytes n.0 (pending ++ z.left) r.reads.next n.2.next) r.took unput)
