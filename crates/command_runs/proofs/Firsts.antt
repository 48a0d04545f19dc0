-- What came of a first line, by what was read of it and what was put.
use Rattle.std.proofs.Common.{◌≡◌, ◌≢◌, inl, inr, ℕ, ◌+◌, ◌-◌, ◌≤◌, List, [], ◌∷◌, ◌++◌, length, take, Option, Some, None, Result, Ok, Err, refl, sym, ap, ◌∙◌, subst, arith, append_assoc, length-append}
use Rattle.std.proofs.Math.Seq.{take-nil}
use Rattle.adx_io.specs.Lines.{HasNoNewline, Keeps, tape_behind}
use Rattle.adx_io.specs.Streams.{Tape, Took, WhereTold}
use Rattle.adx_io.specs.Talk.{Puts, PutsAll, PutsNext, ReadsNext, TalkState, ended}
use Rattle.adx_io.specs.declared.line_buffer.TheConstants.{CHUNK}
use Rattle.adx_io.specs.declared.stop.Stop.{Stop}
use Rattle.adx_io.specs.declared.talk.Next.{Next}
use Rattle.adx_io.proofs.Moved.{took_none}
use Rattle.command_runs.specs.Firsts.{EndsHeadless, FindsFirst, HasNoLine, Heads, IsLackIn, IsRefused, IsUnanswered, headless, led}
use Rattle.command_runs.specs.Meanings.{Meaning, PutsEnd, Wrote}
use Rattle.command_runs.specs.declared.first.NoLine.{NoLine}
use Rattle.command_runs.specs.Limits.{line_limit}
use Rattle.command_runs.specs.declared.outcome.Outcome.{Outcome}
use Rattle.command_runs.proofs.Told.{told_source, told_then}

-- a run whose line that refuses its input is put ends so, or is cut short
pub headless_end : (held held_now : Option (List ℕ)) (bytes : List ℕ) (result : Result Outcome Stop) → PutsEnd Outcome.Refused held held_now bytes result → EndsHeadless result
headless_end held held_now bytes (Ok outcome) puts = puts.0
headless_end held held_now bytes (Err stop) puts = tt

-- nothing was put where nothing was to be put
none_in_front : (front back : List ℕ) → [] ≡ front ++ back → front ≡ []
none_in_front [] back is = refl
none_in_front (b ∷ front) back is = absurd (cc is)

none_behind : (front back : List ℕ) → [] ≡ front ++ back → back ≡ []
none_behind [] back is = sym is
none_behind (b ∷ front) back is = absurd (cc is)

module _ (before now : TalkState) (none : before.out ≡ []) where
  unheld : (front : List ℕ) → front ≡ [] → Took before.held now.held front → now.held ≡ before.held
  unheld front is took = subst (Took before.held now.held) is took ∙ sym (took_none before.held)

  pub held_line : Puts before now → now.held ≡ before.held
  held_line puts = unheld puts.front (none_in_front puts.front now.out (sym none ∙ puts.split)) puts.took

  pub out_line : Puts before now → now.out ≡ []
  out_line puts = none_behind puts.front now.out (sym none ∙ puts.split)

  pub held_all : PutsAll before now → now.held ≡ before.held
  held_all puts = unheld before.out none puts.took

  pub held_stop : (stop : Stop) → PutsNext before now (Err stop) → now.held ≡ before.held
  held_stop Stop.ReadFault puts = held_all puts
  held_stop Stop.WriteFault puts = unheld (take puts.0 before.out) (ap (take puts.0) none ∙ take-nil puts.0) puts.2
  held_stop Stop.OutOfMemory puts = held_line puts

-- why a piece without a newline is no first line
lacks_end : (limit : ℕ) (why : NoLine) (line left : List ℕ) → HasNoNewline line → length line ≤ limit → left ≡ [] → IsLackIn line why → HasNoLine limit why line left
lacks_end limit NoLine.Cut line left none few ends short = (none, short, few, ends)
lacks_end limit NoLine.Long line left none few ends long = inr (inl (none, long, few, ends))

module _ {H : Type 0} (heads : Heads H) (limit : ℕ) where
  -- a line that was found to have a head
  pub found_led : (line before now : List ℕ) (h : H) → FindsFirst heads limit line before now (Some h) → (length line ≤ line_limit) × heads.tells line h
  found_led line before now h (inl found) = (found.0, found.1.0)
  found_led line before now h (inr found) = absurd (cc found.1)

  -- what was written after a line that had a head
  module _ (h : H) (rest : ℕ → Meaning) (line : List ℕ) (allowed : ℕ) (input mid left : List ℕ) (held held_now : Option (List ℕ))
      (none : HasNoNewline line) (short : length line ≤ line_limit) (tells : heads.tells line h) (is : input ≡ ended line ++ mid) (counted : limit ≡ length (ended line) + allowed) where
    more : (taken : List ℕ) → mid ≡ taken ++ left → input ≡ (ended line ++ taken) ++ left
    more taken cut = is ∙ ap (λ m. ended line ++ m) cut ∙ sym (append_assoc (ended line) taken left)

    room : allowed ≡ limit - length (ended line)
    room = omega (arith, counted)

    pub led_wrote : (result : Result Outcome Stop) → Wrote (rest allowed) mid left held held_now result → Wrote (led heads limit h rest) input left held held_now result
    led_wrote (Ok outcome) (taken, out, cut, ends, took) = (ended line ++ taken, out, more taken cut, (line, taken, none, short, tells, refl, subst (λ n. (rest n).ends outcome taken left out) room ends), took)
    led_wrote (Err Stop.ReadFault) (taken, out, cut, awaits, took) = (ended line ++ taken, out, more taken cut, (line, taken, none, short, tells, refl, subst (λ n. (rest n).awaits taken out) room awaits), took)
    led_wrote (Err Stop.WriteFault) (taken, put, last, front, back, cut, breaks, split, took) =
        (ended line ++ taken, put, last, front, back, more taken cut, (line, taken, none, short, tells, refl, subst (λ n. (rest n).breaks taken left put last) room breaks), split, took)
    led_wrote (Err Stop.OutOfMemory) (taken, put, last, front, back, cut, breaks, split, took) =
        (ended line ++ taken, put, last, front, back, more taken cut, (line, taken, none, short, tells, refl, subst (λ n. (rest n).breaks taken left put last) room breaks), split, took)

  -- what was written for a line that was refused
  refused_wrote : (input taken left out : List ℕ) (held held_now : Option (List ℕ)) (result : Result Outcome Stop) → input ≡ taken ++ left → IsRefused heads limit taken left out → PutsEnd Outcome.Refused held held_now out result
      → Wrote (headless heads limit) input left held held_now result
  refused_wrote input taken left out held held_now (Ok outcome) is refused (wanted, took) = (taken, out, is, (wanted, refused), took)
  refused_wrote input taken left out held held_now (Err Stop.ReadFault) is refused puts = absurd puts
  refused_wrote input taken left out held held_now (Err Stop.WriteFault) is refused (front, back, split, took) = (taken, [], out, front, back, is, (refl, inl refused), split, took)
  refused_wrote input taken left out held held_now (Err Stop.OutOfMemory) is refused (front, back, split, took) = (taken, [], out, front, back, is, (refl, inl refused), split, took)

  -- nothing was written
  unanswered_wrote : (input taken left : List ℕ) (held held_now : Option (List ℕ)) → input ≡ taken ++ left → IsUnanswered heads limit taken → held_now ≡ held → Wrote (headless heads limit) input left held held_now (Err Stop.OutOfMemory)
  unanswered_wrote input taken left held held_now is unanswered same =
      (taken, [], [], [], [], is, (refl, inr (unanswered, refl)), refl, same ∙ took_none held)

  stopped_wrote : (stop : Stop) (input front pending left : List ℕ) (held held_now : Option (List ℕ)) → input ≡ front ++ (pending ++ left) → HasNoNewline front → length (front ++ pending) ≤ limit → length pending ≤ CHUNK → (stop ≢ Stop.OutOfMemory → pending ≡ []) → held_now ≡ held
      → Wrote (headless heads limit) input left held held_now (Err stop)
  stopped_wrote Stop.ReadFault input front pending left held held_now is none few small looked same =
      (front, [], is ∙ ap (λ p. front ++ (p ++ left)) (looked (λ e. cc e)), (none, omega (arith, few, length-append front pending), refl), same ∙ took_none held)
  stopped_wrote Stop.WriteFault input front pending left held held_now is none few small looked same =
      (front ++ pending, [], [], [], [], is ∙ sym (append_assoc front pending left), (refl, inr ((front, none, few, inl (pending, small, refl)), refl)), refl, same ∙ took_none held)
  stopped_wrote Stop.OutOfMemory input front pending left held held_now is none few small looked same =
      unanswered_wrote input (front ++ pending) left held held_now (is ∙ sym (append_assoc front pending left)) (front, none, few, inl (pending, small, refl)) same

  -- what a talk read
  module _ (before mid : TalkState) (whole : before.allowed ≡ limit) where
    -- a line, which had a head
    pub told_led : (h : H) (rest : ℕ → Meaning) (tape_now : Option Tape) (held_now : Option (List ℕ)) (result : Result Outcome Stop)
        → WhereTold before.tape mid.tape (ReadsNext line_limit before mid (Ok Next.Line)) → ((line : List ℕ) → Keeps line_limit mid.overlong mid.line line → (length line ≤ line_limit) × heads.tells line h)
        → WhereTold mid.tape tape_now (λ x y. Wrote (rest mid.allowed) x.left y.left before.held held_now result) → WhereTold before.tape tape_now (λ x y. Wrote (led heads limit h rest) x.left y.left before.held held_now result)
    told_led h rest tape_now held_now result reads finds ran = told_then before.tape mid.tape tape_now (ReadsNext line_limit before mid (Ok Next.Line)) _ _ reads ran (λ x y z r wrote.
        let found = finds r.0 r.1.keeps in
        led_wrote h rest r.0 mid.allowed x.left y.left z.left before.held held_now r.1.no_newline found.0 found.1 r.2.next (sym whole ∙ r.2.counted) result wrote)

    module _ (pending : List ℕ) (told : Option Tape) (held_now : Option (List ℕ)) (few : length pending ≤ CHUNK) where
      -- a line, which was refused
      pub told_refused : (out : List ℕ) (result : Result Outcome Stop) → WhereTold before.tape (tape_behind pending told) (ReadsNext line_limit before mid (Ok Next.Line)) → ((line : List ℕ) → Keeps line_limit mid.overlong mid.line line → FindsFirst heads limit line [] out None)
          → PutsEnd Outcome.Refused before.held held_now out result → WhereTold before.tape told (λ x y. Wrote (headless heads limit) x.left y.left before.held held_now result)
      told_refused out result reads finds puts = told_source before.tape pending told (ReadsNext line_limit before mid (Ok Next.Line)) _ reads (λ x z r.
          refused_wrote x.left (ended r.0 ++ pending) z.left out before.held held_now result (r.2.next ∙ sym (append_assoc (ended r.0) pending z.left))
          (found r.0 z.left r.1.no_newline (finds r.0 r.1.keeps)) puts)
        where
          found : (line left : List ℕ) → HasNoNewline line → FindsFirst heads limit line [] out None → IsRefused heads limit (ended line ++ pending) left out
          found line left none (inl f) = inl (line, none, f.0, subst (heads.refuses line) (sym f.1.2) f.1.1, (pending, few, refl))
          found line left none (inr f) = inr (NoLine.Long, inl (line, none, f.0, (pending, few, refl)), f.2)

      -- a line, and memory was refused
      pub told_unanswered : length pending ≤ mid.allowed → WhereTold before.tape (tape_behind pending told) (ReadsNext line_limit before mid (Ok Next.Line)) → held_now ≡ before.held → WhereTold before.tape told (λ x y. Wrote (headless heads limit) x.left y.left before.held held_now (Err Stop.OutOfMemory))
      told_unanswered within reads same = told_source before.tape pending told (ReadsNext line_limit before mid (Ok Next.Line)) _ reads (λ x z r.
          unanswered_wrote x.left (ended r.0 ++ pending) z.left before.held held_now (r.2.next ∙ sym (append_assoc (ended r.0) pending z.left)) (r.0, r.1.no_newline, omega (arith, whole, r.2.counted, within, length-append (ended r.0) pending), inr (pending, few, refl)) same)

      -- no line
      pub told_cut : (why : NoLine) (result : Result Outcome Stop) → pending ≡ [] → ((line : List ℕ) → Keeps line_limit mid.overlong mid.line line → IsLackIn line why) → WhereTold before.tape (tape_behind pending told) (ReadsNext line_limit before mid (Ok Next.End))
          → PutsEnd Outcome.Refused before.held held_now (heads.lacks why) result → WhereTold before.tape told (λ x y. Wrote (headless heads limit) x.left y.left before.held held_now result)
      told_cut why result none lacks reads puts = told_source before.tape pending told (ReadsNext line_limit before mid (Ok Next.End)) _ reads (λ x z r.
          let ends : z.left ≡ [] = ap (λ (p : List ℕ). p ++ z.left) (sym none) ∙ r.3 in
          refused_wrote x.left r.0 z.left (heads.lacks why) before.held held_now result (r.2.next ∙ ap (λ (p : List ℕ). r.0 ++ (p ++ z.left)) none)
          (inr (why, lacks_end limit why r.0 z.left r.1.no_newline (omega (arith, whole, r.2.counted)) ends (lacks r.0 r.1.keeps), refl)) puts)

      pub told_past : (result : Result Outcome Stop) → pending ≡ [] → WhereTold before.tape (tape_behind pending told) (ReadsNext line_limit before mid (Ok Next.PastLimit))
          → PutsEnd Outcome.Refused before.held held_now (heads.lacks NoLine.Long) result → WhereTold before.tape told (λ x y. Wrote (headless heads limit) x.left y.left before.held held_now result)
      told_past result none reads puts = told_source before.tape pending told (ReadsNext line_limit before mid (Ok Next.PastLimit)) _ reads (λ x z r.
          refused_wrote x.left (r.0 ++ r.1 ∷ []) z.left (heads.lacks NoLine.Long) before.held held_now result
          (r.3 ∙ ap (λ (p : List ℕ). r.0 ++ r.1 ∷ (p ++ z.left)) none ∙ sym (append_assoc r.0 (r.1 ∷ []) z.left))
          (inr (NoLine.Long, inr (inr (r.0, r.1, r.2, r.4 ∙ whole, refl)), refl)) puts)

      pub told_stopped : (stop : Stop) → length pending ≤ mid.allowed → (stop ≢ Stop.OutOfMemory → pending ≡ []) → WhereTold before.tape (tape_behind pending told) (ReadsNext line_limit before mid (Err stop)) → held_now ≡ before.held
          → WhereTold before.tape told (λ x y. Wrote (headless heads limit) x.left y.left before.held held_now (Err stop))
      told_stopped stop within looked reads same = told_source before.tape pending told (ReadsNext line_limit before mid (Err stop)) _ reads (λ x z r.
          stopped_wrote stop x.left r.0 pending z.left before.held held_now r.2.next r.1 (omega (arith, whole, r.2.counted, within, length-append r.0 pending)) few looked same)
