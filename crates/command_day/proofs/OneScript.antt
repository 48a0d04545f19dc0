-- Lines that are answered in one way, as far as two runs agree in what came beside them, have one output; and what is put
-- of it at any point is a prefix of the whole.
use Rattle.std.proofs.Common.{◌≡◌, inl, inr, ℕ, suc, ◌+◌, ◌≤◌, List, [], ◌∷◌, ◌++◌, length, All, refl, sym, ap, ◌∙◌, append_assoc, append-nil, length-append, arith, subst}
use Rattle.std.specs.List.{flat_map}
use Rattle.std.proofs.lemmas.Grind.{flat_map-append}
use Rattle.std.proofs.lemmas.List.Elements.{All-head, All-push, All-tail}
use Rattle.adx_io.specs.Lines.{HasNoNewline}
use Rattle.adx_io.specs.Talk.{ended}
use Rattle.command_runs.specs.Scripts.{Answered, Answering, Answers, Closes}
use Rattle.command_runs.specs.declared.outcome.Outcome.{Outcome}
use Rattle.history_runs.proofs.FirstLines.{first_same, no_first, rest_same}

-- lists
-- the shorter of two fronts is a front of the longer
pub front_of : (a b c d : List ℕ) → a ++ b ≡ c ++ d → length a ≤ length c → (x : List ℕ) × (c ≡ a ++ x)
front_of [] b c d e short = (c, refl)
front_of (x ∷ a) b [] d e short = absurd (omega (arith, short))
front_of (x ∷ a) b (y ∷ c) d e short =
    let head : x ≡ y = cc e in
    let tail : a ++ b ≡ c ++ d = cc e in
    let more = front_of a b c d tail (omega (arith, short)) in
    (more.0, ap (λ z. z ∷ c) (sym head) ∙ ap (λ l. x ∷ l) more.1)

-- two fronts of one length are one
pub front_same : (a b c d : List ℕ) → a ++ b ≡ c ++ d → length a ≡ length c → a ≡ c
front_same [] b [] d e long = refl
front_same [] b (y ∷ c) d e long = absurd (omega (arith, long))
front_same (x ∷ a) b [] d e long = absurd (omega (arith, long))
front_same (x ∷ a) b (y ∷ c) d e long =
    let head : x ≡ y = cc e in
    let tail : a ++ b ≡ c ++ d = cc e in
    ap (λ z. z ∷ a) head ∙ ap (λ l. y ∷ l) (front_same a b c d tail (omega (arith, long)))

-- the lines of a front are the first lines
cut_front : (lines others : List (List ℕ)) (behind last : List ℕ) → All HasNoNewline lines → All HasNoNewline others → HasNoNewline last → flat_map ended lines ++ behind ≡ flat_map ended others ++ last
    → (more : List (List ℕ)) × (others ≡ lines ++ more) × (behind ≡ flat_map ended more ++ last)
cut_front [] others behind last whole whole' piece e = (others, refl, e)
cut_front (l ∷ lines) [] behind last whole whole' piece e =
    absurd (no_first last l (flat_map ended lines ++ behind) piece (sym e ∙ ap (λ b. b ++ behind) (append_assoc l (10 ∷ []) (flat_map ended lines)) ∙ append_assoc l (10 ∷ flat_map ended lines) behind))
cut_front (l ∷ lines) (o ∷ others) behind last whole whole' piece e =
    let here = All-head HasNoNewline l lines whole in
    let there = All-head HasNoNewline o others whole' in
    let both : l ++ 10 ∷ (flat_map ended lines ++ behind) ≡ o ++ 10 ∷ (flat_map ended others ++ last) =
    sym (ap (λ b. b ++ behind) (append_assoc l (10 ∷ []) (flat_map ended lines)) ∙ append_assoc l (10 ∷ flat_map ended lines) behind)
    ∙ e ∙ ap (λ b. b ++ last) (append_assoc o (10 ∷ []) (flat_map ended others)) ∙ append_assoc o (10 ∷ flat_map ended others) last in
    let same = first_same l o (flat_map ended lines ++ behind) (flat_map ended others ++ last) here there both in
    let rest = rest_same l o (flat_map ended lines ++ behind) (flat_map ended others ++ last) here there both in
    let more = cut_front lines others behind last (All-tail HasNoNewline l lines whole) (All-tail HasNoNewline o others whole') piece rest in
    (more.0, ap (λ x. x ∷ others) (sym same) ∙ ap (λ ls. l ∷ ls) more.1, more.2)

-- no whole line is in a piece without a newline
no_more : (more : List (List ℕ)) (piece last : List ℕ) → HasNoNewline piece → piece ≡ flat_map ended more ++ last → (more ≡ []) × (piece ≡ last)
no_more [] piece last none e = (refl, e)
no_more (m ∷ more) piece last none e =
    absurd (no_first piece m (flat_map ended more ++ last) none (e ∙ ap (λ b. b ++ last) (append_assoc m (10 ∷ []) (flat_map ended more)) ∙ append_assoc m (10 ∷ flat_map ended more) last))

module _ {A : Type 0} (a : Answering A) (s : A) (first : ℕ) where
  -- one more line was answered
  answers_more : (t : A) (n m : ℕ) (lines : List (List ℕ)) (out : List ℕ) (mid : A) (line one : List ℕ) (now : A) → Answers a t n lines out mid → m ≡ n + length lines → a.answers mid m line one now → Answers a t n (lines ++ line ∷ []) (out ++ one) now
  answers_more t n m [] out mid line one now so_far numbered more = (
    now,
    one,
    [],
    subst (λ k. a.answers t k line one now) (omega (arith, numbered)) (subst (λ (b : A). a.answers b m line one now) so_far.1 more),
    (refl, refl),
    ap (λ o. o ++ one) so_far.0 ∙ sym (append-nil one),
  )
  answers_more t n m (l ∷ lines) out mid line one now (between, head_out, rest, head, tail, is) numbered more = (
    between,
    head_out,
    rest ++ one,
    head,
    answers_more between (suc n) m lines rest mid line one now tail (omega (arith, numbered)) more,
    ap (λ o. o ++ one) is ∙ append_assoc head_out rest one,
  )

  pub answered_more : (bytes put : List ℕ) (mid : A) (number : ℕ) (line one : List ℕ) (now : A) → Answered a s first bytes put mid number → HasNoNewline line → a.answers mid number line one now
      → Answered a s first (bytes ++ ended line) (put ++ one) now (number + 1)
  answered_more bytes put mid number line one now so_far piece more = record {
    lines = so_far.lines ++ line ∷ [];
    split = ap (λ b. b ++ ended line) so_far.split ∙ sym (flat_map-append ended so_far.lines (line ∷ []) ∙ ap (λ l. flat_map ended so_far.lines ++ l) (append-nil (ended line)));
    whole = All-push HasNoNewline so_far.lines line so_far.whole piece;
    answered = answers_more s first number so_far.lines put mid line one now so_far.answered so_far.numbered more;
    numbered = omega (arith, so_far.numbered, length-append so_far.lines (line ∷ []));
  }

  -- what a whole run is: its lines, its last piece, and its end
  pub record Whole (allowed : ℕ) (script out : List ℕ) (now : A) : Type 0 where
    pub outcome : Outcome
    pub taken : List ℕ
    pub left : List ℕ
    pub is : script ≡ taken ++ left
    pub bytes : List ℕ
    pub piece : List ℕ
    pub put : List ℕ
    pub last : List ℕ
    pub number : ℕ
    pub answered : Answered a s first bytes put now number
    pub none : HasNoNewline piece
    pub closes : Closes a allowed now number bytes piece outcome taken left last
    pub out_is : out ≡ put ++ last

-- Goes: from one state the lines go on to another. Agree: two last states agree in what came beside the lines.
module _ {A : Type 0} (a : Answering A) (Goes : A → A → Type 0) (Agree : A → A → Type 0)
    (goes_back : (s u now : A) (n : ℕ) (line out : List ℕ) → a.answers s n line out u → Goes u now → Goes s now)
    (one_line : (s u v now other : A) (n : ℕ) (line out whole : List ℕ) → a.answers s n line out u → a.answers s n line whole v → Goes u now → Goes v other → Agree now other → (u ≡ v) × (out ≡ whole))
    (one_end : (now other : A) (n : ℕ) (piece out whole : List ℕ) (outcome ended : Outcome) → now ≡ other → a.closes now n piece outcome out → a.closes other n piece ended whole → out ≡ whole) where
  goes_from : (s : A) (n : ℕ) (lines : List (List ℕ)) (out : List ℕ) (u now : A) → Answers a s n lines out u → Goes u now → Goes s now
  goes_from s n [] out u now (none, same) goes = subst (λ (x : A). Goes x now) same goes
  goes_from s n (l ∷ lines) out u now (mid, first, rest, one, tail, is) goes = goes_back s mid now n l first one (goes_from mid (suc n) lines rest u now tail goes)

  -- the answers to the first lines are the first answers
  pub answers_front : (s : A) (n : ℕ) (lines more : List (List ℕ)) (out whole : List ℕ) (u v now other : A) → Answers a s n lines out u → Answers a s n (lines ++ more) whole v → Goes u now → Goes v other → Agree now other
      → (rest : List ℕ) × (whole ≡ out ++ rest) × (more ≡ [] → (rest ≡ []) × (v ≡ u))
  answers_front s n [] more out whole u v now other (none, same) two goes goes' agree = (
    whole,
    ap (λ o. o ++ whole) (sym none),
    (λ empty. let last = subst (λ (m : List (List ℕ)). Answers a s n m whole v) empty two in (last.0, last.1 ∙ sym same)),
  )
  answers_front s n (l ∷ lines) more out whole u v now other (mid, first, rest, one, tail, is) (mid', first', rest', one', tail', is') goes goes' agree =
      let same = one_line s mid mid' now other n l first first' one one' (goes_from mid (suc n) lines rest u now tail goes) (goes_from mid' (suc n) (lines ++ more) rest' v other tail' goes') agree in
      let behind = answers_front mid (suc n) lines more rest rest' u v now other tail (subst (λ (m : A). Answers a m (suc n) (lines ++ more) rest' v) (sym same.0) tail') goes goes' agree in
      (behind.0, is' ∙ ap (λ o. o ++ rest') (sym same.1) ∙ ap (λ o. first ++ o) behind.1 ∙ sym (append_assoc first rest behind.0) ∙ ap (λ o. o ++ behind.0) (sym is), behind.2)

  module _ (s : A) (first allowed : ℕ) where
    -- a front of a script within what may be read is a front of the lines and the last piece of a whole run
    within : (bytes behind script taken left bytes' piece : List ℕ) (now : A) (number : ℕ) (outcome : Outcome) (last : List ℕ) → script ≡ bytes ++ behind → script ≡ taken ++ left → length bytes ≤ allowed
        → Closes a allowed now number bytes' piece outcome taken left last → (x : List ℕ) × (bytes' ++ piece ≡ bytes ++ x)
    within bytes behind script taken left bytes' piece now number outcome last at is few (inl (none, whole, short, closes)) =
        (behind, sym whole ∙ sym (append-nil taken) ∙ ap (λ l. taken ++ l) (sym none) ∙ sym is ∙ at)
    within bytes behind script taken left bytes' piece now number outcome last at is few (inr (more, whole, long, refused, said)) =
        front_of bytes behind (bytes' ++ piece) (more ∷ [] ++ left) (sym at ∙ is ∙ ap (λ l. l ++ left) whole ∙ append_assoc (bytes' ++ piece) (more ∷ []) left) (subst (λ n. length bytes ≤ n) (sym long) few)

    -- what was put for a front is a prefix of each whole output
    pub put_front : (bytes behind script put whole : List ℕ) (u now other : A) (number : ℕ) → Answered a s first bytes put u number → script ≡ bytes ++ behind → length bytes ≤ allowed
        → Goes u now → Goes other other → Agree now other → Whole a s first allowed script whole other → (rest : List ℕ) × (whole ≡ put ++ rest)
    put_front bytes behind script put whole u now other number one at few goes here agree b =
        let x = within bytes behind script b.taken b.left b.bytes b.piece other b.number b.outcome b.last at b.is few b.closes in
        let cut = cut_front one.lines b.answered.lines x.0 b.piece one.whole b.answered.whole b.none
        (ap (λ l. l ++ x.0) (sym one.split) ∙ sym x.1 ∙ ap (λ l. l ++ b.piece) b.answered.split) in
        let front = answers_front s first one.lines cut.0 put b.put u other now other one.answered (subst (λ (ls : List (List ℕ)). Answers a s first ls b.put other) cut.1 b.answered.answered) goes here agree in
        (front.0 ++ b.last, b.out_is ∙ ap (λ l. l ++ b.last) front.1 ∙ append_assoc put front.0 b.last)

    -- two whole runs have one output
    ends_same : (bytes piece bytes' piece' taken left taken' left' last last' : List ℕ) (now other : A) (number number' : ℕ) (outcome outcome' : Outcome) → taken ++ left ≡ taken' ++ left'
        → Closes a allowed now number bytes piece outcome taken left last → Closes a allowed other number' bytes' piece' outcome' taken' left' last'
        → (bytes ++ piece ≡ bytes' ++ piece') × ((now ≡ other) → (number ≡ number') → (piece ≡ piece') → last ≡ last')
    ends_same bytes piece bytes' piece' taken left taken' left' last last' now other number number' outcome outcome' both (inl (none, whole, short, closes)) (inl (none', whole', short', closes')) = (
      sym whole ∙ sym (append-nil taken) ∙ ap (λ l. taken ++ l) (sym none) ∙ both ∙ ap (λ l. taken' ++ l) none' ∙ append-nil taken' ∙ whole',
      (λ same number_is piece_is. one_end now other number' piece' last last' outcome outcome' same (subst (λ (p : List ℕ). a.closes now number' p outcome last) piece_is (subst (λ n. a.closes now n piece outcome last) number_is closes)) closes'),
    )
    ends_same bytes piece bytes' piece' taken left taken' left' last last' now other number number' outcome outcome' both (inl (none, whole, short, closes)) (inr (more', whole', long', refused', said')) =
        absurd (omega (arith, short, long', ap length both, ap length none, ap length whole', length-append taken left, length-append taken' left', length-append (bytes' ++ piece') (more' ∷ [])))
    ends_same bytes piece bytes' piece' taken left taken' left' last last' now other number number' outcome outcome' both (inr (more, whole, long, refused, said)) (inl (none', whole', short', closes')) =
        absurd (omega (arith, short', long, ap length both, ap length none', ap length whole, length-append taken left, length-append taken' left', length-append (bytes ++ piece) (more ∷ [])))
    ends_same bytes piece bytes' piece' taken left taken' left' last last' now other number number' outcome outcome' both (inr (more, whole, long, refused, said)) (inr (more', whole', long', refused', said')) = (
      front_same (bytes ++ piece) (more ∷ [] ++ left) (bytes' ++ piece') (more' ∷ [] ++ left')
          (sym (append_assoc (bytes ++ piece) (more ∷ []) left) ∙ ap (λ l. l ++ left) (sym whole) ∙ both ∙ ap (λ l. l ++ left') whole' ∙ append_assoc (bytes' ++ piece') (more' ∷ []) left') (long ∙ sym long'),
      (λ same number_is piece_is. said ∙ ap a.passes number_is ∙ sym said'),
    )

    pub whole_same : (script out whole : List ℕ) (now other : A) → Goes now now → Goes other other → Agree now other → Whole a s first allowed script out now → Whole a s first allowed script whole other → out ≡ whole
    whole_same script out whole now other here there agree x y =
        let ends = ends_same x.bytes x.piece y.bytes y.piece x.taken x.left y.taken y.left x.last y.last now other x.number y.number x.outcome y.outcome (sym x.is ∙ y.is) x.closes y.closes in
        let cut = cut_front x.answered.lines y.answered.lines x.piece y.piece x.answered.whole y.answered.whole y.none
        (ap (λ l. l ++ x.piece) (sym x.answered.split) ∙ ends.0 ∙ ap (λ l. l ++ y.piece) y.answered.split) in
        let none = no_more cut.0 x.piece y.piece x.none cut.2 in
        let front = answers_front s first x.answered.lines cut.0 x.put y.put now other now other x.answered.answered (subst (λ (ls : List (List ℕ)). Answers a s first ls y.put other) cut.1 y.answered.answered) here there agree in
        let same = front.2 none.0 in
        let lines : y.answered.lines ≡ x.answered.lines = cut.1 ∙ ap (λ m. x.answered.lines ++ m) none.0 ∙ append-nil x.answered.lines in
        let last = ends.1 (sym same.1) (x.answered.numbered ∙ ap (λ (ls : List (List ℕ)). first + length ls) (sym lines) ∙ sym y.answered.numbered) none.1 in
        x.out_is ∙ ap (λ l. l ++ x.last) (sym (append-nil x.put) ∙ ap (λ r. x.put ++ r) (sym same.0) ∙ sym front.1) ∙ ap (λ l. y.put ++ l) last ∙ sym y.out_is
