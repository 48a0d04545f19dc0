-- A list of bytes begins with one head at most, and with the same one whatever follows.
use Rattle.std.proofs.Common.{◌≡◌, ◌⊎◌, ℕ, ◌+◌, ◌<◌, ◌≤◌, List, [], ◌∷◌, ◌++◌, length, take, drop, refl, sym, ap, ◌∙◌, append_assoc, append-nil, arith, length-append, inl, inr}
use Rattle.std.specs.List.{flat_map}
use Rattle.std.proofs.lemmas.Bool.{cases_lt}
use Rattle.std.proofs.lemmas.List.{append_cancel_left, take-append-le, take-append-drop, take_at, flat_map_more}
use Rattle.std.proofs.lemmas.List.Elements.{All-nil, All-head, All-tail}
use Rattle.http_connection.specs.Lines.{ended}
use Rattle.http_connection.specs.HeadEnds.{IsFull, BeginsWithHead, HasNoHead}
use Rattle.http_connection.specs.Walks.{step, walk}
use Rattle.http_connection.specs.declared.head.TheConstants.{HEAD_LIMIT}
use Rattle.http_connection.specs.declared.head.Walk.{Walk}
use Rattle.http_connection.proofs.HeadWalk.{among, walk_append, walk_over, walk_blank, walk_full, head_lines, are_head_lines, head_walk}

-- what comes before the last of some lines begins with those before it
pub before_last : {T : Type 0} (front : List T) (x : T) (a : List T) (z : T) (more : List T) → front ++ x ∷ [] ≡ a ++ z ∷ more → (rest : List T) × (front ≡ a ++ rest)
before_last front x [] z more e = (front, refl)
before_last [] x (y ∷ a) z more e = let n = ap length e in absurd (omega (arith, n, length-append a (z ∷ more)))
before_last (w ∷ front) x (y ∷ a) z more e =
    let first : w ≡ y = cc in
    let tails : front ++ x ∷ [] ≡ a ++ z ∷ more = cc in
    let found = before_last front x a z more tails in
    (found.0, ap (λ l. w ∷ l) found.1 ∙ ap (λ v. v ∷ (a ++ found.0)) first)

-- before its last line a head isn't over
front_walk : {bytes head rest : List ℕ} → (h : BeginsWithHead bytes head rest) → walk Walk.Blank (BeginsWithHead.before h ++ (BeginsWithHead.first h ∷ BeginsWithHead.lines h)) ≡ Walk.Full (0 + length (BeginsWithHead.lines h))
front_walk h =
    walk_append Walk.Blank h.before (h.first ∷ h.lines) ∙ ap (λ w. walk w (h.first ∷ h.lines)) (walk_blank h.before h.empty)
    ∙ ap (λ b. walk (step Walk.Blank b) h.lines) (IsFull.some (All-head IsFull h.first h.lines h.full)) ∙ walk_full 0 h.lines (All-tail IsFull h.first h.lines h.full)

-- no head goes on after another
no_more : {bytes head rest head2 rest2 : List ℕ} → (a : BeginsWithHead bytes head rest) → (b : BeginsWithHead bytes head2 rest2) → (more : List (List ℕ)) → head_lines b ≡ head_lines a ++ more → head_lines b ≡ head_lines a
no_more a b [] e = e ∙ append-nil (head_lines a)
no_more a b (z ∷ more) e =
    let front = b.before ++ (b.first ∷ b.lines) in
    let found = before_last front b.last (head_lines a) z more e in
    let over : walk Walk.Blank front ≡ Walk.Over (length a.lines) =
    ap (walk Walk.Blank) found.1 ∙ walk_append Walk.Blank (head_lines a) found.0 ∙ ap (λ w. walk w found.0) (head_walk a) ∙ walk_over (length a.lines) found.0 in
    let full = front_walk b in
    absurd (cc (over, full))

-- the shorter of two heads is the other
shorter : {bytes head rest head2 rest2 : List ℕ} → (a : BeginsWithHead bytes head rest) → (b : BeginsWithHead bytes head2 rest2) → length head ≤ length head2 → head_lines b ≡ head_lines a
shorter {rest = rest} {rest2 = rest2} a b le =
    let m = ap length a.head_is in
    let n = ap length b.head_is in
    let e : flat_map ended (head_lines b) ++ ([] ++ rest2) ≡ flat_map ended (head_lines a) ++ rest = ap (λ l. l ++ rest2) (sym b.head_is) ∙ sym b.bytes_are ∙ a.bytes_are ∙ ap (λ l. l ++ rest) a.head_is in
    let found = among (length (flat_map ended (head_lines a))) (head_lines a) (head_lines b) [] rest2 rest (are_head_lines a) (are_head_lines b) (All-nil (λ b. b ≡ 10 → ⊥)) (omega arith) (omega (arith, m, n, le)) e in
    no_more a b found.0 found.1

alike : {bytes head rest head2 rest2 : List ℕ} → (a : BeginsWithHead bytes head rest) → (b : BeginsWithHead bytes head2 rest2) → head_lines b ≡ head_lines a
    → (head2 ≡ head) × (rest2 ≡ rest) × (length (BeginsWithHead.lines b) ≡ length (BeginsWithHead.lines a))
alike {bytes = bytes} {head = head} {rest = rest} {head2 = head2} {rest2 = rest2} a b e =
    let same : head2 ≡ head = b.head_is ∙ ap (flat_map ended) e ∙ sym a.head_is in
    let tails : head ++ rest2 ≡ head ++ rest = ap (λ l. l ++ rest2) (sym same) ∙ sym b.bytes_are ∙ a.bytes_are in
    let walks : Walk.Over (length b.lines) ≡ Walk.Over (length a.lines) = sym (head_walk b) ∙ ap (walk Walk.Blank) e ∙ head_walk a in
    (same, append_cancel_left head rest2 rest tails, cc)

-- one head begins the bytes
pub one_head : {bytes head rest head2 rest2 : List ℕ} → (a : BeginsWithHead bytes head rest) → (b : BeginsWithHead bytes head2 rest2)
    → (head2 ≡ head) × (rest2 ≡ rest) × (length (BeginsWithHead.lines b) ≡ length (BeginsWithHead.lines a))
one_head {head = head} {head2 = head2} a b = by_length a b (cases_lt (length head) (length head2))
  where
    by_length : {bytes head rest head2 rest2 : List ℕ} → (a : BeginsWithHead bytes head rest) → (b : BeginsWithHead bytes head2 rest2) → (length head < length head2) ⊎ (length head2 ≤ length head)
        → (head2 ≡ head) × (rest2 ≡ rest) × (length (BeginsWithHead.lines b) ≡ length (BeginsWithHead.lines a))
    by_length a b (inl less) = alike a b (shorter a b (omega (arith, less)))
    by_length a b (inr le) = alike a b (sym (shorter b a le))

-- no head is empty
pub head_some : {bytes head rest : List ℕ} → BeginsWithHead bytes head rest → bytes ≡ [] → ⊥
head_some {bytes = bytes} {head = head} {rest = rest} h none =
    let front = flat_map ended (h.before ++ (h.first ∷ h.lines)) in
    let all = ap length (h.head_is ∙ sym (flat_map_more ended [] (h.before ++ (h.first ∷ h.lines)) h.last)) in
    let e = ap length (sym none ∙ h.bytes_are) in
    omega (arith, all, e, length-append head rest, length-append front (ended h.last), length-append h.last (10 ∷ []))

-- what begins with a head does so whatever follows
abbrev pub begins_more : {bytes head rest : List ℕ} → (h : BeginsWithHead bytes head rest) → (more : List ℕ) → BeginsWithHead (bytes ++ more) head (rest ++ more)
begins_more {head = head} {rest = rest} h more = record {
  before = h.before;
  first = h.first;
  lines = h.lines;
  last = h.last;
  empty = h.empty;
  full = h.full;
  ends = h.ends;
  head_is = h.head_is;
  short = h.short;
  bytes_are = ap (λ l. l ++ more) h.bytes_are ∙ append_assoc head rest more;
}

-- so many bytes that begin with no head do so whatever follows
pub no_head_more : (bytes more : List ℕ) → HEAD_LIMIT ≤ length bytes → HasNoHead bytes → HasNoHead (bytes ++ more)
no_head_more bytes more long none = λ head rest h.
    let b : BeginsWithHead (bytes ++ more) head rest = h in
    let n = length head in
    let s = b.short in
    let within : n ≤ length bytes = omega (arith, s, long) in
    let front : take n bytes ≡ head = sym (take-append-le n bytes more within) ∙ ap (take n) b.bytes_are ∙ take_at head rest n refl in
    none head (drop n bytes) (record {
      before = b.before;
      first = b.first;
      lines = b.lines;
      last = b.last;
      empty = b.empty;
      full = b.full;
      ends = b.ends;
      head_is = b.head_is;
      short = b.short;
      bytes_are = sym (take-append-drop n bytes) ∙ ap (λ l. l ++ drop n bytes) front;
    })
