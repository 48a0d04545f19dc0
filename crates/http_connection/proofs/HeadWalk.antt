-- The lines of a head, and that they are cut in one way.
use Rattle.std.proofs.Common.{◌≡◌, ◌≢◌, ℕ, ◌+◌, ◌-◌, ◌≤◌, List, [], ◌∷◌, ◌++◌, length, take, drop, All, Bool, true, false, refl, sym, ap, ◌∙◌, append_assoc, append-nil, arith, length-append, length-drop}
use Rattle.std.specs.List.{flat_map}
use Rattle.std.proofs.lemmas.List.{drop_at, take_at, drop-append-le, flat_map_more, length-take-le, take-append-drop}
use Rattle.std.proofs.lemmas.List.Elements.{All-append, All-nil, All-cons, All-head, All-tail}
use Rattle.http_connection.specs.Lines.{IsLine, ended, EndsAt, IsTooLong, IsOpen}
use Rattle.http_connection.proofs.Ranges.{part_is}
use Rattle.http_connection.specs.HeadEnds.{is_empty_line, IsEmpty, IsFull, BeginsWithHead, HeadEndsAt, NeverHasHead, HasNoHeadYet}
use Rattle.http_connection.specs.declared.head.TheConstants.{HEAD_LIMIT}
use Rattle.http_connection.specs.Walks.{step, walk, count_of}
use Rattle.http_connection.specs.declared.head.Walk.{Walk}

-- a line that ends is cut in one way
pub cut : (a b p q : List ℕ) → IsLine a → IsLine b → a ++ 10 ∷ p ≡ b ++ 10 ∷ q → (a ≡ b) × (p ≡ q)
cut [] [] p q ones twos e = (refl, cc)
cut [] (y ∷ b) p q ones twos e = let h : 10 ≡ y = cc in absurd (All-head (λ x. x ≢ 10) y b twos (sym h))
cut (x ∷ a) [] p q ones twos e = let h : x ≡ 10 = cc in absurd (All-head (λ x. x ≢ 10) x a ones h)
cut (x ∷ a) (y ∷ b) p q ones twos e =
    let first : x ≡ y = cc in
    let tails : a ++ 10 ∷ p ≡ b ++ 10 ∷ q = cc in
    let rest = cut a b p q (All-tail (λ x. x ≢ 10) x a ones) (All-tail (λ x. x ≢ 10) y b twos) tails in
    (cc (first, rest.0), rest.1)

-- bytes without a line feed reach no further than a line does
pub reach : (a b p q : List ℕ) → IsLine a → IsLine b → a ++ p ≡ b ++ 10 ∷ q → length a ≤ length b
reach [] b p q ones twos e = omega arith
reach (x ∷ a) [] p q ones twos e = let h : x ≡ 10 = cc in absurd (All-head (λ x. x ≢ 10) x a ones h)
reach (x ∷ a) (y ∷ b) p q ones twos e =
    let tails : a ++ p ≡ b ++ 10 ∷ q = cc in
    let less = reach a b p q (All-tail (λ x. x ≢ 10) x a ones) (All-tail (λ x. x ≢ 10) y b twos) tails in omega (arith, less)

pub ended_cons : (b : List ℕ) (bs : List (List ℕ)) (rest : List ℕ) → flat_map ended (b ∷ bs) ++ rest ≡ b ++ 10 ∷ (flat_map ended bs ++ rest)
ended_cons b bs rest = append_assoc (b ++ 10 ∷ []) (flat_map ended bs) rest ∙ append_assoc b (10 ∷ []) (flat_map ended bs ++ rest)

ended_length : (b : List ℕ) (bs : List (List ℕ)) → length (flat_map ended (b ∷ bs)) ≡ length b + 1 + length (flat_map ended bs)
ended_length b bs = length-append (b ++ 10 ∷ []) (flat_map ended bs) ∙ ap (λ n. n + length (flat_map ended bs)) (length-append b (10 ∷ []))

-- lines within the bound are among the lines that were read, where the next doesn't end within the bound
pub among : (bound : ℕ) (theirs ours : List (List ℕ)) (line p q : List ℕ) → All IsLine theirs → All IsLine ours → IsLine line
    → length (flat_map ended theirs) ≤ bound → bound ≤ length (flat_map ended ours) + length line
    → flat_map ended ours ++ (line ++ p) ≡ flat_map ended theirs ++ q → (more : List (List ℕ)) × (ours ≡ theirs ++ more)
among bound [] ours line p q ts os l short long e = (ours, refl)
among bound (t ∷ ts) [] line p q tl ol l short long e =
    let same : line ++ p ≡ t ++ 10 ∷ (flat_map ended ts ++ q) = e ∙ ended_cons t ts q in
    let less = reach line t p (flat_map ended ts ++ q) l (All-head IsLine t ts tl) same in
    absurd (omega (arith, less, ended_length t ts, short, long))
among bound (t ∷ ts) (o ∷ os) line p q tl ol l short long e =
    let same : o ++ 10 ∷ (flat_map ended os ++ (line ++ p)) ≡ t ++ 10 ∷ (flat_map ended ts ++ q) = sym (ended_cons o os (line ++ p)) ∙ e ∙ ended_cons t ts q in
    let both = cut o t (flat_map ended os ++ (line ++ p)) (flat_map ended ts ++ q) (All-head IsLine o os ol) (All-head IsLine t ts tl) same in
    let long_o : length o ≡ length t = ap length both.0 in
    let bound2 = length (flat_map ended ts) in
    let rest = among (bound2) ts os line p q (All-tail IsLine t ts tl) (All-tail IsLine o os ol) l (omega arith) (omega (arith, long_o, ended_length t ts, ended_length o os, short, long)) both.1 in
    (rest.0, ap (λ x. x ∷ os) both.0 ∙ ap (λ xs. t ∷ xs) rest.1)

pub walk_append : (w : Walk) (a b : List (List ℕ)) → walk w (a ++ b) ≡ walk (walk w a) b
walk_append w [] b = refl
walk_append w (x ∷ a) b = walk_append (step w (is_empty_line x)) a b

pub walk_over : (n : ℕ) (lines : List (List ℕ)) → walk (Walk.Over n) lines ≡ Walk.Over n
walk_over n [] = refl
walk_over n (x ∷ lines) = walk_over n lines

pub walk_blank : (before : List (List ℕ)) → All IsEmpty before → walk Walk.Blank before ≡ Walk.Blank
walk_blank [] empty = refl
walk_blank (x ∷ before) empty = ap (λ b. walk (step Walk.Blank b) before) (All-head IsEmpty x before empty) ∙ walk_blank before (All-tail IsEmpty x before empty)

pub walk_full : (n : ℕ) (lines : List (List ℕ)) → All IsFull lines → walk (Walk.Full n) lines ≡ Walk.Full (n + length lines)
walk_full n [] full = ap Walk.Full (omega arith)
walk_full n (x ∷ lines) full =
    ap (λ b. walk (step (Walk.Full n) b) lines) (IsFull.some (All-head IsFull x lines full)) ∙ walk_full (n + 1) lines (All-tail IsFull x lines full) ∙ ap Walk.Full (omega arith)

-- what a run of lines is that ends in this state
fulls : (n m : ℕ) (lines : List (List ℕ)) → All IsLine lines → walk (Walk.Full n) lines ≡ Walk.Full m → All IsFull lines × (m ≡ n + length lines)
fulls n m [] are e = (All-nil IsFull, (let h : n ≡ m = cc in omega (arith, h)))
fulls n m (x ∷ lines) are e = by_case (fulls (n + 1) m lines (All-tail IsLine x lines are)) (is_empty_line x) refl e
  where
    by_case : (walk (Walk.Full (n + 1)) lines ≡ Walk.Full m → All IsFull lines × (m ≡ n + 1 + length lines)) → (b : Bool) → is_empty_line x ≡ b → walk (step (Walk.Full n) b) lines ≡ Walk.Full m → All IsFull (x ∷ lines) × (m ≡ n + length (x ∷ lines))
    by_case more true is w = absurd (cc (walk_over n lines, w))
    by_case more false is w =
        let rest = more w in
        (All-cons IsFull x lines (record { is_line = All-head IsLine x lines are; some = is }) rest.0, omega (arith, rest.1))

-- lines of which some isn't empty, and none is after that
pub record Splits (done : List (List ℕ)) (n : ℕ) : Type 0 where
  pub before : List (List ℕ)
  pub first : List ℕ
  pub lines : List (List ℕ)
  pub empty : All IsEmpty before
  pub full : All IsFull (first ∷ lines)
  pub done_is : done ≡ before ++ (first ∷ lines)
  pub count : length lines ≡ n

pub split_walk : (done : List (List ℕ)) (n : ℕ) → All IsLine done → walk Walk.Blank done ≡ Walk.Full n → Splits done n
split_walk [] n are e = absurd (cc)
split_walk (x ∷ done) n are e = by_case (split_walk done n (All-tail IsLine x done are)) (is_empty_line x) refl e
  where
    by_case : (walk Walk.Blank done ≡ Walk.Full n → Splits done n) → (b : Bool) → is_empty_line x ≡ b → walk (step Walk.Blank b) done ≡ Walk.Full n → Splits (x ∷ done) n
    by_case more true is w =
        let s = more w in record {
          before = x ∷ s.before;
          first = s.first;
          lines = s.lines;
          empty = All-cons IsEmpty x s.before is s.empty;
          full = s.full;
          done_is = ap (λ l. x ∷ l) s.done_is;
          count = s.count;
        }
    by_case more false is w =
        let s = fulls 0 n done (All-tail IsLine x done are) w in record {
          before = [];
          first = x;
          lines = done;
          empty = All-nil IsEmpty;
          full = All-cons IsFull x done (record { is_line = All-head IsLine x done are; some = is }) s.0;
          done_is = refl;
          count = omega (arith, s.1);
        }

-- the bytes up to the place are whole lines, which lead to this state
pub record IsScanned (at : ℕ) (w : Walk) (bytes : List ℕ) : Type 0 where
  pub lines : List (List ℕ)
  pub are_lines : All IsLine lines
  pub bytes_are : bytes ≡ flat_map ended lines ++ drop at bytes
  pub at_is : at ≡ length (flat_map ended lines)
  pub walk_is : walk Walk.Blank lines ≡ w

pub scanned_within : (at : ℕ) (w : Walk) (bytes : List ℕ) → IsScanned at w bytes → at ≤ length bytes
scanned_within at w bytes s =
    let e = ap length s.bytes_are in let k = s.at_is in omega (arith, e, k, length-append (flat_map ended s.lines) (drop at bytes))

pub scanned_grows : (at : ℕ) (w : Walk) (bytes now piece : List ℕ) → IsScanned at w bytes → now ≡ bytes ++ piece → IsScanned at w now
scanned_grows at w bytes now piece s is = record {
  lines = s.lines;
  are_lines = s.are_lines;
  bytes_are =
      let rest : drop at now ≡ drop at bytes ++ piece = ap (drop at) is ∙ drop-append-le at bytes piece (scanned_within at w bytes s) in
      is ∙ ap (λ l. l ++ piece) s.bytes_are ∙ append_assoc (flat_map ended s.lines) (drop at bytes) piece ∙ ap (λ l. flat_map ended s.lines ++ l) (sym rest);
  at_is = s.at_is;
  walk_is = s.walk_is;
}

-- the line that ends there
pub line_between : (at bound end : ℕ) (bytes : List ℕ) → (e : EndsAt at bound bytes end) → drop at (take (end - 1) bytes) ≡ EndsAt.line e
line_between at bound end bytes e =
    let k : end - 1 ≡ at + length e.line = let i = e.end_is in omega (arith, i) in
    ap (λ n. drop at (take n bytes)) k ∙ part_is bytes at (length e.line) ∙ ap (take (length e.line)) e.behind ∙ take_at e.line (10 ∷ e.rest) (length e.line) refl

flat_more : (lines : List (List ℕ)) (line : List ℕ) → flat_map ended (lines ++ line ∷ []) ≡ flat_map ended lines ++ ended line
flat_more lines line = sym (flat_map_more ended [] lines line)

-- the bytes up to the end of that line
lines_to : (at bound end : ℕ) (w : Walk) (bytes : List ℕ) → (s : IsScanned at w bytes) → (e : EndsAt at bound bytes end)
    → bytes ≡ flat_map ended (IsScanned.lines s ++ EndsAt.line e ∷ []) ++ EndsAt.rest e
lines_to at bound end w bytes s e =
    s.bytes_are ∙ ap (λ l. flat_map ended s.lines ++ l) (e.behind ∙ sym (append_assoc e.line (10 ∷ []) e.rest))
    ∙ sym (append_assoc (flat_map ended s.lines) (ended e.line) e.rest) ∙ ap (λ l. l ++ e.rest) (sym (flat_more s.lines e.line))

end_length : (at bound end : ℕ) (w : Walk) (bytes : List ℕ) → (s : IsScanned at w bytes) → (e : EndsAt at bound bytes end)
    → length (flat_map ended (IsScanned.lines s ++ EndsAt.line e ∷ [])) ≡ end
end_length at bound end w bytes s e =
    let a = ap length (flat_more s.lines e.line) in
    let b = s.at_is in let i = e.end_is in
    omega (arith, a, b, i, length-append (flat_map ended s.lines) (ended e.line), length-append e.line (10 ∷ []))

pub scanned_line : (at bound end : ℕ) (w next : Walk) (bytes : List ℕ) → IsScanned at w bytes → EndsAt at bound bytes end
    → next ≡ step w (is_empty_line (drop at (take (end - 1) bytes))) → IsScanned end next bytes
scanned_line at bound end w next bytes s e is =
    let lines = s.lines ++ e.line ∷ [] in
    let all = lines_to at bound end w bytes s e in
    let long = end_length at bound end w bytes s e in
    let rest : drop end bytes ≡ e.rest = ap (drop end) all ∙ drop_at (flat_map ended lines) e.rest end long in record {
      lines = lines;
      are_lines = All-append IsLine s.lines (e.line ∷ []) s.are_lines (All-cons IsLine e.line [] e.is_line (All-nil IsLine));
      bytes_are = all ∙ ap (λ l. flat_map ended lines ++ l) (sym rest);
      at_is = sym long;
      walk_is = walk_append Walk.Blank s.lines (e.line ∷ []) ∙ ap (λ v. step v (is_empty_line e.line)) s.walk_is
          ∙ ap (λ l. step w (is_empty_line l)) (sym (line_between at bound end bytes e)) ∙ sym is;
    }

-- the state that the code's steps lead to
pub stepped : (at end : ℕ) (w next : Walk) (b : Bool) (bytes now : List ℕ) → next ≡ step w b → b ≡ is_empty_line (drop at (take (end - 1) bytes)) → bytes ≡ now
    → next ≡ step w (is_empty_line (drop at (take (end - 1) now)))
stepped at end w next b bytes now is line same = is ∙ ap (step w) (line ∙ ap (λ l. is_empty_line (drop at (take (end - 1) l))) same)

-- only an empty line after a line that isn't ends a head
pub step_over : (w : Walk) (b : Bool) (n : ℕ) → ((m : ℕ) → w ≡ Walk.Over m → ⊥) → Walk.Over n ≡ step w b → (w ≡ Walk.Full n) × (b ≡ true)
step_over Walk.Blank true n not e = absurd (cc)
step_over Walk.Blank false n not e = absurd (cc)
step_over (Walk.Full m) true n not e = (let h : n ≡ m = cc in ap Walk.Full (sym h), refl)
step_over (Walk.Full m) false n not e = absurd (cc)
step_over (Walk.Over m) b n not e = absurd (not m refl)

pub step_count : (w : Walk) (b : Bool) → count_of (step w b) ≤ count_of w + 1
step_count Walk.Blank true = omega arith
step_count Walk.Blank false = omega arith
step_count (Walk.Full m) true = omega arith
step_count (Walk.Full m) false = omega arith
step_count (Walk.Over m) b = omega arith

pub head_found : (at end : ℕ) (w : Walk) (n : ℕ) (bytes : List ℕ) → IsScanned at w bytes → EndsAt at HEAD_LIMIT bytes end → ((m : ℕ) → w ≡ Walk.Over m → ⊥)
    → Walk.Over n ≡ step w (is_empty_line (drop at (take (end - 1) bytes))) → HeadEndsAt bytes end n
head_found at end w n bytes s e not is =
    let last = step_over w (is_empty_line (drop at (take (end - 1) bytes))) n not is in
    let p = split_walk s.lines n s.are_lines (s.walk_is ∙ last.0) in
    let lines = s.lines ++ e.line ∷ [] in
    let all = lines_to at HEAD_LIMIT end w bytes s e in
    let long = end_length at HEAD_LIMIT end w bytes s e in
    let front : take end bytes ≡ flat_map ended lines = ap (take end) all ∙ take_at (flat_map ended lines) e.rest end long in
    let within : end ≤ length bytes = let k = ap length all in omega (arith, k, long, length-append (flat_map ended lines) e.rest) in record {
      begins = record {
        before = p.before;
        first = p.first;
        lines = p.lines;
        last = e.line;
        empty = p.empty;
        full = p.full;
        ends = ap is_empty_line (sym (line_between at HEAD_LIMIT end bytes e)) ∙ last.1;
        head_is = front ∙ ap (λ l. flat_map ended (l ++ e.line ∷ [])) p.done_is;
        short = let k = e.within in omega (arith, k, length-take-le end bytes within);
        bytes_are = sym (take-append-drop end bytes);
      };
      count = p.count;
      within = within;
    }

pub empty_is_line : (line : List ℕ) → is_empty_line line ≡ true → IsLine line
empty_is_line [] e = All-nil (λ b. b ≢ 10)
empty_is_line (b ∷ []) e = All-cons (λ b. b ≢ 10) b [] (λ is. let f : is_empty_line (10 ∷ []) ≡ true = ap (λ x. is_empty_line (x ∷ [])) (sym is) ∙ e in cc) (All-nil (λ b. b ≢ 10))
empty_is_line (b ∷ c ∷ more) e = absurd (cc)

empties_are_lines : (lines : List (List ℕ)) → All IsEmpty lines → All IsLine lines
empties_are_lines [] all = All-nil IsLine
empties_are_lines (x ∷ lines) all = All-cons IsLine x lines (empty_is_line x (All-head IsEmpty x lines all)) (empties_are_lines lines (All-tail IsEmpty x lines all))

pub fulls_are_lines : (lines : List (List ℕ)) → All IsFull lines → All IsLine lines
fulls_are_lines [] all = All-nil IsLine
fulls_are_lines (x ∷ lines) all = All-cons IsLine x lines (IsFull.is_line (All-head IsFull x lines all)) (fulls_are_lines lines (All-tail IsFull x lines all))

-- the lines of a head
abbrev pub head_lines : {bytes head rest : List ℕ} → BeginsWithHead bytes head rest → List (List ℕ)
head_lines h = (h.before ++ (h.first ∷ h.lines)) ++ h.last ∷ []

pub are_head_lines : {bytes head rest : List ℕ} → (h : BeginsWithHead bytes head rest) → All IsLine (head_lines h)
are_head_lines h =
    All-append IsLine (h.before ++ (h.first ∷ h.lines)) (h.last ∷ [])
    (All-append IsLine h.before (h.first ∷ h.lines) (empties_are_lines h.before h.empty) (fulls_are_lines (h.first ∷ h.lines) h.full))
    (All-cons IsLine h.last [] (empty_is_line h.last h.ends) (All-nil IsLine))

pub head_walk : {bytes head rest : List ℕ} → (h : BeginsWithHead bytes head rest) → walk Walk.Blank (head_lines h) ≡ Walk.Over (length h.lines)
head_walk h =
    walk_append Walk.Blank (h.before ++ (h.first ∷ h.lines)) (h.last ∷ [])
    ∙ ap (λ w. step w (is_empty_line h.last)) (walk_append Walk.Blank h.before (h.first ∷ h.lines) ∙ ap (λ w. walk w (h.first ∷ h.lines)) (walk_blank h.before h.empty)
    ∙ ap (λ b. walk (step Walk.Blank b) h.lines) (IsFull.some (All-head IsFull h.first h.lines h.full)) ∙ walk_full 0 h.lines (All-tail IsFull h.first h.lines h.full))
    ∙ ap (λ b. step (Walk.Full (0 + length h.lines)) b) h.ends ∙ ap Walk.Over (omega arith)

-- where the next line doesn't end within the bound, no head does
no_head : (bound at : ℕ) (w : Walk) (bytes line p : List ℕ) → (s : IsScanned at w bytes) → ((m : ℕ) → w ≡ Walk.Over m → ⊥) → IsLine line → (whole : List ℕ)
    → whole ≡ flat_map ended (IsScanned.lines s) ++ (line ++ p) → bound ≤ at + length line → (head rest : List ℕ) → BeginsWithHead whole head rest → length head ≤ bound → ⊥
no_head bound at w bytes line p s not is_line whole is long head rest h short =
    let theirs = head_lines h in
    let e : flat_map ended s.lines ++ (line ++ p) ≡ flat_map ended theirs ++ rest = sym is ∙ h.bytes_are ∙ ap (λ l. l ++ rest) h.head_is in
    let k = s.at_is in
    let size = ap length h.head_is in
    let found = among bound theirs s.lines line p rest (are_head_lines h) s.are_lines is_line (omega (arith, size, short)) (omega (arith, k, long)) e in
    let over : walk Walk.Blank s.lines ≡ Walk.Over (length h.lines) =
    ap (walk Walk.Blank) found.1 ∙ walk_append Walk.Blank theirs found.0 ∙ ap (λ v. walk v found.0) (head_walk h) ∙ walk_over (length h.lines) found.0 in
    not (length h.lines) (sym s.walk_is ∙ over)

pub never_head : (at : ℕ) (w : Walk) (bytes : List ℕ) → IsScanned at w bytes → ((m : ℕ) → w ≡ Walk.Over m → ⊥) → IsTooLong at HEAD_LIMIT bytes → NeverHasHead bytes
never_head at w bytes s not t =
    let k = s.at_is in
    let l = t.long in
    let all : bytes ≡ flat_map ended s.lines ++ (t.line ++ t.rest) = s.bytes_are ∙ ap (λ x. flat_map ended s.lines ++ x) t.behind in record {
      long = let e = ap length all in omega (arith, e, k, l, length-append (flat_map ended s.lines) (t.line ++ t.rest), length-append t.line t.rest);
      never = λ more head rest h. no_head HEAD_LIMIT at w bytes t.line (t.rest ++ more) s not t.is_line (bytes ++ more)
          (ap (λ x. x ++ more) all ∙ append_assoc (flat_map ended s.lines) (t.line ++ t.rest) more ∙ ap (λ x. flat_map ended s.lines ++ x) (append_assoc t.line t.rest more)) l head rest h (BeginsWithHead.short h);
    }

pub no_head_yet : (at : ℕ) (w : Walk) (bytes : List ℕ) → IsScanned at w bytes → ((m : ℕ) → w ≡ Walk.Over m → ⊥) → IsOpen at HEAD_LIMIT bytes → HasNoHeadYet bytes
no_head_yet at w bytes s not o = record {
  short = o.short;
  none = λ head rest h.
      let k = s.at_is in
      let e = ap length (BeginsWithHead.bytes_are h) in
      let j = ap length s.bytes_are in
      no_head (length bytes) at w bytes (drop at bytes) [] s not o.is_line bytes (s.bytes_are ∙ ap (λ x. flat_map ended s.lines ++ x) (sym (append-nil (drop at bytes))))
      (omega (arith, k, j, length-append (flat_map ended s.lines) (drop at bytes))) head rest h (omega (arith, e, length-append head rest));
}

pub end_within : (at bound end : ℕ) (bytes : List ℕ) → EndsAt at bound bytes end → at ≤ length bytes → end ≤ length bytes
end_within at bound end bytes e le =
    let k = ap length e.behind in let i = e.end_is in
    omega (arith, k, i, length-drop at bytes, length-append e.line (10 ∷ e.rest))
