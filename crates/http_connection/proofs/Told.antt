-- Relations of what a source reported, one step after another.
use Rattle.std.proofs.Common.{◌≡◌, ℕ, List, [], ◌++◌, Option, Some, None, refl, sym, ap, subst, ◌∙◌, append_assoc}
use Rattle.std.proofs.lemmas.List.{append_cancel_right}
use Rattle.adx_io.specs.Streams.{Tape, WhereTold}
use Rattle.http_connection.specs.BufferState.{BufferState, Passes, Takes, IsAtEnd}
use Rattle.http_connection.specs.Steps.{Advances, HasGiven, coming}

pub told_map : {T : Type 0} (old new : Option T) (P Q : T → T → Type 0) → ((o n : T) → P o n → Q o n) → WhereTold old new P → WhereTold old new Q
told_map None new P Q f w = w
told_map (Some o) None P Q f w = w
told_map (Some o) (Some n) P Q f w = f o n w

pub told_then : {T : Type 0} (a b c : Option T) (P Q R : T → T → Type 0) → ((o m n : T) → P o m → Q m n → R o n) → WhereTold a b P → WhereTold b c Q → WhereTold a c R
told_then None None c P Q R f v w = w
told_then None (Some m) c P Q R f v w = absurd (cc)
told_then (Some o) None c P Q R f v w = absurd v
told_then (Some o) (Some m) None P Q R f v w = absurd w
told_then (Some o) (Some m) (Some n) P Q R f v w = f o m n v w

pub told_same : {T : Type 0} (a : Option T) (P : T → T → Type 0) → ((t : T) → P t t) → WhereTold a a P
told_same None P f = refl
told_same (Some t) P f = f t

-- where the source is at its end
pub told_end : (old new : Option Tape) (P Q : Tape → Tape → Type 0) → IsAtEnd new → ((o n : Tape) → n.left ≡ [] → P o n → Q o n) → WhereTold old new P → WhereTold old new Q
told_end None new P Q e f w = w
told_end (Some o) None P Q e f w = w
told_end (Some o) (Some n) P Q e f w = f o n e w

-- all bytes that come stay what they are while some are taken
pub flow : (a b : BufferState) (old new : Option Tape) → Takes a b old new → WhereTold old new (λ o n. coming a o ≡ coming b n)
flow a b old new t =
    told_map old new (Passes t.piece) (λ o n. coming a o ≡ coming b n)
    (λ o n p. ap (λ l. a.pending ++ l) (Passes.left p) ∙ sym (append_assoc a.pending t.piece n.left) ∙ ap (λ l. l ++ n.left) (sym t.pending)) t.told

pub advances : (a b : BufferState) (old new : Option Tape) → Takes a b old new → Advances old new
advances a b old new t = told_map old new (Passes t.piece) (λ o n. (piece : List ℕ) × Passes piece o n) (λ o n p. (t.piece, p)) t.told

passes_both : (p q : List ℕ) (old mid new : Tape) → Passes p old mid → Passes q mid new → Passes (p ++ q) old new
passes_both p q old mid new a b = record {
  taken = b.taken ∙ ap (λ l. l ++ q) a.taken ∙ append_assoc old.taken p q;
  left = a.left ∙ ap (λ l. p ++ l) b.left ∙ sym (append_assoc p q new.left);
}

pub advances_both : (a b c : Option Tape) → Advances a b → Advances b c → Advances a c
advances_both a b c v w =
    told_then a b c (λ o n. (piece : List ℕ) × Passes piece o n) (λ o n. (piece : List ℕ) × Passes piece o n) (λ o n. (piece : List ℕ) × Passes piece o n)
    (λ o m n p q. (p.0 ++ q.0, passes_both p.0 q.0 o m n p.1 q.1)) v w

-- what holds of the pending bytes holds of those that were pending before with those that were given
pub given : (before mid : BufferState) (old new : Option Tape) (P : List ℕ → Type 0) → Takes before mid old new → P mid.pending → HasGiven before old new P
given before mid old new P t p =
    told_map old new (Passes t.piece) (λ o n. (piece : List ℕ) × Passes piece o n × P (before.pending ++ piece)) (λ o n x. (t.piece, x, subst P t.pending p)) t.told

-- it holds of the bytes and the rest, whatever follows them
abbrev pub IsOfFronts : (List ℕ → List ℕ → Type 0) → Type 0
IsOfFronts R = (bytes rest old new : List ℕ) → R (bytes ++ old) (rest ++ old) → R (bytes ++ new) (rest ++ new)

-- a front is what it was, whatever follows the rest
pub front_is : (bytes front rest old new : List ℕ) → bytes ++ old ≡ front ++ (rest ++ old) → bytes ++ new ≡ front ++ (rest ++ new)
front_is bytes front rest old new e =
    let same : bytes ≡ front ++ rest = append_cancel_right bytes (front ++ rest) old (e ∙ sym (append_assoc front rest old)) in
    ap (λ l. l ++ new) same ∙ append_assoc front rest new

-- what was given after a step
pub given_then : (before mid : BufferState) (old m new : Option Tape) (R : List ℕ → List ℕ → Type 0) (P Q : List ℕ → Type 0) → IsOfFronts R → ((bytes rest : List ℕ) → R bytes rest → P rest → Q bytes)
    → Advances old m → WhereTold old m (λ o k. R (coming before o) (coming mid k)) → HasGiven mid m new P → HasGiven before old new Q
given_then before mid None None new R P Q f g a r w = w
given_then before mid None (Some k) new R P Q f g a r w = absurd (cc)
given_then before mid (Some o) None new R P Q f g a r w = absurd a
given_then before mid (Some o) (Some k) None R P Q f g a r w = absurd w
given_then before mid (Some o) (Some k) (Some n) R P Q f g a r w =
    let front = before.pending ++ a.0 in
    let all : before.pending ++ o.left ≡ front ++ k.left = ap (λ l. before.pending ++ l) (Passes.left a.1) ∙ sym (append_assoc before.pending a.0 k.left) in
    let step : R (front ++ w.0) (mid.pending ++ w.0) = f front mid.pending k.left w.0 (subst (λ l. R l (mid.pending ++ k.left)) all r) in
    (a.0 ++ w.0, passes_both a.0 w.0 o k n a.1 w.1, subst Q (append_assoc before.pending a.0 w.0) (g (front ++ w.0) (mid.pending ++ w.0) step w.2))

same_fronts : IsOfFronts (λ bytes rest. bytes ≡ rest)
same_fronts = λ bytes rest old new e. ap (λ l. l ++ new) (append_cancel_right bytes rest old e)

-- what was given where some bytes were taken before
pub given_carried : (start mid : BufferState) (old m new : Option Tape) (P : List ℕ → Type 0) → Takes start mid old m → HasGiven mid m new P → HasGiven start old new P
given_carried start mid old m new P t w =
    given_then start mid old m new (λ bytes rest. bytes ≡ rest) P P same_fronts (λ bytes rest e p. subst P (sym e) p) (advances start mid old m t) (flow start mid old m t) w
