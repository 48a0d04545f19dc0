-- Bodies that are read by a length, or to the end of the source.
use Rattle.std.proofs.Common.{◌≡◌, ℕ, ◌+◌, ◌<◌, ◌≤◌, List, ◌++◌, length, take, drop, Option, sym, ap, ◌∙◌, append_assoc, append-nil, arith, length-append}
use Rattle.std.proofs.lemmas.List.{take-append-drop, length-take-le, take_all, drop_all}
use Rattle.adx_io.specs.Streams.{Tape, WhereTold}
use Rattle.http_connection.specs.BufferState.{BufferState, Takes, IsAtEnd}
use Rattle.http_connection.specs.Steps.{coming}
use Rattle.http_connection.specs.BodyForms.{IsBodyThen, FailsBody}
use Rattle.http_connection.specs.declared.bodies.Body.{Body}
use Rattle.http_grammar.specs.declared.fault.HttpFault.{HttpFault}
use Rattle.http_connection.proofs.Told.{told_map, told_end, flow}

-- so many bytes were joined to what is kept
abbrev pub keeping : BufferState → ℕ → BufferState
keeping b n = record b { kept = b.kept ++ take n b.pending; pending = drop n b.pending }

-- the first bytes and the rest
pub parts_of : (n : ℕ) (bytes left : List ℕ) → bytes ++ left ≡ take n bytes ++ (drop n bytes ++ left)
parts_of n bytes left = ap (λ l. l ++ left) (sym (take-append-drop n bytes)) ∙ append_assoc (take n bytes) (drop n bytes) left

pub sized : (limit size : ℕ) (before mid now : BufferState) (old new : Option Tape) → Takes before mid old new → size ≤ length mid.pending → now ≡ keeping mid size
    → (b : List ℕ) × (now.kept ≡ before.kept ++ b) × WhereTold old new (λ o n. IsBodyThen limit (Body.Sized size) (coming before o) b (coming now n))
sized limit size before mid now old new t there is = (
  take size mid.pending,
  ap (λ (b : BufferState). b.kept) is ∙ ap (λ l. l ++ take size mid.pending) t.kept,
  told_map old new (λ o n. coming before o ≡ coming mid n) (λ o n. IsBodyThen limit (Body.Sized size) (coming before o) (take size mid.pending) (coming now n))
      (λ o n e. (length-take-le size mid.pending there, e ∙ parts_of size mid.pending n.left ∙ ap (λ (b : BufferState). take size mid.pending ++ (b.pending ++ n.left)) (sym is)))
      (flow before mid old new t),
)

pub short : (size : ℕ) (before mid : BufferState) (old new : Option Tape) → Takes before mid old new → length mid.pending < size → IsAtEnd new
    → WhereTold old new (λ o n. length (coming before o) < size)
short size before mid old new t less end =
    told_end old new (λ o n. coming before o ≡ coming mid n) (λ o n. length (coming before o) < size) end
    (λ o n none e. let k = ap length e in let j = ap length none in omega (arith, k, j, less, length-append mid.pending n.left)) (flow before mid old new t)

pub to_end : (limit : ℕ) (before mid now : BufferState) (old new : Option Tape) → Takes before mid old new → length mid.pending < limit + 1 → IsAtEnd new → now ≡ keeping mid (length mid.pending)
    → (b : List ℕ) × (now.kept ≡ before.kept ++ b) × WhereTold old new (λ o n. IsBodyThen limit Body.ToEnd (coming before o) b (coming now n))
to_end limit before mid now old new t less end is = (
  take (length mid.pending) mid.pending,
  ap (λ (b : BufferState). b.kept) is ∙ ap (λ l. l ++ take (length mid.pending) mid.pending) t.kept,
  told_end old new (λ o n. coming before o ≡ coming mid n) (λ o n. IsBodyThen limit Body.ToEnd (coming before o) (take (length mid.pending) mid.pending) (coming now n)) end
      (λ o n none e.
      let all : take (length mid.pending) mid.pending ≡ mid.pending = take_all (length mid.pending) mid.pending (omega arith) in
      let whole : coming before o ≡ mid.pending = e ∙ ap (λ l. mid.pending ++ l) none ∙ append-nil mid.pending in
      let k = ap length all in (
        all ∙ sym whole,
        ap (λ (b : BufferState). b.pending ++ n.left) is ∙ ap (λ l. drop (length mid.pending) mid.pending ++ l) none ∙ append-nil (drop (length mid.pending) mid.pending) ∙ drop_all (length mid.pending) mid.pending (omega arith),
        omega (arith, k, less),
      ))
      (flow before mid old new t),
)

pub past : (limit : ℕ) (before mid : BufferState) (old new : Option Tape) → Takes before mid old new → limit + 1 ≤ length mid.pending
    → WhereTold old new (λ o n. FailsBody limit Body.ToEnd (coming before o) HttpFault.BodyTooLong)
past limit before mid old new t more =
    told_map old new (λ o n. coming before o ≡ coming mid n) (λ o n. FailsBody limit Body.ToEnd (coming before o) HttpFault.BodyTooLong)
    (λ o n e. let k = ap length e in omega (arith, k, more, length-append mid.pending n.left)) (flow before mid old new t)
