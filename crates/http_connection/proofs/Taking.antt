-- What a buffer takes of a source in several steps.
use Rattle.std.proofs.Common.{◌≡◌, ℕ, ◌+◌, ◌-◌, ◌≤◌, List, [], ◌++◌, length, take, drop, Option, Some, None, Ok, Err, refl, sym, ap, ◌∙◌, append_assoc, append-nil, arith}
use Rattle.adx_io.specs.Streams.{Tape, WhereTold, Moved}
use Rattle.adx_io.specs.declared.failed.Failed.{Failed}
use Rattle.http_connection.specs.declared.offsets.Offsets.{Offsets}
use Rattle.http_connection.specs.Order.{IsOrdered, kept_of, pending_of}
use Rattle.http_connection.proofs.Ranges.{part_below, part_is, part_split}
use Rattle.http_connection.specs.BufferState.{BufferState, Passes, Takes}

passes_both : (p q : List ℕ) (old mid new : Tape) → Passes p old mid → Passes q mid new → Passes (p ++ q) old new
passes_both p q old mid new a b = record {
  taken = b.taken ∙ ap (λ l. l ++ q) a.taken ∙ append_assoc old.taken p q;
  left = a.left ∙ ap (λ l. p ++ l) b.left ∙ sym (append_assoc p q new.left);
}

told_both : (p q : List ℕ) (old mid new : Option Tape) → WhereTold old mid (Passes p) → WhereTold mid new (Passes q) → WhereTold old new (Passes (p ++ q))
told_both p q None None new a b = b
told_both p q None (Some m) new a b = absurd (cc)
told_both p q (Some o) None new a b = absurd a
told_both p q (Some o) (Some m) None a b = absurd b
told_both p q (Some o) (Some m) (Some n) a b = passes_both p q o m n a b

told_none : (old : Option Tape) → WhereTold old old (Passes [])
told_none None = refl
told_none (Some t) = record { taken = sym (append-nil t.taken); left = refl }

pub takes_none : (b : BufferState) (old : Option Tape) → Takes b b old old
takes_none b old = record { piece = []; pending = sym (append-nil b.pending); kept = refl; room = refl; told = told_none old }

pub takes_both : (a b c : BufferState) (old mid new : Option Tape) → Takes a b old mid → Takes b c mid new → Takes a c old new
takes_both a b c old mid new s t = record {
  piece = s.piece ++ t.piece;
  pending = t.pending ∙ ap (λ l. l ++ t.piece) s.pending ∙ append_assoc a.pending s.piece t.piece;
  kept = t.kept ∙ s.kept;
  room = t.room ∙ s.room;
  told = told_both s.piece t.piece old mid new s.told t.told;
}

-- what a take moves
pub gives : (out : List ℕ) (n : ℕ) (old new : Option Tape) → WhereTold old new (Moved out (Ok n)) → WhereTold old new (Passes (take n out))
gives out n None None told = told
gives out n None (Some t) told = absurd (cc)
gives out n (Some o) None told = absurd told
gives out n (Some o) (Some t) told = record { taken = told.taken; left = told.left }

pub gives_none : (out : List ℕ) (e : Failed) (old new : Option Tape) → WhereTold old new (Moved out (Err e)) → WhereTold old new (Passes [])
gives_none out e None None told = told
gives_none out e None (Some t) told = absurd (cc)
gives_none out e (Some o) None told = absurd told
gives_none out e (Some o) (Some t) told = record { taken = ap (λ (x : Tape). x.taken) told ∙ sym (append-nil o.taken); left = ap (λ (x : Tape). x.left) (sym told) }

-- a piece comes after the pending bytes
pub filled : (before now : BufferState) (xs ys : List ℕ) (o : Offsets) (end n : ℕ) (old new : Option Tape)
    → before.kept ≡ kept_of xs o → before.pending ≡ pending_of xs o → before.room ≡ length xs
    → IsOrdered xs o → n ≤ length xs - o.end → length ys ≡ length xs → take o.end ys ≡ take o.end xs → end ≡ o.end + n
    → now.kept ≡ kept_of ys o → now.pending ≡ drop o.at (take end ys) → now.room ≡ length ys
    → WhereTold old new (Passes (take n (drop o.end ys))) → Takes before now old new
filled before now xs ys o end n old new k p r ordered fits size front end_is k2 p2 r2 told = record {
  piece = take n (drop o.end ys);
  pending = p2 ∙ ap (λ e. drop o.at (take e ys)) end_is ∙ part_split ys o.at o.end (o.end + n) ordered.at (omega arith) (let b = ordered.end in omega arith)
      ∙ ap (λ l. l ++ drop o.end (take (o.end + n) ys)) (part_below ys xs o.at o.end o.end (omega arith) front ∙ sym p)
      ∙ ap (λ l. before.pending ++ l) (part_is ys o.end n);
  kept = k2 ∙ part_below ys xs o.start o.joined o.end (let a = ordered.joined in let b = ordered.at in omega arith) front ∙ sym k;
  room = r2 ∙ size ∙ sym r;
  told = told;
}
