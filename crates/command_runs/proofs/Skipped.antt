-- What is read of the rest of an input that is read through.
use Rattle.std.proofs.Common.{◌≡◌, ℕ, ◌≤◌, List, [], ◌∷◌, ◌++◌, length, Option, Ok, Err, refl, sym, ap, ◌∙◌, arith, append_assoc, append-nil, length-append}
use Rattle.adx_io.specs.Lines.{tape_behind}
use Rattle.adx_io.specs.Streams.{Tape, WhereTold}
use Rattle.adx_io.specs.Talk.{Reads, ReadsNext, TalkState, ended}
use Rattle.adx_io.specs.declared.rest.Rest.{Rest}
use Rattle.adx_io.specs.declared.stop.Stop.{Stop}
use Rattle.adx_io.specs.declared.talk.Next.{Next}
use Rattle.command_runs.specs.Skipped.{SkipsRest}
use Rattle.command_runs.proofs.Told.{told_behind, told_then}

-- some bytes were read
abbrev pub ReadsSome : TalkState → TalkState → Tape → Tape → Type 0
ReadsSome before now old new = (bytes : List ℕ) × Reads before now old new bytes

pub reads_none : (before : TalkState) (t : Tape) → ReadsSome before before t t
reads_none before t = ([], record { next = refl; counted = omega arith })

-- some more
both : (bytes more : List ℕ) (input middle left : List ℕ) → input ≡ bytes ++ middle → middle ≡ more ++ left → input ≡ (bytes ++ more) ++ left
both bytes more input middle left first second = first ∙ ap (λ (b : List ℕ). bytes ++ b) second ∙ sym (append_assoc bytes more left)

module _ (before mid now : TalkState) (so_far : WhereTold before.tape mid.tape (ReadsSome before mid)) where
  pub skips_line : WhereTold mid.tape now.tape (ReadsNext 0 mid now (Ok Next.Line)) → WhereTold before.tape now.tape (ReadsSome before now)
  skips_line next =
      told_then before.tape mid.tape now.tape (ReadsSome before mid) (ReadsNext 0 mid now (Ok Next.Line)) (ReadsSome before now) so_far next
      (λ x y z r s. (
        r.0 ++ ended s.0,
        record {
          next = both r.0 (ended s.0) x.left y.left z.left r.1.next s.2.next;
          counted = omega (arith, r.1.counted, s.2.counted, length-append r.0 (ended s.0));
        },
      ))

  module _ (pending : List ℕ) (told : Option Tape) where
    pub skips_all : pending ≡ [] → WhereTold mid.tape (tape_behind pending told) (ReadsNext 0 mid now (Ok Next.End)) → WhereTold before.tape told (SkipsRest before.allowed (Ok Rest.Whole))
    skips_all none next = told_behind before.tape mid.tape pending told (ReadsSome before mid) (ReadsNext 0 mid now (Ok Next.End)) _ so_far next (λ x y z r s.
        let ends : z.left ≡ [] = ap (λ (p : List ℕ). p ++ z.left) (sym none) ∙ s.3 in
        let is : x.left ≡ r.0 ++ s.0 = both r.0 s.0 x.left y.left (pending ++ z.left) r.1.next s.2.next ∙ ap (λ (b : List ℕ). (r.0 ++ s.0) ++ b) s.3 ∙ append-nil (r.0 ++ s.0) in
        (ends, omega (arith, ap (λ (b : List ℕ). length b) is, length-append r.0 s.0, r.1.counted, s.2.counted)))

    pub skips_past : pending ≡ [] → WhereTold mid.tape (tape_behind pending told) (ReadsNext 0 mid now (Ok Next.PastLimit)) → WhereTold before.tape told (SkipsRest before.allowed (Ok Rest.PastLimit))
    skips_past none next = told_behind before.tape mid.tape pending told (ReadsSome before mid) (ReadsNext 0 mid now (Ok Next.PastLimit)) _ so_far next (λ x y z r s. (
      r.0 ++ s.0,
      s.1,
      both r.0 s.0 x.left y.left (s.1 ∷ z.left) r.1.next (s.3 ∙ ap (λ (p : List ℕ). s.0 ++ s.1 ∷ (p ++ z.left)) none),
      omega (arith, r.1.counted, s.4, length-append r.0 s.0),
    ))

    pub skips_some : (stop : Stop) → length pending ≤ now.allowed → WhereTold mid.tape (tape_behind pending told) (ReadsNext 0 mid now (Err stop)) → WhereTold before.tape told (SkipsRest before.allowed (Err stop))
    skips_some stop within next = told_behind before.tape mid.tape pending told (ReadsSome before mid) (ReadsNext 0 mid now (Err stop)) _ so_far next (λ x y z r s. (
      (r.0 ++ s.0) ++ pending,
      both r.0 s.0 x.left y.left (pending ++ z.left) r.1.next s.2.next ∙ sym (append_assoc (r.0 ++ s.0) pending z.left),
      omega (arith, r.1.counted, s.2.counted, within, length-append r.0 s.0, length-append (r.0 ++ s.0) pending),
    ))
