-- Bytes that were added to what was there, one piece after another.
use Rattle.std.proofs.Common.{◌≡◌, ℕ, ◌+◌, ◌-◌, ◌≤◌, List, ◌++◌, length, take, drop, Option, Some, None, Ok, ap, ◌∙◌, arith, length-append, length-take, length-drop}
use Rattle.adx_io.specs.Lines.{Fills}
use Rattle.adx_io.specs.Rest.{AddsSome, Within}
use Rattle.adx_io.specs.Streams.{Tape, WhereTold}
use Rattle.adx_io.proofs.Moved.{take-add}

-- what was taken after the first bytes comes after them
pub taken_behind : (start n : ℕ) (before whole now : List ℕ) → start ≤ length whole → take start whole ≡ before → now ≡ take (start + n) whole → now ≡ before ++ take n (drop start whole)
taken_behind start n before whole now h front cut = cut ∙ take-add start n whole h ∙ ap (λ p. p ++ take n (drop start whole)) front

pub fills_adds : (start n : ℕ) (before whole now : List ℕ) (old new : Option Tape) → now ≡ before ++ take n (drop start whole) → WhereTold old new (Fills (drop start whole) (Ok n)) → WhereTold old new (AddsSome before now (Ok n))
fills_adds start n before whole now None new split told = told
fills_adds start n before whole now (Some old) None split told = told
fills_adds start n before whole now (Some old) (Some new) split told = ((take n (drop start whole), split, told.0, told.1), told.2)

pub within_taken : (start n wanted : ℕ) (before whole now : List ℕ) → now ≡ before ++ take n (drop start whole) → n ≤ length whole - start → n ≤ wanted → Within wanted before now × (length now ≡ length before + n)
within_taken start n wanted before whole now split there h =
    let piece = take n (drop start whole) in
    let short : length piece ≡ n = omega (arith, length-take n (drop start whole), length-drop start whole, there) in (
      (piece, split, omega (arith, short, h)),
      omega (arith, ap length split, length-append before piece, short),
    )
