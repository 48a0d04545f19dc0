-- The reasons so far, with commas between them.
use Rattle.std.proofs.Common.{◌≡◌, ◌++◌, take, map, decimal, string_bytes}
use Rattle.std.specs.List.{join_with_byte}
use Rattle.adx_units.specs.declared.offer.Offer.{Offer}
use Rattle.answer_lines.proofs.awards.push_reasons.Given as goal

abbrev pub invariant-loop-place : goal.invariant-loop-place
invariant-loop-place l =
    string_bytes l.out ≡ string_bytes l.initial.out ++ join_with_byte 44 (map (λ (o : Offer). decimal o.reason) (take l.place l.offers))
