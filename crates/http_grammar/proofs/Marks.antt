-- The table of the bytes of a host's name, and a front of such bytes.
use Rattle.std.proofs.Common.{◌≡◌, ℕ, ◌<◌, ◌≤◌, List, length, take, get_or, false, refl, ap, ◌∙◌, arith, inl, IsTrue}
use Rattle.std.proofs.lemmas.Bool.{agree_below_at}
use Rattle.std.proofs.lemmas.List.{length-take-le, get_or-take}
use Rattle.http_grammar.specs.Fields.{is_mark, IsHostName}
use Rattle.http_grammar.specs.declared.host.TheConstants.{MARKS}

pub mark_at : (b : ℕ) → b < 256 → get_or MARKS b false ≡ is_mark b
mark_at b low = agree_below_at (λ n. get_or MARKS n false) is_mark 256 b refl low

-- marks alone are a name
pub marks_name : (value : List ℕ) (n : ℕ) → n ≤ length value → ((k : ℕ) → k < n → IsTrue (is_mark (get_or value k 0))) → IsHostName (take n value)
marks_name value n within marks = λ k inside.
    let less : k < n = let l = length-take-le n value within in omega (arith, l, inside) in
    inl (ap is_mark (get_or-take n value k 0 less) ∙ marks k less)
