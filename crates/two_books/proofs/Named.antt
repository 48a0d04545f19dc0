-- A request's id is a name.
use Rattle.std.proofs.Common.{ℕ, ◌<◌, List, get_or}
use Rattle.std.specs.Prelude.{IsUtf8}
use Rattle.std.proofs.lemmas.List.Elements.{All-from_get_or}
use Rattle.adx_units.specs.Ids.{IsSized}
use Rattle.two_books.specs.Names.{IsName}

pub named : (id : List ℕ) → IsSized id → IsUtf8 id → ((i : ℕ) → get_or id i 0 < 256) → IsName id
named id sized utf8 small = record {
  utf8 = utf8;
  bytes = All-from_get_or (λ b. b < 256) id 0 (λ i within. small i);
  some = sized.0;
  few = sized.1;
}
