-- The meters of a day as an operator reads them: JSON (RFC 8259) in its one compact spelling, without a newline. This
-- project's own.
use Rattle.std.specs.Prelude.{ℕ, List, ◌++◌, codes, decimal}
use Rattle.day_rules.specs.declared.meters.Meters.{Meters}

-- a number after its name
abbrev pub meter_text : List ℕ → ℕ → List ℕ
meter_text name number = name ++ decimal number

-- the counts of entries, asks and awards, of notices of each kind, and of awards that a moment ended
abbrev pub counts_part : Meters → List ℕ
counts_part m =
    meter_text (codes "{\"entries\":") m.entries ++ meter_text (codes ",\"asks\":") m.asks ++ meter_text (codes ",\"awards\":") m.awards
    ++ meter_text (codes ",\"wins\":") m.wins ++ meter_text (codes ",\"bills\":") m.bills ++ meter_text (codes ",\"losses\":") m.losses
    ++ meter_text (codes ",\"expired\":") m.expired

-- the money that is reserved, and the money that was billed, in units
abbrev pub money_part : Meters → List ℕ
money_part m = meter_text (codes ",\"reserved\":") m.reserved ++ meter_text (codes ",\"billed\":") m.billed

-- the meters as one JSON object: the counts, and then the money in units
abbrev pub meters_text : Meters → List ℕ
meters_text m = counts_part m ++ money_part m ++ codes "}"
