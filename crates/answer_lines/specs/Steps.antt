-- What is written so far of a list with commas. Only private clauses cite this file.
use Rattle.std.specs.Prelude.{ℕ, ◌+◌, List, [], ◌∷◌, ◌++◌, if◌then◌else◌, ◌==◌}
use Rattle.std.specs.List.{flat_map, enumerate_from}
use Rattle.adx_units.specs.declared.offer.Offer.{Offer}
use Rattle.day_rules.specs.declared.ask.Ask.{Ask}
use Rattle.deal_floor.specs.declared.campaign.Campaign.{Campaign}
use Rattle.answer_lines.specs.Answers.{award_text}

-- the comma after so many items: none before the first
abbrev pub comma_behind : ℕ → List ℕ
comma_behind n = if n == 0 then [] else 44 ∷ []

-- an award of an ask after so many others
abbrev pub award_behind : List Campaign → Ask → ℕ × Offer → List ℕ
award_behind campaigns a p = comma_behind p.0 ++ award_text campaigns a (a.first + p.0, p.1)

-- awards of an ask, the first of them after so many others
abbrev pub awards_behind : List Campaign → Ask → ℕ → List Offer → List ℕ
awards_behind campaigns a others sold = flat_map (award_behind campaigns a) (enumerate_from others sold)
