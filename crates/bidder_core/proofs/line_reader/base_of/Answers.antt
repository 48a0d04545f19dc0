use Rattle.std.proofs.Common.{◌≡◌, true, option_map, subst, sym}
use Rattle.adx_json.specs.View.{tree_of}
use Rattle.bidder_core.specs.Forms.{is_plain_base}
use Rattle.bidder_core.proofs.Bases.{plain_told}
use Rattle.bidder_core.proofs.line_reader.base_of.Goals as goal

pub returns-clause-plain : goal.returns-clause-plain
returns-clause-plain c =
    subst (λ t. is_plain_base t ≡ true) (sym c.in_ok-base.ensures) (plain_told (option_map (λ t. tree_of t.now) c.args.value) c.requires)
