-- The trees that are walked are those of the list.
use Rattle.std.proofs.Common.{◌∙◌, rules, tests}
use Rattle.std.proofs.lemmas.Iterator.{YieldsList-from_slice}
use Rattle.std.proofs.lemmas.Iterator.Search.{all_from_yields_List}
use Rattle.adx_json.specs.View.{tree_of}
use Rattle.adx_json.specs.declared.tree.Json.{Json}
use Rattle.script_lines.specs.Members.{is_null_or_object}
use Rattle.script_lines.proofs.GivenAnswers.{each_is}
use Rattle.script_lines.proofs.members.are_null_or_objects.Goals as goal

pub returns : goal.returns
returns c =
    all_from_yields_List (λ (t : Json). is_null_or_object (tree_of t)) _ _ c.all.result c.all.ensures.ran (YieldsList-from_slice c.args.trees.now cc) (λ x b q k. search (rules, tests))
    ∙ each_is c.args.trees.now
