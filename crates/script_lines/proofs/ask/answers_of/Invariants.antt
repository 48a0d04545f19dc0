-- The answers so far are those of the trees so far.
use Rattle.std.proofs.Common.{take}
use Rattle.std.specs.List.{AllZip}
use Rattle.adx_json.specs.View.{trees_of}
use Rattle.script_lines.specs.Meanings.{GivesAnswer}
use Rattle.script_lines.proofs.ask.answers_of.Given as goal

abbrev pub invariant-loop-tree : goal.invariant-loop-tree
invariant-loop-tree l = AllZip (GivesAnswer l.auction) (trees_of (take l.tree-index l.trees)) l.answers.items
