use Rattle.adx_json.specs.View.{tree_of}
use Rattle.adx_json.specs.declared.fault.Stop.TheVariants.{Syntax, Utf8, Depth}
use Rattle.adx_json.proofs.FaultKinds.{judged}
use Rattle.adx_json.proofs.WellFormedTrees.{json_well_formed, json_levels}
use Rattle.adx_json.proofs.TextsUtf8.{json_utf8}
use Rattle.adx_json.proofs.OneTree.{one_json}
use Rattle.adx_json.proofs.reader.read.Goals as goal

pub overflow_sub-result : goal.overflow_sub-result
overflow_sub-result c = (judged c.args.bytes.now (Syntax c.in-Err-Syntax.left) (rw c.in-Err-Syntax.field-0-is at c.in-Err-Syntax.ensures.stops)).0

pub overflow_sub-result-in-Err-Utf8 : goal.overflow_sub-result-in-Err-Utf8
overflow_sub-result-in-Err-Utf8 c = (judged c.args.bytes.now (Utf8 c.in-Err-Utf8.left) (rw c.in-Err-Utf8.field-0-is at c.in-Err-Utf8.ensures.stops)).0

pub overflow_sub-result-in-Err-Depth : goal.overflow_sub-result-in-Err-Depth
overflow_sub-result-in-Err-Depth c = (judged c.args.bytes.now (Depth c.in-Err-Depth.left) (rw c.in-Err-Depth.field-0-is at c.in-Err-Depth.ensures.stops)).0

pub returns-in-Err-Syntax-clause-fault : goal.returns-in-Err-Syntax-clause-fault
returns-in-Err-Syntax-clause-fault c = (judged c.args.bytes.now (Syntax c.in-Err-Syntax.left) (rw c.in-Err-Syntax.field-0-is at c.in-Err-Syntax.ensures.stops)).1

pub returns-in-Err-Utf8-clause-fault : goal.returns-in-Err-Utf8-clause-fault
returns-in-Err-Utf8-clause-fault c = (judged c.args.bytes.now (Utf8 c.in-Err-Utf8.left) (rw c.in-Err-Utf8.field-0-is at c.in-Err-Utf8.ensures.stops)).1

pub returns-in-Err-Depth-clause-fault : goal.returns-in-Err-Depth-clause-fault
returns-in-Err-Depth-clause-fault c = (judged c.args.bytes.now (Depth c.in-Err-Depth.left) (rw c.in-Err-Depth.field-0-is at c.in-Err-Depth.ensures.stops)).1

pub returns-in-Ok-clause-only : goal.returns-in-Ok-clause-only
returns-in-Ok-clause-only c = λ t is. one_json c.args.bytes.now t (tree_of c.in-Ok.tree) is c.in-Ok.ensures.found

pub returns-in-Ok-clause-well_formed : goal.returns-in-Ok-clause-well_formed
returns-in-Ok-clause-well_formed c = json_well_formed c.args.bytes.now (tree_of c.in-Ok.tree) c.in-Ok.ensures.found

pub returns-in-Ok-clause-shallow : goal.returns-in-Ok-clause-shallow
returns-in-Ok-clause-shallow c = json_levels c.args.bytes.now (tree_of c.in-Ok.tree) c.in-Ok.ensures.found

pub returns-in-Ok-clause-texts : goal.returns-in-Ok-clause-texts
returns-in-Ok-clause-texts c = json_utf8 c.args.bytes.now (tree_of c.in-Ok.tree) c.in-Ok.ensures.found
