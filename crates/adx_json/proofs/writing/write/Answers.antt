-- What is written is a text of its tree.
use Rattle.std.proofs.Common.{◌++◌, sym, ap, ◌∙◌, subst}
use Rattle.adx_json.specs.Grammar.{IsJson}
use Rattle.adx_json.specs.Spelling.{spelling}
use Rattle.adx_json.specs.View.{tree_of}
use Rattle.adx_json.proofs.OneTree.{one_json}
use Rattle.adx_json.proofs.Spelled.{spelling_is}
use Rattle.adx_json.proofs.writing.write.Goals as goal

pub returns-clause-back : goal.returns-clause-back
returns-clause-back c = λ good low.
    let spelled = c.from.ensures ∙ c.in_ok-push_value.ensures.spelled ∙ ap (λ b. b ++ spelling (tree_of c.args.tree.now)) c.new-out.ensures.bytes in
    subst (λ t. IsJson t (tree_of c.args.tree.now)) (sym spelled) (spelling_is (tree_of c.args.tree.now) good c.in_ok-push_value.ensures.utf8 low)

pub returns-clause-only : goal.returns-clause-only
returns-clause-only c = λ good low u other. one_json _ u (tree_of c.args.tree.now) other (returns-clause-back c good low)
