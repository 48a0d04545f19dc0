use Rattle.std.proofs.Common.{◌≡◌, sym, ap, ◌∙◌, subst}
use Rattle.adx_json.specs.Tree.{object}
use Rattle.adx_json.specs.Named.{with_member}
use Rattle.adx_json.specs.View.{tree_of}
use Rattle.adx_json.specs.WellFormed.{IsWellFormed, HasUtf8}
use Rattle.adx_json.specs.declared.tree.Json.TheVariants as json
use Rattle.adx_json.proofs.Views.{tree_of-Object}
use Rattle.adx_json.proofs.PutMembers.{put_well_formed, put_texts}
use Rattle.adx_json.proofs.tree.Json.with_member.Goals as goal

pub returns-clause-well_formed : goal.returns-clause-well_formed
returns-clause-well_formed c self value =
    let name = c.args.name.now in
    let put = c.put_member.new.members in
    let same : tree_of (json.Object put) ≡ with_member name (tree_of c.args.value) (tree_of c.args.self) =
    tree_of-Object put ∙ ap object c.in_ok-put_member.ensures ∙ sym (ap (with_member name (tree_of c.args.value)) (ap tree_of c.in-Object.is ∙ tree_of-Object c.in-Object.members)) in
    subst IsWellFormed (sym same) (put_well_formed name (tree_of c.args.value) (tree_of c.args.self) self value)

pub returns-clause-texts : goal.returns-clause-texts
returns-clause-texts c self value =
    let name = c.args.name.now in
    let put = c.put_member.new.members in
    let same : tree_of (json.Object put) ≡ with_member name (tree_of c.args.value) (tree_of c.args.self) =
    tree_of-Object put ∙ ap object c.in_ok-put_member.ensures ∙ sym (ap (with_member name (tree_of c.args.value)) (ap tree_of c.in-Object.is ∙ tree_of-Object c.in-Object.members)) in
    subst HasUtf8 (sym same) (put_texts name (tree_of c.args.value) (tree_of c.args.self) c.utf8.name self value)
