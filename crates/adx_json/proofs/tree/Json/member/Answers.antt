use Rattle.std.proofs.Common.{◌≡◌, Some, None, position, sym, ap, ap₂, ◌∙◌}
use Rattle.adx_json.specs.Named.{member_in}
use Rattle.adx_json.specs.View.{tree_of}
use Rattle.adx_json.specs.declared.tree.Member.{out-Member}
use Rattle.adx_json.proofs.Names.{has_name_of}
use Rattle.adx_json.proofs.Views.{tree_of-Object}
use Rattle.adx_json.proofs.NamedMembers.{found_first, found_none, value_at, value_none}
use Rattle.adx_json.proofs.tree.Json.member.Goals as goal

pub returns-clause-some : goal.returns-clause-some
returns-clause-some c =
    let name = c.args.name.now in
    let items = c.in-Object.members.items in
    let place : position (has_name_of name) items ≡ Some c.in_ok-at.at = sym (c.place_of.ensures ∙ ap₂ (λ n ms. position (has_name_of n) ms) c.as_bytes.ensures.value c.deref.ensures.value) ∙ c.in_ok-at.was in
    ap (λ j. member_in name (tree_of j)) c.in-Object.is ∙ ap (member_in name) (tree_of-Object c.in-Object.members)
    ∙ value_at name items c.in_ok-at.at c.index.result.now (found_first name items c.in_ok-at.at place)
    ∙ ap (λ m. Some (tree_of (out-Member m).value)) (sym c.index.ensures)

pub returns-in_err-at-clause-none : goal.returns-in_err-at-clause-none
returns-in_err-at-clause-none c =
    let name = c.args.name.now in
    let items = c.in-Object.members.items in
    let place : position (has_name_of name) items ≡ None = sym (c.place_of.ensures ∙ ap₂ (λ n ms. position (has_name_of n) ms) c.as_bytes.ensures.value c.deref.ensures.value) ∙ c.in_err-at.was in
    rw c.from_residual.ensures (ap (λ j. member_in name (tree_of j)) c.in-Object.is ∙ ap (member_in name) (tree_of-Object c.in-Object.members) ∙ value_none name items (found_none name items place))
