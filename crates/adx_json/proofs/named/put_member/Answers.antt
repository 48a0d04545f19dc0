use Rattle.std.proofs.Common.{◌≡◌, Some, None, position, sym, ap, ap₂, ◌∙◌, rules}
use Rattle.adx_json.specs.View.{tree_of, member_of}
use Rattle.adx_json.specs.declared.tree.Json.{the_lemmas}
use Rattle.adx_json.specs.declared.tree.Json.TheViews.{roll-Member}
use Rattle.adx_json.proofs.Names.{has_name_of, name_is}
use Rattle.adx_json.proofs.NamedMembers.{found_first, found_none, put_at, put_end}
use Rattle.adx_json.proofs.named.put_member.Goals as goal

pub returns-in_default : goal.returns-in_default
returns-in_default c =
    let name = c.args.name.now in
    let items = c.args.members.now.items in
    let place : position (has_name_of name) items ≡ None = sym (c.place_of.ensures ∙ ap₂ (λ n ms. position (has_name_of n) ms) c.as_bytes.ensures.value c.deref.ensures.value) ∙ c.in_default.is in
    let new = roll-Member (record { name = c.in_ok-name.name; value = c.args.value }) in
    let seen : member_of new ≡ (c.in_ok-name.name, tree_of c.args.value) = search (rules, the_lemmas) in
    rw c.in_ok-push.ensures.items (put_end name (tree_of c.args.value) items new (found_none name items place) (ap (λ m. m.0) seen ∙ c.in_ok-name.ensures) (ap (λ m. m.1) seen))

pub returns : goal.returns
returns c =
    let name = c.args.name.now in
    let items = c.args.members.now.items in
    let place : position (has_name_of name) items ≡ Some c.in-Some.at = sym (c.place_of.ensures ∙ ap₂ (λ n ms. position (has_name_of n) ms) c.as_bytes.ensures.value c.deref.ensures.value) ∙ c.in-Some.is in
    let new = roll-Member (record { name = c.index_mut.result.now.name; value = c.args.value }) in
    let old = c.index_mut.result.now in
    let seen : member_of new ≡ (old.name, tree_of c.args.value) = search (rules, the_lemmas) in
    put_at name (tree_of c.args.value) items c.in-Some.at old new (found_first name items c.in-Some.at place) (ap (λ m. m.0) seen ∙ name_is old ∙ ap (λ m. (member_of m).0) c.index_mut.ensures.value) (ap (λ m. m.1) seen)
