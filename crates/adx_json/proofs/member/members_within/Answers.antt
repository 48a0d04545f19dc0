use Rattle.std.proofs.Common.{ap, sym, ◌∙◌, Option, option_map, Bor}
use Rattle.adx_json.specs.Named.{value_of}
use Rattle.adx_json.specs.View.{tree_of}
use Rattle.adx_json.specs.declared.tree.Json.{Json}
use Rattle.adx_json.specs.FoundMembers.{member_within}
use Rattle.adx_json.proofs.Meeting.{members_found}
use Rattle.adx_json.proofs.member.members_within.Goals as goal

pub returns-in-Some : goal.returns-in-Some
returns-in-Some c name =
    ap (value_of name) c.members_in.ensures ∙ members_found name (tree_of c.in-Some.tree.now)
    ∙ sym (ap (λ (o : Option (Bor Json)). member_within name (option_map (λ t. tree_of t.now) o)) c.in-Some.is)
