use Rattle.std.proofs.Common.{sym, ap, ◌∙◌}
use Rattle.std.specs.List.{list_any}
use Rattle.adx_json.specs.View.{member_of}
use Rattle.adx_json.proofs.Names.{has_name_of, name_is}
use Rattle.adx_json.proofs.KeptMembers.{has_name_list}
use Rattle.adx_json.proofs.repeats.comes_again.Goals as goal

pub returns-in-Some : goal.returns-in-Some
returns-in-Some c =
    let m = c.in-Some.member.now in
    let later = c.in-Some.later.now in
    record {
      member = m;
      later = later;
      whole = sym c.split_at.ensures.back ∙ c.in-Some.ensures.cases.0;
      is = c.has_name.ensures ∙ ap (λ n. list_any (has_name_of n) later) (c.as_bytes.ensures.value ∙ name_is m) ∙ has_name_list later (member_of m).0;
    }
