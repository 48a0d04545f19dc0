-- The id is spelled as it is.
use Rattle.std.proofs.Common.{◌≡◌, ◌++◌, OnOk, codes, string_bytes, sym, ap, subst, ◌∙◌}
use Rattle.script_lines.specs.Whys.{request_why}
use Rattle.script_lines.proofs.why.push_request_fault.Goals as goal

pub returns-in-RepeatedImp : goal.returns-in-RepeatedImp
returns-in-RepeatedImp c =
    subst (λ t. OnOk c.push_both.result (string_bytes c.push_both.new.out ≡ string_bytes c.args.out.now ++ t))
    (ap (λ t. codes "request repeated " ++ t) c.as_str.ensures.value ∙ ap request_why (sym c.in-RepeatedImp.is)) c.push_both.ensures
