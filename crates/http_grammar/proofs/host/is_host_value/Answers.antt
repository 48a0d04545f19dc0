-- After a left bracket comes an address, and else a name.
use Rattle.std.proofs.Common.{◌≡◌, ◌∷◌, sym, ap, ◌∙◌, subst, inl}
use Rattle.http_grammar.specs.Fields.{IsHostValue}
use Rattle.http_grammar.proofs.Hosts.{from_address, bracketed, unbracketed}
use Rattle.http_grammar.proofs.host.is_host_value.Goals as goal

pub returns-then-is_bracketed : goal.returns-then-is_bracketed
returns-then-is_bracketed c =
    let value = c.args.value.now in
    let is : value ≡ 91 ∷ c.split_at.result.1.now = rw c.if-is_bracketed.true at c.is_bracketed.ensures ∙ ap (λ r. 91 ∷ r) (sym c.split_at.ensures.back) in (
      λ yes. let h = c.is_address_and_port.ensures.0 yes in subst IsHostValue (sym is) (from_address c.split_at.result.1.now h.0 h.1 h.2 h.3 h.4),
      λ h. c.is_address_and_port.ensures.1 (bracketed c.split_at.result.1.now (subst IsHostValue is h)),
    )

pub returns-else-is_bracketed : goal.returns-else-is_bracketed
returns-else-is_bracketed c = (
  λ yes. let h = c.is_name_and_port.ensures.0 yes in (h.0, h.1, inl h.2, h.3, h.4),
  λ h. c.is_name_and_port.ensures.1 (unbracketed c.args.value.now (rw c.if-is_bracketed.false at c.is_bracketed.ensures) h),
)
