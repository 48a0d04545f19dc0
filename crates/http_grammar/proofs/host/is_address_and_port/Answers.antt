-- An address ends at the first right bracket.
use Rattle.std.proofs.Common.{◌≡◌, ◌≢◌, ◌++◌, ◌-◌, All, length, take, drop, sym, ap, ◌∙◌, subst, arith}
use Rattle.std.proofs.lemmas.Bool.{false≢true}
use Rattle.http_grammar.specs.Fields.{IsAddress, IsPort}
use Rattle.http_grammar.proofs.Hosts.{address_cut, cut_at, stops_at, behind_stop}
use Rattle.http_grammar.proofs.host.is_address_and_port.Goals as goal

pub returns-in-empty : goal.returns-in-empty
returns-in-empty c =
    let rest = c.args.rest.now in
    let inner = c.split_at.result.0.now in
    let end = c.split_at.result.1.now in
    let split = cut_at rest inner end c.place_of.result c.split_at.ensures.front c.split_at.ensures.back in
    let none = subst (All (λ b. b ≢ 93)) (sym c.split_at.ensures.front) c.place_of.ensures.before in
    let stops = stops_at 93 c.place_of.result rest end c.split_at.ensures.back c.place_of.ensures.there in (
      λ yes. absurd (false≢true yes),
      λ h. let e = ap length (address_cut rest h.0 h.1 inner end split none stops h.2 h.4).1 in absurd (omega (arith, e, c.in-empty.len_below)),
    )

pub returns-then-is_address : goal.returns-then-is_address
returns-then-is_address c =
    let rest = c.args.rest.now in
    let inner = c.split_at.result.0.now in
    let end = c.split_at.result.1.now in
    let split = cut_at rest inner end c.place_of.result c.split_at.ensures.front c.split_at.ensures.back in
    let none = subst (All (λ b. b ≢ 93)) (sym c.split_at.ensures.front) c.place_of.ensures.before in
    let stops = stops_at 93 c.place_of.result rest end c.split_at.ensures.back c.place_of.ensures.there in
    let port = take (length end - 1) (drop 1 end) in
    let end_is = behind_stop 93 end stops c.in-len1-up.len_at_least in (
      λ yes. (inner, port, c.is_address.ensures.0 c.if-is_address.true, c.is_port.ensures.0 yes, split ∙ ap (λ e. inner ++ e) end_is),
      λ h.
          let cuts = address_cut rest h.0 h.1 inner end split none stops h.2 h.4 in
          let same : port ≡ h.1 = cc (end_is, cuts.1) in
          c.is_port.ensures.1 (subst IsPort (sym same) h.3),
    )

pub returns-else-is_address : goal.returns-else-is_address
returns-else-is_address c =
    let rest = c.args.rest.now in
    let inner = c.split_at.result.0.now in
    let end = c.split_at.result.1.now in
    let split = cut_at rest inner end c.place_of.result c.split_at.ensures.front c.split_at.ensures.back in
    let none = subst (All (λ b. b ≢ 93)) (sym c.split_at.ensures.front) c.place_of.ensures.before in
    let stops = stops_at 93 c.place_of.result rest end c.split_at.ensures.back c.place_of.ensures.there in (
      λ yes. absurd (false≢true (sym c.if-is_address.false ∙ yes)),
      λ h. c.is_address.ensures.1 (subst IsAddress (sym (address_cut rest h.0 h.1 inner end split none stops h.2 h.4).0) h.2),
    )
