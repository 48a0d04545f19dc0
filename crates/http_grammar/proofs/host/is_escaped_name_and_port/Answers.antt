-- A name ends at the first colon.
use Rattle.std.proofs.Common.{◌≢◌, All, sym, ◌∙◌, subst}
use Rattle.std.proofs.lemmas.Bool.{false≢true}
use Rattle.http_grammar.specs.Fields.{IsHostName, IsPort}
use Rattle.http_grammar.proofs.Hosts.{name_cut, cut_at, stops_at}
use Rattle.http_grammar.proofs.host.is_escaped_name_and_port.Goals as goal

pub returns-then-is_host_name : goal.returns-then-is_host_name
returns-then-is_host_name c =
    let value = c.args.value.now in
    let name = c.split_at.result.0.now in
    let port = c.split_at.result.1.now in
    let split = cut_at value name port c.place_of.result c.split_at.ensures.front c.split_at.ensures.back in
    let none = subst (All (λ b. b ≢ 58)) (sym c.split_at.ensures.front) c.place_of.ensures.before in
    let stops = stops_at 58 c.place_of.result value port c.split_at.ensures.back c.place_of.ensures.there in (
      λ yes. (name, port, c.is_host_name.ensures.0 c.if-is_host_name.true, c.is_port.ensures.0 yes, split),
      λ h. c.is_port.ensures.1 (subst IsPort (sym (name_cut value h.0 h.1 name port split none stops h.2 h.3 h.4).1) h.3),
    )

pub returns-else-is_host_name : goal.returns-else-is_host_name
returns-else-is_host_name c =
    let value = c.args.value.now in
    let name = c.split_at.result.0.now in
    let port = c.split_at.result.1.now in
    let split = cut_at value name port c.place_of.result c.split_at.ensures.front c.split_at.ensures.back in
    let none = subst (All (λ b. b ≢ 58)) (sym c.split_at.ensures.front) c.place_of.ensures.before in
    let stops = stops_at 58 c.place_of.result value port c.split_at.ensures.back c.place_of.ensures.there in (
      λ yes. absurd (false≢true (sym c.if-is_host_name.false ∙ yes)),
      λ h. c.is_host_name.ensures.1 (subst IsHostName (sym (name_cut value h.0 h.1 name port split none stops h.2 h.3 h.4).0) h.2),
    )
