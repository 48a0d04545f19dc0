use Rattle.std.proofs.Common.{[], None, option_map, get_or, ap, sym, ◌∙◌, Bor, arith}
use Rattle.adx_json.specs.View.{tree_of}
use Rattle.adx_json.specs.declared.tree.Json.{Json}
use Rattle.adx_json.proofs.Views.{member_of_parts}
use Rattle.adx_json.specs.Walks.{with_member}
use Rattle.rtb_response.specs.BidNames.{bid_names, place_in}
use Rattle.rtb_response.proofs.BidNames.{kept, unmet, free, taken}
use Rattle.rtb_response.proofs.bid_names.keep.Goals as goal
use Rattle.rtb_response.proofs.bid_names.keep.Goals.{else-place-lt-KNOWN_NAMES-via-then-place-lt-KNOWN_NAMES+else-is_none, else-place-lt-KNOWN_NAMES-via-else-place-lt-KNOWN_NAMES}

pub returns-then-is_none : goal.returns-then-is_none
returns-then-is_none c k low =
    let p = c.place_of-place.result in
    let old = c.args.found.now in
    kept (λ (t : Bor Json). tree_of t.now) old c.args.member.now.name _ p k c.requires (c.place_of-place.ensures ∙ ap (place_in bid_names) c.as_str.ensures.value) low
    c.if-place-lt-KNOWN_NAMES.true (free old p c.index-found-place.result c.is_none.result (omega arith) c.is_none.ensures c.if-is_none.true)
    ∙ ap (with_member (get_or bid_names k []) (option_map (λ (t : Bor Json). tree_of t.now) (get_or old k None))) (sym (member_of_parts c.args.member.now))

pub returns-else-place-lt-KNOWN_NAMES : goal.returns-else-place-lt-KNOWN_NAMES
returns-else-place-lt-KNOWN_NAMES c k low =
    let p = c.place_of-place.result in
    let old = c.args.found.now in
    let is = c.place_of-place.ensures ∙ ap (place_in bid_names) c.as_str.ensures.value in
    elim c.else-place-lt-KNOWN_NAMES.branch [
      | else-place-lt-KNOWN_NAMES-via-then-place-lt-KNOWN_NAMES+else-is_none w ↦
          unmet (λ (t : Bor Json). tree_of t.now) old c.args.member.now.name (tree_of c.args.member.now.value) p k is low
          (λ known. taken old p w.index-found-place.result w.is_none.result (omega arith) w.is_none.ensures w.if-is_none.false)
          ∙ ap (with_member (get_or bid_names k []) (option_map (λ (t : Bor Json). tree_of t.now) (get_or old k None))) (sym (member_of_parts c.args.member.now))
      | else-place-lt-KNOWN_NAMES-via-else-place-lt-KNOWN_NAMES w ↦
          unmet (λ (t : Bor Json). tree_of t.now) old c.args.member.now.name (tree_of c.args.member.now.value) p k is low
          (λ known. absurd (omega (arith, w.if-place-lt-KNOWN_NAMES.false)))
          ∙ ap (with_member (get_or bid_names k []) (option_map (λ (t : Bor Json). tree_of t.now) (get_or old k None))) (sym (member_of_parts c.args.member.now))
    ]
