use Rattle.std.proofs.Common.{[], ◌∷◌, true, false, refl, ◌∙◌, arith}
use Rattle.std.proofs.lemmas.Result.{err_from_is_err_and}
use Rattle.adx_json.specs.Tree.{null, boolean, items_of, members_of}
use Rattle.adx_json.specs.Machine.{at_value, at_first_item, at_first_name}
use Rattle.adx_json.specs.Found.{StopsAt, StopsInside}
use Rattle.adx_json.specs.View.{tree_of, trees_of, members_view}
use Rattle.adx_json.proofs.TextParts.{handed, at_byte}
use Rattle.adx_json.proofs.Views.{tree_of-Null, tree_of-Bool, tree_of-Number, tree_of-Text, tree_of-List, tree_of-Object}
use Rattle.adx_json.proofs.ReaderParts.{element_found, element_refused, value_empty, text_value, text_refused, list_value, list_refused, list_deep, object_value, object_refused, object_deep, word_value, word_refused, other_byte, number_value, number_refused}
use Rattle.adx_json.proofs.Stops.{true_step, false_step, null_step, OtherByte}
use Rattle.adx_json.proofs.ReadItems.{items_start, items_none}
use Rattle.adx_json.proofs.ReadMembers.{members_start, members_none}
use Rattle.adx_json.proofs.PendingParts.{items_begin, items_go_on, items_taken, items_left, items_within, items_stop, items_lack, members_begin, members_go_on, members_taken, members_left, members_within, members_stop, members_lack}
use Rattle.adx_json.proofs.reader.+json.Goals as goal

pub element_at-returns-in_err-value-clause-stops : goal.element_at-returns-in_err-value-clause-stops
element_at-returns-in_err-value-clause-stops t c =
    let p = err_from_is_err_and c.from_residual.result c.from_residual.ensures.1 in
    let e = c.in_err-value.field-0.0 in
    handed c.from_residual.result p.0 e (λ x. StopsAt x c.args.levels at_value c.args.bytes.now) p.1 p.2 (element_refused c.args.levels c.args.bytes.now c.after_space-start.result.now e c.after_space-start.ensures c.in_err-value.ensures.stops)

pub element_at-returns-clause-found : goal.element_at-returns-clause-found
element_at-returns-clause-found t c =
    element_found c.args.levels c.args.bytes.now c.after_space-start.result.now (tree_of c.in_ok-value.value) c.in_ok-value.rest.now c.after_space-end.result.now c.after_space-start.ensures c.in_ok-value.ensures.found c.after_space-end.ensures

pub items_at-returns-in-Some-clause-found : goal.items_at-returns-in-Some-clause-found
items_at-returns-in-Some-clause-found t c =
    rw c.new.ensures.items (items_none c.args.levels c.args.bytes.now c.after_space-start.result.now c.in-Some.rest.now c.after_space-start.ensures c.in-Some.ensures)

pub items_at-items-init : goal.items_at-items-init
items_at-items-init t c =
    (items_begin c.args.levels c.args.bytes.now c.args.pending.now.items.items c.args.bytes.now (items_start c.args.levels c.args.bytes.now c.after_space-start.result.now c.after_space-start.ensures c.in_default.ensures), refl, c.len-begun.ensures ∙ c.args.pending.now.items.ok.0)

pub items_at-split_off-requires : goal.items_at-split_off-requires
items_at-split_off-requires t c =
    let within = items_within c.args.levels c.args.bytes.now c.args.pending.now.items.items c.items.pending.items.items c.element_at.new.pending.items.items c.push.new.self.items c.len-begun.result c.items.left.now c.in_ok-item.item c.items.invariant.0 c.in_ok-item.ensures.kept.0 c.in_ok-push.ensures.items c.items.invariant.2 in
    omega (arith, within, c.push.new.self.ok.0)

pub items_at-returns-in_err-item-clause-stops : goal.items_at-returns-in_err-item-clause-stops
items_at-returns-in_err-item-clause-stops t c =
    let p = err_from_is_err_and c.from_residual.result c.from_residual.ensures.1 in
    let e = c.in_err-item.field-0.0 in
    handed c.from_residual.result p.0 e (λ x. StopsInside x c.args.levels at_first_item c.args.bytes.now) p.1 p.2 (items_stop c.args.levels c.args.bytes.now c.args.pending.now.items.items c.items.pending.items.items c.items.left.now e c.items.invariant.0 c.in_err-item.ensures.stops)

pub items_at-returns-in-Some-after-clause-found : goal.items_at-returns-in-Some-after-clause-found
items_at-returns-in-Some-after-clause-found t c =
    items_taken c.args.levels c.args.bytes.now c.args.pending.now.items.items c.items.pending.items.items c.element_at.new.pending.items.items c.push.new.self.items c.in_ok-items.items.items c.len-begun.result c.items.left.now c.in_ok-item.item c.in_ok-item.rest.now c.in-Some-after.end.now c.items.invariant.0 c.in_ok-item.ensures.kept.0 c.in_ok-push.ensures.items c.in_ok-item.ensures.found c.in-Some-after.ensures c.items.invariant.2 c.in_ok-items.ensures.tail

pub items_at-returns-in-Some-after-clause-kept : goal.items_at-returns-in-Some-after-clause-kept
items_at-returns-in-Some-after-clause-kept t c = (
  c.in_ok-items.ensures.items ∙ items_left c.args.levels c.args.bytes.now c.args.pending.now.items.items c.items.pending.items.items c.element_at.new.pending.items.items c.push.new.self.items c.len-begun.result c.items.left.now c.in_ok-item.item c.items.invariant.0 c.in_ok-item.ensures.kept.0 c.in_ok-push.ensures.items c.items.invariant.2,
  c.in_ok-item.ensures.kept.1 ∙ c.items.invariant.1,
)

pub items_at-returns-in_default-after-2-clause-stops : goal.items_at-returns-in_default-after-2-clause-stops
items_at-returns-in_default-after-2-clause-stops t c =
    items_lack c.args.levels c.args.bytes.now c.args.pending.now.items.items c.items.pending.items.items c.items.left.now c.in_ok-item.item c.in_ok-item.rest.now c.items.invariant.0 c.in_ok-item.ensures.found c.in_default-after-2.ensures c.in_default-after.ensures

pub items_at-items-preserved : goal.items_at-items-preserved
items_at-items-preserved t c =
    (items_go_on c.args.levels c.args.bytes.now c.args.pending.now.items.items c.items.pending.items.items c.element_at.new.pending.items.items c.push.new.self.items c.items.left.now c.in_ok-item.item c.in_ok-item.rest.now c.in-Some-after-2.more.now c.items.invariant.0 c.in_ok-item.ensures.kept.0 c.in_ok-push.ensures.items c.in_ok-item.ensures.found c.in-Some-after-2.ensures, c.in_ok-item.ensures.kept.1 ∙ c.items.invariant.1, c.items.invariant.2)

pub members_at-returns-in-Some-clause-found : goal.members_at-returns-in-Some-clause-found
members_at-returns-in-Some-clause-found t c =
    rw c.new.ensures.items (members_none c.args.levels c.args.bytes.now c.after_space-start.result.now c.in-Some.rest.now c.after_space-start.ensures c.in-Some.ensures)

pub members_at-members-init : goal.members_at-members-init
members_at-members-init t c =
    (members_begin c.args.levels c.args.bytes.now c.args.pending.now.members.items c.args.bytes.now (members_start c.args.levels c.args.bytes.now c.after_space-start.result.now c.after_space-start.ensures c.in_default.ensures), refl, c.len-begun.ensures ∙ c.args.pending.now.members.ok.0)

pub members_at-split_off-requires : goal.members_at-split_off-requires
members_at-split_off-requires t c =
    let within = members_within c.args.levels c.args.bytes.now c.args.pending.now.members.items c.members.pending.members.items c.member_at.new.pending.members.items c.push.new.self.items c.len-begun.result c.members.left.now c.in_ok-member.member c.members.invariant.0 c.in_ok-member.ensures.kept.1 c.in_ok-push.ensures.items c.members.invariant.2 in
    omega (arith, within, c.push.new.self.ok.0)

pub members_at-returns-in_err-member-clause-stops : goal.members_at-returns-in_err-member-clause-stops
members_at-returns-in_err-member-clause-stops t c =
    let p = err_from_is_err_and c.from_residual.result c.from_residual.ensures.1 in
    let e = c.in_err-member.field-0.0 in
    handed c.from_residual.result p.0 e (λ x. StopsInside x c.args.levels at_first_name c.args.bytes.now) p.1 p.2 (members_stop c.args.levels c.args.bytes.now c.args.pending.now.members.items c.members.pending.members.items c.members.left.now e c.members.invariant.0 c.in_err-member.ensures.stops)

pub members_at-returns-in-Some-after-clause-found : goal.members_at-returns-in-Some-after-clause-found
members_at-returns-in-Some-after-clause-found t c =
    members_taken c.args.levels c.args.bytes.now c.args.pending.now.members.items c.members.pending.members.items c.member_at.new.pending.members.items c.push.new.self.items c.in_ok-members.members.items c.len-begun.result c.members.left.now c.in_ok-member.member c.in_ok-member.rest.now c.in-Some-after.end.now c.members.invariant.0 c.in_ok-member.ensures.kept.1 c.in_ok-push.ensures.items c.in_ok-member.ensures.found c.in-Some-after.ensures c.members.invariant.2 c.in_ok-members.ensures.tail

pub members_at-returns-in-Some-after-clause-kept : goal.members_at-returns-in-Some-after-clause-kept
members_at-returns-in-Some-after-clause-kept t c = (
  c.in_ok-member.ensures.kept.0 ∙ c.members.invariant.1,
  c.in_ok-members.ensures.items ∙ members_left c.args.levels c.args.bytes.now c.args.pending.now.members.items c.members.pending.members.items c.member_at.new.pending.members.items c.push.new.self.items c.len-begun.result c.members.left.now c.in_ok-member.member c.members.invariant.0 c.in_ok-member.ensures.kept.1 c.in_ok-push.ensures.items c.members.invariant.2,
)

pub members_at-returns-in_default-after-2-clause-stops : goal.members_at-returns-in_default-after-2-clause-stops
members_at-returns-in_default-after-2-clause-stops t c =
    members_lack c.args.levels c.args.bytes.now c.args.pending.now.members.items c.members.pending.members.items c.members.left.now c.in_ok-member.member c.in_ok-member.rest.now c.members.invariant.0 c.in_ok-member.ensures.found c.in_default-after-2.ensures c.in_default-after.ensures

pub members_at-members-preserved : goal.members_at-members-preserved
members_at-members-preserved t c =
    (members_go_on c.args.levels c.args.bytes.now c.args.pending.now.members.items c.members.pending.members.items c.member_at.new.pending.members.items c.push.new.self.items c.members.left.now c.in_ok-member.member c.in_ok-member.rest.now c.in-Some-after-2.more.now c.members.invariant.0 c.in_ok-member.ensures.kept.1 c.in_ok-push.ensures.items c.in_ok-member.ensures.found c.in-Some-after-2.ensures, c.in_ok-member.ensures.kept.0 ∙ c.members.invariant.1, c.members.invariant.2)

pub value_at-returns-in_default-clause-stops : goal.value_at-returns-in_default-clause-stops
value_at-returns-in_default-clause-stops t c = value_empty c.args.levels c.args.bytes.now c.in_default.ensures.cases

pub value_at-returns-in_err-text-in-34-clause-stops : goal.value_at-returns-in_err-text-in-34-clause-stops
value_at-returns-in_err-text-in-34-clause-stops t c =
    let p = err_from_is_err_and c.from_residual.result c.from_residual.ensures.1 in
    let e = c.in_err-text-in-34.field-0.0 in
    let first = at_byte c.args.bytes.now c.in-Some.byte.now 34 c.in-Some.rest.now c.in-Some.ensures.cases.0 c.in-34.is in
    handed c.from_residual.result p.0 e (λ x. StopsAt x c.args.levels at_value c.args.bytes.now) p.1 p.2 (text_refused c.args.levels c.args.bytes.now c.in-Some.rest.now e first c.in_err-text-in-34.ensures.stops)

pub value_at-returns-in_ok-text-in-34-clause-found : goal.value_at-returns-in_ok-text-in-34-clause-found
value_at-returns-in_ok-text-in-34-clause-found t c =
    let first = at_byte c.args.bytes.now c.in-Some.byte.now 34 c.in-Some.rest.now c.in-Some.ensures.cases.0 c.in-34.is in
    rw (tree_of-Text c.in_ok-text-in-34.text) (text_value c.args.levels c.args.bytes.now c.in-Some.rest.now c.in_ok-text-in-34.text c.in_ok-text-in-34.rest.now first c.in_ok-text-in-34.ensures.found)

pub value_at-returns-then-levels-eq0-clause-stops : goal.value_at-returns-then-levels-eq0-clause-stops
value_at-returns-then-levels-eq0-clause-stops t c =
    list_deep c.args.levels c.args.bytes.now c.in-Some.rest.now (at_byte c.args.bytes.now c.in-Some.byte.now 91 c.in-Some.rest.now c.in-Some.ensures.cases.0 c.in-91.is) c.if-levels-eq0.true

pub value_at-returns-in_err-items-in-91-clause-stops : goal.value_at-returns-in_err-items-in-91-clause-stops
value_at-returns-in_err-items-in-91-clause-stops t c =
    let p = err_from_is_err_and c.from_residual-in_err-items-in-91.result c.from_residual-in_err-items-in-91.ensures.1 in
    let e = c.in_err-items-in-91.field-0.0 in
    let first = at_byte c.args.bytes.now c.in-Some.byte.now 91 c.in-Some.rest.now c.in-Some.ensures.cases.0 c.in-91.is in
    handed c.from_residual-in_err-items-in-91.result p.0 e (λ x. StopsAt x c.args.levels at_value c.args.bytes.now) p.1 p.2 (list_refused c.args.levels c.args.bytes.now c.in-Some.rest.now e first (omega arith) c.in_err-items-in-91.ensures.stops)

pub value_at-returns-in_ok-items-in-91-clause-found : goal.value_at-returns-in_ok-items-in-91-clause-found
value_at-returns-in_ok-items-in-91-clause-found t c =
    let first = at_byte c.args.bytes.now c.in-Some.byte.now 91 c.in-Some.rest.now c.in-Some.ensures.cases.0 c.in-91.is in
    rw (tree_of-List c.in_ok-items-in-91.items) (list_value c.args.levels c.args.bytes.now c.in-Some.rest.now (items_of (trees_of c.in_ok-items-in-91.items.items)) c.in_ok-items-in-91.rest.now first (omega arith) c.in_ok-items-in-91.ensures.found)

pub value_at-returns-then-levels-eq0-2-clause-stops : goal.value_at-returns-then-levels-eq0-2-clause-stops
value_at-returns-then-levels-eq0-2-clause-stops t c =
    object_deep c.args.levels c.args.bytes.now c.in-Some.rest.now (at_byte c.args.bytes.now c.in-Some.byte.now 123 c.in-Some.rest.now c.in-Some.ensures.cases.0 c.in-123.is) c.if-levels-eq0-2.true

pub value_at-returns-in_err-members-in-123-clause-stops : goal.value_at-returns-in_err-members-in-123-clause-stops
value_at-returns-in_err-members-in-123-clause-stops t c =
    let p = err_from_is_err_and c.from_residual-in_err-members-in-123.result c.from_residual-in_err-members-in-123.ensures.1 in
    let e = c.in_err-members-in-123.field-0.0 in
    let first = at_byte c.args.bytes.now c.in-Some.byte.now 123 c.in-Some.rest.now c.in-Some.ensures.cases.0 c.in-123.is in
    handed c.from_residual-in_err-members-in-123.result p.0 e (λ x. StopsAt x c.args.levels at_value c.args.bytes.now) p.1 p.2 (object_refused c.args.levels c.args.bytes.now c.in-Some.rest.now e first (omega arith) c.in_err-members-in-123.ensures.stops)

pub value_at-returns-in_ok-kept-in-123-clause-found : goal.value_at-returns-in_ok-kept-in-123-clause-found
value_at-returns-in_ok-kept-in-123-clause-found t c =
    let first = at_byte c.args.bytes.now c.in-Some.byte.now 123 c.in-Some.rest.now c.in-Some.ensures.cases.0 c.in-123.is in
    rw (tree_of-Object c.in_ok-kept-in-123.kept, c.in_ok-kept-in-123.ensures) (object_value c.args.levels c.args.bytes.now c.in-Some.rest.now (members_of (members_view c.in_ok-members-in-123.members.items)) c.in_ok-members-in-123.rest.now first (omega arith) c.in_ok-members-in-123.ensures.found)

pub value_at-returns-in_err-rest-in-116-clause-stops : goal.value_at-returns-in_err-rest-in-116-clause-stops
value_at-returns-in_err-rest-in-116-clause-stops t c =
    let p = err_from_is_err_and c.from_residual-in_err-rest-in-116.result c.from_residual-in_err-rest-in-116.ensures.1 in
    let e = c.in_err-rest-in-116.field-0.0 in
    let first = at_byte c.args.bytes.now c.in-Some.byte.now 116 c.in-Some.rest.now c.in-Some.ensures.cases.0 c.in-116.is in
    handed c.from_residual-in_err-rest-in-116.result p.0 e (λ x. StopsAt x c.args.levels at_value c.args.bytes.now) p.1 p.2 (word_refused c.args.levels c.args.bytes.now c.in-Some.rest.now 116 114 (117 ∷ 101 ∷ []) e (λ fs. true_step 64 fs) first c.in_err-rest-in-116.ensures.stops)

pub value_at-returns-in_ok-rest-in-116-clause-found : goal.value_at-returns-in_ok-rest-in-116-clause-found
value_at-returns-in_ok-rest-in-116-clause-found t c =
    let first = at_byte c.args.bytes.now c.in-Some.byte.now 116 c.in-Some.rest.now c.in-Some.ensures.cases.0 c.in-116.is in
    rw (tree_of-Bool true) (word_value c.args.levels (boolean true) c.args.bytes.now c.in-Some.rest.now c.in_ok-rest-in-116.rest.now 116 114 (117 ∷ 101 ∷ []) (λ fs. true_step 64 fs) refl refl refl first c.in_ok-rest-in-116.ensures.found)

pub value_at-returns-in_err-rest-in-102-clause-stops : goal.value_at-returns-in_err-rest-in-102-clause-stops
value_at-returns-in_err-rest-in-102-clause-stops t c =
    let p = err_from_is_err_and c.from_residual-in_err-rest-in-102.result c.from_residual-in_err-rest-in-102.ensures.1 in
    let e = c.in_err-rest-in-102.field-0.0 in
    let first = at_byte c.args.bytes.now c.in-Some.byte.now 102 c.in-Some.rest.now c.in-Some.ensures.cases.0 c.in-102.is in
    handed c.from_residual-in_err-rest-in-102.result p.0 e (λ x. StopsAt x c.args.levels at_value c.args.bytes.now) p.1 p.2 (word_refused c.args.levels c.args.bytes.now c.in-Some.rest.now 102 97 (108 ∷ 115 ∷ 101 ∷ []) e (λ fs. false_step 64 fs) first c.in_err-rest-in-102.ensures.stops)

pub value_at-returns-in_ok-rest-in-102-clause-found : goal.value_at-returns-in_ok-rest-in-102-clause-found
value_at-returns-in_ok-rest-in-102-clause-found t c =
    let first = at_byte c.args.bytes.now c.in-Some.byte.now 102 c.in-Some.rest.now c.in-Some.ensures.cases.0 c.in-102.is in
    rw (tree_of-Bool false) (word_value c.args.levels (boolean false) c.args.bytes.now c.in-Some.rest.now c.in_ok-rest-in-102.rest.now 102 97 (108 ∷ 115 ∷ 101 ∷ []) (λ fs. false_step 64 fs) refl refl refl first c.in_ok-rest-in-102.ensures.found)

pub value_at-returns-in_err-rest-in-110-clause-stops : goal.value_at-returns-in_err-rest-in-110-clause-stops
value_at-returns-in_err-rest-in-110-clause-stops t c =
    let p = err_from_is_err_and c.from_residual-in_err-rest-in-110.result c.from_residual-in_err-rest-in-110.ensures.1 in
    let e = c.in_err-rest-in-110.field-0.0 in
    let first = at_byte c.args.bytes.now c.in-Some.byte.now 110 c.in-Some.rest.now c.in-Some.ensures.cases.0 c.in-110.is in
    handed c.from_residual-in_err-rest-in-110.result p.0 e (λ x. StopsAt x c.args.levels at_value c.args.bytes.now) p.1 p.2 (word_refused c.args.levels c.args.bytes.now c.in-Some.rest.now 110 117 (108 ∷ 108 ∷ []) e (λ fs. null_step 64 fs) first c.in_err-rest-in-110.ensures.stops)

pub value_at-returns-in_ok-rest-in-110-clause-found : goal.value_at-returns-in_ok-rest-in-110-clause-found
value_at-returns-in_ok-rest-in-110-clause-found t c =
    let first = at_byte c.args.bytes.now c.in-Some.byte.now 110 c.in-Some.rest.now c.in-Some.ensures.cases.0 c.in-110.is in
    rw tree_of-Null (word_value c.args.levels null c.args.bytes.now c.in-Some.rest.now c.in_ok-rest-in-110.rest.now 110 117 (108 ∷ 108 ∷ []) (λ fs. null_step 64 fs) refl refl refl first c.in_ok-rest-in-110.ensures.found)

pub value_at-returns-in_err-number-in_default-byte-clause-stops : goal.value_at-returns-in_err-number-in_default-byte-clause-stops
value_at-returns-in_err-number-in_default-byte-clause-stops t c =
    let b = c.in-Some.byte.now in
    let other : OtherByte b = other_byte c.args.bytes.now b c.in-Some.rest.now c.in-Some.ensures.cases.0 c.requires (λ e. omega arith) (λ e. omega arith) (λ e. omega arith) (λ e. omega arith) (λ e. omega arith) (λ e. omega arith) in
    let p = err_from_is_err_and c.from_residual-in_err-number-in_default-byte.result c.from_residual-in_err-number-in_default-byte.ensures.1 in
    let e = c.in_err-number-in_default-byte.field-0.0 in
    handed c.from_residual-in_err-number-in_default-byte.result p.0 e (λ x. StopsAt x c.args.levels at_value c.args.bytes.now) p.1 p.2 (number_refused c.args.levels c.args.bytes.now b c.in-Some.rest.now e c.in-Some.ensures.cases.0 other c.in_err-number-in_default-byte.ensures.stops)

pub value_at-returns-in_ok-number-in_default-byte-clause-found : goal.value_at-returns-in_ok-number-in_default-byte-clause-found
value_at-returns-in_ok-number-in_default-byte-clause-found t c =
    let b = c.in-Some.byte.now in
    let other : OtherByte b = other_byte c.args.bytes.now b c.in-Some.rest.now c.in-Some.ensures.cases.0 c.requires (λ e. omega arith) (λ e. omega arith) (λ e. omega arith) (λ e. omega arith) (λ e. omega arith) (λ e. omega arith) in
    rw (tree_of-Number c.in_ok-number-in_default-byte.number) (number_value c.args.levels c.args.bytes.now b c.in-Some.rest.now c.in_ok-number-in_default-byte.number c.in_ok-number-in_default-byte.rest.now c.in-Some.ensures.cases.0 other c.in_ok-number-in_default-byte.ensures.found)
