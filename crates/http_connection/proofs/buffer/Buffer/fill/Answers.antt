-- What was taken comes after the pending bytes.
use Rattle.std.proofs.Common.{◌≡◌, ◌+◌, length, take, drop, refl, sym, ap, ◌∙◌, arith, rules}
use Rattle.std.specs.Vec.{with_items}
use Rattle.std.proofs.lemmas.List.{with_items_is}
use Rattle.http_connection.specs.BufferState.{BufferState}
use Rattle.http_connection.specs.Order.{kept_of, pending_of}
use Rattle.http_connection.proofs.Taking.{filled, gives, gives_none}
use Rattle.http_connection.proofs.buffer.Buffer.fill.Goals as goal

pub returns-in-Ok-eq0-clause-takes : goal.returns-in-Ok-eq0-clause-takes
returns-in-Ok-eq0-clause-takes g c =
    let v = c.self.inside.bytes in
    let p = c.self.inside.offsets in
    let xs = c.make_room-self-inside.new.bytes in
    let ys = c.take_behind.new.bytes in
    let o = c.make_room-self-inside.result in
    let items : (with_items (with_items v xs) ys).items ≡ ys = with_items_is (with_items v xs) ys (search rules) in
    let same : (with_items v xs).items ≡ xs = with_items_is v xs (search rules) in
    filled c.args.self.now _ xs ys o o.end c.in-Ok-eq0.field-0 _ _
    (sym (ap (λ (b : BufferState). b.kept) c.self.view_is) ∙ ap (λ l. kept_of l p) (sym c.deref_mut.ensures.value) ∙ sym c.make_room-self-inside.ensures.kept)
    (sym (ap (λ (b : BufferState). b.pending) c.self.view_is) ∙ ap (λ l. pending_of l p) (sym c.deref_mut.ensures.value) ∙ sym c.make_room-self-inside.ensures.pending)
    (sym (ap (λ (b : BufferState). b.room) c.self.view_is) ∙ ap length (sym c.deref_mut.ensures.value) ∙ sym c.make_room-self-inside.ensures.size)
    c.make_room-self-inside.ensures.ordered (omega arith) (c.take_behind.ensures.size ∙ ap length c.deref_mut-2.ensures.value ∙ ap length same) (c.take_behind.ensures.front ∙ ap (take o.end) c.deref_mut-2.ensures.value ∙ ap (take o.end) same) (omega arith)
    (ap (λ l. drop o.start (take o.joined l)) items) (ap (λ l. drop o.at (take o.end l)) items) (ap length items)
    (gives (drop o.end ys) c.in-Ok-eq0.field-0 _ _ c.in-Ok-eq0.ensures.told)

pub returns-in-Ok-clause-takes : goal.returns-in-Ok-clause-takes
returns-in-Ok-clause-takes g c =
    let v = c.self.inside.bytes in
    let p = c.self.inside.offsets in
    let xs = c.make_room-self-inside.new.bytes in
    let ys = c.take_behind.new.bytes in
    let o = c.make_room-self-inside.result in
    let items : (with_items (with_items v xs) ys).items ≡ ys = with_items_is (with_items v xs) ys (search rules) in
    let same : (with_items v xs).items ≡ xs = with_items_is v xs (search rules) in
    filled c.args.self.now _ xs ys o (o.end + c.in-Ok.count) c.in-Ok.count _ _
    (sym (ap (λ (b : BufferState). b.kept) c.self.view_is) ∙ ap (λ l. kept_of l p) (sym c.deref_mut.ensures.value) ∙ sym c.make_room-self-inside.ensures.kept)
    (sym (ap (λ (b : BufferState). b.pending) c.self.view_is) ∙ ap (λ l. pending_of l p) (sym c.deref_mut.ensures.value) ∙ sym c.make_room-self-inside.ensures.pending)
    (sym (ap (λ (b : BufferState). b.room) c.self.view_is) ∙ ap length (sym c.deref_mut.ensures.value) ∙ sym c.make_room-self-inside.ensures.size)
    c.make_room-self-inside.ensures.ordered (let n = c.in-Ok.ensures.count in let m = c.deref_mut-2.ensures.len in let k = ap length c.deref_mut-2.ensures.value in let j = ap length same in omega (arith, n, k, j)) (c.take_behind.ensures.size ∙ ap length c.deref_mut-2.ensures.value ∙ ap length same) (c.take_behind.ensures.front ∙ ap (take o.end) c.deref_mut-2.ensures.value ∙ ap (take o.end) same) (refl)
    (ap (λ l. drop o.start (take o.joined l)) items) (ap (λ l. drop o.at (take (o.end + c.in-Ok.count) l)) items) (ap length items)
    (gives (drop o.end ys) c.in-Ok.count _ _ c.in-Ok.ensures.told)

pub returns-in-Err-clause-takes : goal.returns-in-Err-clause-takes
returns-in-Err-clause-takes g c =
    let v = c.self.inside.bytes in
    let p = c.self.inside.offsets in
    let xs = c.make_room-self-inside.new.bytes in
    let ys = c.take_behind.new.bytes in
    let o = c.make_room-self-inside.result in
    let items : (with_items (with_items v xs) ys).items ≡ ys = with_items_is (with_items v xs) ys (search rules) in
    let same : (with_items v xs).items ≡ xs = with_items_is v xs (search rules) in
    filled c.args.self.now _ xs ys o o.end 0 _ _
    (sym (ap (λ (b : BufferState). b.kept) c.self.view_is) ∙ ap (λ l. kept_of l p) (sym c.deref_mut.ensures.value) ∙ sym c.make_room-self-inside.ensures.kept)
    (sym (ap (λ (b : BufferState). b.pending) c.self.view_is) ∙ ap (λ l. pending_of l p) (sym c.deref_mut.ensures.value) ∙ sym c.make_room-self-inside.ensures.pending)
    (sym (ap (λ (b : BufferState). b.room) c.self.view_is) ∙ ap length (sym c.deref_mut.ensures.value) ∙ sym c.make_room-self-inside.ensures.size)
    c.make_room-self-inside.ensures.ordered (omega arith) (c.take_behind.ensures.size ∙ ap length c.deref_mut-2.ensures.value ∙ ap length same) (c.take_behind.ensures.front ∙ ap (take o.end) c.deref_mut-2.ensures.value ∙ ap (take o.end) same) (omega arith)
    (ap (λ l. drop o.start (take o.joined l)) items) (ap (λ l. drop o.at (take o.end l)) items) (ap length items)
    (gives_none (drop o.end ys) c.in-Err.failed _ _ c.in-Err.ensures.told)
