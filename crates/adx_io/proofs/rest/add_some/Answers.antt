-- The bytes that were taken come after those that were there.
use Rattle.std.proofs.Common.{◌≡◌, ◌++◌, length, take, drop, ap, ◌∙◌, arith}
use Rattle.adx_io.proofs.Rests.{taken_behind, fills_adds, within_taken}
use Rattle.adx_io.proofs.rest.add_some.Given.{Over}
use Rattle.adx_io.proofs.rest.add_some.Goals as goal

start_is : (g : Over) (c : goal.After-truncate g) → (length c.as_slice-start.result.now) ≡ length c.args.out.now.items
start_is g c = ap length c.as_slice-start.ensures.value

-- what is in out, by what was taken
added : (g : Over) (c : goal.After-truncate g) → c.truncate.new.self.items ≡ c.args.out.now.items ++ take c.in-Ok.count (drop (length c.as_slice-start.result.now) c.take_behind.new.out.items)
added g c =
    taken_behind (length c.as_slice-start.result.now) c.in-Ok.count c.args.out.now.items c.take_behind.new.out.items c.truncate.new.self.items
    (omega (arith, start_is g c, c.in-Ok.ensures.size, c.in_ok-grow.ensures.grown.1))
    (c.in-Ok.ensures.front ∙ ap (λ n. take n c.grow.new.out.items) (start_is g c) ∙ c.in_ok-grow.ensures.grown.0) c.truncate.ensures.items

pub returns-in-Ok-clause-count : goal.returns-in-Ok-clause-count
returns-in-Ok-clause-count g c =
    within_taken (length c.as_slice-start.result.now) c.in-Ok.count c.args.wanted c.args.out.now.items c.take_behind.new.out.items c.truncate.new.self.items (added g c) c.in-Ok.ensures.count
    (omega (arith, start_is g c, c.in-Ok.ensures.size, c.in-Ok.ensures.count, c.in_ok-grow.ensures.grown.1))

pub returns-in-Ok-clause-reads : goal.returns-in-Ok-clause-reads
returns-in-Ok-clause-reads g c =
    fills_adds (length c.as_slice-start.result.now) c.in-Ok.count c.args.out.now.items c.take_behind.new.out.items c.truncate.new.self.items
    (g.S.Source.tape c.args.source.now) (g.S.Source.tape c.take_behind.new.source) (added g c) c.in-Ok.ensures.bytes
