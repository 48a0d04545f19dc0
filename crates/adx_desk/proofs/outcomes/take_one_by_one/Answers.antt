-- One notice more was taken.
use Rattle.std.proofs.Common.{List, [], ◌∷◌, Option, ◌+◌, length, take, refl, sym, ap, ◌∙◌, subst, arith, length-append}
use Rattle.day_rules.specs.Laws.{Arrival}
use Rattle.day_rules.specs.declared.answer.Answer.{Answer}
use Rattle.adx_desk.specs.Together.{TakesNotices}
use Rattle.adx_desk.proofs.Notices.{all_done, more_done, no_call, takes_none}
use Rattle.adx_desk.proofs.outcomes.take_one_by_one.Goals as goal

pub loop-i-init : goal.loop-i-init
loop-i-init g c = record {
  takes = takes_none g.Y.DayDesk.runs c.args.desk.now c.args.outcomes.now.items (g.met.Y.DayDesk.none c.args.desk.now) c.requires.empty;
  long = ap (λ (l : List (Option Answer)). length l) c.requires.empty;
  room = refl;
  place = refl;
}

pub loop-i-preserved : goal.loop-i-preserved
loop-i-preserved g c =
    let i = c.loop-i.invariant in
    let x : Arrival = record { kind = c.in-Some.kind; auction = c.in-Some.auction.now; award = c.in-Some.award } in
    let more = more_done g.Y.DayDesk.runs g.met.Y.DayDesk.join c.args.desk.now c.loop-i.desk c.take_one.new.desk c.args.batch.now.calls c.loop-i.i x c.loop-i.outcomes.items c.take_one.result c.in-Some.ensures i.takes c.take_one.ensures.takes in record {
      takes = subst (λ (l : List (Option Answer)). TakesNotices g.Y.DayDesk.runs c.args.desk.now c.take_one.new.desk (take (c.loop-i.i + 1) c.args.batch.now.calls) l) (sym c.push_reserved.ensures.items) more;
      long = omega (arith, ap (λ (l : List (Option Answer)). length l) c.push_reserved.ensures.items, length-append c.loop-i.outcomes.items (c.take_one.result ∷ []), i.long);
      room = c.push_reserved.ensures.capacity ∙ i.room;
      place = c.take_one.ensures.place ∙ i.place;
    }

pub unreachable-requires : goal.unreachable-requires
unreachable-requires g c = no_call c.args.batch.now.calls c.loop-i.i c.in-None.ensures (omega arith)

pub returns-clause-takes : goal.returns-clause-takes
returns-clause-takes g c = all_done g.Y.DayDesk.runs c.args.desk.now c.loop-i.desk c.args.batch.now.calls c.loop-i.i c.loop-i.outcomes.items (omega arith) c.loop-i.invariant.takes
