-- One ask more, and all.
use Rattle.std.proofs.Common.{◌∙◌, refl, ap, arith, length}
use Rattle.std.proofs.lemmas.Result.{err_from_is_err_and}
use Rattle.adx_desk.specs.Histories.{DeskTerms}
use Rattle.command_gen.proofs.DayCalls.{day_early, day_more, day_starts}
use Rattle.command_gen.proofs.Taking.{serves_terms}
use Rattle.command_gen.proofs.calls.take_day.Goals as goal

pub asks-init : goal.asks-init
asks-init g c = record {
  took = day_starts g.D.Disk.faults g.D.Disk.may_leave g.D.Disk.moment g.D.Disk.left_since c.args.generator.seed c.args.desk.now;
  words = c.seed_from_u64-words.ensures.same;
  terms = refl;
  lasts = g.met.D.Disk.lasts_same c.args.desk.now.disk;
}

pub asks-preserved : goal.asks-preserved
asks-preserved g c =
    let taken = c.in_ok-take_calls.ensures.takes c.args.generator.seed c.asks.invariant.words in
    record {
      took = day_more g.D.Disk.faults g.D.Disk.may_leave g.D.Disk.moment g.D.Disk.left_since c.args.generator.seed c.asks.number c.args.desk.now c.asks.desk c.take_calls.new.desk c.asks.invariant.took taken;
      words = c.in_ok-take_calls.ensures.state c.args.generator.seed c.asks.invariant.words;
      terms = serves_terms g.D.Disk.faults g.D.Disk.may_leave g.D.Disk.moment g.D.Disk.left_since c.asks.desk c.take_calls.new.desk taken.told taken.serves ∙ c.asks.invariant.terms;
      lasts = g.met.D.Disk.lasts_on c.args.desk.now.disk c.asks.desk.disk c.take_calls.new.desk.disk c.asks.invariant.lasts c.take_calls.ensures.lasts;
    }

pub take_calls-requires-clause-campaigns : goal.take_calls-requires-clause-campaigns
take_calls-requires-clause-campaigns g c = ap (λ (t : DeskTerms). length t.day.budgets) c.asks.invariant.terms ∙ c.requires.campaigns

pub take_calls-requires-clause-state : goal.take_calls-requires-clause-state
take_calls-requires-clause-state g c = (c.args.generator.seed, c.asks.invariant.words)

pub returns-in_err-take_calls-clause-takes : goal.returns-in_err-take_calls-clause-takes
returns-in_err-take_calls-clause-takes g c =
    let p = err_from_is_err_and c.from_residual.result c.from_residual.ensures.1 in
    let taken = c.in_err-take_calls.ensures.takes c.args.generator.seed c.asks.invariant.words in
    rw (p.1, p.2)
    (day_early g.D.Disk.faults g.D.Disk.may_leave g.D.Disk.moment g.D.Disk.left_since c.args.generator.seed c.args.generator.asks c.asks.number c.args.desk.now c.asks.desk c.take_calls.new.desk c.in_err-take_calls.field-0.0 (omega arith) c.asks.invariant.took taken)
