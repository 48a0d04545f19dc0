-- One bidder's answer more.
use Rattle.std.proofs.Common.{List, [], ◌∷◌, ◌++◌}
use Rattle.fan_out.specs.declared.answer.BidderAnswer.{BidderAnswer}
use Rattle.script_lines.proofs.Turned.{one_taken}
use Rattle.exchange_messages.proofs.Answered.{given_more}
use Rattle.exchange_messages.proofs.asks.all_bids_in.Goals as goal

pub answers-preserved : goal.answers-preserved
answers-preserved c =
    let before = c.answers.invariant in
    let taken : List BidderAnswer = before.0 in (
      taken ++ c.in-Some.answer ∷ [],
      one_taken taken c.answers.left.items c.pop.new.self.items c.args.answers.items c.in-Some.answer c.in-Some.ensures.items before.1,
      given_more taken c.answers.given.items _ c.bids_in.result c.in-Some.answer before.2 (c.in_ok-push.ensures {u = tt}).items c.bids_in.ensures,
    )
