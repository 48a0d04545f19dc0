use Rattle.script_lines.proofs.Taking.{answer_fits, answer_few}
use Rattle.script_lines.proofs.bids.Bids.take_answer.Goals as goal

pub take_seats-requires : goal.take_seats-requires
take_seats-requires c = record { few = answer_fits c.args.bidder c.in-Some.answer.bidid c.in-Some.answer.seats _ _ c.in-Some.answer.few c.requires.few }

pub returns-in_ok-take_seats-in-Some-clause-few : goal.returns-in_ok-take_seats-in-Some-clause-few
returns-in_ok-take_seats-in-Some-clause-few c =
    answer_few c.args.bidder c.in-Some.answer.bidid c.in-Some.answer.seats _ _ c.in-Some.answer.few (c.in_ok-take_seats-in-Some.ensures {u = tt}).counted
