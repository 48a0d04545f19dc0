-- A pump, from what its parts did.
use Rattle.std.proofs.Common.{List, Ok, Err, subst}
use Rattle.outbox.specs.declared.post.Post.{Post}
use Rattle.two_books.specs.Playing.{PlaysAll}
use Rattle.two_books.proofs.Pumped.{pump_ends, stops_following, stops_playing}
use Rattle.two_books.proofs.pumping.pump.Goals as goal

pub returns-in-Err : goal.returns-in-Err
returns-in-Err c = stops_following c.args.fates.now c.args.exchange.now c.follow.new.self c.args.messages.now.items c.args.bidder.now c.in-Err.wanting c.in-Err.ensures

pub returns-in-Ok-play_all : goal.returns-in-Ok-play_all
returns-in-Ok-play_all c =
    pump_ends c.args.fates.now c.pump_planned.result c.args.exchange.now c.follow.new.self c.pump_planned.new.exchange c.args.messages.now.items c.play_all.new.messages.items c.play_all.new.replies.items
    c.args.bidder.now c.play_all.new.bidder c.in-Ok.field-0 c.in-Ok-play_all.field-0 c.in-Ok.ensures
    (subst (λ (ps : List Post). PlaysAll ps c.args.fates.now (Ok c.in-Ok-play_all.field-0) c.args.messages.now.items c.play_all.new.messages.items c.play_all.new.replies.items c.args.bidder.now c.play_all.new.bidder) c.pending.ensures c.in-Ok-play_all.ensures)
    c.pump_planned.ensures

pub returns-in-Err-play_all : goal.returns-in-Err-play_all
returns-in-Err-play_all c =
    stops_playing c.args.fates.now c.args.exchange.now c.follow.new.self c.args.messages.now.items c.play_all.new.messages.items c.play_all.new.replies.items
    c.args.bidder.now c.play_all.new.bidder c.in-Ok.field-0 c.in-Err-play_all.wanting c.in-Ok.ensures
    (subst (λ (ps : List Post). PlaysAll ps c.args.fates.now (Err c.in-Err-play_all.wanting) c.args.messages.now.items c.play_all.new.messages.items c.play_all.new.replies.items c.args.bidder.now c.play_all.new.bidder) c.pending.ensures c.in-Err-play_all.ensures)
