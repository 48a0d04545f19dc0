-- A message that was delivered once more, and its reply.
use Rattle.two_books.proofs.Delivered.{brought}
use Rattle.two_books.proofs.delivery.bring.Goals as goal

pub returns-in-Ok-deliver : goal.returns-in-Ok-deliver
returns-in-Ok-deliver c =
    brought c.args.message.now c.as_bytes.result.now c.in-Ok.request c.in-Ok-deliver.bytes (record {}) c.args.bidder.now c.deliver.new.bidder
    c.args.replies.now.items c.reserve.new.self.items c.push_reserved.new.self.items
    c.as_bytes.ensures.value c.in-Ok.ensures c.in-Ok-deliver.ensures c.reserve.ensures.items c.push_reserved.ensures.items
