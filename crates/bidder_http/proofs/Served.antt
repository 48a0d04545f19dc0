-- What is said of the one that serves a connection is said of the bidder that it was lent.
use Rattle.std.proofs.Common.{◌≡◌, ℕ, List, Option, subst}
use Rattle.adx_io.specs.Streams.{Tape}
use Rattle.bidder_core.specs.Seen.{BidderState}
use Rattle.http_connection.specs.declared.conn.ConnEnd.{ConnEnd}
use Rattle.http_service.specs.Connections.{EndsWith}
use Rattle.http_service.proofs.Seen.{ends_seen}
use Rattle.bidder_http.specs.Messages.{BidderAnswers, BidderGivesUp}
use Rattle.bidder_http.specs.declared.serving.Serving.{Serving}

pub served_end : (limit : ℕ) (tape tape_now : Option Tape) (held held_now : Option (List ℕ)) (s now : Serving) (bidder_now : BidderState) (end : ConnEnd) → now.bidder.now ≡ bidder_now
    → EndsWith (λ (s : Serving) m a body (n : Serving). BidderAnswers s.bidder.now m a body n.bidder.now) (λ (s : Serving) m (n : Serving). BidderGivesUp s.bidder.now m n.bidder.now) limit tape tape_now held held_now s now end
    → EndsWith BidderAnswers BidderGivesUp limit tape tape_now held held_now s.bidder.now bidder_now end
served_end limit tape tape_now held held_now s now bidder_now end is ends =
    subst (λ (b : BidderState). EndsWith BidderAnswers BidderGivesUp limit tape tape_now held held_now s.bidder.now b end) is
    (ends_seen (λ (s : Serving). s.bidder.now) (λ (s : Serving) m a body (n : Serving). BidderAnswers s.bidder.now m a body n.bidder.now) BidderAnswers (λ (s : Serving) m (n : Serving). BidderGivesUp s.bidder.now m n.bidder.now) BidderGivesUp (λ s m a body n h. h) (λ s m n h. h) limit tape tape_now held held_now s now end ends)
