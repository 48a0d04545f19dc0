-- The law is in `OneReply`.
use Rattle.fan_out.specs.Lanes.{works}
use Rattle.exchange_http.proofs.OneReply.{one_reply}
use Rattle.exchange_http.proofs.laws.one_reply.Goals as goal

pub returns : goal.returns
returns g c = one_reply (works g.L.Link)
