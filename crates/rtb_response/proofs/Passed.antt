-- A body of a tree that is no object.
use Rattle.std.proofs.Common.{◌≡◌, ◌≢◌, [], refl}
use Rattle.adx_json.specs.Tree.{Tree, null, boolean, number, text, list, object, Members}
use Rattle.rtb_response.specs.Bodies.{body}

pub no_body : (t : Tree) → ((ms : Members) → t ≢ object ms) → body t ≡ []
no_body null h = refl
no_body (boolean b) h = refl
no_body (number n) h = refl
no_body (text t) h = refl
no_body (list ts) h = refl
no_body (object ms) h = absurd (h ms refl)
