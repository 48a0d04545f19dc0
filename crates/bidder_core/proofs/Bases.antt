-- The base that a price line gives, or the usual one, has neither a query nor a fragment.
use Rattle.std.proofs.Common.{◌≡◌, true, Option, Some, None, refl}
use Rattle.adx_json.specs.Tree.{Tree, null, boolean, number, text, list, object}
use Rattle.deal_floor.specs.Forms.{text_or}
use Rattle.bidder_core.specs.Forms.{is_plain_base}
use Rattle.bidder_core.specs.PriceLines.{is_base_if_given, usual_base}

pub plain_told : (v : Option Tree) → is_base_if_given v ≡ true → is_plain_base (text_or usual_base v) ≡ true
plain_told None h = refl
plain_told (Some null) h = cc
plain_told (Some (boolean b)) h = cc
plain_told (Some (number n)) h = cc
plain_told (Some (text t)) h = h
plain_told (Some (list ts)) h = cc
plain_told (Some (object ms)) h = cc
