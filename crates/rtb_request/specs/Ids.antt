-- A deal or an impression by its id (OpenRTB 2.6, sections 3.2.12 Deal and 3.2.4 Imp).
use Rattle.std.specs.Prelude.{ℕ, List, Bool}
use Rattle.std.specs.Str.{bytes_eq}
use Rattle.rtb_request.specs.declared.deal.Deal.{Deal}
use Rattle.rtb_request.specs.declared.imp.Imp.{Imp}

-- the deal has this id
abbrev pub deal_has_id : List ℕ → Deal → Bool
deal_has_id id d = bytes_eq d.id id

-- the impression has this id
abbrev pub imp_has_id : List ℕ → Imp → Bool
imp_has_id id i = bytes_eq i.id id
