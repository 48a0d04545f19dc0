-- What impressions say and their fault, for a list that is the same.
use Rattle.std.proofs.Common.{◌≡◌, List, [], map, Bool, Option, Some, sym, ap₂, ◌∙◌, subst}
use Rattle.std.specs.List.{AllZip}
use Rattle.adx_json.specs.Tree.{Tree}
use Rattle.adx_json.specs.Rows.{Says, first_among}
use Rattle.rtb_request.specs.Imps.{imp_rows, imp_id}
use Rattle.rtb_request.specs.declared.imp.Imp.{Imp}
use Rattle.rtb_request.specs.declared.fault.RequestFault.{RequestFault}

-- the impressions of a list that is the same
pub fault_as : {d : Bool} {ts : List Tree} {r : Option RequestFault} (e : Bool) (us : List Tree)
    → first_among (λ before. imp_rows d (map imp_id before)) [] ts ≡ r → d ≡ e → ts ≡ us
    → first_among (λ before. imp_rows e (map imp_id before)) [] us ≡ r
fault_as e us h p q = sym (ap₂ (λ x y. first_among (λ before. imp_rows x (map imp_id before)) [] y) p q) ∙ h

pub says_as : {d : Bool} {ts : List Tree} {is : List Imp} (e : Bool) (us : List Tree) (js : List Imp)
    → AllZip (λ t i. Says (imp_rows d []) (Some t) i) ts is → d ≡ e → ts ≡ us → is ≡ js → AllZip (λ t i. Says (imp_rows e []) (Some t) i) us js
says_as {d} {ts} {is} e us js h p q s =
    subst (λ xs. AllZip (λ t i. Says (imp_rows e []) (Some t) i) us xs) s
    (subst (λ y. AllZip (λ t i. Says (imp_rows e []) (Some t) i) y is) q
    (subst (λ x. AllZip (λ t i. Says (imp_rows x []) (Some t) i) ts is) p h))
