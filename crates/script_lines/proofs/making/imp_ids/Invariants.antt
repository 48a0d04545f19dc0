use Rattle.std.proofs.Common.{◌≡◌, ◌++◌, drop, map}
use Rattle.rtb_request.specs.declared.imp.Imp.{Imp}
use Rattle.script_lines.proofs.making.imp_ids.Given as goal

-- the ids so far and those of the impressions that are left are the ids of all
abbrev pub invariant-loop-imp : goal.invariant-loop-imp
invariant-loop-imp l = l.ids.items ++ map (λ (i : Imp). i.id) (drop l.imp-index l.imps) ≡ map (λ (i : Imp). i.id) l.imps
