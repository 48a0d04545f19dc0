-- By what was opened.
use Rattle.std.proofs.Common.{◌∙◌, [], ap, arith, inl, sym}
use Rattle.adx_desk.proofs.Keeping.{told_some}
use Rattle.adx_desk.proofs.desk.Desk.open.Goals as goal

pub invariant_of-result : goal.invariant_of-result
invariant_of-result g c =
    let D = g.D.Disk in
    let opens = c.in-Ok.ensures.opens in
    record {
      room = c.in-Ok.ensures.room;
      within = let none = opens.no_fault in let same = ap D.faults c.of-opened.ensures in (inl (omega arith), λ is. sym same);
      keeps = λ told. let file = told_some (D.reads c.of-began.result.value) told in let keeps = opens.keeps file.0 (sym (ap D.reads c.of-began.ensures) ∙ file.1) [] in record { tail = []; one_record = omega arith; keeps = keeps; sure = λ none. keeps };
    }
