use Rattle.std.proofs.Common.{◌≡◌, true, Result, Ok, Err, ap, arith, length, sym, ◌∙◌}
use Rattle.std.specs.Prelude.{OnOk}
use Rattle.std.specs.Result.{is_ok}
use Rattle.std.proofs.lemmas.Bool.{false≢true}
use Rattle.std.proofs.lemmas.List.{length-append}
use Rattle.day_entries.specs.Entries.{entry_bytes}
use Rattle.day_entries.proofs.Lengths.{notice_bytes}
use Rattle.day_machine.proofs.waiting.put_behind.Goals as goal

holds : {A E : Type 0} (r : Result A E) (P : Type 0) → is_ok r ≡ true → OnOk r P → P
holds (Ok x) P is p = p
holds (Err e) P is p = absurd (false≢true is)

pub returns-then-is_counted-clause-few : goal.returns-then-is_counted-clause-few
returns-then-is_counted-clause-few c =
    let added = holds c.encode-encoded.result _ (sym c.is_ok.ensures.value ∙ c.if-prove.false) c.encode-encoded.ensures.ok in
    omega (arith, notice_bytes c.args.format c.entry-entry.result c.entry-entry.ensures.kind, ap length added, length-append c.args.frame.now.payload (entry_bytes c.args.format c.entry-entry.result))
