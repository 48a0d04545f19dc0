use Rattle.std.proofs.Common.{◌≡◌, ◌==◌, ℕ, List, Option, None, subst}
use Rattle.std.specs.List.{find}
use Rattle.std.specs.Option.{unwrap_or}
use Rattle.std.specs.Result.{IfOk}
use Rattle.day_rules.specs.declared.ask.Kept.{Kept}
use Rattle.outbox.specs.Bids.{no_texts}
use Rattle.outbox.specs.Rows.{row_by}
use Rattle.outbox.proofs.asking.row_of.Goals as goal

pub returns-in-None : goal.returns-in-None
returns-in-None c =
    let place : ℕ = c.args.place in
    let none : None ≡ find (λ (k : Kept). k.bid == place) c.args.ask.now.kept =
    subst (λ (ks : List Kept). None ≡ find (λ (k : Kept). k.bid == place) ks) c.as_slice.ensures c.in-None.ensures in
    subst (λ (o : Option Kept). IfOk c.bare_row.result (λ r. r ≡ row_by c.args.ask.now c.args.offer.now (unwrap_or o (no_texts place)))) none (c.bare_row.ensures place)
