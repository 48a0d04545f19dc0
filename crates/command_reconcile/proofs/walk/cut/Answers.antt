-- So many bills are at the front.
use Rattle.std.proofs.Common.{ℕ, List, ◌≤◌, length, drop, sym, subst}
use Rattle.std.proofs.lemmas.List.Sums.{prefix_len-le-length}
use Rattle.command_reconcile.specs.Differences.{is_same}
use Rattle.command_reconcile.specs.Walks.{IsCut}
use Rattle.command_reconcile.specs.declared.bill.Bill.{Bill}
use Rattle.command_reconcile.proofs.Cuts.{cut}
use Rattle.command_reconcile.proofs.walk.cut.Goals as goal

pub split_at-requires : goal.split_at-requires
split_at-requires c = subst (λ (n : ℕ). n ≤ length c.args.bills.now) (sym c.run_len-len.ensures) (prefix_len-le-length (is_same c.args.wanted.now) c.args.bills.now)

pub returns : goal.returns
returns c =
    subst (λ (rest : List Bill). IsCut c.args.wanted.now c.args.bills.now rest c.run_len-len.result) (sym c.split_at.ensures.back)
    (subst (λ (n : ℕ). IsCut c.args.wanted.now c.args.bills.now (drop n c.args.bills.now) n) (sym c.run_len-len.ensures)
    (cut c.args.wanted.now c.args.bills.now c.requires.rising c.requires.from))
