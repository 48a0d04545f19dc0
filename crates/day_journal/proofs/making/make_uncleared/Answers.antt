use Rattle.std.proofs.Common.{List, ℕ}
use Rattle.day_journal.specs.Places.{IsUnfinished}
use Rattle.day_journal.specs.Starts.{HasSome, StandsNew}
use Rattle.day_journal.proofs.Moments.{weaker, joined}
use Rattle.day_journal.proofs.NewFile.{stands_empty}
use Rattle.day_journal.proofs.making.make_uncleared.Goals as goal

pub returns-in_err-clear_first-clause-kept : goal.returns-in_err-clear_first-clause-kept
returns-in_err-clear_first-clause-kept g c each =
    let D = g.D.Disk in
    let old = D.may_leave c.args.disk.now in
    let first = c.clear_first.ensures.kept each in
    weaker D.moment D.left_since c.args.disk.now c.clear_first.new.disk (λ (f : List ℕ). IsUnfinished f × HasSome old) (λ (f : List ℕ). StandsNew f × HasSome old) first.1 (λ f h. (stands_empty f h.0, h.1))

pub returns-in_err-make_cleared-clause-kept : goal.returns-in_err-make_cleared-clause-kept
returns-in_err-make_cleared-clause-kept g c each =
    let D = g.D.Disk in
    let old = D.may_leave c.args.disk.now in
    let mid = D.may_leave c.clear_first.new.disk in
    let first = c.clear_first.ensures.kept each in
    let second = c.make_cleared.ensures.kept (c.in_ok-clear_first.ensures.cleared each) in
    joined D.moment D.left_since c.args.disk.now c.clear_first.new.disk c.make_cleared.new.disk (λ (f : List ℕ). IsUnfinished f × HasSome old) (λ (f : List ℕ). StandsNew f × HasSome mid) (λ (f : List ℕ). StandsNew f × HasSome old) first.1 second
    (λ f h. (stands_empty f h.0, h.1)) (λ f h. let had = first.0 h.1.image h.1.there in (h.0, had.1))

pub returns-clause-kept : goal.returns-clause-kept
returns-clause-kept g c each =
    let D = g.D.Disk in
    let old = D.may_leave c.args.disk.now in
    let mid = D.may_leave c.clear_first.new.disk in
    let first = c.clear_first.ensures.kept each in
    let second = c.make_cleared.ensures.kept (c.in_ok-clear_first.ensures.cleared each) in
    joined D.moment D.left_since c.args.disk.now c.clear_first.new.disk c.make_cleared.new.disk (λ (f : List ℕ). IsUnfinished f × HasSome old) (λ (f : List ℕ). StandsNew f × HasSome mid) (λ (f : List ℕ). StandsNew f × HasSome old) first.1 second
    (λ f h. (stands_empty f h.0, h.1)) (λ f h. let had = first.0 h.1.image h.1.there in (h.0, had.1))

pub returns-clause-made : goal.returns-clause-made
returns-clause-made g c each f left = c.in_ok-make_cleared.ensures.made (c.in_ok-clear_first.ensures.cleared each) f left
