use Rattle.std.proofs.Common.{List, ℕ, inl, inr}
use Rattle.day_journal.specs.Places.{IsCleared, IsMarkedAs}
use Rattle.day_journal.specs.Starts.{HasSome, StandsNew}
use Rattle.day_journal.specs.declared.start.TheConstants.{NEW_FORMAT}
use Rattle.day_journal.proofs.Moments.{weaker, joined}
use Rattle.day_journal.proofs.NewFile.{stands_empty, unfinished_marked}
use Rattle.day_journal.proofs.making.make_cleared.Goals as goal

pub returns-in_err-put_mark-clause-kept : goal.returns-in_err-put_mark-clause-kept
returns-in_err-put_mark-clause-kept g c each =
    let D = g.D.Disk in
    let old = D.may_leave c.args.disk.now in
    let first = c.put_mark.ensures.kept each in
    weaker D.moment D.left_since c.args.disk.now c.put_mark.new.disk (λ (f : List ℕ). IsCleared f × HasSome old) (λ (f : List ℕ). StandsNew f × HasSome old) first.1 (λ f h. (stands_empty f (inr (inl h.0)), h.1))

pub returns-in_err-put_head-clause-kept : goal.returns-in_err-put_head-clause-kept
returns-in_err-put_head-clause-kept g c each =
    let D = g.D.Disk in
    let old = D.may_leave c.args.disk.now in
    let mid = D.may_leave c.put_mark.new.disk in
    let first = c.put_mark.ensures.kept each in
    let second = c.put_head.ensures.kept (c.in_ok-put_mark.ensures.marked each) in
    joined D.moment D.left_since c.args.disk.now c.put_mark.new.disk c.put_head.new.disk (λ (f : List ℕ). IsCleared f × HasSome old) (λ (f : List ℕ). IsMarkedAs NEW_FORMAT f × HasSome mid) (λ (f : List ℕ). StandsNew f × HasSome old) first.1 second.1
    (λ f h. (stands_empty f (inr (inl h.0)), h.1)) (λ f h. let had = first.0 h.1.image h.1.there in (stands_empty f (unfinished_marked f h.0), had.1))

pub returns-clause-kept : goal.returns-clause-kept
returns-clause-kept g c each =
    let D = g.D.Disk in
    let old = D.may_leave c.args.disk.now in
    let mid = D.may_leave c.put_mark.new.disk in
    let first = c.put_mark.ensures.kept each in
    let second = c.put_head.ensures.kept (c.in_ok-put_mark.ensures.marked each) in
    joined D.moment D.left_since c.args.disk.now c.put_mark.new.disk c.put_head.new.disk (λ (f : List ℕ). IsCleared f × HasSome old) (λ (f : List ℕ). IsMarkedAs NEW_FORMAT f × HasSome mid) (λ (f : List ℕ). StandsNew f × HasSome old) first.1 second.1
    (λ f h. (stands_empty f (inr (inl h.0)), h.1)) (λ f h. let had = first.0 h.1.image h.1.there in (stands_empty f (unfinished_marked f h.0), had.1))

pub returns-clause-made : goal.returns-clause-made
returns-clause-made g c each f left = c.in_ok-put_head.ensures.made (c.in_ok-put_mark.ensures.marked each) f left
