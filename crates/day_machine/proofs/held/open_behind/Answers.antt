-- By what the entry does to the open awards.
use Rattle.std.proofs.Common.{◌≡◌, ◌+◌, ◌-◌, ◌∷◌, ◌++◌, [], sym, ap, subst, arith}
use Rattle.notice_book.specs.AwardList.{due_count}
use Rattle.day_rules.specs.declared.entry.Entry.{Entry}
use Rattle.day_rules.specs.Books.{awards_of}
use Rattle.day_rules.specs.Legal.{MayFollow}
use Rattle.day_rules.proofs.Asking.{awards_budget}
use Rattle.day_machine.specs.Held.{open_count}
use Rattle.day_machine.proofs.Holding.{open_ask, open_bill, open_loss, open_moment, open_win}
use Rattle.day_machine.proofs.OpenAwards.{few_open}
use Rattle.day_machine.proofs.held.open_behind.Goals as goal

pub overflow_add-result : goal.overflow_add-result
overflow_add-result c =
    omega (arith, c.requires.counted, few_open c.args.day.now.terms c.args.day.now.history c.requires.legal, c.sale_count.ensures.few)

pub returns-in-Ask : goal.returns-in-Ask
returns-in-Ask c =
    subst (λ (e : Entry). c.args.without_end + c.sale_count.result ≡ open_count (awards_of (c.args.day.now.history ++ e ∷ []))) (sym c.in-Ask.is)
    (omega (arith, c.requires.counted, c.sale_count.ensures.value, open_ask c.args.day.now.terms c.args.day.now.history c.in-Ask.ask c.requires.legal.legal))

pub returns-in-Win : goal.returns-in-Win
returns-in-Win c =
    let follows = subst (λ (e : Entry). MayFollow c.args.day.now.terms c.args.day.now.history e) c.in-Win.is c.requires.follows in
    subst (λ (e : Entry). c.args.without_end ≡ open_count (awards_of (c.args.day.now.history ++ e ∷ []))) (sym c.in-Win.is)
    (omega (arith, c.requires.counted, open_win c.args.day.now.history c.in-Win.award follows))

pub overflow_sub-result : goal.overflow_sub-result
overflow_sub-result c =
    let follows = subst (λ (e : Entry). MayFollow c.args.day.now.terms c.args.day.now.history e) c.in-Bill.is c.requires.follows in
    omega (arith, c.requires.counted, open_bill c.args.day.now.history c.in-Bill.award follows)

pub returns-in-Bill : goal.returns-in-Bill
returns-in-Bill c =
    let follows = subst (λ (e : Entry). MayFollow c.args.day.now.terms c.args.day.now.history e) c.in-Bill.is c.requires.follows in
    subst (λ (e : Entry). c.args.without_end - 1 ≡ open_count (awards_of (c.args.day.now.history ++ e ∷ []))) (sym c.in-Bill.is)
    (omega (arith, c.requires.counted, open_bill c.args.day.now.history c.in-Bill.award follows))

pub overflow_sub-result-in-Loss : goal.overflow_sub-result-in-Loss
overflow_sub-result-in-Loss c =
    let follows = subst (λ (e : Entry). MayFollow c.args.day.now.terms c.args.day.now.history e) c.in-Loss.is c.requires.follows in
    omega (arith, c.requires.counted, open_loss c.args.day.now.history c.in-Loss.award follows)

pub returns-in-Loss : goal.returns-in-Loss
returns-in-Loss c =
    let follows = subst (λ (e : Entry). MayFollow c.args.day.now.terms c.args.day.now.history e) c.in-Loss.is c.requires.follows in
    subst (λ (e : Entry). c.args.without_end - 1 ≡ open_count (awards_of (c.args.day.now.history ++ e ∷ []))) (sym c.in-Loss.is)
    (omega (arith, c.requires.counted, open_loss c.args.day.now.history c.in-Loss.award follows))

pub overflow_sub-result-in-Expire : goal.overflow_sub-result-in-Expire
overflow_sub-result-in-Expire c =
    omega (arith, c.requires.counted, c.from.ensures, c.due.ensures, ap (due_count c.in-Expire.now) c.awards.ensures, open_moment c.args.day.now.history c.in-Expire.now)

pub returns-in-Expire : goal.returns-in-Expire
returns-in-Expire c =
    subst (λ (e : Entry). c.args.without_end - c.from.result ≡ open_count (awards_of (c.args.day.now.history ++ e ∷ []))) (sym c.in-Expire.is)
    (omega (arith, c.requires.counted, c.from.ensures, c.due.ensures, ap (due_count c.in-Expire.now) c.awards.ensures, open_moment c.args.day.now.history c.in-Expire.now))

pub returns-in-Budget : goal.returns-in-Budget
returns-in-Budget c =
    subst (λ (e : Entry). c.args.without_end ≡ open_count (awards_of (c.args.day.now.history ++ e ∷ []))) (sym c.in-Budget.is)
    (omega (arith, c.requires.counted, ap open_count (awards_budget c.args.day.now.history c.in-Budget.campaign c.in-Budget.change c.in-Budget.budget)))
