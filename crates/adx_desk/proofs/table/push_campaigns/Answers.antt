-- The book has an account for each campaign, and the desk's meters are its history's.
use Rattle.std.proofs.Common.{◌∙◌, List, length, ap}
use Rattle.campaign_book.specs.Accounts.{Account}
use Rattle.day_rules.specs.Books.{awards_of}
use Rattle.day_rules.specs.Terms.{budgets_after}
use Rattle.day_rules.proofs.Budgets.{budgets_length}
use Rattle.day_rules.proofs.Money.{accounts_length}
use Rattle.adx_desk.proofs.table.push_campaigns.Goals as goal

pub push_table-requires : goal.push_table-requires
push_table-requires g c =
    let desk = c.args.desk.now.desk in
    ap (λ (accounts : List Account). length accounts) c.book.ensures
    ∙ accounts_length (budgets_after desk.terms.day desk.history) (awards_of desk.history)
    ∙ budgets_length desk.terms.day desk.history ∙ c.requires

pub returns : goal.returns
returns g c = c.in_ok-push_table.ensures c.args.desk.now.desk.terms.day c.args.desk.now.desk.history c.meters.ensures c.book.ensures
