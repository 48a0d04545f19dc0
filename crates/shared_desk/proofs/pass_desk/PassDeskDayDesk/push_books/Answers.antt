-- The history was looked at, and its table is behind an empty text.
use Rattle.std.proofs.Common.{◌≡◌, List, ◌∙◌, string_bytes}
use Rattle.adx_desk.specs.Rosters.{desk_terms}
use Rattle.answer_lines.specs.Table.{closing_table}
use Rattle.day_rules.specs.declared.entry.Entry.{Entry}
use Rattle.shared_desk.specs.Passes.{viewed}
use Rattle.shared_desk.proofs.PassSteps.{kept_of, looks, table_behind}
use Rattle.shared_desk.proofs.pass_desk.PassDeskDayDesk.push_books.Goals as goal

pub book_lines-requires-clause-roster : goal.book_lines-requires-clause-roster
book_lines-requires-clause-roster g c = c.args.self.now.opened ∙ c.requires.terms

pub returns-clause-looks : goal.returns-clause-looks
returns-clause-looks g c =
    looks c.args.self.now.shared.now.fixed c.args.self.now.roster c.args.self.now.opened c.args.self.now.pass.now c.book_lines.new.pass (viewed (g.M.MeterView.origin c.args.self.now.view.now) (g.M.MeterView.seen c.args.self.now.view.now))
    (λ (at : List Entry). string_bytes c.push_str.new.self ≡ closing_table c.args.roster.now.campaigns (desk_terms c.args.roster.now).day at) c.book_lines.ensures.turn
    (table_behind _ _ _ _ c.requires.empty (c.as_str.ensures.value ∙ c.in_ok-lines.ensures.lines) c.in_ok-push_str.ensures.bytes)

pub invariant_of-self : goal.invariant_of-self
invariant_of-self g c = record { of = kept_of c.args.self.now.pass.now c.book_lines.new.pass c.args.self.now.shared.now c.book_lines.ensures.turn.1.same c.args.self.now.of; opened = c.args.self.now.opened }
