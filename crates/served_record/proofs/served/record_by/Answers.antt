use Rattle.std.proofs.Common.{◌≡◌, List, ap, arith, refl, subst, sym, ◌∙◌, length}
use Rattle.std.proofs.lemmas.Bool.{and_parts}
use Rattle.std.specs.List.{All, list_all}
use Rattle.notice_book.specs.declared.award.Award.{Award}
use Rattle.day_rules.specs.Books.{awards_of}
use Rattle.day_rules.specs.Terms.{terms_of}
use Rattle.bid_record.specs.declared.rows.CampaignRow.{CampaignRow}
use Rattle.bid_record.specs.declared.rows.ImpRow.{ImpRow}
use Rattle.day_close.specs.Choosing.{is_unchanged, keeps_award}
use Rattle.served_record.specs.Days.{budgets_of}
use Rattle.served_record.specs.Steps.{IsNamed, rows_in}
use Rattle.served_record.proofs.Awards.{sold_awards}
use Rattle.served_record.proofs.ByRule.{history_by_rule}
use Rattle.served_record.proofs.Whole.{all_few, rows_are, rows_sound, rows_within}
use Rattle.served_record.proofs.served.record_by.Goals as goal

pub rows_of-requires-clause-formed : goal.rows_of-requires-clause-formed
rows_of-requires-clause-formed c = all_few c.args.roster.now.campaigns c.args.entries.now c.requires.history

pub rows_of-requires-clause-enough : goal.rows_of-requires-clause-enough
rows_of-requires-clause-enough c =
    omega (arith, sold_awards (terms_of (budgets_of c.args.roster.now.campaigns) c.requires.history.limits) c.args.entries.now c.requires.history.is_day.legal, ap (λ (ws : List Award). length ws) c.in_ok-awards.ensures)

pub invariant_of-result : goal.invariant_of-result
invariant_of-result c =
    let is : c.from.result ≡ rows_in (awards_of c.args.entries.now) 0 c.args.entries.now =
    c.from.ensures ∙ (c.in_ok-rows.ensures.rows ∙ ap (λ (ws : List Award). rows_in ws 0 c.args.entries.now) c.in_ok-awards.ensures) in
    record { sound = rows_sound c.args.heading.day c.args.roster.now.campaigns c.args.heading.campaigns c.args.entries.now c.from.result c.args.heading.sound c.requires.campaigns c.requires.history is (subst (All IsNamed) (sym c.from.ensures) c.in_ok-rows.ensures.named) }

pub returns-clause-served : goal.returns-clause-served
returns-clause-served c =
    let is : c.from.result ≡ rows_in (awards_of c.args.entries.now) 0 c.args.entries.now =
    c.from.ensures ∙ (c.in_ok-rows.ensures.rows ∙ ap (λ (ws : List Award). rows_in ws 0 c.args.entries.now) c.in_ok-awards.ensures) in
    let rows = rows_are c.args.roster.now.campaigns c.args.entries.now c.from.result c.requires.history is in
    record {
      format = refl;
      day_is = c.requires.day;
      campaigns_are = c.requires.campaigns;
      names = rows.names;
      impressions_are = rows.impressions_are;
      chosen = rows.chosen;
      ends = rows.ends;
      money = rows.money;
    }

pub returns-clause-within : goal.returns-clause-within
returns-clause-within c =
    let is : c.from.result ≡ rows_in (awards_of c.args.entries.now) 0 c.args.entries.now =
    c.from.ensures ∙ (c.in_ok-rows.ensures.rows ∙ ap (λ (ws : List Award). rows_in ws 0 c.args.entries.now) c.in_ok-awards.ensures) in
    rows_within c.args.roster.now.campaigns c.args.heading.campaigns c.args.entries.now c.from.result c.requires.campaigns c.requires.history is

pub returns-clause-chosen : goal.returns-clause-chosen
returns-clause-chosen c = λ undisturbed.
    let is : c.from.result ≡ rows_in (awards_of c.args.entries.now) 0 c.args.entries.now =
    c.from.ensures ∙ (c.in_ok-rows.ensures.rows ∙ ap (λ (ws : List Award). rows_in ws 0 c.args.entries.now) c.in_ok-awards.ensures) in
    let parts = and_parts (list_all (λ (row : ImpRow). keeps_award row.end) c.from.result) (list_all (λ (row : CampaignRow). is_unchanged row.changes) c.args.heading.campaigns) undisturbed in
    history_by_rule c.args.roster.now.campaigns c.args.heading.campaigns c.args.entries.now c.from.result c.requires.campaigns c.requires.history is parts.0 parts.1
