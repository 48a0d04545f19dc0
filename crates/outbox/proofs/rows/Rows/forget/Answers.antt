use Rattle.std.proofs.Common.{◌∙◌, ap, ltb, rules, subst}
use Rattle.std.specs.BTreeMap.{is_at}
use Rattle.std.specs.Map.{lookup}
use Rattle.std.specs.Ordering.{nat_cmp}
use Rattle.std.proofs.lemmas.Map.Made.{filter_same_pairs}
use Rattle.outbox.specs.Following.{RowsState}
use Rattle.outbox.specs.Keeping.{IsForgotten}
use Rattle.outbox.proofs.Changes.{found_below}
use Rattle.outbox.proofs.rows.Rows.forget.Goals as goal

pub returns : goal.returns
returns c =
    let rows = filter_same_pairs _ (λ e. ltb e.0 c.args.first) _ (λ k v b w f t. search rules) c.self.inside.rows.entries c.retain.new.self.entries c.retain.ensures.filtered in
    let deadlines = filter_same_pairs _ (λ e. ltb e.0 c.args.first) _ (λ k v b w f t. search rules) c.self.inside.open_until.entries c.retain-2.new.self.entries c.retain-2.ensures.filtered in
    subst (λ (s : RowsState). IsForgotten c.args.first s (record { rows = c.retain.new.self.entries; deadlines = c.retain-2.new.self.entries })) c.self.view_is
    (record {
      rows = λ q. ap (lookup (is_at (nat_cmp q))) rows ∙ found_below c.args.first q c.self.inside.rows.entries;
      deadlines = λ q. ap (lookup (is_at (nat_cmp q))) deadlines ∙ found_below c.args.first q c.self.inside.open_until.entries;
    })
