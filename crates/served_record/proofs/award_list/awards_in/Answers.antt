use Rattle.std.proofs.Common.{List, ap, arith, subst, sym, ◌∙◌}
use Rattle.notice_book.specs.declared.award.Award.{Award}
use Rattle.day_rules.specs.Books.{awards_of}
use Rattle.day_rules.proofs.Counting.{day_entries}
use Rattle.served_record.specs.Steps.{Fits}
use Rattle.served_record.proofs.Awards.{all_taken, awards_more, entry_fits, next_follows, no_awards}
use Rattle.served_record.proofs.award_list.awards_in.Goals as goal

pub overflow_cast-place : goal.overflow_cast-place
overflow_cast-place c = omega (arith, c.loop-place-test.true, day_entries c.requires.terms c.args.entries.now c.requires.is_day)

pub add-requires : goal.add-requires
add-requires c =
    let next = next_follows c.requires.terms c.args.entries.now c.loop-place.place c.index-entries-place.result c.requires.is_day c.loop-place-test.true c.index-entries-place.is in
    subst (λ (ws : List Award). Fits ws c.index-entries-place.result) (sym c.loop-place.invariant) (entry_fits c.requires.terms _ c.index-entries-place.result next.day next.follows)

pub loop-place-init : goal.loop-place-init
loop-place-init c = c.new-awards.ensures ∙ no_awards

pub loop-place-preserved : goal.loop-place-preserved
loop-place-preserved c =
    awards_more c.requires.terms c.args.entries.now c.loop-place.place c.index-entries-place.result c.loop-place.awards.awards c.add.new.awards.awards c.requires.is_day c.loop-place-test.true c.index-entries-place.is c.loop-place.invariant c.in_ok-add.ensures

pub returns : goal.returns
returns c = c.loop-place.invariant ∙ ap awards_of (all_taken c.args.entries.now c.loop-place.place (omega (arith, c.loop-place-test.false)))
