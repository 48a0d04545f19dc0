use Rattle.std.proofs.Common.{vec_len, ◌≡◌, ℕ, List, None, sym, ap, ◌∙◌, arith}
use Rattle.std.specs.Option.{option_map}
use Rattle.day_rules.specs.declared.ask.Ask.{Ask}
use Rattle.day_rules.specs.declared.entry.Entry.{Entry}
use Rattle.day_rules.specs.Books.{awards_of, entries_to_come}
use Rattle.day_rules.specs.DayState.{DayState}
use Rattle.day_rules.specs.Replies.{ask_of}
use Rattle.day_rules.proofs.Counting.{day_entries}
use Rattle.day_machine.specs.DayFields.{id_entries, place_in}
use Rattle.day_machine.proofs.IdPlaces.{all_ids, ask_place, prepared_next}
use Rattle.day_machine.proofs.day.Day.prepare_ask.Goals as goal

pub overflow_cast-place : goal.overflow_cast-place
overflow_cast-place c = omega (arith, day_entries _ c.self.inside.history.items c.self.invariant.day)

pub put_next-requires : goal.put_next-requires
put_next-requires c =
    let h : List Entry = c.self.inside.history.items in
    let new : ask_of c.args.ask.now.auction h ≡ None = ap (λ (s : DayState). ask_of c.args.ask.now.auction s.history) c.self.view_is ∙ c.requires.new in
    record {
      all = all_ids h (id_entries c.self.inside.ids) c.self.inside.totals.asks c.self.invariant.ids_are c.self.invariant.totals_are.asks;
      new =
          ap (λ (xs : List ℕ). place_in c.self.inside.totals.asks xs (id_entries c.self.inside.ids)) c.as_str.ensures.value
          ∙ (ask_place h (id_entries c.self.inside.ids) c.self.inside.totals.asks c.args.ask.now.auction c.self.invariant.ids_are c.self.invariant.totals_are.asks
          ∙ ap (option_map (λ (p : ℕ × Ask). p.0)) new);
    }

pub returns-clause-room : goal.returns-clause-room
returns-clause-room c =
    let h : List Entry = c.self.inside.history.items in
    let same : vec_len c.reserve.new.self ≡ c.len-place.result = c.in_ok-reserve.ensures.len ∙ sym c.len-place.ensures in
    record {
      entries = omega (arith, c.in_ok-reserve.ensures.ok, c.sale_count-count.ensures.value, c.to_come.ensures, ap entries_to_come c.self.invariant.awards_are, ap (λ (s : DayState). entries_to_come (awards_of s.history)) c.self.view_is);
      awards = omega (arith, c.in_ok-room.ensures.room, c.sale_count-count.ensures.value);
      prepared =
          prepared_next c.self.inside.totals.asks (vec_len c.reserve.new.self) c.args.ask.now.auction (id_entries c.self.inside.ids) (id_entries c.put_next.new.ids)
          (all_ids h (id_entries c.self.inside.ids) c.self.inside.totals.asks c.self.invariant.ids_are c.self.invariant.totals_are.asks)
          c.as_str.result.now c.len-place.result c.as_str.ensures.value same c.in_ok-put_next.ensures.next;
    }
