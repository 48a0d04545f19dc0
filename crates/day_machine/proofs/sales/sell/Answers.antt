use Rattle.std.proofs.Common.{◌≡◌, ◌+◌, ◌-◌, ◌<◌, ◌≤◌, ◌^◌, ◌++◌, ℕ, List, length, ap, ◌∙◌, sym, subst, arith, length-append, append_assoc}
use Rattle.std.specs.List.{flat_map, range_with_len}
use Rattle.adx_units.specs.declared.offer.Offer.{Offer}
use Rattle.adx_units.specs.declared.units.Units.{Units}
use Rattle.allocator_core.specs.Choice.{budget_at}
use Rattle.notice_book.specs.declared.award.Award.{Award}
use Rattle.day_machine.specs.LedgerState.{committed_in}
use Rattle.day_machine.specs.Selling.{ask_awards, awards_below, imp_awards}
use Rattle.day_machine.proofs.SalesKept.{ask_awards_are, below_all, below_more, front_within}
use Rattle.day_machine.proofs.sales.sell.Goals as goal

pub sell_imp-requires-clause-room : goal.sell_imp-requires-clause-room
sell_imp-requires-clause-room c =
    let a = c.args.ask.now in
    let i : ℕ = c.loop-imp.imp in
    let f : ℕ → List Award = imp_awards c.args.place a.now a.offers in
    let within : i < length a.imps = omega arith in
    let rest : List Award = flat_map f (range_with_len (i + 1) (length a.imps - (i + 1))) in
    subst (λ (os : List Offer). length (imp_awards c.args.place a.now os i) ≤ c.loop-imp.ledger.room) (sym c.as_slice.ensures)
    (omega (
      arith,
      c.requires.room,
      c.loop-imp.invariant.room,
      ap (λ (t : List Award). length t) (ask_awards_are c.args.place a),
      ap (λ (t : List Award). length t) (below_all f i (length a.imps) within),
      ap (λ (t : List Award). length t) (below_more f i),
      length-append (flat_map f (range_with_len 0 i)) (f i),
      length-append (flat_map f (range_with_len 0 (i + 1))) rest,
    ))

pub sell_imp-requires-clause-few : goal.sell_imp-requires-clause-few
sell_imp-requires-clause-few c =
    let a = c.args.ask.now in
    let i : ℕ = c.loop-imp.imp in
    let f : ℕ → List Award = imp_awards c.args.place a.now a.offers in
    let within : i < length a.imps = omega arith in
    let rest : List Award = flat_map f (range_with_len (i + 1) (length a.imps - (i + 1))) in
    subst (λ (os : List Offer). length c.loop-imp.ledger.awards + length (imp_awards c.args.place a.now os i) < 2 ^ 32) (sym c.as_slice.ensures)
    (omega (
      arith,
      c.requires.few,
      ap (λ (t : List Award). length t) c.loop-imp.invariant.awards,
      length-append c.args.ledger.now.awards (awards_below c.args.place a.now a.offers i),
      ap (λ (t : List Award). length t) (ask_awards_are c.args.place a),
      ap (λ (t : List Award). length t) (below_all f i (length a.imps) within),
      ap (λ (t : List Award). length t) (below_more f i),
      length-append (flat_map f (range_with_len 0 i)) (f i),
      length-append (flat_map f (range_with_len 0 (i + 1))) rest,
    ))

pub sell_imp-requires-clause-fits : goal.sell_imp-requires-clause-fits
sell_imp-requires-clause-fits c =
    let a = c.args.ask.now in
    let i : ℕ = c.loop-imp.imp in
    let start : List Award = c.args.ledger.now.awards in
    let f : ℕ → List Award = imp_awards c.args.place a.now a.offers in
    let within : i < length a.imps = omega arith in
    let rest : List Award = flat_map f (range_with_len (i + 1) (length a.imps - (i + 1))) in
    let front : c.loop-imp.ledger.awards ++ f i ≡ start ++ flat_map f (range_with_len 0 (i + 1)) =
    ap (λ (t : List Award). t ++ f i) c.loop-imp.invariant.awards
    ∙ (append_assoc start (flat_map f (range_with_len 0 i)) (f i) ∙ ap (λ (t : List Award). start ++ t) (sym (below_more f i))) in
    let all : start ++ ask_awards c.args.place a ≡ (c.loop-imp.ledger.awards ++ f i) ++ rest =
    ap (λ (t : List Award). start ++ t) (ask_awards_are c.args.place a ∙ below_all f i (length a.imps) within)
    ∙ (sym (append_assoc start (flat_map f (range_with_len 0 (i + 1))) rest) ∙ ap (λ (t : List Award). t ++ rest) (sym front)) in
    subst (λ (os : List Offer). (k : ℕ) → committed_in (c.loop-imp.ledger.awards ++ imp_awards c.args.place a.now os i) k ≤ budget_at c.loop-imp.ledger.budgets k) (sym c.as_slice.ensures)
    (λ k.
    let less : committed_in (c.loop-imp.ledger.awards ++ f i) k ≤ committed_in (start ++ ask_awards c.args.place a) k = front_within (c.loop-imp.ledger.awards ++ f i) rest (start ++ ask_awards c.args.place a) k all in
    let top : committed_in (start ++ ask_awards c.args.place a) k ≤ budget_at c.args.ledger.now.budgets k = c.requires.fits k in
    subst (λ (bs : List Units). committed_in (c.loop-imp.ledger.awards ++ f i) k ≤ budget_at bs k) (sym c.loop-imp.invariant.budgets) (omega arith))

pub loop-imp-preserved : goal.loop-imp-preserved
loop-imp-preserved c =
    let a = c.args.ask.now in
    let i : ℕ = c.loop-imp.imp in
    let start : List Award = c.args.ledger.now.awards in
    let f : ℕ → List Award = imp_awards c.args.place a.now a.offers in
    let own : imp_awards c.args.place a.now c.as_slice.result.now i ≡ f i = ap (λ (os : List Offer). imp_awards c.args.place a.now os i) c.as_slice.ensures in
    record {
      budgets = c.sell_imp.ensures.budgets ∙ c.loop-imp.invariant.budgets;
      awards =
          c.sell_imp.ensures.awards
          ∙ (ap (λ (t : List Award). c.loop-imp.ledger.awards ++ t) own
          ∙ (ap (λ (t : List Award). t ++ f i) c.loop-imp.invariant.awards
          ∙ (append_assoc start (flat_map f (range_with_len 0 i)) (f i) ∙ ap (λ (t : List Award). start ++ t) (sym (below_more f i)))));
      places = λ n. c.sell_imp.ensures.places n ∙ c.loop-imp.invariant.places n;
      room = omega (arith, c.sell_imp.ensures.room, c.loop-imp.invariant.room, ap (λ (t : List Award). length t) own, ap (λ (t : List Award). length t) (below_more f i), length-append (flat_map f (range_with_len 0 i)) (f i));
    }

pub returns-clause-awards : goal.returns-clause-awards
returns-clause-awards c =
    let a = c.args.ask.now in
    let last : c.loop-imp.imp ≡ length a.imps = omega arith in
    c.loop-imp.invariant.awards
    ∙ ap (λ (t : List Award). c.args.ledger.now.awards ++ t) (ap (awards_below c.args.place a.now a.offers) last ∙ sym (ask_awards_are c.args.place a))

pub returns-clause-room : goal.returns-clause-room
returns-clause-room c =
    let a = c.args.ask.now in
    let last : c.loop-imp.imp ≡ length a.imps = omega arith in
    omega (arith, c.loop-imp.invariant.room, ap (λ (i : ℕ). length (awards_below c.args.place a.now a.offers i)) last, ap (λ (t : List Award). length t) (ask_awards_are c.args.place a))
