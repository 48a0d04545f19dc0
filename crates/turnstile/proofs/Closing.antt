-- The rule of a new table, and what it says of the value once no pass is out.
use Rattle.std.proofs.Common.{◌≡◌, ◌≢◌, ◌⊎◌, ℕ, ◌≤◌, List, [], ◌∷◌, length, sym, refl, ap, ◌∙◌, subst, ⊎_elim, inl, inr, arith, Option, Some}
use mathlib.Core.Option.{none, some, some-injective, some-ne-none}
use mathlib.Core.Option as maybe
use mathlib.Core.Logic.{dite}
use native.Mathlib.Decide.{ℕ_discrete, dec_le}
use lib.ListN.{get_elem?}
use Rattle.atomic_table.specs.Table.{State}
use Rattle.turnstile.specs.declared.view.Role.TheVariants.{First, Spent}
use Rattle.turnstile.specs.declared.view.SeatView.{SeatView}
use Rattle.atomic_table.specs.Table.{opening, Final, Seen}
use Rattle.turnstile.specs.Rule.{is_pass, Whole, IsTicket, slot_of, IsHolder, IsPlain, Knows, Kept, first_view}
use Rattle.turnstile.specs.Places.{times, within}
use Rattle.turnstile.proofs.Views.{total_one, total_two, total_alone}
use Rattle.turnstile.proofs.PlaceLemmas.{prefix_refl, prefix_length, prefix_whole, within_in, within_out}
use Rattle.turnstile.specs.Rule.{Shows}
use Rattle.turnstile.specs.Steps.{out_of}
use Rattle.turnstile.specs.Hand.{IsAllOf, IsLastSeat}
use Rattle.turnstile.proofs.Parts.{rank, lives, apart, home_cases, pass_or_not}

module _ {T I F N : Type 0} (items : T → List I) (count_faults : T → ℕ) (fixed_of : T → F) where
  abbrev Rule : State (Option T) (SeatView I F N) → Type 0
  Rule = Kept items count_faults fixed_of

  pub closes : (s : State (Option T) (SeatView I F N)) (id : ℕ) (v : SeatView I F N) → Rule s → get_elem? s.views id ≡ some v → IsLastSeat v
      → (x : T) × (get_elem? s.homes 0 ≡ some (some (Some x))) × IsAllOf items count_faults fixed_of v x
  closes s id v r at last =
      let first = last.0 in let idle = last.1 in let short = last.2 in let w : Whole T I F = r.whole in let pass : is_pass v.role ≡ 1 = ap is_pass first in
      let k : Knows w.history w.opening w.fixed w.faults v = lives w.history w.opening w.fixed w.faults v pass (r.histories id v at) in
      let order = (r.passes.each id v at).1 0 first in let none_out = order.1 in let count = r.passes.all in
      let others : (j : ℕ) (u : SeatView I F N) → j ≢ id → get_elem? s.views j ≡ some u → is_pass u.role ≡ 0 = λ j u ne a.
      ⊎_elim (λ (z : is_pass u.role ≡ 0). z) (λ (z : is_pass u.role ≡ 1). absurd (let two = total_two (λ (x : SeatView I F N). is_pass x.role) s.views id j v u ne at a in omega arith)) (pass_or_not u.role) in
      let mine : (p : ℕ) → times p v.own ≡ within w.opening (length w.history) p = λ p.
      sym (total_alone (λ (x : SeatView I F N). times p x.own) s.views id v at (λ j u ne a. ap (times p) ((r.passes.each j u a).0 (others j u ne a)).1)) ∙ r.own p in
      let seen = prefix_length v.seen w.history k.seen in let opened = k.opened in
      let whole_list : v.seen ≡ w.history = prefix_whole v.seen w.history k.seen (dite (ℕ_discrete (length v.seen) (length w.history)) (λ (e : length v.seen ≡ length w.history). omega arith)
      (λ ne. absurd (let a = mine (length v.seen) in let b = k.own (length v.seen) (omega arith) short in let c = within_in w.opening (length w.history) (length v.seen) opened (omega arith) in omega arith))) in
      ⊎_elim
      (λ (gone : w.home ≡ none). let h = r.desk.out gone in let ne = apart s.views id h.0 v h.1 at h.3 (λ e. let a = ap rank idle in let b = ap rank h.4 in omega arith) in
      absurd (let plain = ap rank ((r.passes.each h.0 h.1 h.3).0 (others h.0 h.1 ne h.3)).0 in let b = ap rank h.4 in omega arith))
      (λ (there : (x : T) × (w.home ≡ some x)). let x = there.0 in let d = r.desk.at_home x there.1 in let same = d.1 in let fk = k.faults_known in (
        x,
        ap (λ (l : List (maybe.Option (Option T))). get_elem? l 0) r.homes ∙ ap (λ (h : maybe.Option T). some (slot_of h)) there.1,
        record {
          list = d.0 ∙ sym whole_list;
          known = let a = k.known in let b = ap length whole_list in omega arith;
          fixed = k.fixed_is ∙ ap (λ (f : F). Some f) (sym d.2);
          faults = omega arith;
          raised = let a = total_one (λ (u : SeatView I F N). u.raised) s.views id v at in let b = r.faults in omega arith;
          own = λ p. mine p ∙ ap (λ (m : ℕ × ℕ). within m.0 m.1 p) (λ i. (sym k.opening_is i, ap length (sym whole_list) i));
        },
      ))
      (home_cases w.home)

  -- the value that a closed table gives up
  pub ends : (ws : List ℕ) (xs : List (Option T)) (id : ℕ) (v : SeatView I F N) (o : Option T) → IsLastSeat v
      → Final (Seen Rule id v) ws xs → get_elem? xs 0 ≡ some o → (x : T) × (o ≡ Some x) × IsAllOf items count_faults fixed_of v x
  ends ws xs id v o last final here =
      let t = closes final.0 id v final.1.0 final.1.1 last in (t.0, some-injective o (Some t.0) (sym here ∙ final.4 0 (Some t.0) t.1), t.2)

  alone : (v : SeatView I F N) (j : ℕ) (u : SeatView I F N) → get_elem? (v ∷ []) j ≡ some u → (j ≡ 0) × (v ≡ u)
  alone v Rattle.std.proofs.Common.zero u e = (refl, some-injective v u e)
  alone v (Rattle.std.proofs.Common.suc j) u e = absurd (some-ne-none u (sym e))

  pub opens : (x : T) (ws : List ℕ) → Shows ws 0 0 (length (items x)) (count_faults x) → Rule (opening ws (Some x ∷ []) (first_view items count_faults fixed_of x))
  opens x ws shows =
      let v : SeatView I F N = first_view items count_faults fixed_of x in
      let whole : Whole T I F = record { history = items x; opening = length (items x); fixed = fixed_of x; faults = count_faults x; served = 0; drawn = 0; owner = λ _. 0; first = 0; out = 0; home = some x } in record {
        whole = whole;
        words = shows;
        homes = refl;
        tickets = record { each = λ j u e. subst (λ (z : SeatView I F N). IsTicket 0 0 (λ _. 0) j z.stage) (alone v j u e).1 tt; all = refl };
        desk = record {
          each = λ j u e. subst (λ (z : SeatView I F N). IsHolder (items x) (count_faults x) (some x) z) (alone v j u e).1 (λ m h. absurd (let z = ap rank h in omega arith));
          out = λ e. absurd (some-ne-none x e);
          at_home = λ y e. subst (λ (z : T). (items z ≡ items x) × (count_faults z ≡ count_faults x) × (fixed_of z ≡ fixed_of x)) (some-injective x y e) (refl, refl, refl);
        };
        passes = record {
          each = λ j u e. let a = alone v j u e in subst (λ (z : SeatView I F N). IsPlain z × ((n : ℕ) → z.role ≡ First n → (j ≡ 0) × (n ≡ 0))) a.1 ((λ z. absurd (let q : 1 ≡ 0 = z in omega arith)), λ n h. (a.0, ap out_of (sym h)));
          all = refl;
          few = omega arith;
        };
        histories = λ j u e. subst (λ (z : SeatView I F N). z.role ≡ Spent ⊎ Knows (items x) (length (items x)) (fixed_of x) (count_faults x) z) (alone v j u e).1 (inr record {
          fixed_is = refl;
          opening_is = refl;
          seen = prefix_refl (items x);
          told = (items x, refl);
          known = omega arith;
          faults_known = omega arith;
          opened = omega arith;
          own = λ p a b. refl;
        });
        faults = omega arith;
        own = λ p. sym (within_out (length (items x)) (length (items x)) p (dite (dec_le (length (items x)) p) (λ (l : length (items x) ≤ p). inr l) (λ l. inl (omega arith))));
      }
