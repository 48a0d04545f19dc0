-- The steps of the seat that has the value: it raises the front and the faults, and gives the value back. Each keeps the rule.
use Rattle.std.proofs.Common.{◌≡◌, ◌≢◌, ◌⊎◌, ℕ, ◌+◌, ◌%◌, ◌^◌, ◌<◌, List, [], ◌∷◌, ◌++◌, length, set, get_or, sym, refl, ap, ◌∙◌, subst, ⊎_elim, inl, inr, arith, Option, Some, None}
use mathlib.Core.Option.{none, some, some-injective, some-ne-none}
use mathlib.Core.Option as maybe
use mathlib.Core.Logic.{dite}
use mathlib.Core.List.{IsPrefix}
use native.Mathlib.Decide.{ℕ_discrete}
use lib.ListN.{get_elem?}
use Rattle.atomic_table.specs.Table.{State, Me, step, keeps, gives, stepped, Allows}
use Rattle.turnstile.specs.declared.view.Role.TheVariants.{Spent}
use Rattle.turnstile.specs.declared.view.Stage.{Stage}
use Rattle.turnstile.specs.declared.view.Stage.TheVariants.{Idle, Waits, Holds}
use Rattle.turnstile.specs.declared.noted.Noted.{Noted}
use Rattle.turnstile.specs.declared.view.SeatView.{SeatView}
use Rattle.turnstile.specs.Rule.{has_ticket, is_pass, Whole, IsTicket, IsHolder, Knows, Kept}
use Rattle.turnstile.specs.Places.{times, within}
use Rattle.turnstile.specs.Steps.{raised, counted, served, places, carried_items}
use Rattle.turnstile.specs.declared.words.TheConstants.{SERVED, FRONT, FAULTS}
use Rattle.turnstile.proofs.WordLemmas.{shows_turn, shows_front, shows_faults}
use Rattle.turnstile.proofs.Views.{each_set, total_set, total_same, set_at}
use Rattle.turnstile.proofs.PlaceLemmas.{prefix_refl, prefix_on, times_append, times_places, within_on, within_out}
use Rattle.turnstile.proofs.Parts.{rank, lives, same_passes, same_histories, same_faults, same_own}
use Rattle.std.proofs.Common.{length-append}

abbrev or_else : {A : Type 0} → A → Option A → A
or_else d None = d
or_else d (Some y) = y

pub some_same : {A : Type 0} (a b : A) → Some a ≡ Some b → a ≡ b
some_same a b e = ap (or_else a) e

-- another seat has neither the ticket that is served nor an earlier one
later : (served drawn : ℕ) (owner : ℕ → ℕ) (id j : ℕ) (s : Stage) → owner served ≡ id → j ≢ id → IsTicket served drawn owner j s → IsTicket (served + 1) drawn owner j s
later served drawn owner id j Idle own ne h = tt
later served drawn owner id j (Waits t) own ne h = let a = h.0 in
    (dite (ℕ_discrete served t) (λ (e : served ≡ t). absurd (ne (sym h.2 ∙ ap owner (sym e) ∙ own))) (λ e. omega arith), h.1, h.2)
later served drawn owner id j (Holds t) own ne h = absurd (ne (sym h.2 ∙ ap owner (sym h.0) ∙ own))

-- another seat doesn't have the value
not_holding : (served drawn : ℕ) (owner : ℕ → ℕ) (id j t : ℕ) (s : Stage) → owner served ≡ id → j ≢ id → IsTicket served drawn owner j s → s ≢ Holds t
not_holding served drawn owner id j t s own ne h e = let held : IsTicket served drawn owner j (Holds t) = subst (IsTicket served drawn owner j) e h in ne (sym held.2 ∙ ap owner (sym held.0) ∙ own)

module _ {T I F N : Type 0} (items : T → List I) (count_faults : T → ℕ) (fixed_of : T → F) where
  abbrev Rule : State (Option T) (SeatView I F N) → Type 0
  Rule = Kept items count_faults fixed_of

  -- what the seat that has the value knows
  holds : (s : State (Option T) (SeatView I F N)) (r : Rule s) (id t : ℕ) (v : SeatView I F N) → get_elem? s.views id ≡ some v → v.stage ≡ Holds t
      → IsTicket r.whole.served r.whole.drawn r.whole.owner id (Holds t) × ((v.seen ≡ r.whole.history) × (v.faults ≡ r.whole.faults) × (r.whole.home ≡ none))
  holds s r id t v at stage = (subst (IsTicket r.whole.served r.whole.drawn r.whole.owner id) stage (r.tickets.each id v at), r.desk.each id v at t stage)

  longer_known : (history new : List I) (opening : ℕ) (fixed : F) (faults : ℕ) (v : SeatView I F N) → (v.role ≡ Spent ⊎ Knows history opening fixed faults v) → v.role ≡ Spent ⊎ Knows (history ++ new) opening fixed faults v
  longer_known history new opening fixed faults v h = ⊎_elim (λ (e : v.role ≡ Spent). inl e) (λ (k : Knows history opening fixed faults v). inr record {
    fixed_is = k.fixed_is;
    opening_is = k.opening_is;
    seen = prefix_on v.seen history new k.seen;
    told = prefix_on v.told history new k.told;
    known = let a = k.known in let b = length-append history new in omega arith;
    faults_known = k.faults_known;
    opened = k.opened;
    own = k.own;
  }) h

  more_faults : (history : List I) (opening : ℕ) (fixed : F) (faults k : ℕ) (v : SeatView I F N) → (v.role ≡ Spent ⊎ Knows history opening fixed faults v) → v.role ≡ Spent ⊎ Knows history opening fixed (faults + k) v
  more_faults history opening fixed faults n v h = ⊎_elim (λ (e : v.role ≡ Spent). inl e) (λ (k : Knows history opening fixed faults v). inr record {
    fixed_is = k.fixed_is;
    opening_is = k.opening_is;
    seen = k.seen;
    told = k.told;
    known = k.known;
    faults_known = let a = k.faults_known in omega arith;
    opened = k.opened;
    own = k.own;
  }) h

  pub raises : (slots id : ℕ) (me : Me (Option T) (SeatView I F N)) (t n : ℕ) (x : T) (new : List I) → me.0.stage ≡ Holds t → is_pass me.0.role ≡ 1 → me.1 ≡ (0, Some x) ∷ []
      → items x ≡ me.0.seen ++ new → length new ≡ n → length (items x) < 2 ^ 64
      → Allows Rule slots id me FRONT (λ m. (m + n) % 2 ^ 64) (raised items (step slots FRONT n 0 none) me)
  raises slots id me t n x new stage pass carried grown count fits s r deep at _ =
      let w : Whole T I F = r.whole in let v : SeatView I F N = me.0 in
      let k : Knows w.history w.opening w.fixed w.faults v = lives w.history w.opening w.fixed w.faults v pass (r.histories id v at) in
      let h = holds s r id t v at stage in let mine = h.0 in let know = h.1 in
      let own_ticket : w.owner w.served ≡ id = ap w.owner mine.0 ∙ mine.2 in
      let list : List I = w.history ++ new in let same : items x ≡ list = grown ∙ ap (λ (l : List I). l ++ new) know.0 in
      let c : carried_items items me.1 ≡ items x = ap (carried_items items) carried in
      let v' : SeatView I F N = record v { seen = carried_items items me.1; known = length (carried_items items me.1); own = v.own ++ places (length v.seen) n } in
      let seen : v'.seen ≡ list = c ∙ same in let long = ap length same in let grows = length-append w.history new in let old = ap length know.0 in let long' = ap length seen in let opened = k.opened in
      let to : length w.history + n ≡ length list = omega arith in (
        v',
        keeps,
        tt,
        record {
          whole = record w { history = list };
          words = shows_front s.words w.drawn w.served (length w.history) w.faults (length list) ((get_or s.words FRONT 0 + n) % 2 ^ 64) r.words (let f = r.words.front_is in omega arith);
          homes = r.homes;
          tickets = record {
            each = each_set (λ j u. IsTicket w.served w.drawn w.owner j u.stage) (λ j u. IsTicket w.served w.drawn w.owner j u.stage) s.views id v' r.tickets.each (λ j u ne a z. z) (r.tickets.each id v at);
            all = let a = total_same (λ (u : SeatView I F N). has_ticket u.stage) s.views id v v' at refl in let b = r.tickets.all in omega arith;
          };
          desk = record {
            each = each_set (λ j u. IsTicket w.served w.drawn w.owner j u.stage) (λ _ u. IsHolder list w.faults w.home u) s.views id v' r.tickets.each
                (λ j u ne a z m e. absurd (not_holding w.served w.drawn w.owner id j m u.stage own_ticket ne z e)) (λ m e. (seen, know.1, know.2));
            out = λ _. (id, v', t, set_at s.views id v v' at, stage);
            at_home = λ y e. absurd (some-ne-none y (sym e ∙ know.2));
          };
          passes = same_passes w.first w.out s.views id v v' at pass refl r.passes;
          histories = each_set (λ _ u. u.role ≡ Spent ⊎ Knows w.history w.opening w.fixed w.faults u) (λ _ u. u.role ≡ Spent ⊎ Knows list w.opening w.fixed w.faults u) s.views id v' r.histories
              (λ j u ne a z. longer_known w.history new w.opening w.fixed w.faults u z) (inr record {
                fixed_is = k.fixed_is;
                opening_is = k.opening_is;
                seen = subst (λ (l : List I). IsPrefix l list) (sym seen) (prefix_refl list);
                told = prefix_on v.told w.history new k.told;
                known = omega arith;
                faults_known = k.faults_known;
                opened = omega arith;
                own = λ p le le'. let a = times_append p v.own (places (length v.seen) n) in let b = times_places p (length v.seen) n in let d = k.own p (omega arith) le' in
                    let e = within_out (length v.seen) (length v.seen + n) p (inr (omega arith)) in omega arith;
              });
          faults = same_faults w.faults s.views id v v' at refl r.faults;
          own = λ p. let a = total_set (λ (u : SeatView I F N). times p u.own) s.views id v v' at in let b = times_append p v.own (places (length v.seen) n) in let d = times_places p (length v.seen) n in
              let e = within_on w.opening (length w.history) (length list) p (omega arith) (omega arith) in let f = r.own p in
              let g = ap (λ (m : ℕ × ℕ). within m.0 m.1 p) (λ i. (old i, (let z : length v.seen + n ≡ length list = omega arith in z) i)) in omega arith;
        },
        refl,
      )

  pub counts : (slots id : ℕ) (me : Me (Option T) (SeatView I F N)) (t n : ℕ) → me.0.stage ≡ Holds t → is_pass me.0.role ≡ 1 → me.0.faults + n < 2 ^ 64
      → Allows Rule slots id me FAULTS (λ m. (m + n) % 2 ^ 64) (counted (step slots FAULTS n 0 none) me)
  counts slots id me t n stage pass fits s r deep at _ =
      let w : Whole T I F = r.whole in let v : SeatView I F N = me.0 in let v' : SeatView I F N = record v { faults = v.faults + n; raised = v.raised + n } in
      let k : Knows w.history w.opening w.fixed w.faults v = lives w.history w.opening w.fixed w.faults v pass (r.histories id v at) in
      let h = holds s r id t v at stage in let mine = h.0 in let know = h.1 in let old = know.1 in
      let own_ticket : w.owner w.served ≡ id = ap w.owner mine.0 ∙ mine.2 in (
        v',
        keeps,
        tt,
        record {
          whole = record w { faults = w.faults + n };
          words = shows_faults s.words w.drawn w.served (length w.history) w.faults (w.faults + n) ((get_or s.words FAULTS 0 + n) % 2 ^ 64) r.words (let f = r.words.faults_are in omega arith);
          homes = r.homes;
          tickets = record {
            each = each_set (λ j u. IsTicket w.served w.drawn w.owner j u.stage) (λ j u. IsTicket w.served w.drawn w.owner j u.stage) s.views id v' r.tickets.each (λ j u ne a z. z) (r.tickets.each id v at);
            all = let a = total_same (λ (u : SeatView I F N). has_ticket u.stage) s.views id v v' at refl in let b = r.tickets.all in omega arith;
          };
          desk = record {
            each = each_set (λ j u. IsTicket w.served w.drawn w.owner j u.stage) (λ _ u. IsHolder w.history (w.faults + n) w.home u) s.views id v' r.tickets.each
                (λ j u ne a z m e. absurd (not_holding w.served w.drawn w.owner id j m u.stage own_ticket ne z e)) (λ m e. (know.0, ap (λ (q : ℕ). q + n) old, know.2));
            out = λ _. (id, v', t, set_at s.views id v v' at, stage);
            at_home = λ y e. absurd (some-ne-none y (sym e ∙ know.2));
          };
          passes = same_passes w.first w.out s.views id v v' at pass refl r.passes;
          histories = each_set (λ _ u. u.role ≡ Spent ⊎ Knows w.history w.opening w.fixed w.faults u) (λ _ u. u.role ≡ Spent ⊎ Knows w.history w.opening w.fixed (w.faults + n) u) s.views id v' r.histories
              (λ j u ne a z. more_faults w.history w.opening w.fixed w.faults n u z) (inr record {
                fixed_is = k.fixed_is;
                opening_is = k.opening_is;
                seen = k.seen;
                told = k.told;
                known = k.known;
                faults_known = omega arith;
                opened = k.opened;
                own = k.own;
              });
          faults = let a = total_set (λ (u : SeatView I F N). u.raised) s.views id v v' at in let b = r.faults in omega arith;
          own = same_own w.opening (length w.history) s.views id v v' at refl r.own;
        },
        refl,
      )

  pub serves : (turns : List (Noted N)) (slots id : ℕ) (me : Me (Option T) (SeatView I F N)) (t : ℕ) (x : T) → me.0.stage ≡ Holds t → is_pass me.0.role ≡ 1 → me.1 ≡ (0, Some x) ∷ []
      → items x ≡ me.0.seen → count_faults x ≡ me.0.faults → me.0.fixed ≡ Some (fixed_of x)
      → Allows Rule slots id me SERVED (λ m. (m + 1) % 2 ^ 64) (served turns (step slots SERVED 1 0 none) me)
  serves turns slots id me t x stage pass carried whole_list whole_faults whole_fixed s r deep at _ =
      let w : Whole T I F = r.whole in let v : SeatView I F N = me.0 in let v' : SeatView I F N = record v { stage = Idle; turns = v.turns ++ turns } in
      let k : Knows w.history w.opening w.fixed w.faults v = lives w.history w.opening w.fixed w.faults v pass (r.histories id v at) in
      let h = holds s r id t v at stage in let mine = h.0 in let know = h.1 in
      let own_ticket : w.owner w.served ≡ id = ap w.owner mine.0 ∙ mine.2 in
      let weigh = total_set (λ (u : SeatView I F N). has_ticket u.stage) s.views id v v' at in let one = ap has_ticket stage in let sum = r.tickets.all in
      let back : Rule (stepped s SERVED ((get_or s.words SERVED 0 + 1) % 2 ^ 64) id ((0, Some x) ∷ []) v' gives) = record {
        whole = record w { served = w.served + 1; home = some x };
        words = shows_turn s.words w.drawn w.served (length w.history) w.faults (w.served + 1) ((get_or s.words SERVED 0 + 1) % 2 ^ 64) r.words (let f = r.words.turn in omega arith);
        homes = ap (λ (l : List (maybe.Option (Option T))). set l 0 (some (Some x))) r.homes;
        tickets = record {
          each = each_set (λ j u. IsTicket w.served w.drawn w.owner j u.stage) (λ j u. IsTicket (w.served + 1) w.drawn w.owner j u.stage) s.views id v' r.tickets.each
              (λ j u ne a z. later w.served w.drawn w.owner id j u.stage own_ticket ne z) tt;
          all = omega arith;
        };
        desk = record {
          each = each_set (λ j u. IsTicket w.served w.drawn w.owner j u.stage) (λ _ u. IsHolder w.history w.faults (some x) u) s.views id v' r.tickets.each
              (λ j u ne a z m e. absurd (not_holding w.served w.drawn w.owner id j m u.stage own_ticket ne z e)) (λ m e. absurd (let z = ap rank e in omega arith));
          out = λ e. absurd (some-ne-none x e);
          at_home = λ y e. let same : x ≡ y = some-injective x y e in
              subst (λ (z : T). (items z ≡ w.history) × (count_faults z ≡ w.faults) × (fixed_of z ≡ w.fixed)) same
              (whole_list ∙ know.0, whole_faults ∙ know.1, some_same (fixed_of x) w.fixed (sym whole_fixed ∙ k.fixed_is));
        };
        passes = same_passes w.first w.out s.views id v v' at pass refl r.passes;
        histories = same_histories w.history w.opening w.fixed w.faults s.views id v' r.histories record {
          fixed_is = k.fixed_is;
          opening_is = k.opening_is;
          seen = k.seen;
          told = k.told;
          known = k.known;
          faults_known = k.faults_known;
          opened = k.opened;
          own = k.own;
        };
        faults = same_faults w.faults s.views id v v' at refl r.faults;
        own = same_own w.opening (length w.history) s.views id v v' at refl r.own;
      } in (
        v',
        gives,
        tt,
        subst (λ (c : List (ℕ × Option T)). Rule (stepped s SERVED ((get_or s.words SERVED 0 + 1) % 2 ^ 64) id c v' gives)) (sym carried) back,
        ap (λ (c : List (ℕ × Option T)). (v', Rattle.atomic_table.specs.Table.rest c)) carried,
      )
