-- The steps of passes that wait for nobody: each keeps the rule.
use Rattle.std.proofs.Common.{◌≡◌, ◌⊎◌, ℕ, ◌≤◌, List, length, set, get_or, sym, refl, ap, ◌∙◌, subst, ⊎_elim, arith, Option}
use mathlib.Core.Option.{none, some}
use mathlib.Core.Logic.{dite}
use mathlib.Core.List.{IsPrefix}
use native.Mathlib.Decide.{ℕ_discrete}
use lib.ListN.{get_elem?}
use Rattle.atomic_table.specs.Table.{State, Me, step, keeps, Allows}
use Rattle.atomic_table.proofs.Lists.{set_else}
use Rattle.turnstile.specs.declared.view.Role.TheVariants.{Spent}
use Rattle.turnstile.specs.declared.view.Stage.TheVariants.{Idle}
use Rattle.turnstile.specs.declared.view.SeatView.{SeatView}
use Rattle.turnstile.specs.Rule.{has_ticket, is_pass, Whole, IsTicket, IsHolder, Knows, Kept}
use Rattle.turnstile.specs.Places.{times}
use Rattle.turnstile.specs.Steps.{found_front, learned}
use Rattle.turnstile.specs.Places.{longer}
use Rattle.turnstile.specs.declared.words.TheConstants.{FRONT}
use Rattle.turnstile.specs.Rule.{Shows}
use Rattle.turnstile.proofs.WordLemmas.{set_read}
use Rattle.turnstile.proofs.Views.{each_set, total_same, total_one, set_at}
use Rattle.turnstile.proofs.PlaceLemmas.{prefix_refl, prefix_of_prefix, longer_is, within_one}
use Rattle.turnstile.proofs.Parts.{rank, lives, same_passes, same_histories, same_faults, same_own, stage_at}

module _ {T I F N : Type 0} (items : T → List I) (count_faults : T → ℕ) (fixed_of : T → F) where
  abbrev Rule : State (Option T) (SeatView I F N) → Type 0
  Rule = Kept items count_faults fixed_of

  abbrev KnowsAll : Whole T I F → SeatView I F N → Type 0
  KnowsAll w v = Knows w.history w.opening w.fixed w.faults v

  abbrev Lives : Whole T I F → SeatView I F N → Type 0
  Lives w v = v.role ≡ Spent ⊎ KnowsAll w v

  -- one pass knows more, and nothing else changes
  pub quiet : (s : State (Option T) (SeatView I F N)) (r : Rule s) (ws : List ℕ) (id : ℕ) (v v' : SeatView I F N) → ws ≡ s.words → get_elem? s.views id ≡ some v → is_pass v.role ≡ 1
      → v'.role ≡ v.role → v'.stage ≡ v.stage → v'.own ≡ v.own → v'.raised ≡ v.raised → IsHolder r.whole.history r.whole.faults r.whole.home v' → KnowsAll r.whole v'
      → Rule record { words = ws; homes = s.homes; views = set s.views id v' }
  quiet s r ws id v v' same at pass role stage own raise holder k = let w : Whole T I F = r.whole in record {
    whole = w;
    words = subst (λ (l : List ℕ). Shows l w.drawn w.served (length w.history) w.faults) (sym same) r.words;
    homes = r.homes;
    tickets = record {
      each = each_set (λ j u. IsTicket w.served w.drawn w.owner j u.stage) (λ j u. IsTicket w.served w.drawn w.owner j u.stage) s.views id v' r.tickets.each (λ j u ne a z. z)
          (subst (IsTicket w.served w.drawn w.owner id) (sym stage) (r.tickets.each id v at));
      all = let a = total_same (λ (u : SeatView I F N). has_ticket u.stage) s.views id v v' at (ap has_ticket stage) in let b = r.tickets.all in omega arith;
    };
    desk = record {
      each = each_set (λ _ u. IsHolder w.history w.faults w.home u) (λ _ u. IsHolder w.history w.faults w.home u) s.views id v' r.desk.each (λ j u ne a h. h) holder;
      out = λ gone. let h = r.desk.out gone in dite (ℕ_discrete h.0 id)
          (λ (e : h.0 ≡ id). (id, v', h.2, set_at s.views id v v' at, stage ∙ ap stage_at (sym at ∙ ap (get_elem? s.views) (sym e) ∙ h.3) ∙ h.4))
          (λ ne. (h.0, h.1, h.2, set_else s.views id h.0 v' ne ∙ h.3, h.4));
      at_home = r.desk.at_home;
    };
    passes = same_passes w.first w.out s.views id v v' at pass role r.passes;
    histories = same_histories w.history w.opening w.fixed w.faults s.views id v' r.histories k;
    faults = same_faults w.faults s.views id v v' at raise r.faults;
    own = same_own w.opening (length w.history) s.views id v v' at own r.own;
  }

  live : (s : State (Option T) (SeatView I F N)) (r : Rule s) (id : ℕ) (v : SeatView I F N) → get_elem? s.views id ≡ some v → is_pass v.role ≡ 1 → KnowsAll r.whole v
  live s r id v at pass = lives r.whole.history r.whole.opening r.whole.fixed r.whole.faults v pass (r.histories id v at)

  pub finds : (slots id : ℕ) (me : Me (Option T) (SeatView I F N)) → is_pass me.0.role ≡ 1 → Allows Rule slots id me FRONT (λ m. m) (found_front (step slots FRONT 0 0 none) me)
  finds slots id me pass s r deep at _ =
      let w : Whole T I F = r.whole in let v : SeatView I F N = me.0 in let v' : SeatView I F N = record v { known = get_or s.words FRONT 0 } in
      let k : KnowsAll w v = live s r id v at pass in let front : get_or s.words FRONT 0 ≡ length w.history = r.words.front_is in let old = k.known in (
        v',
        keeps,
        tt,
        quiet s r (set s.words FRONT (get_or s.words FRONT 0)) id v v' (set_read s.words FRONT) at pass refl refl refl refl (r.desk.each id v at) record {
          fixed_is = k.fixed_is;
          opening_is = k.opening_is;
          seen = k.seen;
          told = k.told;
          known = omega arith;
          faults_known = k.faults_known;
          opened = k.opened;
          own = k.own;
        },
        (refl, omega arith),
      )

  pub learns : (slots id : ℕ) (me : Me (Option T) (SeatView I F N)) → is_pass me.0.role ≡ 1 → me.0.stage ≡ Idle → Allows Rule slots id me FRONT (λ m. m) (learned (step slots FRONT 0 0 none) me)
  learns slots id me pass idle s r deep at _ =
      let w : Whole T I F = r.whole in let v : SeatView I F N = me.0 in let l : List I = longer v.seen v.told in let v' : SeatView I F N = record v { seen = l } in
      let k : KnowsAll w v = live s r id v at pass in let opened = k.opened in
      let both : IsPrefix v.seen l × IsPrefix v.told l × IsPrefix l w.history × (length v.seen ≤ length l) × (length v.told ≤ length l) = ⊎_elim
      (λ (h : (l ≡ v.told) × (length v.seen ≤ length v.told)). subst (λ (z : List I). IsPrefix v.seen z × IsPrefix v.told z × IsPrefix z w.history × (length v.seen ≤ length z) × (length v.told ≤ length z)) (sym h.0)
      (prefix_of_prefix v.seen v.told w.history k.seen k.told h.1, prefix_refl v.told, k.told, h.1, omega arith))
      (λ (h : (l ≡ v.seen) × (length v.told ≤ length v.seen)). subst (λ (z : List I). IsPrefix v.seen z × IsPrefix v.told z × IsPrefix z w.history × (length v.seen ≤ length z) × (length v.told ≤ length z)) (sym h.0)
      (prefix_refl v.seen, prefix_of_prefix v.told v.seen w.history k.told k.seen h.1, k.seen, omega arith, h.1))
      (longer_is v.seen v.told) in let a = both.3 in (
        v',
        keeps,
        tt,
        quiet s r (set s.words FRONT (get_or s.words FRONT 0)) id v v' (set_read s.words FRONT) at pass refl refl refl refl (λ m e. absurd (let x = ap rank e in let y = ap rank idle in omega arith)) record {
          fixed_is = k.fixed_is;
          opening_is = k.opening_is;
          seen = both.2;
          told = k.told;
          known = k.known;
          faults_known = k.faults_known;
          opened = omega arith;
          own = λ p le le'. k.own p (omega arith) le';
        },
        (refl, (both.0, both.1), λ p. let a = total_one (λ (u : SeatView I F N). times p u.own) s.views id v at in let b = r.own p in let c = within_one w.opening (length w.history) p in omega arith),
      )
