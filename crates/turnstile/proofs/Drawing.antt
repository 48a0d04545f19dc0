-- Drawing a ticket keeps the rule.
use Rattle.std.proofs.Common.{eqb, eq-eqb, ne_eqb, sym, subst, List, ◌≡◌, ℕ, ◌+◌, ◌%◌, ◌^◌, length, get_or, refl, ap, ◌∙◌, arith, Option}
use mathlib.Core.Option.{none}
use mathlib.Core.Logic.{dite}
use native.Mathlib.Decide.{ℕ_discrete}
use prog.Atomic.{either}
use Rattle.std.proofs.Common.{Bool}
use Rattle.turnstile.proofs.Looking.{unmoved}
use Rattle.atomic_table.specs.Table.{State, Me, Act, Valid, step, stepped, keeps, carried_after, Allows}
use Rattle.atomic_table.proofs.Lists.{set_else}
use Rattle.turnstile.specs.declared.view.Stage.{Stage}
use Rattle.turnstile.specs.declared.view.Stage.TheVariants.{Idle, Waits, Holds}
use Rattle.turnstile.specs.declared.view.SeatView.{SeatView}
use Rattle.turnstile.specs.Rule.{has_ticket, is_pass, Whole, IsTicket, IsHolder, Knows, Kept}
use Rattle.turnstile.specs.Steps.{drew, tried}
use Rattle.turnstile.specs.declared.words.TheConstants.{TICKETS}
use Rattle.turnstile.proofs.WordLemmas.{shows_ticket}
use Rattle.turnstile.proofs.Views.{each_set, total_set, put, put_here, put_else}
use Rattle.turnstile.proofs.Parts.{rank, lives, same_passes, same_histories, same_faults, same_own, apart}

ticket_stays : (served drawn : ℕ) (owner : ℕ → ℕ) (id j : ℕ) (s : Stage) → IsTicket served drawn owner j s → IsTicket served (drawn + 1) (put owner drawn id) j s
ticket_stays served drawn owner id j Idle h = tt
ticket_stays served drawn owner id j (Waits t) h = let a = h.1 in (h.0, omega arith, put_else owner drawn id t (λ e. omega arith) ∙ h.2)
ticket_stays served drawn owner id j (Holds t) h = let a = h.1 in (h.0, omega arith, put_else owner drawn id t (λ e. omega arith) ∙ h.2)

module _ {T I F N : Type 0} (items : T → List I) (count_faults : T → ℕ) (fixed_of : T → F) where
  abbrev Rule : State (Option T) (SeatView I F N) → Type 0
  Rule = Kept items count_faults fixed_of

  pub draws : (slots id : ℕ) (me : Me (Option T) (SeatView I F N)) → me.0.stage ≡ Idle → is_pass me.0.role ≡ 1
      → Allows Rule slots id me TICKETS (λ n. (n + 1) % 2 ^ 64) (drew (step slots TICKETS 1 0 none) me)
  draws slots id me idle pass s r deep at fits =
      let w : Whole T I F = r.whole in let t : ℕ = w.drawn in let owner : ℕ → ℕ = put w.owner t id in
      let v : SeatView I F N = me.0 in let v' : SeatView I F N = record v { stage = Waits t } in
      let k : Knows w.history w.opening w.fixed w.faults v = lives w.history w.opening w.fixed w.faults v pass (r.histories id v at) in
      let weigh = total_set (λ (u : SeatView I F N). has_ticket u.stage) s.views id v v' at in
      let none_yet : has_ticket v.stage ≡ 0 = ap has_ticket idle in
      let sum = r.tickets.all in (
        v',
        keeps,
        tt,
        record {
          whole = record w { drawn = t + 1; owner = owner };
          words = shows_ticket s.words t w.served (length w.history) w.faults (t + 1) ((get_or s.words TICKETS 0 + 1) % 2 ^ 64) r.words (let n = r.words.next in omega arith);
          homes = r.homes;
          tickets = record {
            each = each_set (λ j u. IsTicket w.served t w.owner j u.stage) (λ j u. IsTicket w.served (t + 1) owner j u.stage) s.views id v' r.tickets.each
                (λ j u ne a h. ticket_stays w.served t w.owner id j u.stage h) (omega arith, omega arith, put_here w.owner t id);
            all = omega arith;
          };
          desk = record {
            each = each_set (λ _ u. IsHolder w.history w.faults w.home u) (λ _ u. IsHolder w.history w.faults w.home u) s.views id v' r.desk.each
                (λ j u ne a h. h) (λ n e. absurd (let z = ap rank e in omega arith));
            out = λ gone. let h = r.desk.out gone in
                (h.0, h.1, h.2, set_else s.views id h.0 v' (apart s.views id h.0 v h.1 at h.3 (λ e. let y = ap rank idle in let x = ap rank h.4 in omega arith)) ∙ h.3, h.4);
            at_home = r.desk.at_home;
          };
          passes = same_passes w.first w.out s.views id v v' at pass refl r.passes;
          histories = same_histories w.history w.opening w.fixed w.faults s.views id v' r.histories record {
            fixed_is = k.fixed_is;
            opening_is = k.opening_is;
            seen = k.seen;
            told = k.told;
            known = k.known;
            faults_known = k.faults_known;
            opened = k.opened;
            own = k.own;
          };
          faults = same_faults w.faults s.views id v v' at refl r.faults;
          own = same_own w.opening (length w.history) s.views id v v' at refl r.own;
        },
        (t, r.words.next, refl),
      )

  -- a ticket is drawn where the word shows the number that was said
  pub tries : (slots id : ℕ) (me : Me (Option T) (SeatView I F N)) (old new : ℕ) → me.0.stage ≡ Idle → is_pass me.0.role ≡ 1 → new ≡ (old + 1) % 2 ^ 64
      → Allows Rule slots id me TICKETS (λ n. either (eqb n old) new n) (tried (step slots TICKETS old new none) me)
  tries slots id me old new idle pass next s r deep at fits =
      let n : ℕ = get_or s.words TICKETS 0 in
      dite (ℕ_discrete n old)
      (λ same. let d = draws slots id me idle pass s r deep at fits in
      subst (λ (b : Bool). (w : SeatView I F N) × (a : Act (Option T)) × Valid s.homes me.1 a × Rule (stepped s TICKETS (either b new n) id me.1 w a) × tried (step slots TICKETS old new none) me n (w, carried_after me.1 a))
      (sym (eq-eqb n old same))
      (d.0, d.1, d.2, subst (λ (m : ℕ). Rule (stepped s TICKETS m id me.1 d.0 d.1)) (ap (λ (m : ℕ). (m + 1) % 2 ^ 64) same ∙ sym next) d.3, (λ is. d.4, λ no. absurd (no same))))
      (λ other. subst (λ (b : Bool). (w : SeatView I F N) × (a : Act (Option T)) × Valid s.homes me.1 a × Rule (stepped s TICKETS (either b new n) id me.1 w a) × tried (step slots TICKETS old new none) me n (w, carried_after me.1 a))
      (sym (ne_eqb n old other))
      (me.0, keeps, tt, unmoved items count_faults fixed_of s TICKETS id me.0 r at, (λ is. absurd (other is), λ no. refl)))
