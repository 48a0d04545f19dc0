-- Finding one's ticket served, and taking the value, keeps the rule.
use Rattle.std.proofs.Common.{◌≡◌, ℕ, ◌+◌, ◌%◌, ◌^◌, ◌<◌, ◌≤◌, List, ◌∷◌, length, set, get_or, sym, refl, ap, ◌∙◌, subst, ⊎_elim, arith, Option, Some}
use mathlib.Core.Option.{none, some, some-ne-none}
use mathlib.Core.Option as maybe
use mathlib.Core.Logic.{dite}
use mathlib.Core.List.{IsPrefix}
use native.Mathlib.Decide.{ℕ_discrete}
use lib.ListN.{get_elem?}
use Rattle.atomic_table.specs.Table.{State, Me, step, keeps, takes, stepped, Allows}
use Rattle.atomic_table.proofs.Lists.{set_again, one_turn}
use Rattle.turnstile.specs.declared.view.Stage.{Stage}
use Rattle.turnstile.specs.declared.view.Stage.TheVariants.{Idle, Waits, Holds}
use Rattle.turnstile.specs.declared.view.SeatView.{SeatView}
use Rattle.turnstile.specs.Rule.{has_ticket, is_pass, Whole, IsTicket, slot_of, Tickets, IsHolder, IsPlain, Passes, Knows, Kept}
use Rattle.turnstile.specs.Steps.{looked, ticket_of, holding}
use Rattle.atomic_table.specs.Table.{Step}
use Rattle.turnstile.specs.declared.words.TheConstants.{SERVED}
use Rattle.turnstile.specs.Rule.{Shows}
use Rattle.turnstile.specs.Steps.{stayed}
use Rattle.turnstile.proofs.WordLemmas.{set_read, shows_still}
use Rattle.turnstile.proofs.Views.{each_set, total_same, total_le, set_at}
use Rattle.turnstile.proofs.PlaceLemmas.{prefix_refl, prefix_length}
use Rattle.turnstile.proofs.Parts.{rank, lives, same_passes, same_histories, same_faults, same_own, apart, home_cases, pass_or_not}

one_ticket : (s : Stage) → has_ticket s ≤ 1
one_ticket Idle = omega arith
one_ticket (Waits t) = omega arith
one_ticket (Holds t) = omega arith

module _ {I F N : Type 0} where
  -- only a pass has a ticket
  ticket_of_pass : (u : SeatView I F N) → IsPlain u → has_ticket u.stage ≤ is_pass u.role
  ticket_of_pass u plain = ⊎_elim (λ (z : is_pass u.role ≡ 0). let e = ap has_ticket (plain z).0 in omega arith) (λ (z : is_pass u.role ≡ 1). let e = one_ticket u.stage in omega arith) (pass_or_not u.role)

  -- fewer tickets are out than a word can distinguish
  pub few_tickets : (served drawn first out : ℕ) (owner : ℕ → ℕ) (vs : List (SeatView I F N)) → Tickets served drawn owner vs → Passes first out vs → drawn < served + 2 ^ 64
  few_tickets served drawn first out owner vs t p =
      let le = total_le (λ (u : SeatView I F N). has_ticket u.stage) (λ (u : SeatView I F N). is_pass u.role) vs (λ j u a. ticket_of_pass u (p.each j u a).0) in
      let a = t.all in let b = p.all in let c = p.few in omega arith

module _ {T I F N : Type 0} (items : T → List I) (count_faults : T → ℕ) (fixed_of : T → F) where
  abbrev Rule : State (Option T) (SeatView I F N) → Type 0
  Rule = Kept items count_faults fixed_of

  -- a word that is read stays, and nothing changes
  pub unmoved : (s : State (Option T) (SeatView I F N)) (i id : ℕ) (v : SeatView I F N) → Rule s → get_elem? s.views id ≡ some v
      → Rule record { words = set s.words i (get_or s.words i 0); homes = s.homes; views = set s.views id v }
  unmoved s i id v r at = subst Rule (λ k. record { words = sym (set_read s.words i) k; homes = s.homes; views = sym (set_again s.views id v at) k }) r

  -- a word of those who sleep may become anything
  pub stirs : (slots id : ℕ) (me : Me (Option T) (SeatView I F N)) (i : ℕ) (f : ℕ → ℕ) (st : Step (Option T)) → SERVED < i → Allows Rule slots id me i f (stayed st me)
  stirs slots id me i f st past s r deep at fits = (
    me.0,
    keeps,
    tt,
    subst (λ (vs : List (SeatView I F N)). Rule record { words = set s.words i (f (get_or s.words i 0)); homes = s.homes; views = vs }) (sym (set_again s.views id me.0 at)) record {
      whole = r.whole;
      words = shows_still s.words r.whole.drawn r.whole.served (length r.whole.history) r.whole.faults i (f (get_or s.words i 0)) past r.words;
      homes = r.homes;
      tickets = r.tickets;
      desk = r.desk;
      passes = r.passes;
      histories = r.histories;
      faults = r.faults;
      own = r.own;
    },
    refl,
  )

  takes_it : (slots id : ℕ) (me : Me (Option T) (SeatView I F N)) (t : ℕ) (x : T) (s : State (Option T) (SeatView I F N)) (r : Rule s) → me.0.stage ≡ Waits t → is_pass me.0.role ≡ 1
      → get_elem? s.views id ≡ some me.0 → r.whole.served ≡ t → r.whole.home ≡ some x
      → Rule (stepped s SERVED (get_or s.words SERVED 0) id me.1 (holding t (items x) (count_faults x) me.0) (takes 0 (Some x)))
  takes_it slots id me t x s r waits pass at turn here =
      let w : Whole T I F = r.whole in let v : SeatView I F N = me.0 in let v' : SeatView I F N = holding t (items x) (count_faults x) v in
      let k : Knows w.history w.opening w.fixed w.faults v = lives w.history w.opening w.fixed w.faults v pass (r.histories id v at) in
      let d = r.desk.at_home x here in
      let mine : IsTicket w.served w.drawn w.owner id (Waits t) = subst (IsTicket w.served w.drawn w.owner id) waits (r.tickets.each id v at) in
      let all : length (items x) ≡ length w.history = ap length d.0 in let seen = prefix_length v.seen w.history k.seen in let opened = k.opened in
      record {
        whole = record w { home = none };
        words = subst (λ (l : List ℕ). Shows l w.drawn w.served (length w.history) w.faults) (sym (set_read s.words SERVED)) r.words;
        homes = ap (λ (l : List (maybe.Option (Option T))). set l 0 none) r.homes;
        tickets = record {
          each = each_set (λ j u. IsTicket w.served w.drawn w.owner j u.stage) (λ j u. IsTicket w.served w.drawn w.owner j u.stage) s.views id v' r.tickets.each (λ j u ne a h. h) (turn, mine.1, mine.2);
          all = let a = total_same (λ (u : SeatView I F N). has_ticket u.stage) s.views id v v' at (sym (ap has_ticket waits)) in let b = r.tickets.all in omega arith;
        };
        desk = record {
          each = each_set (λ _ u. IsHolder w.history w.faults w.home u) (λ _ u. IsHolder {T = T} w.history w.faults none u) s.views id v' r.desk.each
              (λ j u ne a h n e. let b = h n e in (b.0, b.1, refl)) (λ n e. (d.0, d.1, refl));
          out = λ _. (id, v', t, set_at s.views id v v' at, refl);
          at_home = λ y e. absurd (some-ne-none y (sym e));
        };
        passes = same_passes w.first w.out s.views id v v' at pass refl r.passes;
        histories = same_histories w.history w.opening w.fixed w.faults s.views id v' r.histories record {
          fixed_is = k.fixed_is;
          opening_is = k.opening_is;
          seen = subst (λ (l : List I). IsPrefix l w.history) (sym d.0) (prefix_refl w.history);
          told = k.told;
          known = omega arith;
          faults_known = let f = d.1 in omega arith;
          opened = omega arith;
          own = λ p le le'. k.own p (omega arith) le';
        };
        faults = same_faults w.faults s.views id v v' at refl r.faults;
        own = same_own w.opening (length w.history) s.views id v v' at refl r.own;
      }

  pub looks : (slots id : ℕ) (me : Me (Option T) (SeatView I F N)) (t : ℕ) → me.0.stage ≡ Waits t → is_pass me.0.role ≡ 1
      → Allows Rule slots id me SERVED (λ n. n) (looked items count_faults fixed_of (step slots SERVED 0 0 none) me)
  looks slots id me t waits pass s r deep at fits =
      let w : Whole T I F = r.whole in let v : SeatView I F N = me.0 in let n : ℕ = ticket_of v.stage in let is : n ≡ t = ap ticket_of waits in
      let found : get_or s.words SERVED 0 ≡ w.served % 2 ^ 64 = r.words.turn in
      let mine : IsTicket w.served w.drawn w.owner id (Waits t) = subst (IsTicket w.served w.drawn w.owner id) waits (r.tickets.each id v at) in
      let k : Knows w.history w.opening w.fixed w.faults v = lives w.history w.opening w.fixed w.faults v pass (r.histories id v at) in
      dite (ℕ_discrete (get_or s.words SERVED 0) (n % 2 ^ 64))
      (λ hit. let few = few_tickets w.served w.drawn w.first w.out w.owner s.views r.tickets r.passes in let low = mine.0 in let high = mine.1 in
      let turn : w.served ≡ t = one_turn w.served t (2 ^ 64) low (omega arith) (sym found ∙ hit ∙ ap (λ (m : ℕ). m % 2 ^ 64) is) in
      ⊎_elim
      (λ (gone : w.home ≡ none). let h = r.desk.out gone in let held : IsTicket w.served w.drawn w.owner h.0 (Holds h.2) = subst (IsTicket w.served w.drawn w.owner h.0) h.4 (r.tickets.each h.0 h.1 h.3) in
      absurd (apart s.views id h.0 v h.1 at h.3 (λ e. let a = ap rank waits in let b = ap rank h.4 in omega arith) (sym held.2 ∙ ap w.owner (sym held.0 ∙ turn) ∙ mine.2)))
      (λ (there : (x : T) × (w.home ≡ some x)). let x = there.0 in let d = r.desk.at_home x there.1 in
      let known = k.known in let fk = k.faults_known in let same = d.1 in let long = ap length d.0 in (
        holding t (items x) (count_faults x) v,
        takes 0 (Some x),
        ap (λ (l : List (maybe.Option (Option T))). get_elem? l 0) r.homes ∙ ap (λ (h : maybe.Option T). some (slot_of h)) there.1,
        takes_it slots id me t x s r waits pass at turn there.1,
        (
          λ _. (x, ap (λ (m : ℕ). (holding m (items x) (count_faults x) v, (0, Some x) ∷ me.1)) (sym is), k.fixed_is ∙ ap (λ (f : F). Some f) (sym d.2), subst (IsPrefix v.seen) (sym d.0) k.seen, omega arith, omega arith),
          λ miss. absurd (miss hit),
        ),
      ))
      (home_cases w.home))
      (λ miss. (v, keeps, tt, unmoved s SERVED id v r at, ((λ hit. absurd (miss hit)), λ _. refl)))
