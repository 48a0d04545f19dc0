-- Splitting, joining and meeting: seats come and go. Each keeps the rule.
use Rattle.std.proofs.Common.{◌≡◌, ◌≢◌, ◌⊎◌, ℕ, ◌+◌, ◌<◌, ◌≤◌, List, [], ◌∷◌, ◌++◌, length, set, sym, refl, ap, ◌∙◌, subst, ⊎_elim, inl, inr, arith, Option}
use mathlib.Core.Option.{some}
use lib.ListN.{get_elem?}
use Rattle.atomic_table.specs.Table.{State}
use Rattle.atomic_table.proofs.Lists.{set_else, set_again}
use Rattle.turnstile.specs.declared.view.Role.{Role}
use Rattle.turnstile.specs.declared.view.Role.TheVariants.{First, Parted, Brief, Spent}
use Rattle.turnstile.specs.declared.view.Stage.TheVariants.{Idle, Holds}
use Rattle.turnstile.specs.declared.view.SeatView.{SeatView}
use Rattle.std.proofs.Common.{◌-◌}
use Rattle.atomic_table.specs.Table.{Splits, Joins}
use Rattle.atomic_table.proofs.Lists.{at_longer}
use Rattle.turnstile.specs.Rule.{has_ticket, is_pass, Whole, IsTicket, IsHolder, IsPlain, Knows, Kept}
use Rattle.turnstile.specs.Places.{times}
use Rattle.turnstile.specs.declared.limits.TheConstants.{MOST_OUT}
use Rattle.turnstile.specs.Steps.{with_out, lender, parted, brief, united, met, spent}
use Rattle.turnstile.specs.Places.{greater}
use Rattle.turnstile.proofs.Views.{each_set, each_snoc, total_set, total_same, total_snoc, total_two}
use Rattle.turnstile.proofs.PlaceLemmas.{times_append}
use Rattle.turnstile.proofs.Parts.{rank, role_rank, lives, apart}
use Rattle.turnstile.proofs.Passing.{quiet}

abbrev out_or : ℕ → Role → ℕ
out_or d (First n) = n
out_or d Parted = d
out_or d Brief = d
out_or d Spent = d

greater_le : (a b c : ℕ) → a ≤ c → b ≤ c → greater a b ≤ c
greater_le a b c h k = grind arith

module _ {T I F N : Type 0} (items : T → List I) (count_faults : T → ℕ) (fixed_of : T → F) where
  abbrev Rule : State (Option T) (SeatView I F N) → Type 0
  Rule = Kept items count_faults fixed_of

  abbrev Lives : Whole T I F → SeatView I F N → Type 0
  Lives w v = v.role ≡ Spent ⊎ Knows w.history w.opening w.fixed w.faults v

  abbrev Ordered : ℕ → ℕ → ℕ → SeatView I F N → Type 0
  Ordered first out j v = IsPlain v × ((n : ℕ) → v.role ≡ First n → (j ≡ first) × (n ≡ out))

  pub splits : (id : ℕ) (v : SeatView I F N) (n : ℕ) → v.role ≡ First n → v.stage ≡ Idle → n < MOST_OUT → Splits Rule id v (lender v) (parted v)
  splits id v n first idle room s r at =
      let w : Whole T I F = r.whole in let v' : SeatView I F N = lender v in let u : SeatView I F N = parted v in let vs : List (SeatView I F N) = set s.views id v' in
      let pass : is_pass v.role ≡ 1 = ap is_pass first in let order = (r.passes.each id v at).1 n first in let is : n ≡ w.out = order.1 in
      let role' : v'.role ≡ First (n + 1) = ap (with_out (λ (m : ℕ). m + 1)) first in
      let k : Knows w.history w.opening w.fixed w.faults v = lives w.history w.opening w.fixed w.faults v pass (r.histories id v at) in record {
        whole = record w { out = w.out + 1 };
        words = r.words;
        homes = r.homes;
        tickets = record {
          each = each_snoc (λ j x. IsTicket w.served w.drawn w.owner j x.stage) (λ j x. IsTicket w.served w.drawn w.owner j x.stage) vs u
              (each_set (λ j x. IsTicket w.served w.drawn w.owner j x.stage) (λ j x. IsTicket w.served w.drawn w.owner j x.stage) s.views id v' r.tickets.each (λ j x ne a z. z) (r.tickets.each id v at)) (λ j x a z. z) (λ j. tt);
          all = let a = total_same (λ (x : SeatView I F N). has_ticket x.stage) s.views id v v' at refl in let b = total_snoc (λ (x : SeatView I F N). has_ticket x.stage) vs u in let c = r.tickets.all in omega arith;
        };
        desk = record {
          each = each_snoc (λ _ x. IsHolder w.history w.faults w.home x) (λ _ x. IsHolder w.history w.faults w.home x) vs u
              (each_set (λ _ x. IsHolder w.history w.faults w.home x) (λ _ x. IsHolder w.history w.faults w.home x) s.views id v' r.desk.each (λ j x ne a h. h) (r.desk.each id v at))
              (λ j x a h. h) (λ j m e. absurd (let z = ap rank e in omega arith));
          out = λ gone. let h = r.desk.out gone in
              (h.0, h.1, h.2, at_longer vs (u ∷ []) h.0 h.1 (set_else s.views id h.0 v' (apart s.views id h.0 v h.1 at h.3 (λ e. let y = ap rank idle in let x = ap rank h.4 in omega arith)) ∙ h.3), h.4);
          at_home = r.desk.at_home;
        };
        passes = record {
          each = each_snoc (Ordered w.first (w.out + 1)) (Ordered w.first (w.out + 1)) vs u
              (each_set (Ordered w.first w.out) (Ordered w.first (w.out + 1)) s.views id v' r.passes.each
              (λ j x ne a h. (h.0, λ m e. absurd (ne ((h.1 m e).0 ∙ sym order.0))))
              ((λ z. absurd (let e = ap is_pass role' in omega arith)), λ m e. (order.0, ap (out_or 0) (sym e ∙ role') ∙ ap (λ (q : ℕ). q + 1) is)))
              (λ j x a h. h) (λ j. ((λ z. absurd (let e : 1 ≡ 0 = z in omega arith)), λ m e. absurd (let z = ap role_rank e in omega arith)));
          all = let a = total_same (λ (x : SeatView I F N). is_pass x.role) s.views id v v' at (ap is_pass role' ∙ sym pass) in let b = total_snoc (λ (x : SeatView I F N). is_pass x.role) vs u in let c = r.passes.all in omega arith;
          few = omega arith;
        };
        histories = each_snoc (λ _ x. Lives w x) (λ _ x. Lives w x) vs u
            (each_set (λ _ x. Lives w x) (λ _ x. Lives w x) s.views id v' r.histories (λ j x ne a z. z) (inr record {
              fixed_is = k.fixed_is;
              opening_is = k.opening_is;
              seen = k.seen;
              told = k.told;
              known = k.known;
              faults_known = k.faults_known;
              opened = k.opened;
              own = k.own;
            })) (λ j x a z. z) (λ j. inr record {
              fixed_is = k.fixed_is;
              opening_is = k.opening_is;
              seen = k.seen;
              told = k.told;
              known = k.known;
              faults_known = k.faults_known;
              opened = k.opened;
              own = λ p a b. refl;
            });
        faults = let a = total_same (λ (x : SeatView I F N). x.raised) s.views id v v' at refl in let b = total_snoc (λ (x : SeatView I F N). x.raised) vs u in let c = r.faults in omega arith;
        own = λ p. let a = total_same (λ (x : SeatView I F N). times p x.own) s.views id v v' at refl in let b = total_snoc (λ (x : SeatView I F N). times p x.own) vs u in let c = r.own p in omega arith;
      }

  -- a seat of meet, which has seen what the pass has
  pub splits_brief : (id : ℕ) (v : SeatView I F N) → is_pass v.role ≡ 1 → Splits Rule id v v (brief v)
  splits_brief id v pass s r at =
      let w : Whole T I F = r.whole in let u : SeatView I F N = brief v in
      let k : Knows w.history w.opening w.fixed w.faults v = lives w.history w.opening w.fixed w.faults v pass (r.histories id v at) in
      subst (λ (vs : List (SeatView I F N)). Rule record { words = s.words; homes = s.homes; views = vs ++ u ∷ [] }) (sym (set_again s.views id v at)) record {
        whole = w;
        words = r.words;
        homes = r.homes;
        tickets = record {
          each = each_snoc (λ j x. IsTicket w.served w.drawn w.owner j x.stage) (λ j x. IsTicket w.served w.drawn w.owner j x.stage) s.views u r.tickets.each (λ j x a z. z) (λ j. tt);
          all = let b = total_snoc (λ (x : SeatView I F N). has_ticket x.stage) s.views u in let c = r.tickets.all in omega arith;
        };
        desk = record {
          each = each_snoc (λ _ x. IsHolder w.history w.faults w.home x) (λ _ x. IsHolder w.history w.faults w.home x) s.views u r.desk.each (λ j x a h. h) (λ j m e. absurd (let z = ap rank e in omega arith));
          out = λ gone. let h = r.desk.out gone in (h.0, h.1, h.2, at_longer s.views (u ∷ []) h.0 h.1 h.3, h.4);
          at_home = r.desk.at_home;
        };
        passes = record {
          each = each_snoc (Ordered w.first w.out) (Ordered w.first w.out) s.views u r.passes.each (λ j x a h. h) (λ j. ((λ z. (refl, refl, refl)), λ m e. absurd (let z = ap role_rank e in omega arith)));
          all = let b = total_snoc (λ (x : SeatView I F N). is_pass x.role) s.views u in let c = r.passes.all in omega arith;
          few = r.passes.few;
        };
        histories = each_snoc (λ _ x. Lives w x) (λ _ x. Lives w x) s.views u r.histories (λ j x a z. z) (λ j. inr record {
          fixed_is = k.fixed_is;
          opening_is = k.opening_is;
          seen = k.seen;
          told = k.told;
          known = k.known;
          faults_known = k.faults_known;
          opened = k.opened;
          own = λ p a b. refl;
        });
        faults = let b = total_snoc (λ (x : SeatView I F N). x.raised) s.views u in let c = r.faults in omega arith;
        own = λ p. let b = total_snoc (λ (x : SeatView I F N). times p x.own) s.views u in let c = r.own p in omega arith;
      }

  -- a seat that does nothing and has nothing is spent
  spends : (s : State (Option T) (SeatView I F N)) (r : Rule s) (id : ℕ) (u : SeatView I F N) → get_elem? s.views id ≡ some u → is_pass u.role ≡ 0 → Rule record { words = s.words; homes = s.homes; views = set s.views id spent }
  spends s r id u at none_of =
      let w : Whole T I F = r.whole in let o : SeatView I F N = spent in let plain = (r.passes.each id u at).0 none_of in record {
        whole = w;
        words = r.words;
        homes = r.homes;
        tickets = record {
          each = each_set (λ j x. IsTicket w.served w.drawn w.owner j x.stage) (λ j x. IsTicket w.served w.drawn w.owner j x.stage) s.views id o r.tickets.each (λ j x ne a z. z) tt;
          all = let a = total_same (λ (x : SeatView I F N). has_ticket x.stage) s.views id u o at (sym (ap has_ticket plain.0)) in let c = r.tickets.all in omega arith;
        };
        desk = record {
          each = each_set (λ _ x. IsHolder w.history w.faults w.home x) (λ _ x. IsHolder w.history w.faults w.home x) s.views id o r.desk.each (λ j x ne a h. h) (λ m e. absurd (let z = ap rank e in omega arith));
          out = λ gone. let h = r.desk.out gone in
              (h.0, h.1, h.2, set_else s.views id h.0 o (apart s.views id h.0 u h.1 at h.3 (λ e. let y = ap rank plain.0 in let x = ap rank h.4 in omega arith)) ∙ h.3, h.4);
          at_home = r.desk.at_home;
        };
        passes = record {
          each = each_set (Ordered w.first w.out) (Ordered w.first w.out) s.views id o r.passes.each (λ j x ne a h. h) ((λ z. (refl, refl, refl)), λ m e. absurd (let z = ap role_rank e in omega arith));
          all = let a = total_same (λ (x : SeatView I F N). is_pass x.role) s.views id u o at (sym none_of) in let c = r.passes.all in omega arith;
          few = r.passes.few;
        };
        histories = each_set (λ _ x. Lives w x) (λ _ x. Lives w x) s.views id o r.histories (λ j x ne a z. z) (inl refl);
        faults = let a = total_same (λ (x : SeatView I F N). x.raised) s.views id u o at (sym plain.2) in let c = r.faults in omega arith;
        own = λ p. let a = total_same (λ (x : SeatView I F N). times p x.own) s.views id u o at (sym (ap (times p) plain.1)) in let c = r.own p in omega arith;
      }

  pub meets : (id : ℕ) (v : SeatView I F N) (other : ℕ) (u : SeatView I F N) → is_pass v.role ≡ 1 → v.stage ≡ Idle → length v.told ≤ length v.seen → is_pass u.role ≡ 0 → (u.role ≢ Spent)
      → Joins Rule id v other u (met v u) spent
  meets id v other u pass idle short none_of live s r at apart_of there =
      let w : Whole T I F = r.whole in let v' : SeatView I F N = met v u in
      let k : Knows w.history w.opening w.fixed w.faults v = lives w.history w.opening w.fixed w.faults v pass (r.histories id v at) in
      let at_other : get_elem? s.views other ≡ some u = sym (set_else s.views id other v' apart_of) ∙ there in
      let l : Knows w.history w.opening w.fixed w.faults u = ⊎_elim (λ (e : u.role ≡ Spent). absurd (live e)) (λ (z : Knows w.history w.opening w.fixed w.faults u). z) (r.histories other u at_other) in
      let mid : Rule record { words = s.words; homes = s.homes; views = set s.views id v' } = quiet items count_faults fixed_of s r s.words id v v' refl at pass refl refl refl refl
      (λ m e. absurd (let x = ap rank e in let y = ap rank idle in omega arith)) record {
        fixed_is = k.fixed_is;
        opening_is = k.opening_is;
        seen = k.seen;
        told = l.seen;
        known = greater_le v.known u.known (length w.history) k.known l.known;
        faults_known = greater_le v.faults u.faults w.faults k.faults_known l.faults_known;
        opened = k.opened;
        own = λ p le le'. k.own p le (omega arith);
      } in
      spends record { words = s.words; homes = s.homes; views = set s.views id v' } mid other u there none_of

  pub joins : (id : ℕ) (v : SeatView I F N) (other : ℕ) (u : SeatView I F N) (n : ℕ) → v.role ≡ First n → v.stage ≡ Idle → length v.told ≤ length v.seen → u.role ≡ Parted → u.stage ≡ Idle → length u.told ≤ length u.seen
      → Joins Rule id v other u (united v u) spent
  joins id v other u n first idle short part still short' s r at apart_of there =
      let w : Whole T I F = r.whole in let v' : SeatView I F N = united v u in let o : SeatView I F N = spent in let vs : List (SeatView I F N) = set s.views id v' in
      let at_other : get_elem? s.views other ≡ some u = sym (set_else s.views id other v' apart_of) ∙ there in
      let pass : is_pass v.role ≡ 1 = ap is_pass first in let pass' : is_pass u.role ≡ 1 = ap is_pass part in
      let order = (r.passes.each id v at).1 n first in let is : n ≡ w.out = order.1 in
      let role' : v'.role ≡ First (n - 1) = ap (with_out (λ (m : ℕ). m - 1)) first in
      let k : Knows w.history w.opening w.fixed w.faults v = lives w.history w.opening w.fixed w.faults v pass (r.histories id v at) in
      let l : Knows w.history w.opening w.fixed w.faults u = lives w.history w.opening w.fixed w.faults u pass' (r.histories other u at_other) in
      let two = total_two (λ (x : SeatView I F N). is_pass x.role) s.views id other v u apart_of at at_other in
      let out_of : (h : ℕ) (x : SeatView I F N) (t : ℕ) → get_elem? s.views h ≡ some x → x.stage ≡ Holds t → get_elem? (set vs other o) h ≡ some x = λ h x t here stage.
      set_else vs other h o (apart s.views other h u x at_other here (λ e. let y = ap rank still in let z = ap rank stage in omega arith))
      ∙ (set_else s.views id h v' (apart s.views id h v x at here (λ e. let y = ap rank idle in let z = ap rank stage in omega arith)) ∙ here) in record {
        whole = record w { out = w.out - 1 };
        words = r.words;
        homes = r.homes;
        tickets = record {
          each = each_set (λ j x. IsTicket w.served w.drawn w.owner j x.stage) (λ j x. IsTicket w.served w.drawn w.owner j x.stage) vs other o
              (each_set (λ j x. IsTicket w.served w.drawn w.owner j x.stage) (λ j x. IsTicket w.served w.drawn w.owner j x.stage) s.views id v' r.tickets.each (λ j x ne a z. z) (r.tickets.each id v at)) (λ j x ne a z. z) tt;
          all = let a = total_same (λ (x : SeatView I F N). has_ticket x.stage) s.views id v v' at refl in
              let b = total_same (λ (x : SeatView I F N). has_ticket x.stage) vs other u o there (sym (ap has_ticket still)) in let c = r.tickets.all in omega arith;
        };
        desk = record {
          each = each_set (λ _ x. IsHolder w.history w.faults w.home x) (λ _ x. IsHolder w.history w.faults w.home x) vs other o
              (each_set (λ _ x. IsHolder w.history w.faults w.home x) (λ _ x. IsHolder w.history w.faults w.home x) s.views id v' r.desk.each (λ j x ne a h. h)
              (λ m e. absurd (let x = ap rank e in let y = ap rank idle in omega arith)))
              (λ j x ne a h. h) (λ m e. absurd (let z = ap rank e in omega arith));
          out = λ gone. let h = r.desk.out gone in (h.0, h.1, h.2, out_of h.0 h.1 h.2 h.3 h.4, h.4);
          at_home = r.desk.at_home;
        };
        passes = record {
          each = each_set (Ordered w.first (w.out - 1)) (Ordered w.first (w.out - 1)) vs other o
              (each_set (Ordered w.first w.out) (Ordered w.first (w.out - 1)) s.views id v' r.passes.each
              (λ j x ne a h. (h.0, λ m e. absurd (ne ((h.1 m e).0 ∙ sym order.0))))
              ((λ z. absurd (let e = ap is_pass role' in omega arith)), λ m e. (order.0, ap (out_or 0) (sym e ∙ role') ∙ ap (λ (q : ℕ). q - 1) is)))
              (λ j x ne a h. h) ((λ z. (refl, refl, refl)), λ m e. absurd (let z = ap role_rank e in omega arith));
          all = let a = total_same (λ (x : SeatView I F N). is_pass x.role) s.views id v v' at (ap is_pass role' ∙ sym pass) in
              let b = total_set (λ (x : SeatView I F N). is_pass x.role) vs other u o there in let c = r.passes.all in omega arith;
          few = let a = r.passes.few in omega arith;
        };
        histories = each_set (λ _ x. Lives w x) (λ _ x. Lives w x) vs other o
            (each_set (λ _ x. Lives w x) (λ _ x. Lives w x) s.views id v' r.histories (λ j x ne a z. z) (inr record {
              fixed_is = k.fixed_is;
              opening_is = k.opening_is;
              seen = k.seen;
              told = l.seen;
              known = greater_le v.known u.known (length w.history) k.known l.known;
              faults_known = greater_le v.faults u.faults w.faults k.faults_known l.faults_known;
              opened = k.opened;
              own = λ p le le'. let a = times_append p v.own u.own in let b = k.own p le (omega arith) in let c = l.own p le' (omega arith) in omega arith;
            })) (λ j x ne a z. z) (inl refl);
        faults = let a = total_set (λ (x : SeatView I F N). x.raised) s.views id v v' at in let b = total_set (λ (x : SeatView I F N). x.raised) vs other u o there in let c = r.faults in omega arith;
        own = λ p. let a = total_set (λ (x : SeatView I F N). times p x.own) s.views id v v' at in let b = total_set (λ (x : SeatView I F N). times p x.own) vs other u o there in
            let c = times_append p v.own u.own in let d = r.own p in omega arith;
      }
