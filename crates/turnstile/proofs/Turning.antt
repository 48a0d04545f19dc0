-- What the seat has in hand over a turn, and what it knows at the end of it.
use Rattle.std.proofs.Common.{◌≡◌, ◌⊎◌, ℕ, ◌+◌, ◌^◌, ◌<◌, ◌≤◌, List, [], ◌∷◌, ◌++◌, length, sym, refl, ap, ◌∙◌, subst, ⊎_elim, inl, inr, arith, Option, Some, None, Bool}
use Rattle.turnstile.specs.declared.view.Stage.TheVariants.{Idle}
use Rattle.turnstile.specs.declared.view.SeatView.{SeatView}
use Rattle.std.proofs.Common.{◌-◌, append-nil, length-append}
use Rattle.turnstile.specs.Rule.{is_pass}
use Rattle.turnstile.specs.declared.limits.TheConstants.{LAST_COUNT}
use Rattle.turnstile.specs.Turns.{added_by, placed, HasRisen}
use Rattle.turnstile.specs.Steps.{Sat, places}
use Rattle.turnstile.specs.Hand.{InHand, Begun, Took, with_new, with_rise, turned, HasRun}

abbrev in_slot : {A : Type 0} → A → Option A → A
in_slot d None = d
in_slot d (Some x) = x

abbrev value_or : {A : Type 0} → A → List (ℕ × Option A) → A
value_or d [] = d
value_or d (c ∷ cs) = in_slot d c.1

pub value_same : {A : Type 0} (c : List (ℕ × Option A)) (x y : A) → c ≡ (0, Some x) ∷ [] → c ≡ (0, Some y) ∷ [] → x ≡ y
value_same c x y a b = ap (value_or x) (sym a ∙ b)

-- by how much a count rose that rose by at least n, from what is known of it before
pub rise_of : (n x y rise known : ℕ) → x + rise ≡ y → x ≡ known → HasRisen n x y → (n ≤ rise) ⊎ (known + rise ≡ LAST_COUNT)
rise_of n x y rise known is k h = ⊎_elim (λ (e : x + n ≤ y). inl (omega arith)) (λ (e : y ≡ LAST_COUNT). inr (omega arith)) h

module _ {T I F N : Type 0} (items : T → List I) (count_faults : T → ℕ) (fixed_of : T → F) where
  abbrev Hand : Sat T I F N → T → List I → ℕ → Type 0
  Hand = InHand items count_faults fixed_of

  -- the value was taken
  pub took_begins : (m m' : Sat T I F N) (x : T) → is_pass m.0.role ≡ 1 → Took items count_faults fixed_of m x m' → Begun items count_faults fixed_of m' x
  took_begins m m' x pass t = subst (λ (z : Sat T I F N). Begun items count_faults fixed_of z x) (sym t.has)
      record { ticket = t.ticket; stage = refl; pass = pass; carried = refl; list = refl; known = refl; faults = refl; fixed_is = t.fixed_is }

  -- the value has run, and lies in the hand again
  pub ran_in_hand : (m m' : Sat T I F N) (x y : T) (new : List I) → Begun items count_faults fixed_of m x → m' ≡ (m.0, (0, Some y) ∷ []) → items y ≡ items x ++ new → fixed_of y ≡ fixed_of x → count_faults x ≤ count_faults y
      → length (items y) < 2 ^ 64 → count_faults y < 2 ^ 64 → Hand m' y new (count_faults y - count_faults x)
  ran_in_hand m m' x y new h at grown fixed more fits faults_fit = let a = h.faults in subst (λ (z : Sat T I F N). Hand z y new (count_faults y - count_faults x)) (sym at) record {
    ticket = h.ticket;
    stage = h.stage;
    pass = h.pass;
    carried = refl;
    grown = grown ∙ ap (λ (l : List I). l ++ new) h.list;
    fits = fits;
    faults = omega arith;
    faults_fit = faults_fit;
    fixed_is = h.fixed_is ∙ ap (λ (f : F). Some f) (sym fixed);
  }

  -- the value y that came out of the run on x, as the seat has it in hand
  pub record AfterRun (m m' : Sat T I F N) (x y : T) (new : List I) (added rise : ℕ) : Type 0 where
    pub begun : Begun items count_faults fixed_of m x
    pub hand : Hand m' y new rise
    pub count : length new ≡ added
    pub known : m'.0.known ≡ length m'.0.seen
    pub same : m'.0 ≡ m.0
    pub value : m.0.faults + rise ≡ count_faults y

  module _ {J : Type 0} (adds : N → Option I) (is_fault : N → Bool) (legal : F → List I → Type 0) (right : F → List I → N → Type 0) (ran : J → F → List I → J → Type 0) (notes : J → List N) (risen : J → ℕ) where
    pub after_run : {m m' : Sat T I F N} {x₀ x y : T} {j k : J} {before added rise : ℕ} → Begun items count_faults fixed_of m x₀ → m.1 ≡ (0, Some x) ∷ []
        → HasRun adds is_fault items count_faults fixed_of legal right ran notes risen j k x y before added rise → m' ≡ (m.0, (0, Some y) ∷ []) → AfterRun m m' x y (added_by adds (notes k)) added rise
    after_run {m} {m'} {x₀} {x} {y} {j} {k} {before} {added} {rise} h here r at =
        let begun : Begun items count_faults fixed_of m x = subst (λ (w : T). Begun items count_faults fixed_of m w) (value_same m.1 x₀ x h.carried here) h in
        let new : List I = added_by adds (notes k) in
        let long = ap length r.grown in let sum = length-append (items x) new in let more = r.more in let risen_by = r.faults_more in let q = begun.faults in
        let is : count_faults y - count_faults x ≡ rise = omega arith in record {
          begun = begun;
          hand = subst (λ (n : ℕ). Hand m' y new n) is (ran_in_hand m m' x y new begun at r.grown r.fixed_is (omega arith) r.fits r.faults_fit);
          count = omega arith;
          known = ap (λ (w : Sat T I F N). w.0.known) at ∙ (begun.known ∙ sym (ap (λ (w : Sat T I F N). length w.0.seen) at));
          same = ap (λ (w : Sat T I F N). w.0) at;
          value = omega arith;
        }

  pub raised_in_hand : (m m' : Sat T I F N) (x : T) (new : List I) (n : ℕ) → Hand m x new n → m' ≡ (with_new m.0 new, m.1) → Hand m' x [] n
  raised_in_hand m m' x new n h at = subst (λ (z : Sat T I F N). Hand z x [] n) (sym at) record {
    ticket = h.ticket;
    stage = h.stage;
    pass = h.pass;
    carried = h.carried;
    grown = h.grown ∙ sym (append-nil (m.0.seen ++ new));
    fits = h.fits;
    faults = h.faults;
    faults_fit = h.faults_fit;
    fixed_is = h.fixed_is;
  }

  pub counted_in_hand : (m m' : Sat T I F N) (x : T) (n : ℕ) → Hand m x [] n → m' ≡ (with_rise m.0 n, m.1) → Hand m' x [] 0
  counted_in_hand m m' x n h at = let a = h.faults in subst (λ (z : Sat T I F N). Hand z x [] 0) (sym at) record {
    ticket = h.ticket;
    stage = h.stage;
    pass = h.pass;
    carried = h.carried;
    grown = h.grown;
    fits = h.fits;
    faults = omega arith;
    faults_fit = h.faults_fit;
    fixed_is = h.fixed_is;
  }

module _ {T I F N : Type 0} (adds : N → Option I) where
  -- the view at the end of a turn
  pub ends_turned : (v : SeatView I F N) (m₁ m₂ m₃ m₄ m₅ : Sat T I F N) (before new : List I) (rise at : ℕ) (ts : List N) → m₁.0 ≡ v → m₂ ≡ (with_new m₁.0 new, m₁.1)
      → m₃ ≡ (with_rise m₂.0 rise, m₂.1) → m₄ ≡ (record m₃.0 { stage = Idle; turns = m₃.0.turns ++ placed adds at ts }, []) → m₅ ≡ m₄
      → at ≡ length before → before ≡ v.seen → new ≡ added_by adds ts → m₅ ≡ (turned adds v v.seen ts v.faults rise, [])
  ends_turned v m₁ m₂ m₃ m₄ m₅ before new rise at ts e₁ e₂ e₃ e₄ e₅ is_at is_before is_new =
      e₅ ∙ e₄ ∙ ap (λ (w : SeatView I F N). (record w { stage = Idle; turns = w.turns ++ placed adds at ts }, []))
      (ap (λ (m : Sat T I F N). m.0) e₃ ∙ ap (λ (w : SeatView I F N). record w { faults = w.faults + rise; raised = w.raised + rise }) (ap (λ (m : Sat T I F N). m.0) e₂ ∙ ap (λ (w : SeatView I F N). with_new w new) e₁))
      ∙ ap (λ (z : ℕ × List I). (record v { stage = Idle; seen = v.seen ++ z.1; known = length (v.seen ++ z.1); faults = v.faults + rise; own = v.own ++ places (length v.seen) (length z.1); raised = v.raised + rise; turns = v.turns ++ placed adds z.0 ts }, []))
      (λ i. ((is_at ∙ ap length is_before) i, is_new i))
