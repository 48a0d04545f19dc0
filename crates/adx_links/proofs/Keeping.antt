-- What taking a pair and giving it back make of what a lobby keeps.
use Rattle.std.proofs.Common.{◌≡◌, ℕ, ◌+◌, ◌-◌, ◌<◌, ◌≤◌, List, [], ◌∷◌, ◌++◌, suc, leb, if◌then◌else◌, length, map, length-append, append-nil, Bool, true, false, refl, sym, ap, ◌∙◌, subst, ⊎_elim, inl, inr, arith, Option, Some, None, Result, Ok, Err}
use Rattle.std.proofs.lemmas.Bool.{lt-ltb}
use Rattle.std.proofs.lemmas.Bool.Decides.{leb_tells}
use Rattle.std.specs.Prelude.{IfSome, All, nat_lt}
use Rattle.std.specs.List.{flat_map}
use Rattle.std.proofs.lemmas.List.{append_assoc, map-append, length-map}
use Rattle.std.proofs.lemmas.Grind.{flat_map-append}
use Rattle.std.proofs.lemmas.List.Elements.{All-append, All-cons, All-nil}
use mathlib.Core.List.{IsPrefix}
use Rattle.adx_io.specs.declared.failed.Failed.{Failed}
use Rattle.adx_io.specs.Streams.{Rises, HasCause, WhereTold, last_count}
use Rattle.adx_links.specs.Pairs.{PairTold, PairsTold, AcceptorTold, GivesOut, GetsBack, is_over_after}
use Rattle.turnstile.specs.declared.noted.Noted.{Noted}
use Rattle.turnstile.specs.Passes.{PassView, joined, split_from}
use Rattle.turnstile.specs.Places.{longer, AreOneList, AreAllOnce}
use Rattle.turnstile.specs.Turns.{Stand, places_of}
use Rattle.adx_links.specs.declared.intake.Intake.{Intake}
use Rattle.adx_links.specs.Serving.{ServedPair}
use Rattle.adx_links.specs.Lobbies.{IsIntake, IsLater, WasServed, AreServed, IsLobby, AllServed, IsClosed, over_after}

module _ {A : Type 0} where
  pub prefix_trans : (xs ys zs : List A) → IsPrefix xs ys → IsPrefix ys zs → IsPrefix xs zs
  prefix_trans xs ys zs p q = (p.0 ++ q.0, sym (append_assoc xs p.0 q.0) ∙ ap (λ (l : List A). l ++ q.0) p.1 ∙ q.1)

-- a count that rose has risen, however much more it rises
pub risen_on : (before now more : ℕ) → before ≤ now → now ≤ more → Rises before now → Rises before more
risen_on before now more a b r = ⊎_elim
    (λ (lt : before < now). inl (omega arith))
    (λ (last : now ≡ last_count). ⊎_elim
    (λ (l : (leb (suc now) more ≡ true) × (suc now ≤ more)). let lt = l.1 in inl (omega arith))
    (λ (l : (leb (suc now) more ≡ false) × (more < suc now)). let le = l.1 in let same : more ≡ now = omega arith in inr (same ∙ last))
    (leb_tells (suc now) more))
    r

module _ (before : ℕ) where
  -- where the count stays
  pub intake_stays : (i : Intake) (over over' : Bool) (now now' : ℕ) → over' ≡ over → now' ≡ now → IsIntake i over before now → IsIntake i over' before now'
  intake_stays i over over' now now' o n h = subst (λ (b : Bool). IsIntake i b before now') (sym o) (subst (λ (k : ℕ). IsIntake i over before k) (sym n) h)

  -- once no more come
  pub intake_over : (i : Intake) (over over' : Bool) (now now' : ℕ) → over' ≡ true → now' ≡ now → IsIntake i over before now → IsIntake (over_after i) over' before now'
  intake_over Intake.Open over over' now now' o n h = (o, n ∙ h)
  intake_over Intake.Over over over' now now' o n h = (o, n ∙ h.1)
  intake_over Intake.Failed over over' now now' o n h = subst (λ (k : ℕ). Rises before k) (sym n) h

  -- once the acceptor failed
  pub rises_on : (now now' : ℕ) → before ≤ now → Rises now now' → Rises before now'
  rises_on now now' b r = ⊎_elim (λ (lt : now < now'). inl (omega arith)) (λ (last : now' ≡ last_count). inr last) r

module _ {P : Type 0} where
  pub out_more : (o o' : Option (PairsTold P)) (x : P) (taken : ℕ) → WhereTold o o' (GivesOut (Ok (Some x))) → IfSome o (λ t. length t.out ≡ taken) → IfSome o' (λ t. length t.out ≡ taken + 1)
  out_more None o' x taken e h = subst (λ (q : Option (PairsTold P)). IfSome q (λ t. length t.out ≡ taken + 1)) (sym e) tt
  out_more (Some t) None x taken e h = absurd e
  out_more (Some t) (Some u) x taken e h = let l = ap (λ (v : PairsTold P). length v.out) e in let m = length-append t.out (x ∷ []) in omega arith

  -- what holds of the pairs reported stays, where a call changes none
  pub pairs_stay : (Q : PairsTold P → Type 0) (o o' : Option (PairsTold P)) → WhereTold o o' (λ t u. u ≡ t) → IfSome o Q → IfSome o' Q
  pairs_stay Q None o' e h = subst (λ (q : Option (PairsTold P)). IfSome q Q) (sym e) tt
  pairs_stay Q (Some t) None e h = absurd e
  pairs_stay Q (Some t) (Some u) e h = subst Q (sym e) h

  -- giving out a pair leaves those given back
  pub back_stays : (Q : List P → Type 0) (o o' : Option (PairsTold P)) (x : P) → WhereTold o o' (GivesOut (Ok (Some x))) → IfSome o (λ t. Q t.back) → IfSome o' (λ t. Q t.back)
  back_stays Q None o' x e h = subst (λ (q : Option (PairsTold P)). IfSome q (λ t. Q t.back)) (sym e) tt
  back_stays Q (Some t) None x e h = absurd e
  back_stays Q (Some t) (Some u) x e h = subst (λ (v : PairsTold P). Q v.back) (sym e) h

-- two passes that a lobby can't distinguish
pub record Alike {I F N : Type 0} (p q : PassView I F N) : Type 0 where
  pub turnstile : q.turnstile ≡ p.turnstile
  pub is_first : q.is_first ≡ p.is_first
  pub fixed : q.fixed ≡ p.fixed
  pub opening : q.opening ≡ p.opening
  pub seen : q.seen ≡ p.seen
  pub turns : q.turns ≡ p.turns

longer_same : {A : Type 0} (xs : List A) → longer xs xs ≡ xs
longer_same xs = go (leb (length xs) (length xs))
  where
    go : (b : Bool) → (if b then xs else xs) ≡ xs
    go true = refl
    go false = refl

-- a pass that was split and joined again at once leaves no trace
pub rejoins : {I F N : Type 0} (p p' p'' q : PassView I F N) → p' ≡ record p { out = p.out + 1 } → q ≡ split_from p → p'' ≡ joined p' q → Alike p p'' × (p''.out ≡ p.out)
rejoins {I} {F} {N} p p' p'' q split from join =
    let whole : p'' ≡ joined (record p { out = p.out + 1 }) (split_from p) = join ∙ (λ i. joined (split i) (from i)) in
    subst (λ (v : PassView I F N). Alike p v × (v.out ≡ p.out)) (sym whole)
    (record { turnstile = refl; is_first = refl; fixed = refl; opening = refl; seen = longer_same p.seen; turns = append-nil p.turns }, omega arith)

later_alike : {I F N : Type 0} (first p q : PassView I F N) → Alike p q → IsLater first p → IsLater first q
later_alike {I} first p q same k = record {
  turnstile = same.turnstile ∙ k.turnstile;
  is_first = same.is_first ∙ k.is_first;
  fixed = same.fixed ∙ k.fixed;
  opening = same.opening ∙ k.opening;
  begins = subst (λ (l : List I). IsPrefix first.seen l) (sym same.seen) k.begins;
}

module _ {I F N : Type 0} (served : List I → ServedPair N → Type 0) (first : PassView I F N) (others before : ℕ) where
  abbrev Keeps : AcceptorTold → PassView I F N → ℕ → ℕ → Intake → Bool → Type 0
  Keeps = IsLobby served first others before

  served_alike : (a a' : AcceptorTold) (p p' : PassView I F N) (taken taken' given : ℕ) (w : Bool) (rows : List (ServedPair N)) → Alike p p' →
      IfSome a'.pairs (λ t. length t.out ≡ taken') → IfSome a'.pairs (λ t. t.back ≡ map (λ (s : ServedPair N). s.told) rows) →
      AreServed served a p taken given w rows → AreServed served a' p' taken' given w rows
  served_alike a a' p p' taken taken' given w rows same out back k = record {
    each = subst (λ (l : List I). All (WasServed served l) rows) (sym same.seen) k.each;
    short = k.short;
    turns = same.turns ∙ k.turns;
    given_is = k.given_is;
    out = out;
    back = back;
  }

  -- a pair was taken
  pub takes : (a a' : AcceptorTold) (p p' : PassView I F N) (taken given : ℕ) (i : Intake) (w : Bool) (r : Result (Option PairTold) Failed) (x : PairTold) →
      r ≡ Ok (Some x) → p' ≡ record p { out = p.out + 1 } →
      WhereTold a.pairs a'.pairs (GivesOut r) → a'.is_over ≡ is_over_after a.is_over r → HasCause a.faults a'.faults r →
      Keeps a p taken given i w → Keeps a' p' (taken + 1) given i w
  takes a a' p p' taken given i w r x is split gives over cause k =
      let told_out = subst (λ (q : Result (Option PairTold) Failed). WhereTold a.pairs a'.pairs (GivesOut q)) is gives in
      let over_is : a'.is_over ≡ a.is_over = over ∙ ap (is_over_after a.is_over) is in
      let caused = subst (λ (q : Result (Option PairTold) Failed). HasCause a.faults a'.faults q) is cause in
      let n : a'.faults ≡ a.faults = caused.passed in
      let same : Alike p p' = subst (λ (v : PassView I F N). Alike p v) (sym split) (record { turnstile = refl; is_first = refl; fixed = refl; opening = refl; seen = refl; turns = refl }) in
      let o : p'.out ≡ p.out + 1 = ap (λ (v : PassView I F N). v.out) split in
      let s = k.served_are in
      let less = k.no_more in let outs = k.pass_out in let counts = k.counts in record {
        later = later_alike first p p' same k.later;
        no_more = omega arith;
        pass_out = omega arith;
        counts = omega arith;
        intake_is = intake_stays before i a.is_over a'.is_over a.faults a'.faults over_is n k.intake_is;
        rows = k.rows;
        served_are = served_alike a a' p p' taken (taken + 1) given w k.rows same
            (out_more a.pairs a'.pairs x taken told_out s.out)
            (back_stays (λ (b : List PairTold). b ≡ map (λ (s : ServedPair N). s.told) k.rows) a.pairs a'.pairs x told_out s.back)
            s;
      }

  -- no pair came, and the pass that was split was joined again
  pub rejoined : (a a' : AcceptorTold) (p p' : PassView I F N) (taken given : ℕ) (i i' : Intake) (w : Bool) →
      Alike p p' → p'.out ≡ p.out → WhereTold a.pairs a'.pairs (λ t u. u ≡ t) → a.faults ≤ a'.faults →
      IsIntake i' a'.is_over before a'.faults →
      Keeps a p taken given i w → Keeps a' p' taken given i' w
  rejoined a a' p p' taken given i i' w same o gives grew now k =
      let outs = k.pass_out in let counts = k.counts in
      let s = k.served_are in record {
        later = later_alike first p p' same k.later;
        no_more = k.no_more;
        pass_out = omega arith;
        counts = omega arith;
        intake_is = now;
        rows = k.rows;
        served_are = served_alike a a' p p' taken taken given w k.rows same
            (pairs_stay (λ (t : PairsTold PairTold). length t.out ≡ taken) a.pairs a'.pairs gives s.out)
            (pairs_stay (λ (t : PairsTold PairTold). t.back ≡ map (λ (s : ServedPair N). s.told) k.rows) a.pairs a'.pairs gives s.back)
            s;
      }

  -- no more come
  pub comes_none : (a a' : AcceptorTold) (p p' p'' q : PassView I F N) (taken given : ℕ) (i i' : Intake) (w : Bool) (r : Result (Option PairTold) Failed) →
      r ≡ Ok None → p' ≡ record p { out = p.out + 1 } → q ≡ split_from p → p'' ≡ joined p' q → i' ≡ over_after i →
      WhereTold a.pairs a'.pairs (GivesOut r) → a'.is_over ≡ is_over_after a.is_over r → HasCause a.faults a'.faults r →
      Keeps a p taken given i w → Keeps a' p'' taken given i' w
  comes_none a a' p p' p'' q taken given i i' w r is split from join now gives over cause k =
      let caused = subst (λ (q : Result (Option PairTold) Failed). HasCause a.faults a'.faults q) is cause in
      let same = rejoins p p' p'' q split from join in
      rejoined a a' p p'' taken given i i' w same.0 same.1
      (subst (λ (q : Result (Option PairTold) Failed). WhereTold a.pairs a'.pairs (GivesOut q)) is gives)
      caused.later
      (subst (λ (j : Intake). IsIntake j a'.is_over before a'.faults) (sym now)
      (intake_over before i a.is_over a'.is_over a.faults a'.faults (over ∙ ap (is_over_after a.is_over) is) caused.passed k.intake_is))
      k

  -- the acceptor failed
  pub comes_fault : (a a' : AcceptorTold) (p p' p'' q : PassView I F N) (taken given : ℕ) (i : Intake) (w : Bool) (r : Result (Option PairTold) Failed) (e : Failed) →
      r ≡ Err e → p' ≡ record p { out = p.out + 1 } → q ≡ split_from p → p'' ≡ joined p' q →
      WhereTold a.pairs a'.pairs (GivesOut r) → HasCause a.faults a'.faults r →
      Keeps a p taken given i w → Keeps a' p'' taken given Intake.Failed w
  comes_fault a a' p p' p'' q taken given i w r e is split from join gives cause k =
      let caused = subst (λ (q : Result (Option PairTold) Failed). HasCause a.faults a'.faults q) is cause in
      let same = rejoins p p' p'' q split from join in
      rejoined a a' p p'' taken given i Intake.Failed w same.0 same.1
      (subst (λ (q : Result (Option PairTold) Failed). WhereTold a.pairs a'.pairs (GivesOut q)) is gives)
      caused.later
      (rises_on before a.faults a'.faults k.counts caused.failed)
      k

  -- a lobby opens
  pub opens : (a : AcceptorTold) (p : PassView I F N) → p ≡ first → p.is_first ≡ true → p.out ≡ others → p.turns ≡ [] → a.faults ≡ before →
      IfSome a.pairs (λ t. (t.out ≡ []) × (t.back ≡ [])) → Keeps a p 0 0 Intake.Open false
  opens a p is f out none counts fresh = record {
    later = record { turnstile = ap (λ (v : PassView I F N). v.turnstile) is; is_first = f; fixed = ap (λ (v : PassView I F N). v.fixed) is; opening = ap (λ (v : PassView I F N). v.opening) is; begins = ([], append-nil first.seen ∙ ap (λ (v : PassView I F N). v.seen) (sym is)) };
    no_more = omega arith;
    pass_out = omega arith;
    counts = omega arith;
    intake_is = counts;
    rows = [];
    served_are = record {
      each = All-nil (WasServed served p.seen);
      short = All-nil (λ (s : ServedPair N). s.wanting ≡ true → false ≡ true);
      turns = none;
      given_is = refl;
      out = none_out a.pairs fresh;
      back = none_back a.pairs fresh;
    };
  }
    where
      none_out : (o : Option (PairsTold PairTold)) → IfSome o (λ t. (t.out ≡ []) × (t.back ≡ [])) → IfSome o (λ t. length t.out ≡ 0)
      none_out None h = tt
      none_out (Some t) h = ap length h.0

      none_back : (o : Option (PairsTold PairTold)) → IfSome o (λ t. (t.out ≡ []) × (t.back ≡ [])) → IfSome o (λ t. t.back ≡ [])
      none_back None h = tt
      none_back (Some t) h = h.1

  -- the lists reported, once a pair was given back
  back_out : (o o' : Option (PairsTold PairTold)) (x : PairTold) (taken : ℕ) → WhereTold o o' (GetsBack x) → IfSome o (λ t. length t.out ≡ taken) → IfSome o' (λ t. length t.out ≡ taken)
  back_out None o' x taken e h = subst (λ (q : Option (PairsTold PairTold)). IfSome q (λ t. length t.out ≡ taken)) (sym e) tt
  back_out (Some t) None x taken e h = absurd e
  back_out (Some t) (Some u) x taken e h = ap (λ (v : PairsTold PairTold). length v.out) e ∙ go (nat_lt (length t.back) (length t.out)) ∙ h
    where
      go : (b : Bool) → length (if b then record t { back = t.back ++ x ∷ [] } else t).out ≡ length t.out
      go true = refl
      go false = refl

  back_more : (o o' : Option (PairsTold PairTold)) (x : PairTold) (taken given : ℕ) (rows : List (ServedPair N)) (s : ServedPair N) → given < taken → length rows ≡ given → s.told ≡ x →
      WhereTold o o' (GetsBack x) → IfSome o (λ t. length t.out ≡ taken) → IfSome o (λ t. t.back ≡ map (λ (r : ServedPair N). r.told) rows) →
      IfSome o' (λ t. t.back ≡ map (λ (r : ServedPair N). r.told) (rows ++ s ∷ []))
  back_more None o' x taken given rows s lt len is e h k = subst (λ (q : Option (PairsTold PairTold)). IfSome q (λ t. t.back ≡ map (λ (r : ServedPair N). r.told) (rows ++ s ∷ []))) (sym e) tt
  back_more (Some t) None x taken given rows s lt len is e h k = absurd e
  back_more (Some t) (Some u) x taken given rows s lt len is e h k =
      let sizes = ap length k in let b = length-map rows (λ (r : ServedPair N). r.told) in
      let less : nat_lt (length t.back) (length t.out) ≡ true = lt-ltb (length t.back) (length t.out) (omega arith) in
      let whole : u.back ≡ t.back ++ x ∷ [] = ap (λ (v : PairsTold PairTold). v.back) e ∙ ap (λ (b : Bool). (if b then record t { back = t.back ++ x ∷ [] } else t).back) less in
      whole ∙ (λ i. k i ++ sym is i ∷ []) ∙ sym (map-append (λ (r : ServedPair N). r.told) rows (s ∷ []))

  -- a pair was given back, with its pass
  pub gives_back : (a a' : AcceptorTold) (p p' q : PassView I F N) (taken given : ℕ) (i : Intake) (w w' wanting : Bool) (x : PairTold) →
      given < taken → p' ≡ joined p q → AreOneList p.seen q.seen → (w ≡ true → w' ≡ true) → (wanting ≡ true → w' ≡ true) →
      served q.seen (record { told = x; turns = q.turns; wanting = wanting }) →
      WhereTold a.pairs a'.pairs (GetsBack x) → a'.is_over ≡ a.is_over → a'.faults ≡ a.faults →
      Keeps a p taken given i w → Keeps a' p' taken (given + 1) i w'
  gives_back a a' p p' q taken given i w w' wanting x lt join one more short was back over n k =
      let s : ServedPair N = record { told = x; turns = q.turns; wanting = wanting } in
      let rows = k.rows in let r = k.served_are in
      let outs = k.pass_out in let counts = k.counts in
      let o : p'.out ≡ p.out - 1 = ap (λ (v : PassView I F N). v.out) join in
      let seen : p'.seen ≡ longer p.seen q.seen = ap (λ (v : PassView I F N). v.seen) join in
      let begins : IsPrefix p.seen p'.seen = subst (λ (l : List I). IsPrefix p.seen l) (sym seen) one.0 in
      let begins' : IsPrefix q.seen p'.seen = subst (λ (l : List I). IsPrefix q.seen l) (sym seen) one.1 in
      let len = r.given_is in record {
        later = record {
          turnstile = ap (λ (v : PassView I F N). v.turnstile) join ∙ k.later.turnstile;
          is_first = ap (λ (v : PassView I F N). v.is_first) join ∙ k.later.is_first;
          fixed = ap (λ (v : PassView I F N). v.fixed) join ∙ k.later.fixed;
          opening = ap (λ (v : PassView I F N). v.opening) join ∙ k.later.opening;
          begins = prefix_trans first.seen p.seen p'.seen k.later.begins begins;
        };
        no_more = omega arith;
        pass_out = omega arith;
        counts = omega arith;
        intake_is = intake_stays before i a.is_over a'.is_over a.faults a'.faults over n k.intake_is;
        rows = rows ++ s ∷ [];
        served_are = record {
          each = All-append (WasServed served p'.seen) rows (s ∷ [])
              (λ j d h. let t = r.each j d h in (t.0, prefix_trans t.0 p.seen p'.seen t.1 begins, t.2))
              (All-cons (WasServed served p'.seen) s [] (q.seen, begins', was) (All-nil (WasServed served p'.seen)));
          short = All-append (λ (t : ServedPair N). t.wanting ≡ true → w' ≡ true) rows (s ∷ [])
              (λ j d h e. more (r.short j d h e))
              (All-cons (λ (t : ServedPair N). t.wanting ≡ true → w' ≡ true) s [] short (All-nil (λ (t : ServedPair N). t.wanting ≡ true → w' ≡ true)));
          turns = ap (λ (v : PassView I F N). v.turns) join ∙ (λ j. r.turns j ++ q.turns) ∙ ap (λ l. flat_map (λ (t : ServedPair N). t.turns) rows ++ l) (sym (append-nil q.turns)) ∙ sym (flat_map-append (λ (t : ServedPair N). t.turns) rows (s ∷ []));
          given_is = length-append rows (s ∷ []) ∙ (λ j. len j + 1);
          out = back_out a.pairs a'.pairs x taken back r.out;
          back = back_more a.pairs a'.pairs x taken given rows s lt len refl back r.out r.back;
        };
      }

  -- all pairs were given back
  pub leaves : (a : AcceptorTold) (p : PassView I F N) (taken given : ℕ) (i : Intake) (w w' : Bool) → taken ≡ given → (w ≡ true → w' ≡ true) → Keeps a p taken given i w →
      AllServed served first others before a p i w'
  leaves a p taken given i w w' even more k =
      let outs = k.pass_out in let r = k.served_are in record {
        later = k.later;
        pass_out = omega arith;
        counts = k.counts;
        intake_is = k.intake_is;
        count = given;
        rows = k.rows;
        served_are = record {
          each = r.each;
          short = λ j d h e. more (r.short j d h e);
          turns = r.turns;
          given_is = r.given_is;
          out = subst (λ (n : ℕ). IfSome a.pairs (λ t. length t.out ≡ n)) even r.out;
          back = r.back;
        };
      }

  -- another pass that made no turn was joined
  pub joins : (a : AcceptorTold) (p p' q : PassView I F N) (i : Intake) (w : Bool) → 0 < others → q.turns ≡ [] → p' ≡ joined p q → AreOneList p.seen q.seen →
      AllServed served first others before a p i w → AllServed served first (others - 1) before a p' i w
  joins a p p' q i w some none join one k =
      let r = k.served_are in let outs = k.pass_out in
      let o : p'.out ≡ p.out - 1 = ap (λ (v : PassView I F N). v.out) join in
      let seen : p'.seen ≡ longer p.seen q.seen = ap (λ (v : PassView I F N). v.seen) join in
      let begins : IsPrefix p.seen p'.seen = subst (λ (l : List I). IsPrefix p.seen l) (sym seen) one.0 in record {
        later = record {
          turnstile = ap (λ (v : PassView I F N). v.turnstile) join ∙ k.later.turnstile;
          is_first = ap (λ (v : PassView I F N). v.is_first) join ∙ k.later.is_first;
          fixed = ap (λ (v : PassView I F N). v.fixed) join ∙ k.later.fixed;
          opening = ap (λ (v : PassView I F N). v.opening) join ∙ k.later.opening;
          begins = prefix_trans first.seen p.seen p'.seen k.later.begins begins;
        };
        pass_out = omega arith;
        counts = k.counts;
        intake_is = k.intake_is;
        count = k.count;
        rows = k.rows;
        served_are = record {
          each = λ j d h. let t = r.each j d h in (t.0, prefix_trans t.0 p.seen p'.seen t.1 begins, t.2);
          short = r.short;
          turns = ap (λ (v : PassView I F N). v.turns) join ∙ (λ j. p.turns ++ none j) ∙ append-nil p.turns ∙ r.turns;
          given_is = r.given_is;
          out = r.out;
          back = r.back;
        };
      }

  -- the turnstile was closed, by what its `close` ensures
  pub closes : (adds : N → Option I) (a : AcceptorTold) (p : PassView I F N) (i : Intake) (w : Bool) (items : List I) → items ≡ p.seen →
      AreAllOnce p.opening (length p.seen) (places_of adds p.turns) → Stand adds p.seen p.turns →
      AllServed served first others before a p i w → IsClosed served adds first a items w
  closes adds a p i w items is own stand k =
      let r = k.served_are in let turns = flat_map (λ (s : ServedPair N). s.turns) k.rows in record {
        begins = subst (λ (l : List I). IsPrefix first.seen l) (sym is) k.later.begins;
        count = k.count;
        rows = k.rows;
        each = subst (λ (l : List I). All (WasServed served l) k.rows) (sym is) r.each;
        short = r.short;
        out = same_counts a.pairs k.count k.rows r.given_is r.out r.back;
        back = r.back;
        stand = subst (λ (l : List I). Stand adds l turns) (sym is) (subst (λ (ts : List (Noted N)). Stand adds p.seen ts) r.turns stand);
        own = subst (λ (o : ℕ). AreAllOnce o (length items) (places_of adds turns)) k.later.opening
            (subst (λ (l : List I). AreAllOnce p.opening (length l) (places_of adds turns)) (sym is) (subst (λ (ts : List (Noted N)). AreAllOnce p.opening (length p.seen) (places_of adds ts)) r.turns own));
      }
    where
      same_counts : (o : Option (PairsTold PairTold)) (n : ℕ) (rows : List (ServedPair N)) → length rows ≡ n → IfSome o (λ t. length t.out ≡ n) → IfSome o (λ t. t.back ≡ map (λ (s : ServedPair N). s.told) rows) → IfSome o (λ t. length t.out ≡ length t.back)
      same_counts None n rows e h k = tt
      same_counts (Some t) n rows e h k = h ∙ sym e ∙ sym (length-map rows (λ (s : ServedPair N). s.told)) ∙ sym (ap length k)
