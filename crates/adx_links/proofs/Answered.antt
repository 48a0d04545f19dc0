-- What an acceptor reports once a call has answered, from what the call ensures.
use Rattle.std.proofs.Common.{◌≡◌, ℕ, List, [], ◌∷◌, ◌++◌, if◌then◌else◌, length, map, Bool, true, false, refl, sym, ap, ◌∙◌, subst, Option, Some, None, Result, Ok, Err}
use Rattle.std.specs.Prelude.{IfSome, nat_lt, option_map}
use Rattle.std.proofs.lemmas.List.{map-append, length-map}
use Rattle.adx_io.specs.declared.failed.Failed.{Failed}
use Rattle.adx_io.specs.Streams.{HasCause, WhereTold}
use Rattle.adx_links.specs.Pairs.{PairTold, PairsTold, AcceptorTold, GivesOut, GetsBack, acceptor_told, is_over_after, pairs_told}

-- an acceptor answered, by what it reports before and now
pub record Accepts (t u : AcceptorTold) (r : Result (Option PairTold) Failed) : Type 0 where
  pub gives : WhereTold t.pairs u.pairs (GivesOut r)
  pub over : u.is_over ≡ is_over_after t.is_over r
  pub cause : HasCause t.faults u.faults r

-- an acceptor got a pair back
pub record Regains (t u : AcceptorTold) (x : PairTold) : Type 0 where
  pub back : WhereTold t.pairs u.pairs (GetsBack x)
  pub over : u.is_over ≡ t.is_over
  pub faults : u.faults ≡ t.faults

module _ {A P : Type 0} (faults : A → ℕ) (is_over : A → Bool) (pairs : A → Option (PairsTold P)) (told : P → PairTold) where
  abbrev tells : A → AcceptorTold
  tells = acceptor_told faults is_over pairs told

  lift_out : (o o' : Option (PairsTold P)) (x : P) → WhereTold o o' (GivesOut (Ok (Some x))) → WhereTold (option_map (pairs_told told) o) (option_map (pairs_told told) o') (GivesOut (Ok (Some (told x))))
  lift_out None o' x e = ap (option_map (pairs_told told)) e
  lift_out (Some t) None x e = absurd e
  lift_out (Some t) (Some u) x e = ap (pairs_told told) e ∙ ap (λ (l : List PairTold). record { out = l; back = map told t.back }) (map-append told t.out (x ∷ []))

  lift_same : (o o' : Option (PairsTold P)) → WhereTold o o' (λ t u. u ≡ t) → WhereTold (option_map (pairs_told told) o) (option_map (pairs_told told) o') (λ t u. u ≡ t)
  lift_same None o' e = ap (option_map (pairs_told told)) e
  lift_same (Some t) None e = absurd e
  lift_same (Some t) (Some u) e = ap (pairs_told told) e

  lift_back : (o o' : Option (PairsTold P)) (x : P) → WhereTold o o' (GetsBack x) → WhereTold (option_map (pairs_told told) o) (option_map (pairs_told told) o') (GetsBack (told x))
  lift_back None o' x e = ap (option_map (pairs_told told)) e
  lift_back (Some t) None x e = absurd e
  lift_back (Some t) (Some u) x e =
      ap (pairs_told told) e ∙ go (nat_lt (length t.back) (length t.out))
      ∙ (λ i. if nat_lt (sym (length-map t.back told) i) (sym (length-map t.out told) i) then record (pairs_told told t) { back = map told t.back ++ told x ∷ [] } else pairs_told told t)
    where
      go : (b : Bool) → pairs_told told (if b then record t { back = t.back ++ x ∷ [] } else t) ≡ (if b then record (pairs_told told t) { back = map told t.back ++ told x ∷ [] } else pairs_told told t)
      go true = ap (λ (l : List PairTold). record { out = map told t.out; back = l }) (map-append told t.back (x ∷ []))
      go false = refl

  -- a pair came
  pub accepts_pair : (a a' : A) (r : Result (Option P) Failed) (x : P) → r ≡ Ok (Some x) → WhereTold (pairs a) (pairs a') (GivesOut r) → is_over a' ≡ is_over_after (is_over a) r → HasCause (faults a) (faults a') r → Accepts (tells a) (tells a') (Ok (Some (told x)))
  accepts_pair a a' r x is gives over cause =
      let caused = subst (λ (q : Result (Option P) Failed). HasCause (faults a) (faults a') q) is cause in
      record {
        gives = lift_out (pairs a) (pairs a') x (subst (λ (q : Result (Option P) Failed). WhereTold (pairs a) (pairs a') (GivesOut q)) is gives);
        over = over ∙ ap (is_over_after (is_over a)) is;
        cause = record { later = caused.later; failed = tt; passed = caused.passed };
      }

  -- none came
  pub accepts_none : (a a' : A) (r : Result (Option P) Failed) → r ≡ Ok None → WhereTold (pairs a) (pairs a') (GivesOut r) → is_over a' ≡ is_over_after (is_over a) r → HasCause (faults a) (faults a') r → Accepts (tells a) (tells a') (Ok None)
  accepts_none a a' r is gives over cause =
      let caused = subst (λ (q : Result (Option P) Failed). HasCause (faults a) (faults a') q) is cause in
      record {
        gives = lift_same (pairs a) (pairs a') (subst (λ (q : Result (Option P) Failed). WhereTold (pairs a) (pairs a') (GivesOut q)) is gives);
        over = over ∙ ap (is_over_after (is_over a)) is;
        cause = record { later = caused.later; failed = tt; passed = caused.passed };
      }

  -- it failed
  pub accepts_fault : (a a' : A) (r : Result (Option P) Failed) (e : Failed) → r ≡ Err e → WhereTold (pairs a) (pairs a') (GivesOut r) → is_over a' ≡ is_over_after (is_over a) r → HasCause (faults a) (faults a') r → Accepts (tells a) (tells a') (Err e)
  accepts_fault a a' r e is gives over cause =
      let caused = subst (λ (q : Result (Option P) Failed). HasCause (faults a) (faults a') q) is cause in
      record {
        gives = lift_same (pairs a) (pairs a') (subst (λ (q : Result (Option P) Failed). WhereTold (pairs a) (pairs a') (GivesOut q)) is gives);
        over = over ∙ ap (is_over_after (is_over a)) is;
        cause = record { later = caused.later; failed = caused.failed; passed = tt };
      }

  -- a pair was given back
  pub regains : (a a' : A) (x : P) → WhereTold (pairs a) (pairs a') (GetsBack x) → is_over a' ≡ is_over a → faults a' ≡ faults a → Regains (tells a) (tells a') (told x)
  regains a a' x back over n =
      record { back = lift_back (pairs a) (pairs a') x back; over = over; faults = n }

  -- it is fresh
  pub starts : (a : A) (before : ℕ) → faults a ≡ before → IfSome (pairs a) (λ t. (t.out ≡ []) × (t.back ≡ [])) → ((tells a).faults ≡ before) × IfSome (tells a).pairs (λ t. (t.out ≡ []) × (t.back ≡ []))
  starts a before n fresh =
      (n, go (pairs a) fresh)
    where
      go : (o : Option (PairsTold P)) → IfSome o (λ t. (t.out ≡ []) × (t.back ≡ [])) → IfSome (option_map (pairs_told told) o) (λ t. (t.out ≡ []) × (t.back ≡ []))
      go None h = tt
      go (Some t) h = (ap (map told) h.0, ap (map told) h.1)
