-- What an acceptor has back after a turn.
use Rattle.std.proofs.Common.{◌≡◌, ◌+◌, List, [], ◌∷◌, ◌++◌, if◌then◌else◌, length, length-append, map, Bool, true, sym, ap, ◌∙◌, subst, arith, Option, Some, None, Ok}
use Rattle.std.specs.Prelude.{IfSome, nat_lt}
use Rattle.std.proofs.lemmas.Bool.{lt-ltb}
use Rattle.std.proofs.lemmas.List.{map-append, length-map}
use Rattle.adx_io.specs.Streams.{WhereTold}
use Rattle.adx_links.specs.Pairs.{PairTold, PairsTold, GivesOut, GetsBack}
use Rattle.command_bidder.specs.Connections.{Connection}

abbrev pub Back : List Connection → Option (PairsTold PairTold) → Type 0
Back cs o = IfSome o (λ p. (p.out ≡ map (λ (c : Connection). c.came) cs) × (p.back ≡ map (λ (c : Connection). c.left) cs))

-- a pair was given out, and then given back
pub gets_back : (o m n : Option (PairsTold PairTold)) (c : Connection) → WhereTold o m (GivesOut (Ok (Some c.came))) → WhereTold m n (GetsBack c.left) →
    (cs : List Connection) → Back cs o → Back (cs ++ c ∷ []) n
gets_back None m n c gives back cs h =
    let none : n ≡ None = subst (λ (q : Option (PairsTold PairTold)). WhereTold q n (GetsBack c.left)) gives back in
    subst (λ (q : Option (PairsTold PairTold)). Back (cs ++ c ∷ []) q) (sym none) tt
gets_back (Some t) None n c gives back cs h = absurd gives
gets_back (Some t) (Some u) None c gives back cs h = absurd back
gets_back (Some t) (Some u) (Some v) c gives back cs h =
    let out : u.out ≡ t.out ++ c.came ∷ [] = ap (λ (p : PairsTold PairTold). p.out) gives in
    let kept : u.back ≡ t.back = ap (λ (p : PairsTold PairTold). p.back) gives in
    let long : length u.out ≡ length t.out + 1 = ap length out ∙ length-append t.out (c.came ∷ []) in
    let n_out : length t.out ≡ length cs = ap length h.0 ∙ length-map cs (λ (c : Connection). c.came) in
    let n_back : length u.back ≡ length cs = ap length kept ∙ ap length h.1 ∙ length-map cs (λ (c : Connection). c.left) in
    let less : nat_lt (length u.back) (length u.out) ≡ true = lt-ltb (length u.back) (length u.out) (omega arith) in
    let whole : v ≡ record u { back = u.back ++ c.left ∷ [] } =
    back ∙ ap (λ (b : Bool). if b then record u { back = u.back ++ c.left ∷ [] } else u) less in (
      ap (λ (p : PairsTold PairTold). p.out) whole ∙ out ∙ ap (λ (l : List PairTold). l ++ c.came ∷ []) h.0 ∙ sym (map-append (λ (c : Connection). c.came) cs (c ∷ [])),
      ap (λ (p : PairsTold PairTold). p.back) whole ∙ ap (λ (l : List PairTold). l ++ c.left ∷ []) (kept ∙ h.1) ∙ sym (map-append (λ (c : Connection). c.left) cs (c ∷ [])),
    )

-- no pair came
pub stays_told : (o n : Option (PairsTold PairTold)) → WhereTold o n (λ t u. u ≡ t) → n ≡ o
stays_told None n e = e
stays_told (Some t) None e = absurd e
stays_told (Some t) (Some u) e = ap Some e

pub still_back : (o n : Option (PairsTold PairTold)) → WhereTold o n (λ t u. u ≡ t) → (cs : List Connection) → Back cs o → Back cs n
still_back o n e cs h = subst (λ (q : Option (PairsTold PairTold)). Back cs q) (sym (stays_told o n e)) h

-- none came yet
pub none_back : (o : Option (PairsTold PairTold)) → IfSome o (λ p. (p.out ≡ []) × (p.back ≡ [])) → Back [] o
none_back None h = tt
none_back (Some t) h = h
