-- What a reference in an Option points to.
use Rattle.std.proofs.Common.{◌≡◌, sym, ap, ◌∙◌, Option, Some, None}
use Rattle.std.specs.Option.{IsSome, option_copied}
use denote.Ref.{Bor}

pub there : {X : Type 0} (o : Option (Bor X)) (x : X) → option_copied o ≡ Some x → IsSome o
there None x h = absurd (cc)
there (Some r) x h = search

pub pointed : {X : Type 0} (o : Option (Bor X)) (r : Bor X) (x : X) → o ≡ Some r → option_copied o ≡ Some x → r.now ≡ x
pointed o r x is h =
    let same : Some r.now ≡ Some x = sym (ap option_copied is) ∙ h in
    cc
