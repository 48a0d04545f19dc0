-- The pieces of a document, put at the end one after the other.
use Rattle.std.proofs.Common.{◌≡◌, ℕ, List, [], ◌∷◌, ◌++◌, map, append-nil, append_assoc}
use Rattle.std.specs.List.{enumerate_from, flat_map}
use Rattle.std.proofs.lemmas.List.Concat.{flat_map-append, flat_map-cons}
use Rattle.formats.specs.Parts.{ended}
use Rattle.dual_cert.specs.declared.cert.Cert.{Cert}
use Rattle.dual_cert.specs.Lines.{alpha_line, beta_line, bound_line, cert_front, cert_rest, document, head_line}

pieces_joined : (f : List ℕ → List ℕ) (a z : List ℕ) (xs ys : List (List ℕ)) → flat_map f ((a ∷ (xs ++ ys)) ++ z ∷ []) ≡ (f a ++ flat_map f xs) ++ (flat_map f ys ++ f z)
pieces_joined f a z xs ys = simp (flat_map-append, flat_map-cons, append_assoc, append-nil)

-- a document by its pieces
pub in_pieces : (c : Cert) → document c ≡ cert_front c ++ cert_rest c
in_pieces c =
    pieces_joined ended head_line (bound_line c.bound) (map alpha_line (enumerate_from 0 c.alphas)) (map beta_line (enumerate_from 0 c.betas))
