-- The pieces of a document, put at the end one after the other.
use Rattle.std.proofs.Common.{◌≡◌, ℕ, List, [], ◌∷◌, ◌++◌, length, map, append-nil, append_assoc, ap, sym, ◌∙◌}
use Rattle.std.specs.List.{enumerate_from, flat_map}
use Rattle.std.proofs.lemmas.List.Concat.{flat_map-append, flat_map-cons}
use Rattle.formats.specs.Parts.{ended}
use Rattle.bid_record.specs.declared.record.Record.{Record}
use Rattle.bid_record.specs.Lines.{campaign_line, day_line, document, end_line, head_line, imp_line, record_front, record_rest}

-- the pieces of a document, put at the end one after the other
pub pieces_joined : (f : List ℕ → List ℕ) (a b z : List ℕ) (xs ys : List (List ℕ)) → [] ++ f a ++ f b ++ flat_map f xs ++ flat_map f ys ++ f z ≡ flat_map f ((a ∷ (b ∷ (xs ++ ys))) ++ z ∷ [])
pieces_joined f a b z xs ys = simp (flat_map-append, flat_map-cons, append_assoc, append-nil)

-- a document by its pieces
pub in_pieces : (r : Record) → document r ≡ record_front r ++ record_rest r
in_pieces r =
    let campaigns : List (List ℕ) = map campaign_line (enumerate_from 0 r.campaigns) in
    let imps : List (List ℕ) = map imp_line (enumerate_from 0 r.imps) in
    let last = ended (end_line (length r.imps)) in
    sym (pieces_joined ended (head_line r.format) (day_line r.day) (end_line (length r.imps)) campaigns imps)
    ∙ append_assoc (ended (head_line r.format) ++ ended (day_line r.day) ++ flat_map ended campaigns) (flat_map ended imps) last

-- three appends, one after the other, from nothing
pub three : (t s0 s1 s2 s3 a b c : List ℕ) → t ≡ s3 → s0 ≡ [] → s1 ≡ s0 ++ a → s2 ≡ s1 ++ b → s3 ≡ s2 ++ c → t ≡ a ++ (b ++ c)
three t s0 s1 s2 s3 a b c ht h0 h1 h2 h3 =
    let e1 : s1 ≡ a = h1 ∙ ap (λ (x : List ℕ). x ++ a) h0 in
    let e2 : s2 ≡ a ++ b = h2 ∙ ap (λ (x : List ℕ). x ++ b) e1 in
    ht ∙ (h3 ∙ ap (λ (x : List ℕ). x ++ c) e2) ∙ append_assoc a b c
