-- What was put at the end, one piece behind the other.
use Rattle.std.proofs.Common.{◌≡◌, ℕ, List, [], ◌∷◌, ◌++◌, refl, sym, ap, ◌∙◌, append_assoc, append-nil, codes}
use Rattle.adx_json.specs.Tree.{Members, no_members, member}
use Rattle.adx_units.specs.JsonTexts.{text_spelling}
use Rattle.adx_json.specs.Spelling.{spelling, more_members_spelling}
use Rattle.rtb_response.specs.ExchangeAnswer.{followed_by}

-- three pieces, with nothing behind them
pub three : (o a b c x y z : List ℕ) → x ≡ o ++ a → y ≡ x ++ b → z ≡ y ++ c → z ≡ o ++ (a ++ (b ++ (c ++ [])))
three o a b c x y z ex ey ez =
    ez ∙ ap (λ l. l ++ c) (ey ∙ ap (λ l. l ++ b) ex) ∙ append_assoc (o ++ a) b c ∙ append_assoc o a (b ++ c)
    ∙ ap (λ l. o ++ (a ++ (b ++ l))) (sym (append-nil c))

-- five pieces
pub five : (o a b c d e v w x y z : List ℕ) → v ≡ o ++ a → w ≡ v ++ b → x ≡ w ++ c → y ≡ x ++ d → z ≡ y ++ e → z ≡ o ++ (a ++ (b ++ (c ++ (d ++ e))))
five o a b c d e v w x y z ev ew ex ey ez =
    ez ∙ ap (λ l. l ++ e) (ey ∙ ap (λ l. l ++ d) (ex ∙ ap (λ l. l ++ c) (ew ∙ ap (λ l. l ++ b) ev)))
    ∙ append_assoc (((o ++ a) ++ b) ++ c) d e ∙ append_assoc ((o ++ a) ++ b) c (d ++ e) ∙ append_assoc (o ++ a) b (c ++ (d ++ e)) ∙ append_assoc o a (b ++ (c ++ (d ++ e)))

-- members behind others, and what stands behind them
pub more_followed : (ms ns : Members) → more_members_spelling (followed_by ms ns) ≡ more_members_spelling ms ++ more_members_spelling ns
more_followed no_members ns = refl
more_followed (member n t ms) ns =
    let rest = more_members_spelling ns in
    ap (λ l. 44 ∷ (text_spelling n ++ 58 ∷ (spelling t ++ l))) (more_followed ms ns)
    ∙ ap (λ l. 44 ∷ (text_spelling n ++ 58 ∷ l)) (sym (append_assoc (spelling t) (more_members_spelling ms) rest))
    ∙ ap (λ l. 44 ∷ l) (sym (append_assoc (text_spelling n) (58 ∷ (spelling t ++ more_members_spelling ms)) rest))

-- the first members of an award's bid, and the others behind them
pub own_then : (id imp price : List ℕ) (ms : Members) →
    (text_spelling (codes "id") ++ 58 ∷ (id ++ 44 ∷ (text_spelling (codes "impid") ++ 58 ∷ (imp ++ 44 ∷ (text_spelling (codes "price") ++ 58 ∷ price))))) ++ more_members_spelling ms
    ≡ text_spelling (codes "id") ++ 58 ∷ (id ++ 44 ∷ (text_spelling (codes "impid") ++ 58 ∷ (imp ++ 44 ∷ (text_spelling (codes "price") ++ 58 ∷ (price ++ more_members_spelling ms)))))
own_then id imp price ms = simp append_assoc

-- the exchange's answer round its id and its seats
pub whole_answer : (id seats : List ℕ) →
    123 ∷ ((text_spelling (codes "id") ++ 58 ∷ (id ++ 44 ∷ (text_spelling (codes "seatbid") ++ 58 ∷ ((91 ∷ (seats ++ 93 ∷ [])) ++ 44 ∷ (text_spelling (codes "cur") ++ 58 ∷ (text_spelling (codes "USD") ++ [])))))) ++ 125 ∷ [])
    ≡ codes "{\"id\":" ++ (id ++ (codes ",\"seatbid\":[" ++ (seats ++ codes "],\"cur\":\"USD\"}")))
whole_answer id seats = simp append_assoc
