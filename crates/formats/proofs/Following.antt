-- A document is cut into lines in one way, so that what its lines say is determined.
use Rattle.std.proofs.Common.{◌≡◌, ◌≢◌, ℕ, List, [], ◌∷◌, ◌++◌, ◌⊎◌, inl, inr, refl, sym, ap, ap₂, ◌∙◌, subst, append_assoc, append-nil}
use Rattle.std.specs.List.{flat_map}
use Rattle.std.proofs.lemmas.List.Concat.{flat_map-append, flat_map-cons}
use Rattle.std.proofs.lemmas.List.Elements.{All-head, All-tail}
use Rattle.formats.specs.Parts.{ended, IsOneLine}
use Rattle.formats.specs.Following.{Leads, no_line, line_then, FailsAt, IsCut}

-- a line that ends and what comes after it are distinguished in one way
pub one_cut : (a b x y : List ℕ) → IsOneLine a → IsOneLine b → a ++ 10 ∷ x ≡ b ++ 10 ∷ y → (a ≡ b) × (x ≡ y)
one_cut [] [] x y ha hb e = (refl, cc)
one_cut [] (c ∷ b) x y ha hb e = let same : c ≡ 10 = cc in absurd (All-head (λ n. n ≢ 10) c b hb same)
one_cut (c ∷ a) [] x y ha hb e = let same : c ≡ 10 = cc in absurd (All-head (λ n. n ≢ 10) c a ha same)
one_cut (c ∷ a) (d ∷ b) x y ha hb e =
    let heads : c ≡ d = cc in
    let tails : a ++ 10 ∷ x ≡ b ++ 10 ∷ y = cc in
    let rest = one_cut a b x y (All-tail (λ n. n ≢ 10) c a ha) (All-tail (λ n. n ≢ 10) d b hb) tails in
    (ap₂ (λ (h : ℕ) (t : List ℕ). h ∷ t) heads rest.0, rest.1)

-- a line that ends is in no bytes without a newline
pub no_end_in : (piece a y : List ℕ) → IsOneLine piece → piece ≡ a ++ 10 ∷ y → ⊥
no_end_in [] [] y h e = cc
no_end_in [] (c ∷ a) y h e = cc
no_end_in (b ∷ piece) [] y h e = let same : b ≡ 10 = cc in All-head (λ n. n ≢ 10) b piece h same
no_end_in (b ∷ piece) (c ∷ a) y h e = let tails : piece ≡ a ++ 10 ∷ y = cc in no_end_in piece a y (All-tail (λ n. n ≢ 10) b piece h) tails

pub first_ended : (line : List ℕ) (lines : List (List ℕ)) (rest : List ℕ) → flat_map ended (line ∷ lines) ++ rest ≡ line ++ 10 ∷ (flat_map ended lines ++ rest)
first_ended line lines rest =
    ap (λ (t : List ℕ). t ++ rest) (flat_map-cons ended line lines)
    ∙ append_assoc (ended line) (flat_map ended lines) rest
    ∙ append_assoc line (10 ∷ []) (flat_map ended lines ++ rest)

-- what makes the lines of documents say one thing
pub record IsGrammar {T : Type 0} (Follows : T → List ℕ → T → Type 0) : Type 0 where
  pub one_line : (told next : T) (line : List ℕ) → Follows told line next → IsOneLine line
  pub same : (told next other : T) (line : List ℕ) → Follows told line next → Follows told line other → next ≡ other

-- of two runs of lines at the front of the same bytes, one goes on from where the other ends
pub apart : {T : Type 0} (Follows : T → List ℕ → T → Type 0) → IsGrammar Follows → (t u v : T) (ls ms : List (List ℕ)) (x y : List ℕ) → Leads Follows t ls u → Leads Follows t ms v → flat_map ended ls ++ x ≡ flat_map ended ms ++ y
    → ((more : List (List ℕ)) × Leads Follows u more v × (x ≡ flat_map ended more ++ y)) ⊎ ((more : List (List ℕ)) × Leads Follows v more u × (y ≡ flat_map ended more ++ x))
apart Follows g t u v [] ms x y (no_line told) b e = inl (ms, b, e)
apart Follows g t u v (l ∷ ls) [] x y a (no_line told) e = inr (l ∷ ls, a, sym e)
apart Follows g t u v (l ∷ ls) (m ∷ ms) x y (line_then t0 n u0 l0 ls0 f a) (line_then t1 k v1 m1 ms1 h b) e =
    let whole : l ++ 10 ∷ (flat_map ended ls ++ x) ≡ m ++ 10 ∷ (flat_map ended ms ++ y) = sym (first_ended l ls x) ∙ e ∙ first_ended m ms y in
    let cut = one_cut l m (flat_map ended ls ++ x) (flat_map ended ms ++ y) (g.one_line t n l f) (g.one_line t k m h) whole in
    let here : Follows t l k = subst (λ (w : List ℕ). Follows t w k) (sym cut.0) h in
    let next : n ≡ k = g.same t n k l f here in
    let later = subst (λ (w : _). Leads Follows w ms v) (sym next) b in
    apart Follows g n u v ls ms x y a later cut.1

-- one more line at the end
pub leads_more : {T : Type 0} (Follows : T → List ℕ → T → Type 0) (t u v : T) (lines : List (List ℕ)) (line : List ℕ) → Leads Follows t lines u → Follows u line v → Leads Follows t (lines ++ line ∷ []) v
leads_more Follows t u v [] line (no_line told) f = line_then t v v line [] f (no_line v)
leads_more Follows t u v (l ∷ lines) line (line_then t0 n u0 l0 ls0 h a) f = line_then t n v l (lines ++ line ∷ []) h (leads_more Follows n u v lines line a f)

-- lines after lines
pub leads_join : {T : Type 0} (Follows : T → List ℕ → T → Type 0) (t u v : T) (ls ms : List (List ℕ)) → Leads Follows t ls u → Leads Follows u ms v → Leads Follows t (ls ++ ms) v
leads_join Follows t u v [] ms (no_line told) b = b
leads_join Follows t u v (l ∷ ls) ms (line_then t0 n u0 l0 ls0 f a) b = line_then t n v l (ls ++ ms) f (leads_join Follows n u v ls ms a b)

-- nothing may follow a whole document, and a line that fails doesn't follow
pub record IsEnd {T : Type 0} (Follows : T → List ℕ → T → Type 0) (IsWhole : T → Type 0) : Type 0 where
  pub grammar : IsGrammar Follows
  pub last : (told next : T) (line : List ℕ) → IsWhole told → Follows told line next → ⊥

stays : {T : Type 0} (Follows : T → List ℕ → T → Type 0) (IsWhole : T → Type 0) → IsEnd Follows IsWhole → (t u : T) (lines : List (List ℕ)) → IsWhole t → Leads Follows t lines u → t ≡ u
stays Follows IsWhole end t u [] w (no_line told) = refl
stays Follows IsWhole end t u (l ∷ lines) w (line_then t0 n u0 l0 ls0 f a) = absurd (end.last t n l w f)

next_fits : {T : Type 0} (Follows : T → List ℕ → T → Type 0) (IsWhole : T → Type 0) → IsEnd Follows IsWhole → (t u : T) (line rest rest' : List ℕ) (lines : List (List ℕ)) → (IsWhole t → ⊥) → IsWhole u → IsOneLine line → Leads Follows t lines u → ended line ++ rest ≡ flat_map ended lines ++ rest' → (next : T) × Follows t line next
next_fits Follows IsWhole end t u line rest rest' [] unfinished w one (no_line told) e = absurd (unfinished w)
next_fits Follows IsWhole end t u line rest rest' (l ∷ lines) unfinished w one (line_then t0 n u0 l0 ls0 f a) e =
    let cut = one_cut line l rest (flat_map ended lines ++ rest') one (end.grammar.one_line t n l f) (sym (append_assoc line (10 ∷ []) rest) ∙ e ∙ first_ended l lines rest') in
    (n, subst (λ (w : List ℕ). Follows t w n) (sym cut.0) f)

-- no line of a whole document fails
pub no_fault : {T : Type 0} (Follows : T → List ℕ → T → Type 0) (IsWhole : T → Type 0) → IsEnd Follows IsWhole → (Fails : T → List ℕ → Type 0) → ((t u : T) (line : List ℕ) → Fails t line → Follows t line u → ⊥) → (start whole : T) (lines : List (List ℕ)) (rest bytes : List ℕ) (n : ℕ) → IsWhole whole → Leads Follows start lines whole → bytes ≡ flat_map ended lines ++ rest → FailsAt Follows start IsWhole Fails bytes n → ⊥
no_fault Follows IsWhole end Fails never start whole lines rest bytes n w leads e f =
    elim (apart Follows end.grammar start f.told whole f.lines lines (ended f.line ++ f.rest) rest f.before leads (sym f.document ∙ e)) [
      | inl further ↦
          let next = next_fits Follows IsWhole end f.told whole f.line f.rest rest further.0 f.open_ended w f.one_line further.1 further.2 in
          never f.told next.0 f.line f.fails next.1
      | inr further ↦ f.open_ended (subst IsWhole (stays Follows IsWhole end whole f.told further.0 w further.1) w)
    ]

no_next : {T : Type 0} (Follows : T → List ℕ → T → Type 0) (IsWhole : T → Type 0) → (t u : T) (piece rest : List ℕ) (lines : List (List ℕ)) → (IsWhole t → ⊥) → IsWhole u → IsOneLine piece → Leads Follows t lines u → piece ≡ flat_map ended lines ++ rest → ⊥
no_next Follows IsWhole t u piece rest [] unfinished w one (no_line told) e = unfinished w
no_next Follows IsWhole t u piece rest (l ∷ lines) unfinished w one (line_then t0 n u0 l0 ls0 f a) e = no_end_in piece l (flat_map ended lines ++ rest) one (e ∙ first_ended l lines rest)

-- a whole document isn't cut
pub no_cut : {T : Type 0} (Follows : T → List ℕ → T → Type 0) (IsWhole : T → Type 0) → IsEnd Follows IsWhole → (start whole : T) (lines : List (List ℕ)) (rest bytes : List ℕ) → IsWhole whole → Leads Follows start lines whole → bytes ≡ flat_map ended lines ++ rest → IsCut Follows start IsWhole bytes → ⊥
no_cut Follows IsWhole end start whole lines rest bytes w leads e f =
    elim (apart Follows end.grammar start f.told whole f.lines lines f.piece rest f.before leads (sym f.document ∙ e)) [
      | inl further ↦ no_next Follows IsWhole f.told whole f.piece rest further.0 f.open_ended w f.no_newline further.1 further.2
      | inr further ↦ f.open_ended (subst IsWhole (stays Follows IsWhole end whole f.told further.0 w further.1) w)
    ]

nothing_left : {T : Type 0} (Follows : T → List ℕ → T → Type 0) (IsWhole : T → Type 0) → IsEnd Follows IsWhole → (t u : T) (lines : List (List ℕ)) (x : List ℕ) → IsWhole t → Leads Follows t lines u → flat_map ended lines ++ x ≡ x
nothing_left Follows IsWhole end t u [] x w (no_line told) = refl
nothing_left Follows IsWhole end t u (l ∷ lines) x w (line_then t0 n u0 l0 ls0 f a) = absurd (end.last t n l w f)

-- two whole documents at the front of the same bytes say the same, and the same comes after them
pub one_document : {T : Type 0} (Follows : T → List ℕ → T → Type 0) (IsWhole : T → Type 0) → IsEnd Follows IsWhole → (start u v : T) (ls ms : List (List ℕ)) (x y : List ℕ) → IsWhole u → IsWhole v → Leads Follows start ls u → Leads Follows start ms v → flat_map ended ls ++ x ≡ flat_map ended ms ++ y → (u ≡ v) × (x ≡ y)
one_document Follows IsWhole end start u v ls ms x y wu wv a b e =
    elim (apart Follows end.grammar start u v ls ms x y a b e) [
      | inl further ↦ (stays Follows IsWhole end u v further.0 wu further.1, further.2 ∙ nothing_left Follows IsWhole end u v further.0 y wu further.1)
      | inr further ↦ (sym (stays Follows IsWhole end v u further.0 wv further.1), sym (further.2 ∙ nothing_left Follows IsWhole end v u further.0 x wv further.1))
    ]

-- a line more of the bytes
pub pushed : (bytes left line behind : List ℕ) (lines : List (List ℕ)) → bytes ≡ flat_map ended lines ++ left → left ≡ line ++ 10 ∷ behind → bytes ≡ flat_map ended (lines ++ line ∷ []) ++ behind
pushed bytes left line behind lines whole cut =
    let one : ended line ++ behind ≡ line ++ 10 ∷ behind = append_assoc line (10 ∷ []) behind in
    let more : flat_map ended (lines ++ line ∷ []) ≡ flat_map ended lines ++ ended line = flat_map-append ended lines (line ∷ []) ∙ ap (λ (t : List ℕ). flat_map ended lines ++ t) (append-nil (ended line)) in
    whole ∙ ap (λ (t : List ℕ). flat_map ended lines ++ t) (cut ∙ sym one) ∙ sym (append_assoc (flat_map ended lines) (ended line) behind) ∙ ap (λ (t : List ℕ). t ++ behind) (sym more)

-- the bytes cut after a line
pub cut_there : (bytes left line behind : List ℕ) (lines : List (List ℕ)) → bytes ≡ flat_map ended lines ++ left → left ≡ line ++ 10 ∷ behind → bytes ≡ flat_map ended lines ++ (ended line ++ behind)
cut_there bytes left line behind lines whole cut = whole ∙ ap (λ (t : List ℕ). flat_map ended lines ++ t) (cut ∙ sym (append_assoc line (10 ∷ []) behind))
