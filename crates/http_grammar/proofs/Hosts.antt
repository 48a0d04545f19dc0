-- Where a host ends.
use Rattle.std.proofs.Common.{◌≡◌, ◌≢◌, ◌⊎◌, ℕ, ◌≤◌, ◌+◌, ◌-◌, List, [], ◌∷◌, ◌++◌, length, get_or, take, drop, All, true, refl, sym, ap, ◌∙◌, subst, arith, inl, inr, append_assoc}
use Rattle.std.proofs.lemmas.Bool.{false≢true}
use Rattle.std.proofs.lemmas.List.Elements.{All-from_get_or}
use Rattle.std.proofs.lemmas.List.{take-append-drop, take_all}
use Rattle.http_grammar.specs.Fields.{IsHostByte, IsHostName, IsAddress, IsPort, IsHostValue, is_mark}
use Rattle.http_grammar.proofs.Cuts.{cut_unique, Stopped}

mark_no_colon : is_mark 58 ≡ true → ⊥
mark_no_colon e = false≢true e

mark_no_bracket : is_mark 93 ≡ true → ⊥
mark_no_bracket e = false≢true e

mark_no_left : is_mark 91 ≡ true → ⊥
mark_no_left e = false≢true e

byte_is_not : (stop : ℕ) → (is_mark stop ≡ true → ⊥) → (stop ≢ 37) → (host : List ℕ) (k : ℕ) → IsHostByte host k → get_or host k 0 ≢ stop
byte_is_not stop unmarked other host k (inl mark) = λ e. unmarked (ap is_mark (sym e) ∙ mark)
byte_is_not stop unmarked other host k (inr escape) = λ e. other (sym e ∙ escape.0)

name_lacks_colon : (host : List ℕ) → IsHostName host → All (λ b. b ≢ 58) host
name_lacks_colon host name = All-from_get_or (λ b. b ≢ 58) host 0 (λ k inside. byte_is_not 58 mark_no_colon (omega arith) host k (name k inside))

address_lacks_bracket : (inner : List ℕ) → IsAddress inner → All (λ b. b ≢ 93) inner
address_lacks_bracket inner is = All-from_get_or (λ b. b ≢ 93) inner 0 (λ k inside. elim (is.1 k inside) [
  | inl byte ↦ byte_is_not 93 mark_no_bracket (omega arith) inner k byte
  | inr colon ↦ (λ e. absurd (omega (arith, colon, e)))
])

port_stops : (port : List ℕ) → IsPort port → Stopped 58 port
port_stops port (inl none) = inl none
port_stops port (inr some) = inr (some.0, some.2)

place_stops : (stop n : ℕ) (bytes : List ℕ) → (drop n bytes ≡ []) ⊎ (drop n bytes ≡ stop ∷ drop (n + 1) bytes) → Stopped stop (drop n bytes)
place_stops stop n bytes (inl none) = inl none
place_stops stop n bytes (inr some) = inr (drop (n + 1) bytes, some)

-- a name and a port are cut at the first colon
pub name_cut : (value name port host end : List ℕ) → value ≡ host ++ end → All (λ b. b ≢ 58) host → Stopped 58 end → IsHostName name → IsPort port → value ≡ name ++ port → (host ≡ name) × (end ≡ port)
name_cut value name port host end split none stops is ends e =
    cut_unique 58 host name end port none (name_lacks_colon name is) stops (port_stops port ends) (sym split ∙ e)

-- an address is cut at the first right bracket
pub address_cut : (rest inner port front end : List ℕ) → rest ≡ front ++ end → All (λ b. b ≢ 93) front → Stopped 93 end → IsAddress inner → rest ≡ inner ++ 93 ∷ port → (front ≡ inner) × (end ≡ 93 ∷ port)
address_cut rest inner port front end split none stops is e =
    cut_unique 93 front inner end (93 ∷ port) none (address_lacks_bracket inner is) stops (inr (port, refl)) (sym split ∙ e)

-- a name doesn't begin with a left bracket
pub name_no_bracket : (name port rest : List ℕ) → IsHostName name → IsPort port → 91 ∷ rest ≡ name ++ port → ⊥
name_no_bracket [] port rest is (inl none) e = cc
name_no_bracket [] port rest is (inr some) e = let b : ◌≡◌ {A = ℕ} 91 58 = cc (e, some.2) in omega arith
name_no_bracket (x ∷ name) port rest is ends e =
    let first : x ≡ 91 = cc in byte_is_not 91 mark_no_left (omega arith) (x ∷ name) 0 (is 0 (omega arith)) first

-- after a left bracket a host value is an address, and else a name
pub bracketed : (rest : List ℕ) → IsHostValue (91 ∷ rest) → (inner port : List ℕ) × IsAddress inner × IsPort port × (rest ≡ inner ++ 93 ∷ port)
bracketed rest value = elim value.2 [
  | inl name ↦ absurd (name_no_bracket value.0 value.1 rest name value.3 value.4)
  | inr address ↦
      let e : 91 ∷ rest ≡ 91 ∷ (address.0 ++ 93 ∷ value.1) = value.4 ∙ ap (λ h. h ++ value.1) address.2 ∙ ap (λ t. 91 ∷ t) (append_assoc address.0 (93 ∷ []) value.1) in
      (address.0, value.1, address.1, value.3, cc)
]

pub unbracketed : (value : List ℕ) → ((rest : List ℕ) → value ≡ 91 ∷ rest → ⊥) → IsHostValue value → (name port : List ℕ) × IsHostName name × IsPort port × (value ≡ name ++ port)
unbracketed value other is = elim is.2 [
  | inl name ↦ (is.0, is.1, name, is.3, is.4)
  | inr address ↦ absurd (other ((address.0 ++ 93 ∷ []) ++ is.1) (is.4 ∙ ap (λ h. h ++ is.1) address.2))
]

pub from_address : (rest inner port : List ℕ) → IsAddress inner → IsPort port → rest ≡ inner ++ 93 ∷ port → IsHostValue (91 ∷ rest)
from_address rest inner port is ends e =
    (91 ∷ inner ++ 93 ∷ [], port, inr (inner, is, refl), ends, ap (λ t. 91 ∷ t) (e ∙ sym (append_assoc inner (93 ∷ []) port)))

pub cut_at : (all front back : List ℕ) (n : ℕ) → front ≡ take n all → back ≡ drop n all → all ≡ front ++ back
cut_at all front back n f b = sym (take-append-drop n all) ∙ ap (λ x. x ++ drop n all) (sym f) ∙ ap (λ x. front ++ x) (sym b)

pub stops_at : (stop n : ℕ) (all back : List ℕ) → back ≡ drop n all → (drop n all ≡ []) ⊎ (drop n all ≡ stop ∷ drop (n + 1) all) → Stopped stop back
stops_at stop n all back b there = subst (Stopped stop) (sym b) (place_stops stop n all there)

pub behind_stop : (stop : ℕ) (back : List ℕ) → Stopped stop back → 1 ≤ length back → back ≡ stop ∷ take (length back - 1) (drop 1 back)
behind_stop stop back (inl none) some = absurd (omega (arith, ap length none))
behind_stop stop back (inr more) some =
    more.1 ∙ ap (λ x. stop ∷ x) (sym (ap (λ x. take (length x - 1) (drop 1 x)) more.1 ∙ take_all (length (stop ∷ more.0) - 1) more.0 (omega arith)))
