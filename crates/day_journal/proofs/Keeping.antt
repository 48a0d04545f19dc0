-- What an open journal keeps, from call to call.
use Rattle.std.proofs.Common.{◌≡◌, ◌≢◌, inl, inr, ℕ, ◌+◌, List, [], ◌∷◌, ◌++◌, length, Bool, true, false, IsTrue, All, refl, sym, ◌∙◌, ap, subst, arith, append_assoc, length-append}
use Rattle.std.specs.Prelude.{Result, Ok, Err, OnOk, OnErr}
use Rattle.std.proofs.lemmas.Bool.{cases_eq}
use Rattle.std.proofs.lemmas.List.{flat_map_more}
use Rattle.std.proofs.lemmas.List.Elements.{All-push}
use Rattle.day_journal.specs.Disks.{Each}
use Rattle.adx_io.specs.Frames.{body}
use Rattle.day_journal.specs.Places.{head, IsFormat, IsPayload, open_place, opened, IsClosed}
use Rattle.day_journal.specs.Tails.{IsGated, HasTail, HasShutTail, JournalState, Ends, Keeps, WithOrWithout, WithAtMostOne}

pub opened_push : (format : ℕ) (ps : List (List ℕ)) (p : List ℕ) → opened format (ps ++ p ∷ []) ≡ opened format ps ++ 1 ∷ body p
opened_push format ps p = sym (flat_map_more open_place (head format) ps p)

-- an open gate before a record makes it one of the payloads
pub gated_open : (format : ℕ) (ps : List (List ℕ)) (p c : List ℕ) → IsGated 1 (opened format ps) (body p) c → IsClosed (opened format (ps ++ p ∷ [])) c
gated_open format ps p c is = record {
  gate = 0;
  rest = is.rest;
  split = is.split ∙ sym (append_assoc (opened format ps) (1 ∷ body p) (0 ∷ is.rest)) ∙ ap (λ (l : List ℕ). l ++ 0 ∷ is.rest) (sym (opened_push format ps p));
  shut = omega arith;
}

pub gated_shut : (gate : ℕ) (before bytes c : List ℕ) → gate ≢ 1 → IsGated gate before bytes c → IsClosed before c
gated_shut gate before bytes c shut is = record { gate = gate; rest = bytes ++ 0 ∷ is.rest; split = is.split; shut = shut }

pub shut_tail : (before bytes c : List ℕ) → HasShutTail before bytes c → HasTail before bytes c
shut_tail before bytes c is = record { gate = is.gate; gated = is.gated }

-- with a tail after some gate a file represents the payloads, or them and the tail
pub tail_stands : (format : ℕ) (ps : List (List ℕ)) (t c : List ℕ) → IsFormat format → All IsPayload ps → IsPayload t → HasTail (opened format ps) (body t) c → WithOrWithout format ps t c
tail_stands format ps t c known each is_payload has = elim (cases_eq has.gate 1) [
  | inl is_open ↦ inr (inr (record { known = known; each = All-push IsPayload ps t each is_payload; closed = gated_open format ps t c (subst (λ (n : ℕ). IsGated n (opened format ps) (body t) c) is_open has.gated) }))
  | inr shut ↦ inl (inr (record { known = known; each = each; closed = gated_shut has.gate (opened format ps) (body t) c shut has.gated }))
]

pub ends_stand : (format : ℕ) (b : Bool) (ps : List (List ℕ)) (t c : List ℕ) → IsFormat format → All IsPayload ps → (IsTrue b → IsPayload t) → Ends format b ps t c → WithOrWithout format ps t c
ends_stand format false ps t c known each doubted ends = inl (inr (record { known = known; each = each; closed = ends }))
ends_stand format true ps t c known each doubted ends = tail_stands format ps t c known each (doubted refl) ends

-- each image represents the payloads, or them and the tail
pub keeps_stand : (images : List ℕ → Type 0) (j : JournalState) (ps : List (List ℕ)) (t : List ℕ) → Keeps images j ps t → Each images (WithOrWithout j.format ps t)
keeps_stand images j ps t k c left = ends_stand j.format j.in_doubt ps t c k.known k.each k.doubted (k.ends c left)

-- a journal in doubt
pub doubt_tail : (images : List ℕ → Type 0) (format gate : ℕ) (b : Bool) (ps : List (List ℕ)) (t : List ℕ) → b ≡ true → Keeps images (record { format = format; gate = gate; in_doubt = b }) ps t → Each images (HasTail (opened format ps) (body t))
doubt_tail images format gate false ps t is k = absurd (cc is)
doubt_tail images format gate true ps t is k = k.ends

pub doubted_payload : (images : List ℕ → Type 0) (format gate : ℕ) (b : Bool) (ps : List (List ℕ)) (t : List ℕ) → b ≡ true → Keeps images (record { format = format; gate = gate; in_doubt = b }) ps t → IsPayload t
doubted_payload images format gate false ps t is k = absurd (cc is)
doubted_payload images format gate true ps t is k = k.doubted refl

pub still_in_doubt : (old new : List ℕ → Type 0) (format gate : ℕ) (b : Bool) (ps : List (List ℕ)) (t : List ℕ) → b ≡ true → Keeps old (record { format = format; gate = gate; in_doubt = b }) ps t → Each new (HasTail (opened format ps) (body t)) → Keeps new (record { format = format; gate = gate; in_doubt = b }) ps t
still_in_doubt old new format gate false ps t is k each = absurd (cc is)
still_in_doubt old new format gate true ps t is k each = record { known = k.known; place = k.place; each = k.each; doubted = k.doubted; ends = each }

-- a journal that isn't in doubt, with any tail
pub closed_keeps : (images : List ℕ → Type 0) (format gate : ℕ) (ps : List (List ℕ)) (t : List ℕ) → IsFormat format → gate ≡ length (opened format ps) → All IsPayload ps → Each images (IsClosed (opened format ps)) → Keeps images (record { format = format; gate = gate; in_doubt = false }) ps t
closed_keeps images format gate ps t known place each ends = record { known = known; place = place; each = each; doubted = λ no. absurd (cc no); ends = ends }

pub closed_ends : (images : List ℕ → Type 0) (format gate : ℕ) (b : Bool) (ps : List (List ℕ)) (t : List ℕ) → b ≡ false → Keeps images (record { format = format; gate = gate; in_doubt = b }) ps t → Each images (IsClosed (opened format ps))
closed_ends images format gate true ps t is k = absurd (cc is)
closed_ends images format gate false ps t is k = k.ends

length-body : (p : List ℕ) → length (body p) ≡ length p + 4
length-body p = omega arith

-- where the gate comes after one payload more
pub place_after : (format : ℕ) (ps : List (List ℕ)) (p : List ℕ) (gate len : ℕ) → gate ≡ length (opened format ps) → len ≡ length p + 5 → gate + len ≡ length (opened format (ps ++ p ∷ []))
place_after format ps p gate len place is =
    let more : length (opened format (ps ++ p ∷ [])) ≡ length (opened format ps) + length (1 ∷ body p) = ap length (opened_push format ps p) ∙ length-append (opened format ps) (1 ∷ body p) in
    omega (arith, more, place, is, length-body p)

pub on_err : {T E P : Type 0} (r : Result T E) → P → OnErr r P
on_err (Ok x) p = record {}
on_err (Err e) p = p

pub on_ok : {T E P : Type 0} (r : Result T E) → P → OnOk r P
on_ok (Ok x) p = p
on_ok (Err e) p = record {}

pub with_first : (format : ℕ) (ps : List (List ℕ)) (t p c : List ℕ) → WithOrWithout format ps t c → WithAtMostOne format ps t p c
with_first format ps t p c (inl without) = inl without
with_first format ps t p c (inr with_t) = inr (inl with_t)

pub with_new : (format : ℕ) (ps : List (List ℕ)) (t p c : List ℕ) → WithOrWithout format ps p c → WithAtMostOne format ps t p c
with_new format ps t p c (inl without) = inl without
with_new format ps t p c (inr with_p) = inr (inr with_p)

pub record_length : (p bytes : List ℕ) → bytes ≡ body p ++ 0 ∷ [] → length bytes ≡ length p + 5
record_length p bytes is = omega (arith, ap length is, length-append (body p) (0 ∷ []), length-body p)
