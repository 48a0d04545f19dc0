-- A file represents one history, and none where it is refused.
use Rattle.std.proofs.Common.{◌≡◌, ◌≢◌, inl, inr, ℕ, List, [], ◌∷◌, ◌++◌, length, drop, get_or, All, refl, sym, ◌∙◌, ap, subst, arith, append_assoc}
use Rattle.std.specs.List.{flat_map}
use Rattle.std.proofs.lemmas.Grind.{flat_map-append}
use Rattle.std.proofs.lemmas.List.{append-nil}
use Rattle.std.proofs.lemmas.List.Elements.{All-cons, All-head, All-nil, All-tail}
use Rattle.adx_io.specs.Frames.{body}
use Rattle.day_journal.specs.Places.{IsPayload, StandsFor, open_place, opened}
use Rattle.day_journal.proofs.Apart.{stands_or_bad, stands_or_no_head}
use Rattle.day_journal.proofs.Once.{one_format, same_format, same_payload, short, stands_once}
use Rattle.day_rules.specs.declared.entry.Entry.{Entry}
use Rattle.day_rules.specs.Legal.{IsLegal}
use Rattle.adx_desk.specs.declared.fault.DeskFault.{DeskFault}
use Rattle.day_machine.specs.Held.{held}
use Rattle.day_machine.proofs.OpenAwards.{none_held}
use Rattle.adx_desk.specs.Histories.{AreRecords, DeskTerms, IsHistoryOf, Spells}
use Rattle.adx_desk.specs.Openings.{HasBadEntry, HasNoRoom, HasOtherRoster, IsRefusal, RefusesDesk}
use Rattle.adx_desk.proofs.OneSpelling.{NextIn, RecordAt, next_in, record_at, same_records}
use Rattle.adx_desk.proofs.OpenedDays.{none_spelled, some_payload}

-- payloads spell one history, in one format
spells_once : (format : ℕ) (digest : List ℕ) (ps qs : List (List ℕ)) (a b : List Entry) → ps ≡ qs → Spells format digest ps a → Spells format digest qs b → a ≡ b
spells_once format digest ps qs a b same (inl p) q = p.1 ∙ sym (none_spelled format digest qs b (sym same ∙ p.0) q)
spells_once format digest ps qs a b same (inr p) (inl q) = absurd (cc (same, p.1, q.0))
spells_once format digest ps qs a b same (inr p) (inr q) =
    let rests : p.0 ≡ q.0 = ap (drop 1) (sym p.1 ∙ (same ∙ q.1)) in
    let records = same_records format p.2.records q.2.records p.2.each q.2.each (sym p.2.spelled ∙ (rests ∙ q.2.spelled)) in
    p.2.entries ∙ (ap (flat_map (λ (es : List Entry). es)) records ∙ sym q.2.entries)

-- a file with these payloads spells one history: without payloads in any format, and else in one
pub file_spells : (format other : ℕ) (digest file : List ℕ) (ps qs : List (List ℕ)) (a b : List Entry) → StandsFor format file ps → StandsFor other file qs → Spells format digest ps a → Spells other digest qs b → a ≡ b
file_spells format other digest file ps qs a b p q (inl none) spells =
    none.1 ∙ sym (none_spelled other digest qs b (sym (stands_once format other file ps qs p q) ∙ none.0) spells)
file_spells format other digest file ps qs a b p q (inr some) spells =
    let same = stands_once format other file ps qs p q in
    let formats : format ≡ other = one_format format other file digest some.0 qs (subst (StandsFor format file) some.1 p) q in
    spells_once other digest ps qs a b same (subst (λ (f : ℕ). Spells f digest ps a) formats (inr some)) spells

pub one_history : (terms : DeskTerms) (file : List ℕ) (a b : List Entry) → IsHistoryOf terms file a → IsHistoryOf terms file b → a ≡ b
one_history terms file a b p q = file_spells p.format q.format terms.digest file p.payloads q.payloads a b p.stands q.stands p.spells q.spells

-- the payloads of a file begin with those at its front
places_front : (ps qs : List (List ℕ)) (x : List ℕ) (g : ℕ) (r : List ℕ) → All IsPayload ps → All IsPayload qs → g ≢ 1 → flat_map open_place ps ++ x ≡ flat_map open_place qs ++ g ∷ r → (more : List (List ℕ)) × (qs ≡ ps ++ more)
places_front [] qs x g r each_p each_q shut same = (qs, refl)
places_front (p ∷ ps) [] x g r each_p each_q shut same = absurd (shut (sym (ap (λ (l : List ℕ). get_or l 0 0) same)))
places_front (p ∷ ps) (q ∷ qs) x g r each_p each_q shut same =
    let tails : body p ++ (flat_map open_place ps ++ x) ≡ body q ++ (flat_map open_place qs ++ g ∷ r) =
    sym (append_assoc (body p) (flat_map open_place ps) x) ∙ (ap (drop 1) same ∙ append_assoc (body q) (flat_map open_place qs) (g ∷ r)) in
    let both = same_payload p q (flat_map open_place ps ++ x) (flat_map open_place qs ++ g ∷ r) (All-head IsPayload p ps each_p) (All-head IsPayload q qs each_q) tails in
    let rest = places_front ps qs x g r (All-tail IsPayload p ps each_p) (All-tail IsPayload q qs each_q) shut both.1 in
    (rest.0, λ i. sym both.0 i ∷ rest.1 i)

pub file_front : (format other : ℕ) (file p : List ℕ) (ps qs : List (List ℕ)) (rest : List ℕ) → All IsPayload (p ∷ ps) → file ≡ opened format (p ∷ ps) ++ rest → StandsFor other file qs
    → ((more : List (List ℕ)) × (qs ≡ p ∷ ps ++ more)) × (format ≡ other)
file_front format other file p ps qs rest each split (inl un) = absurd (some_payload format file p ps rest (short file un.0) split)
file_front format other file p ps qs rest each split (inr open_) = (
  places_front (p ∷ ps) qs rest open_.closed.gate open_.closed.rest each open_.each open_.closed.shut (ap (drop 9) (sym split ∙ open_.closed.split)),
  same_format format other file (p ∷ ps) qs rest (open_.closed.gate ∷ open_.closed.rest) split open_.closed.split,
)

pub first_is : (format : ℕ) (digest : List ℕ) (first : List ℕ) (rest qs : List (List ℕ)) (history : List Entry) → qs ≡ first ∷ rest → Spells format digest qs history → first ≡ digest
first_is format digest first rest qs history is (inl none) = absurd (cc (is, none.0))
first_is format digest first rest qs history is (inr some) = ap (λ (ps : List (List ℕ)). get_or ps 0 []) (sym is ∙ some.1)

rest_are : (format : ℕ) (digest : List ℕ) (rest qs : List (List ℕ)) (history : List Entry) → qs ≡ digest ∷ rest → Spells format digest qs history → AreRecords format rest history
rest_are format digest rest qs history is (inl none) = absurd (cc (is, none.0))
rest_are format digest rest qs history is (inr some) = subst (λ (ps : List (List ℕ)). AreRecords format ps history) (ap (drop 1) (sym some.1 ∙ is)) some.2

-- a payload whose entries aren't all legal is in no legal history
pub no_bad_record : (terms : DeskTerms) (file : List ℕ) (at : ℕ) (bad : HasBadEntry terms file at) (more : List (List ℕ)) (earlier after history : List Entry)
    → AreRecords bad.format ((bad.payloads ++ bad.payload ∷ []) ++ more) earlier → history ≡ earlier ++ after → IsLegal terms.day history → ⊥
no_bad_record terms file at bad more earlier after history are is legal =
    let at_ : RecordAt bad.format bad.records.records are.records bad.payload =
    record_at bad.format bad.records.records are.records bad.payload more bad.records.each are.each (sym are.spelled ∙ ap (λ (ps : List (List ℕ)). (ps ++ bad.payload ∷ []) ++ more) bad.records.spelled) in
    let next : NextIn bad.format bad.front at_.entries bad.bytes = next_in bad.format bad.front at_.entries bad.bytes bad.fits at_.is_record.spelled bad.some (at_.bytes ∙ bad.behind) in
    let id : List Entry → List Entry = λ es. es in
    let behind : List Entry = flat_map id at_.behind in
    let whole : earlier ≡ (bad.earlier ++ bad.front) ++ next.entry ∷ (next.behind ++ behind) =
    are.entries
    ∙ (ap (flat_map id) at_.parts
    ∙ (flat_map-append id bad.records.records (at_.entries ∷ at_.behind)
    ∙ (ap (λ (es : List Entry). es ++ (at_.entries ++ behind)) (sym bad.records.entries)
    ∙ (ap (λ (es : List Entry). bad.earlier ++ (es ++ behind)) next.parts
    ∙ (ap (λ (es : List Entry). bad.earlier ++ es) (append_assoc bad.front (next.entry ∷ next.behind) behind)
    ∙ sym (append_assoc bad.earlier bad.front (next.entry ∷ (next.behind ++ behind)))))))) in
    bad.none next.entry _ next.begins
    (legal (bad.earlier ++ bad.front) next.entry ((next.behind ++ behind) ++ after)
    (is ∙ (ap (λ (es : List Entry). es ++ after) whole ∙ append_assoc (bad.earlier ++ bad.front) (next.entry ∷ (next.behind ++ behind)) after)))

-- nor do payloads that begin with it and those before it spell a legal history
pub not_spelled : (terms : DeskTerms) (file : List ℕ) (at format : ℕ) (bad : HasBadEntry terms file at) (more qs : List (List ℕ)) (history : List Entry)
    → qs ≡ terms.digest ∷ ((bad.payloads ++ bad.payload ∷ []) ++ more) → bad.format ≡ format → Spells format terms.digest qs history → IsLegal terms.day history → ⊥
not_spelled terms file at format bad more qs history is formats spells legal =
    let rest : List (List ℕ) = (bad.payloads ++ bad.payload ∷ []) ++ more in
    let are : AreRecords bad.format rest history = subst (λ (f : ℕ). AreRecords f rest history) (sym formats) (rest_are format terms.digest rest qs history is spells) in
    no_bad_record terms file at bad more history [] history are (sym (append-nil history)) legal

not_entry : (terms : DeskTerms) (file : List ℕ) (at : ℕ) (history : List Entry) → HasBadEntry terms file at → IsHistoryOf terms file history → ⊥
not_entry terms file at history bad is =
    let both = file_front bad.format is.format file terms.digest (bad.payloads ++ bad.payload ∷ []) is.payloads bad.rest bad.each bad.split is.stands in
    not_spelled terms file at is.format bad both.0.0 is.payloads history both.0.1 both.1 is.spells is.legal

not_roster : (terms : DeskTerms) (file kept : List ℕ) (history : List Entry) → HasOtherRoster terms.digest file kept → IsHistoryOf terms file history → ⊥
not_roster terms file kept history other is =
    let front = (file_front other.format is.format file other.first [] is.payloads other.rest (All-cons IsPayload other.first [] other.is_payload (All-nil IsPayload)) other.split is.stands).0 in
    other.other (first_is is.format terms.digest other.first front.0 is.payloads history front.1 is.spells)

-- without payloads there is room in any format, and else the format is one
not_room : (terms : DeskTerms) (file : List ℕ) (size : ℕ) (history : List Entry) → HasNoRoom terms file size → IsHistoryOf terms file history → ⊥
not_room terms file size history full is = by full.spells
  where
    by : Spells full.format terms.digest full.payloads full.history → ⊥
    by (inl none) = omega (arith, full.passes, ap (λ (ps : List (List ℕ)). length (opened full.format ps)) none.0, ap (held full.format) none.1, none_held full.format)
    by (inr some) =
        let payloads = stands_once full.format is.format file full.payloads is.payloads full.stands is.stands in
        let formats : full.format ≡ is.format = one_format full.format is.format file terms.digest some.0 is.payloads (subst (StandsFor full.format file) some.1 full.stands) is.stands in
        let same = file_spells full.format is.format terms.digest file full.payloads is.payloads full.history history full.stands is.stands full.spells is.spells in
        let lens = ap (λ (ps : List (List ℕ)). length (opened full.format ps)) payloads ∙ ap (λ (f : ℕ). length (opened f is.payloads)) formats in
        let helds = ap (held full.format) same ∙ ap (λ (f : ℕ). held f history) formats in
        omega (arith, full.passes, is.room, lens, helds)

pub refused_or_stands : (terms : DeskTerms) (file : List ℕ) (why : DeskFault) (history : List Entry) → IsRefusal why → RefusesDesk terms file why → IsHistoryOf terms file history → ⊥
refused_or_stands terms file DeskFault.DiskFault history refusal why is = refusal
refused_or_stands terms file (DeskFault.JournalFull size) history refusal why is = not_room terms file size history why is
refused_or_stands terms file (DeskFault.BadEntry at) history refusal why is = not_entry terms file at history why is
refused_or_stands terms file (DeskFault.OtherRoster kept) history refusal why is = not_roster terms file kept history why is
refused_or_stands terms file (DeskFault.NotAJournal at) history refusal why is = stands_or_no_head is.format file is.payloads at is.stands why
refused_or_stands terms file (DeskFault.BadLength at) history refusal why is = stands_or_bad is.format file is.payloads at is.stands why.bad
refused_or_stands terms file DeskFault.OutOfMemory history refusal why is = refusal
