-- A file is refused by one fault at most.
use Rattle.std.proofs.Common.{◌≡◌, ◌⊎◌, inl, inr, ℕ, ◌+◌, min, List, [], ◌∷◌, ◌++◌, length, drop, get_or, All, refl, sym, ◌∙◌, ap, subst, arith, append_assoc, length-append}
use Rattle.std.specs.Prelude.{slice_get}
use Rattle.std.specs.List.{flat_map}
use Rattle.std.proofs.lemmas.List.{append-nil}
use Rattle.std.proofs.lemmas.List.Elements.{All-cons, All-head, All-nil, All-tail}
use Rattle.adx_io.specs.Frames.{body}
use Rattle.adx_io.specs.Streams.{last_count}
use Rattle.day_journal.specs.Places.{HasNoHead, IsBadPlace, IsFormat, IsPayload, StandsFor, head, open_place, opened}
use Rattle.day_journal.proofs.Apart.{bad_or_no_head, one_bad, one_no_head, stands_or_bad, stands_or_no_head}
use Rattle.day_journal.proofs.Once.{one_format, same_format, same_payload, stands_once}
use Rattle.day_rules.proofs.Lists.{get-append_left}
use Rattle.day_rules.specs.declared.entry.Entry.{Entry}
use Rattle.day_rules.specs.Legal.{IsLegal}
use Rattle.day_entries.specs.Entries.{Fits, entries_bytes}
use Rattle.day_machine.specs.Held.{held}
use Rattle.day_machine.proofs.OpenAwards.{none_held}
use Rattle.adx_desk.specs.declared.fault.DeskFault.{DeskFault}
use Rattle.adx_desk.specs.Histories.{AreRecords, DeskTerms, Spells}
use Rattle.adx_desk.specs.Openings.{HasBadEntry, HasBadRecord, HasNoNext, HasNoRoom, HasOtherRoster, IsRefusal, RefusesDesk, told_of}
use Rattle.adx_desk.proofs.OneHistory.{file_front, file_spells, first_is, no_bad_record, not_spelled}
use Rattle.adx_desk.proofs.OneSpelling.{Meet, NextIn, meet, same_records}

-- payloads at the front of a file whose payloads end at a bad place are the first of those
front_of_bad : (ps qs : List (List ℕ)) (x place : List ℕ) → All IsPayload ps → All IsPayload qs → IsBadPlace place → flat_map open_place ps ++ x ≡ flat_map open_place qs ++ place → (more : List (List ℕ)) × (qs ≡ ps ++ more)
front_of_bad [] qs x place each_p each_q bad same = (qs, refl)
front_of_bad (p ∷ ps) [] x place each_p each_q bad same =
    absurd (bad.payload p (flat_map open_place ps ++ x) (All-head IsPayload p ps each_p) (sym same ∙ append_assoc (open_place p) (flat_map open_place ps) x))
front_of_bad (p ∷ ps) (q ∷ qs) x place each_p each_q bad same =
    let tails : body p ++ (flat_map open_place ps ++ x) ≡ body q ++ (flat_map open_place qs ++ place) =
    sym (append_assoc (body p) (flat_map open_place ps) x) ∙ (ap (drop 1) same ∙ append_assoc (body q) (flat_map open_place qs) place) in
    let both = same_payload p q (flat_map open_place ps ++ x) (flat_map open_place qs ++ place) (All-head IsPayload p ps each_p) (All-head IsPayload q qs each_q) tails in
    let rest = front_of_bad ps qs x place (All-tail IsPayload p ps each_p) (All-tail IsPayload q qs each_q) bad both.1 in
    (rest.0, λ i. sym both.0 i ∷ rest.1 i)

-- of two lists of payloads at the front of one file one begins the other
abbrev OneBegins : {A : Type 0} → List A → List A → Type 0
OneBegins {A} ps qs = ((more : List A) × (qs ≡ ps ++ more)) ⊎ ((more : List A) × (ps ≡ qs ++ more))

begins_more : {A : Type 0} (p q : A) (ps qs : List A) → p ≡ q → OneBegins ps qs → OneBegins (p ∷ ps) (q ∷ qs)
begins_more p q ps qs same (inl rest) = inl (rest.0, λ i. sym same i ∷ rest.1 i)
begins_more p q ps qs same (inr rest) = inr (rest.0, λ i. same i ∷ rest.1 i)

one_begins : (ps qs : List (List ℕ)) (x y : List ℕ) → All IsPayload ps → All IsPayload qs → flat_map open_place ps ++ x ≡ flat_map open_place qs ++ y → OneBegins ps qs
one_begins [] qs x y each_p each_q same = inl (qs, refl)
one_begins (p ∷ ps) [] x y each_p each_q same = inr (p ∷ ps, refl)
one_begins (p ∷ ps) (q ∷ qs) x y each_p each_q same =
    let tails : body p ++ (flat_map open_place ps ++ x) ≡ body q ++ (flat_map open_place qs ++ y) =
    sym (append_assoc (body p) (flat_map open_place ps) x) ∙ (ap (drop 1) same ∙ append_assoc (body q) (flat_map open_place qs) y) in
    let both = same_payload p q (flat_map open_place ps ++ x) (flat_map open_place qs ++ y) (All-head IsPayload p ps each_p) (All-head IsPayload q qs each_q) tails in
    begins_more p q ps qs both.0 (one_begins ps qs x y (All-tail IsPayload p ps each_p) (All-tail IsPayload q qs each_q) both.1)

same_begin : {A : Type 0} (p q : A) (ps qs : List A) → OneBegins (p ∷ ps) (q ∷ qs) → p ≡ q
same_begin {A} p q ps qs (inl more) = sym (ap (λ (l : List A). get_or l 0 p) more.1)
same_begin {A} p q ps qs (inr more) = ap (λ (l : List A). get_or l 0 p) more.1

-- the list before a last item
before_last : {A : Type 0} (ps qs : List A) (p m : A) (ms : List A) → ps ++ p ∷ [] ≡ qs ++ m ∷ ms → (more : List A) × (ps ≡ qs ++ more)
before_last ps [] p m ms same = (ps, refl)
before_last [] (q ∷ qs) p m ms same = absurd (omega (arith, ap length same, length-append qs (m ∷ ms)))
before_last {A} (x ∷ xs) (q ∷ qs) p m ms same =
    let first : x ≡ q = ap (λ (l : List A). get_or l 0 x) same in
    let rest = before_last xs qs p m ms (ap (drop 1) same) in
    (rest.0, λ i. first i ∷ rest.1 i)

same_last : {A : Type 0} (ps qs : List A) (p q : A) → ps ++ p ∷ [] ≡ qs ++ q ∷ [] → (ps ≡ qs) × (p ≡ q)
same_last {A} [] [] p q same = (refl, ap (λ (l : List A). get_or l 0 p) same)
same_last [] (y ∷ ys) p q same = absurd (omega (arith, ap length same, length-append ys (q ∷ [])))
same_last (x ∷ xs) [] p q same = absurd (omega (arith, ap length same, length-append xs (p ∷ [])))
same_last {A} (x ∷ xs) (y ∷ ys) p q same =
    let first : x ≡ y = ap (λ (l : List A). get_or l 0 x) same in
    let rest = same_last xs ys p q (ap (drop 1) same) in
    (λ i. first i ∷ rest.0 i, rest.1)

-- a file with a head
opened_or_no_head : (format : ℕ) (file : List ℕ) (ps : List (List ℕ)) (rest : List ℕ) (at : ℕ) → IsFormat format → file ≡ opened format ps ++ rest → HasNoHead file at → ⊥
opened_or_no_head format file ps rest at known split none =
    let behind : List ℕ = flat_map open_place ps ++ rest in
    let is : file ≡ head format ++ behind = split ∙ append_assoc (head format) (flat_map open_place ps) rest in
    none.differs format known (ap (λ (l : List ℕ). slice_get l at) is ∙ get-append_left (head format) behind at (none.within format known))

module _ (terms : DeskTerms) (file : List ℕ) where
  one_room : (size other : ℕ) → HasNoRoom terms file size → HasNoRoom terms file other → size ≡ other
  one_room size other a b = by a.spells
    where
      by : Spells a.format terms.digest a.payloads a.history → size ≡ other
      by (inl none) = absurd (omega (arith, a.passes, ap (λ (ps : List (List ℕ)). length (opened a.format ps)) none.0, ap (held a.format) none.1, none_held a.format))
      by (inr some) =
          let payloads = stands_once a.format b.format file a.payloads b.payloads a.stands b.stands in
          let formats : a.format ≡ b.format = one_format a.format b.format file terms.digest some.0 b.payloads (subst (StandsFor a.format file) some.1 a.stands) b.stands in
          let same = file_spells a.format b.format terms.digest file a.payloads b.payloads a.history b.history a.stands b.stands a.spells b.spells in
          let lens = ap (λ (ps : List (List ℕ)). length (opened a.format ps)) payloads ∙ ap (λ (f : ℕ). length (opened f b.payloads)) formats in
          let helds = ap (held a.format) same ∙ ap (λ (f : ℕ). held f b.history) formats in
          let sizes : length (opened a.format a.payloads) + 1 + held a.format a.history ≡ length (opened b.format b.payloads) + 1 + held b.format b.history = omega (arith, lens, helds) in
          a.told ∙ (ap (λ (n : ℕ). min n last_count) sizes ∙ sym b.told)

  room_or_entry : (size at : ℕ) → HasNoRoom terms file size → HasBadEntry terms file at → ⊥
  room_or_entry size at full bad =
      let both = file_front bad.format full.format file terms.digest (bad.payloads ++ bad.payload ∷ []) full.payloads bad.rest bad.each bad.split full.stands in
      not_spelled terms file at full.format bad both.0.0 full.payloads full.history both.0.1 both.1 full.spells full.legal

  room_or_roster : (size : ℕ) (kept : List ℕ) → HasNoRoom terms file size → HasOtherRoster terms.digest file kept → ⊥
  room_or_roster size kept full other =
      let front = (file_front other.format full.format file other.first [] full.payloads other.rest (All-cons IsPayload other.first [] other.is_payload (All-nil IsPayload)) other.split full.stands).0 in
      other.other (first_is full.format terms.digest other.first front.0 full.payloads full.history front.1 full.spells)

  record_or_entry : (at place : ℕ) → HasBadRecord terms file at → HasBadEntry terms file place → ⊥
  record_or_entry at place record_ bad =
      let l = record_.bad in
      let before : List (List ℕ) = bad.payloads ++ bad.payload ∷ [] in
      let front = front_of_bad (terms.digest ∷ before) l.payloads bad.rest l.place bad.each l.each l.bad (ap (drop 9) (sym bad.split ∙ l.split)) in
      let formats = same_format bad.format l.format file (terms.digest ∷ before) l.payloads bad.rest l.place bad.split l.split in
      not_spelled terms file place l.format bad front.0 l.payloads record_.history front.1 formats record_.spells record_.legal

  record_or_roster : (at : ℕ) (kept : List ℕ) → HasBadRecord terms file at → HasOtherRoster terms.digest file kept → ⊥
  record_or_roster at kept record_ other =
      let l = record_.bad in
      let front = front_of_bad (other.first ∷ []) l.payloads other.rest l.place (All-cons IsPayload other.first [] other.is_payload (All-nil IsPayload)) l.each l.bad (ap (drop 9) (sym other.split ∙ l.split)) in
      other.other (first_is l.format terms.digest other.first front.0 l.payloads record_.history front.1 record_.spells)

  entry_or_roster : (at : ℕ) (kept : List ℕ) → HasBadEntry terms file at → HasOtherRoster terms.digest file kept → ⊥
  entry_or_roster at kept bad other =
      let before : List (List ℕ) = bad.payloads ++ bad.payload ∷ [] in
      let one = one_begins (other.first ∷ []) (terms.digest ∷ before) other.rest bad.rest (All-cons IsPayload other.first [] other.is_payload (All-nil IsPayload)) bad.each (ap (drop 9) (sym other.split ∙ bad.split)) in
      other.other (same_begin other.first terms.digest [] before one)

  one_roster : (kept also : List ℕ) → HasOtherRoster terms.digest file kept → HasOtherRoster terms.digest file also → kept ≡ also
  one_roster kept also a b =
      let one = one_begins (a.first ∷ []) (b.first ∷ []) a.rest b.rest (All-cons IsPayload a.first [] a.is_payload (All-nil IsPayload)) (All-cons IsPayload b.first [] b.is_payload (All-nil IsPayload)) (ap (drop 9) (sym a.split ∙ b.split)) in
      a.told ∙ (ap told_of (same_begin a.first b.first [] [] one) ∙ sym b.told)

  -- two bad entries are one: neither is in records of the other, and after the same records each ends where nothing may follow
  no_later_record : (at place : ℕ) (a : HasBadEntry terms file at) (b : HasBadEntry terms file place) (more : List (List ℕ)) → a.format ≡ b.format
      → b.payloads ++ b.payload ∷ [] ≡ (a.payloads ++ a.payload ∷ []) ++ more → more ≡ []
  no_later_record at place a b [] formats same = refl
  no_later_record at place a b (m ∷ ms) formats same =
      let before = before_last b.payloads (a.payloads ++ a.payload ∷ []) b.payload m ms same in
      let rest : List (List ℕ) = (a.payloads ++ a.payload ∷ []) ++ before.0 in
      let own : AreRecords a.format b.payloads b.earlier = subst (λ (f : ℕ). AreRecords f b.payloads b.earlier) (sym formats) b.records in
      let are : AreRecords a.format rest b.earlier = subst (λ (ps : List (List ℕ)). AreRecords a.format ps b.earlier) before.1 own in
      absurd (no_bad_record terms file at a before.0 b.earlier b.front (b.earlier ++ b.front) are refl b.legal)

  same_payloads : (at place : ℕ) (a : HasBadEntry terms file at) (b : HasBadEntry terms file place) → a.format ≡ b.format
      → OneBegins (terms.digest ∷ (a.payloads ++ a.payload ∷ [])) (terms.digest ∷ (b.payloads ++ b.payload ∷ [])) → a.payloads ++ a.payload ∷ [] ≡ b.payloads ++ b.payload ∷ []
  same_payloads at place a b formats (inl one) =
      let own : List (List ℕ) = a.payloads ++ a.payload ∷ [] in
      let same : b.payloads ++ b.payload ∷ [] ≡ own ++ one.0 = ap (drop 1) one.1 in
      sym (same ∙ (ap (λ (more : List (List ℕ)). own ++ more) (no_later_record at place a b one.0 formats same) ∙ append-nil own))
  same_payloads at place a b formats (inr one) =
      let own : List (List ℕ) = b.payloads ++ b.payload ∷ [] in
      let same : a.payloads ++ a.payload ∷ [] ≡ own ++ one.0 = ap (drop 1) one.1 in
      same ∙ (ap (λ (more : List (List ℕ)). own ++ more) (no_later_record place at b a one.0 (sym formats) same) ∙ append-nil own)

  no_next : (format : ℕ) (earlier other front longer : List Entry) (bytes : List ℕ) → earlier ≡ other → HasNoNext format terms (earlier ++ front) bytes → IsLegal terms.day (other ++ longer) → NextIn format front longer bytes → ⊥
  no_next format earlier other front longer bytes same none legal next =
      let rest : List Entry = next.entry ∷ next.behind in
      let whole : other ++ longer ≡ (earlier ++ front) ++ rest =
      ap (λ (es : List Entry). other ++ es) next.parts ∙ (ap (λ (es : List Entry). es ++ (front ++ rest)) (sym same) ∙ sym (append_assoc earlier front rest)) in
      none next.entry _ next.begins (legal (earlier ++ front) next.entry next.behind whole)

  one_entry : (at place : ℕ) → HasBadEntry terms file at → HasBadEntry terms file place → at ≡ place
  one_entry at place a b = by (meet a.format a.front b.front a.bytes b.bytes a.fits fits (sym a.behind ∙ (payload ∙ behind)))
    where
      before : List (List ℕ)
      before = a.payloads ++ a.payload ∷ []

      other : List (List ℕ)
      other = b.payloads ++ b.payload ∷ []

      formats : a.format ≡ b.format
      formats = same_format a.format b.format file (terms.digest ∷ before) (terms.digest ∷ other) a.rest b.rest a.split b.split

      payloads : (a.payloads ≡ b.payloads) × (a.payload ≡ b.payload)
      payloads =
          same_last a.payloads b.payloads a.payload b.payload
          (same_payloads at place a b formats (one_begins (terms.digest ∷ before) (terms.digest ∷ other) a.rest b.rest a.each b.each (ap (drop 9) (sym a.split ∙ b.split))))

      payload : a.payload ≡ b.payload
      payload = payloads.1

      own : AreRecords a.format b.payloads b.earlier
      own = subst (λ (f : ℕ). AreRecords f b.payloads b.earlier) (sym formats) b.records

      earlier : a.earlier ≡ b.earlier
      earlier =
          a.records.entries
          ∙ (ap (flat_map (λ (es : List Entry). es)) (same_records a.format a.records.records own.records a.records.each own.each (sym a.records.spelled ∙ (payloads.0 ∙ own.spelled)))
          ∙ sym own.entries)

      fits : All (Fits a.format) b.front
      fits = subst (λ (f : ℕ). All (Fits f) b.front) (sym formats) b.fits

      behind : b.payload ≡ entries_bytes a.format b.front ++ b.bytes
      behind = b.behind ∙ ap (λ (f : ℕ). entries_bytes f b.front ++ b.bytes) (sym formats)

      by : Meet a.format a.front b.front a.bytes b.bytes → at ≡ place
      by (inl same) =
          a.there
          ∙ (ap (λ (es : List Entry). length (a.earlier ++ es)) same
          ∙ (ap (λ (es : List Entry). length (es ++ b.front)) earlier
          ∙ sym b.there))
      by (inr (inl next)) = absurd (no_next a.format a.earlier b.earlier a.front b.front a.bytes earlier a.none b.legal next)
      by (inr (inr next)) =
          absurd (no_next a.format b.earlier a.earlier b.front a.front b.bytes (sym earlier) (subst (λ (f : ℕ). HasNoNext f terms (b.earlier ++ b.front) b.bytes) (sym formats) b.none) a.legal next)

  -- each pair of refusals
  pub one_refusal : (why other : DeskFault) → IsRefusal why → IsRefusal other → RefusesDesk terms file why → RefusesDesk terms file other → why ≡ other
  one_refusal DeskFault.DiskFault other is also p q = absurd is
  one_refusal DeskFault.OutOfMemory other is also p q = absurd is
  one_refusal (DeskFault.JournalFull size) DeskFault.DiskFault is also p q = absurd also
  one_refusal (DeskFault.JournalFull size) DeskFault.OutOfMemory is also p q = absurd also
  one_refusal (DeskFault.JournalFull size) (DeskFault.JournalFull other) is also p q = ap DeskFault.JournalFull (one_room size other p q)
  one_refusal (DeskFault.JournalFull size) (DeskFault.BadEntry at) is also p q = absurd (room_or_entry size at p q)
  one_refusal (DeskFault.JournalFull size) (DeskFault.OtherRoster kept) is also p q = absurd (room_or_roster size kept p q)
  one_refusal (DeskFault.JournalFull size) (DeskFault.NotAJournal at) is also p q = absurd (stands_or_no_head p.format file p.payloads at p.stands q)
  one_refusal (DeskFault.JournalFull size) (DeskFault.BadLength at) is also p q = absurd (stands_or_bad p.format file p.payloads at p.stands q.bad)
  one_refusal (DeskFault.BadEntry at) DeskFault.DiskFault is also p q = absurd also
  one_refusal (DeskFault.BadEntry at) DeskFault.OutOfMemory is also p q = absurd also
  one_refusal (DeskFault.BadEntry at) (DeskFault.JournalFull size) is also p q = absurd (room_or_entry size at q p)
  one_refusal (DeskFault.BadEntry at) (DeskFault.BadEntry place) is also p q = ap DeskFault.BadEntry (one_entry at place p q)
  one_refusal (DeskFault.BadEntry at) (DeskFault.OtherRoster kept) is also p q = absurd (entry_or_roster at kept p q)
  one_refusal (DeskFault.BadEntry at) (DeskFault.NotAJournal place) is also p q = absurd (opened_or_no_head p.format file (terms.digest ∷ (p.payloads ++ p.payload ∷ [])) p.rest place p.known p.split q)
  one_refusal (DeskFault.BadEntry at) (DeskFault.BadLength place) is also p q = absurd (record_or_entry place at q p)
  one_refusal (DeskFault.OtherRoster kept) DeskFault.DiskFault is also p q = absurd also
  one_refusal (DeskFault.OtherRoster kept) DeskFault.OutOfMemory is also p q = absurd also
  one_refusal (DeskFault.OtherRoster kept) (DeskFault.JournalFull size) is also p q = absurd (room_or_roster size kept q p)
  one_refusal (DeskFault.OtherRoster kept) (DeskFault.BadEntry at) is also p q = absurd (entry_or_roster at kept q p)
  one_refusal (DeskFault.OtherRoster kept) (DeskFault.OtherRoster other) is also p q = ap DeskFault.OtherRoster (one_roster kept other p q)
  one_refusal (DeskFault.OtherRoster kept) (DeskFault.NotAJournal at) is also p q = absurd (opened_or_no_head p.format file (p.first ∷ []) p.rest at p.known p.split q)
  one_refusal (DeskFault.OtherRoster kept) (DeskFault.BadLength at) is also p q = absurd (record_or_roster at kept q p)
  one_refusal (DeskFault.NotAJournal at) DeskFault.DiskFault is also p q = absurd also
  one_refusal (DeskFault.NotAJournal at) DeskFault.OutOfMemory is also p q = absurd also
  one_refusal (DeskFault.NotAJournal at) (DeskFault.JournalFull size) is also p q = absurd (stands_or_no_head q.format file q.payloads at q.stands p)
  one_refusal (DeskFault.NotAJournal at) (DeskFault.BadEntry place) is also p q = absurd (opened_or_no_head q.format file (terms.digest ∷ (q.payloads ++ q.payload ∷ [])) q.rest at q.known q.split p)
  one_refusal (DeskFault.NotAJournal at) (DeskFault.OtherRoster kept) is also p q = absurd (opened_or_no_head q.format file (q.first ∷ []) q.rest at q.known q.split p)
  one_refusal (DeskFault.NotAJournal at) (DeskFault.NotAJournal place) is also p q = ap DeskFault.NotAJournal (one_no_head file at place p q)
  one_refusal (DeskFault.NotAJournal at) (DeskFault.BadLength place) is also p q = absurd (bad_or_no_head file place at q.bad p)
  one_refusal (DeskFault.BadLength at) DeskFault.DiskFault is also p q = absurd also
  one_refusal (DeskFault.BadLength at) DeskFault.OutOfMemory is also p q = absurd also
  one_refusal (DeskFault.BadLength at) (DeskFault.JournalFull size) is also p q = absurd (stands_or_bad q.format file q.payloads at q.stands p.bad)
  one_refusal (DeskFault.BadLength at) (DeskFault.BadEntry place) is also p q = absurd (record_or_entry at place p q)
  one_refusal (DeskFault.BadLength at) (DeskFault.OtherRoster kept) is also p q = absurd (record_or_roster at kept p q)
  one_refusal (DeskFault.BadLength at) (DeskFault.NotAJournal place) is also p q = absurd (bad_or_no_head file at place p.bad q)
  one_refusal (DeskFault.BadLength at) (DeskFault.BadLength place) is also p q = ap DeskFault.BadLength (one_bad file at place p.bad q.bad)
