-- The payloads of a journal, read one by one.
use Rattle.std.proofs.Common.{◌≡◌, ◌≢◌, inl, inr, ℕ, ◌-◌, ◌^◌, ◌<◌, List, [], ◌∷◌, ◌++◌, length, drop, take, All, Option, refl, sym, ◌∙◌, ap, subst, arith, length-append}
use Rattle.std.proofs.lemmas.List.{append-nil, take_at}
use Rattle.std.proofs.lemmas.List.Elements.{All-head}
use Rattle.day_journal.specs.declared.fault.OpeningFault.{OpeningFault}
use Rattle.day_journal.specs.Faults.{Refuses}
use Rattle.day_journal.specs.Openings.{OnlyReads, OpeningState, StandsBehind}
use Rattle.day_journal.specs.Places.{HasBadLength, IsClosed, IsFormat, IsPayload, opened}
use Rattle.day_journal.proofs.Moments.{joined, started}
use Rattle.day_journal.proofs.Once.{same_format, stands_once}
use Rattle.day_rules.specs.declared.entry.Entry.{Entry}
use Rattle.day_rules.specs.DayState.{IsDay}
use Rattle.day_rules.specs.Legal.{IsLegal}
use Rattle.day_rules.specs.Terms.{Terms}
use Rattle.day_rules.proofs.Counting.{day_entries}
use Rattle.day_rules.proofs.Histories.{legal_none}
use Rattle.adx_desk.specs.declared.fault.DeskFault.{DeskFault}
use Rattle.adx_desk.specs.Histories.{AreRecords, DeskTerms, IsRecord, Spells}
use Rattle.day_entries.specs.Entries.{entries_bytes}
use Rattle.adx_desk.specs.Loading.{HasRead, HasReadAll, RefusesRecord, TakesFront}
use Rattle.adx_desk.specs.Openings.{HasBadRecord, RefusesDesk, fault_of, told_of}
use Rattle.adx_desk.proofs.Records.{last_payload, no_records, records_push}

-- calls that only read, one run after another
module _ {D : Type 0} (reads : D → Option (List ℕ)) (may_leave : D → List ℕ → Type 0) (moment : D → ℕ) (left_since : D → ℕ → List ℕ → Type 0) where
  pub no_reads : (disk : D) → ((c : List ℕ) → left_since disk (moment disk) c → may_leave disk c) → OnlyReads reads may_leave moment left_since disk disk
  no_reads disk now = record { same = refl; crash = λ c left. left; moments = started moment left_since disk (may_leave disk) now }

  pub reads_on : (old mid new : D) → OnlyReads reads may_leave moment left_since old mid → OnlyReads reads may_leave moment left_since mid new → OnlyReads reads may_leave moment left_since old new
  reads_on old mid new first second = record {
    same = second.same ∙ first.same;
    crash = λ c left. first.crash c (second.crash c left);
    moments = joined moment left_since old mid new (may_leave old) (may_leave mid) (may_leave old) first.moments second.moments (λ c left. left) (λ c left. first.crash c left);
  }

-- the payloads before a place are the same where it is the same place
same_front : (format other : ℕ) (file : List ℕ) (ps qs : List (List ℕ)) (x y : List ℕ) → IsFormat format → All IsPayload ps → All IsPayload qs → file ≡ opened format ps ++ x → file ≡ opened other qs ++ y
    → length (opened format ps) ≡ length (opened other qs) → (ps ≡ qs) × (format ≡ other)
same_front format other file ps qs x y known each_p each_q p q len =
    let formats : format ≡ other = same_format format other file ps qs x y p q in
    let fronts : opened format ps ≡ opened other qs =
    sym (take_at (opened format ps) x (length (opened format ps)) refl) ∙ (ap (take (length (opened format ps))) (sym p ∙ q) ∙ take_at (opened other qs) y (length (opened format ps)) (sym len)) in
    let closed_p : IsClosed (opened format ps) (opened format ps ++ 0 ∷ []) = record { gate = 0; rest = []; split = refl; shut = omega arith } in
    let closed_q : IsClosed (opened other qs) (opened format ps ++ 0 ∷ []) = record { gate = 0; rest = []; split = ap (λ (l : List ℕ). l ++ 0 ∷ []) fronts; shut = omega arith } in (
      stands_once format other (opened format ps ++ 0 ∷ []) ps qs (inr (record { known = known; each = each_p; closed = closed_p })) (inr (record { known = subst IsFormat formats known; each = each_q; closed = closed_q })),
      formats,
    )

-- a bad place after what was read
bad_place : (terms : DeskTerms) (file : List ℕ) (at : ℕ) (opening : OpeningState) (payloads : List (List ℕ)) (history : List Entry) → StandsBehind file opening payloads → Spells opening.format terms.digest payloads history → IsLegal terms.day history
    → at ≡ opening.window.at → HasBadLength file at → HasBadRecord terms file at
bad_place terms file at opening payloads history behind spells legal place bad =
    let len : length (opened opening.format payloads) ≡ length (opened bad.format bad.payloads) = sym behind.place ∙ (sym place ∙ bad.there) in
    let same = same_front opening.format bad.format file payloads bad.payloads (drop opening.window.at file) bad.place behind.known behind.each bad.each behind.split bad.split len in
    record {
      bad = bad;
      history = history;
      spells = subst (λ ps. Spells bad.format terms.digest ps history) same.0 (subst (λ (f : ℕ). Spells f terms.digest payloads history) same.1 spells);
      legal = legal;
    }

-- a refusal of the journal after what was read
refused_by : (terms : DeskTerms) (file : List ℕ) (opening : OpeningState) (payloads : List (List ℕ)) (history : List Entry) (why : OpeningFault) → StandsBehind file opening payloads → Spells opening.format terms.digest payloads history → IsLegal terms.day history
    → ((at : ℕ) → why ≡ OpeningFault.BadLength at → at ≡ opening.window.at) → Refuses file why → RefusesDesk terms file (fault_of why)
refused_by terms file opening payloads history OpeningFault.DiskFault behind spells legal place refuses = tt
refused_by terms file opening payloads history (OpeningFault.NotAJournal at) behind spells legal place refuses = refuses
refused_by terms file opening payloads history (OpeningFault.BadLength at) behind spells legal place refuses = bad_place terms file at opening payloads history behind spells legal (place at refl) refuses
refused_by terms file opening payloads history OpeningFault.OutOfMemory behind spells legal place refuses = tt

pub first_refused : (terms : DeskTerms) (file : List ℕ) (opening : OpeningState) (why : OpeningFault) → StandsBehind file opening []
    → ((at : ℕ) → why ≡ OpeningFault.BadLength at → at ≡ opening.window.at) → Refuses file why → RefusesDesk terms file (fault_of why)
first_refused terms file opening why behind place refuses =
    refused_by terms file opening [] [] why behind (inl (refl, refl)) (legal_none terms.day) place refuses

pub later_refused : (terms : DeskTerms) (file : List ℕ) (opening : OpeningState) (history : List Entry) (why : OpeningFault) → IsLegal terms.day history → HasRead terms.digest file opening history
    → ((at : ℕ) → why ≡ OpeningFault.BadLength at → at ≡ opening.window.at) → Refuses file why → RefusesDesk terms file (fault_of why)
later_refused terms file opening history why legal read place refuses =
    refused_by terms file opening (terms.digest ∷ read.rest) history why read.behind (inr (read.rest, refl, read.records)) legal place refuses

-- a payload that isn't a record
pub record_refused : (terms : DeskTerms) (file : List ℕ) (now : OpeningState) (rest : List (List ℕ)) (history : List Entry) (payload : List ℕ) (why : DeskFault) → AreRecords now.format rest history
    → StandsBehind file now (terms.digest ∷ rest ++ payload ∷ []) → RefusesRecord now.format terms.day history payload why → RefusesDesk terms file why
record_refused terms file now rest history payload DeskFault.DiskFault records behind deny = tt
record_refused terms file now rest history payload (DeskFault.JournalFull size) records behind deny = absurd deny
record_refused terms file now rest history payload (DeskFault.BadEntry at) records behind deny =
    let is_payload : IsPayload payload = last_payload (terms.digest ∷ rest) payload behind.each in
    record {
      format = now.format;
      known = behind.known;
      payloads = rest;
      earlier = history;
      records = records;
      payload = payload;
      each = behind.each;
      rest = drop now.window.at file;
      split = behind.split;
      front = deny.front;
      fits = deny.fits;
      bytes = deny.bytes;
      behind = deny.split;
      some = deny.some is_payload.some;
      legal = deny.legal;
      none = deny.none;
      there = deny.there;
    }
record_refused terms file now rest history payload (DeskFault.OtherRoster kept) records behind deny = absurd deny
record_refused terms file now rest history payload (DeskFault.NotAJournal at) records behind deny = absurd deny
record_refused terms file now rest history payload (DeskFault.BadLength at) records behind deny = absurd deny
record_refused terms file now rest history payload DeskFault.OutOfMemory records behind deny = tt

-- a payload that is one
pub record_read : (digest file : List ℕ) (terms : Terms) (now : OpeningState) (rest : List (List ℕ)) (old new : List Entry) (payload : List ℕ) → AreRecords now.format rest old
    → StandsBehind file now (digest ∷ rest ++ payload ∷ []) → TakesFront now.format terms old new payload [] → HasRead digest file now new
record_read digest file terms now rest old new payload records behind f =
    let bytes : payload ≡ entries_bytes now.format f.front = f.split ∙ append-nil (entries_bytes now.format f.front) in
    let is_record : IsRecord now.format f.front = record { some = f.some; spelled = f.fits } in
    let pushed : AreRecords now.format (rest ++ entries_bytes now.format f.front ∷ []) (old ++ f.front) = records_push now.format rest old f.front records is_record in
    record {
      rest = rest ++ payload ∷ [];
      behind = behind;
      records = subst (λ (p : List ℕ). AreRecords now.format (rest ++ p ∷ []) new) (sym bytes) (subst (λ (h : List Entry). AreRecords now.format (rest ++ entries_bytes now.format f.front ∷ []) h) (sym f.added) pushed);
    }

-- the digest alone
pub digest_read : (digest first file : List ℕ) (now : OpeningState) (history : List Entry) → first ≡ digest → history ≡ [] → StandsBehind file now (first ∷ []) → HasRead digest file now history
digest_read digest first file now history same none behind = record {
  rest = [];
  behind = subst (λ (d : List ℕ). StandsBehind file now (d ∷ [])) same behind;
  records = subst (λ (h : List Entry). AreRecords now.format [] h) (sym none) (no_records now.format);
}

pub read_all : (digest file : List ℕ) (old new : OpeningState) (history : List Entry) (read : HasRead digest file old history) → new.format ≡ old.format
    → StandsBehind file new (digest ∷ read.rest) × IsClosed (opened old.format (digest ∷ read.rest)) file → HasReadAll digest file new history
read_all digest file old new history read same both = record {
  read = record { rest = read.rest; behind = both.0; records = subst (λ (f : ℕ). AreRecords f read.rest history) (sym same) read.records };
  closed = subst (λ (f : ℕ). IsClosed (opened f (digest ∷ read.rest)) file) (sym same) both.1;
}

-- another first payload
pub other_first : (terms : DeskTerms) (file first : List ℕ) (now : OpeningState) (why : DeskFault) → first ≢ terms.digest → why ≡ DeskFault.OtherRoster (told_of first) → StandsBehind file now (first ∷ []) → RefusesDesk terms file why
other_first terms file first now why other is behind =
    subst (RefusesDesk terms file) (sym is) (record {
      format = now.format;
      known = behind.known;
      first = first;
      is_payload = All-head IsPayload first [] behind.each;
      rest = drop now.window.at file;
      split = behind.split;
      other = other;
      told = refl;
    })

-- a legal history is short, so what is left of its length falls with each record
pub still_shorter : (terms : Terms) (old new : List Entry) (front : List Entry) → IsDay terms new → 0 < length front → new ≡ old ++ front → 2 ^ 32 - length new < 2 ^ 32 - length old
still_shorter terms old new front day some added = omega (arith, day_entries terms new day, ap length added, length-append old front, some)
