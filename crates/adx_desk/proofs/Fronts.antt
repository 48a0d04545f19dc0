-- The entries at the front of a payload, read one by one.
use Rattle.std.proofs.Common.{◌≡◌, inl, inr, ℕ, ◌<◌, List, [], ◌∷◌, ◌++◌, length, refl, sym, ◌∙◌, ap, subst, arith, append_assoc, length-append}
use Rattle.std.proofs.lemmas.Grind.{flat_map-append}
use Rattle.std.proofs.lemmas.List.{append-nil}
use Rattle.std.proofs.lemmas.List.Elements.{All-cons, All-nil, All-push}
use Rattle.day_entries.specs.Entries.{BeginsWith, Fits, entry_bytes, entries_bytes}
use Rattle.day_rules.specs.declared.entry.Entry.{Entry}
use Rattle.day_rules.specs.Legal.{IsLegal, MayFollow}
use Rattle.day_rules.specs.Terms.{Terms}
use Rattle.day_rules.proofs.Histories.{legal_push}
use Rattle.adx_desk.specs.declared.fault.DeskFault.{DeskFault}
use Rattle.adx_desk.specs.Loading.{BehindFront, LacksNext, RefusesEntry, RefusesNext, RefusesRecord, TakesEntry, TakesFront}
use Rattle.day_entries.proofs.Lengths.{some_bytes}
use Rattle.adx_desk.proofs.Records.{one_bytes}

module _ (format : ℕ) where
  pub first_front : (terms : Terms) (old new : List Entry) (payload rest : List ℕ) → IsLegal terms old → TakesEntry format terms old new payload rest → TakesFront format terms old new payload rest
  first_front terms old new payload rest legal t = record {
    front = t.entry ∷ [];
    some = omega arith;
    fits = All-cons (Fits format) t.entry [] t.fits (All-nil (Fits format));
    split = t.split ∙ ap (λ (l : List ℕ). l ++ rest) (sym (one_bytes format t.entry));
    added = t.added;
    legal = subst (λ (h : List Entry). IsLegal terms h) (sym t.added) (legal_push terms old t.entry legal t.follows);
  }

  more_bytes : (front : List Entry) (e : Entry) (payload rest next : List ℕ) → payload ≡ entries_bytes format front ++ rest → rest ≡ entry_bytes format e ++ next → payload ≡ entries_bytes format (front ++ e ∷ []) ++ next
  more_bytes front e payload rest next split first =
      split
      ∙ (ap (λ (l : List ℕ). entries_bytes format front ++ l) first
      ∙ (sym (append_assoc (entries_bytes format front) (entry_bytes format e) next)
      ∙ ap (λ (l : List ℕ). l ++ next) (sym (flat_map-append (entry_bytes format) front (e ∷ []) ∙ ap (λ (l : List ℕ). entries_bytes format front ++ l) (one_bytes format e)))))

  pub more_front : (terms : Terms) (old mid new : List Entry) (payload rest next : List ℕ) → TakesFront format terms old mid payload rest → TakesEntry format terms mid new rest next → TakesFront format terms old new payload next
  more_front terms old mid new payload rest next f t = record {
    front = f.front ++ t.entry ∷ [];
    some = omega (arith, length-append f.front (t.entry ∷ []));
    fits = All-push (Fits format) f.front t.entry f.fits t.fits;
    split = more_bytes f.front t.entry payload rest next f.split t.split;
    added = t.added ∙ (ap (λ (h : List Entry). h ++ t.entry ∷ []) f.added ∙ append_assoc old f.front (t.entry ∷ []));
    legal = subst (λ (h : List Entry). IsLegal terms h) (sym t.added) (legal_push terms mid t.entry f.legal t.follows);
  }

  -- less of it is left
  pub shorter : (terms : Terms) (old new : List Entry) (bytes rest : List ℕ) → TakesEntry format terms old new bytes rest → length rest < length bytes
  shorter terms old new bytes rest t = omega (arith, ap length t.split, length-append (entry_bytes format t.entry) rest, some_bytes format t.entry)

  -- an entry that was read may not follow: so none that is there may
  pub refuses_entry : (terms : Terms) (history : List Entry) (bytes : List ℕ) (e : Entry) (why : DeskFault) → ((x : Entry) (n : ℕ) → BeginsWith format bytes x n → e ≡ x)
      → RefusesNext terms history e why → RefusesEntry format terms history bytes why
  refuses_entry terms history bytes e DeskFault.DiskFault one deny = deny
  refuses_entry terms history bytes e (DeskFault.JournalFull size) one deny = deny
  refuses_entry terms history bytes e (DeskFault.BadEntry at) one deny =
      (deny.0, λ x n begins follows. deny.1 (subst (λ (y : Entry). MayFollow terms history y) (sym (one x n begins)) follows))
  refuses_entry terms history bytes e (DeskFault.OtherRoster kept) one deny = deny
  refuses_entry terms history bytes e (DeskFault.NotAJournal at) one deny = deny
  refuses_entry terms history bytes e (DeskFault.BadLength at) one deny = deny
  refuses_entry terms history bytes e DeskFault.OutOfMemory one deny = tt

  -- the first entry of a payload
  pub stops_first : (terms : Terms) (history : List Entry) (payload : List ℕ) (why : DeskFault) → IsLegal terms history → RefusesEntry format terms history payload why → RefusesRecord format terms history payload why
  stops_first terms history payload DeskFault.DiskFault legal deny = deny
  stops_first terms history payload (DeskFault.JournalFull size) legal deny = deny
  stops_first terms history payload (DeskFault.BadEntry at) legal deny = record {
    front = [];
    fits = All-nil (Fits format);
    bytes = payload;
    split = refl;
    some = λ some. some;
    legal = subst (λ (h : List Entry). IsLegal terms h) (sym (append-nil history)) legal;
    none = subst (λ (h : List Entry). LacksNext format terms h payload) (sym (append-nil history)) deny.1;
    there = deny.0 ∙ ap (λ (h : List Entry). length h) (sym (append-nil history));
  }
  stops_first terms history payload (DeskFault.OtherRoster kept) legal deny = deny
  stops_first terms history payload (DeskFault.NotAJournal at) legal deny = deny
  stops_first terms history payload (DeskFault.BadLength at) legal deny = deny
  stops_first terms history payload DeskFault.OutOfMemory legal deny = tt

  -- a later one
  pub stops_later : (terms : Terms) (old mid : List Entry) (payload rest : List ℕ) (why : DeskFault) → TakesFront format terms old mid payload rest → 0 < length rest → RefusesEntry format terms mid rest why → RefusesRecord format terms old payload why
  stops_later terms old mid payload rest DeskFault.DiskFault f some deny = deny
  stops_later terms old mid payload rest (DeskFault.JournalFull size) f some deny = deny
  stops_later terms old mid payload rest (DeskFault.BadEntry at) f some deny = record {
    front = f.front;
    fits = f.fits;
    bytes = rest;
    split = f.split;
    some = λ any. some;
    legal = subst (λ (h : List Entry). IsLegal terms h) f.added f.legal;
    none = subst (λ (h : List Entry). LacksNext format terms h rest) f.added deny.1;
    there = deny.0 ∙ ap (λ (h : List Entry). length h) f.added;
  }
  stops_later terms old mid payload rest (DeskFault.OtherRoster kept) f some deny = deny
  stops_later terms old mid payload rest (DeskFault.NotAJournal at) f some deny = deny
  stops_later terms old mid payload rest (DeskFault.BadLength at) f some deny = deny
  stops_later terms old mid payload rest DeskFault.OutOfMemory f some deny = tt

  -- from any of these on
  pub taken_behind : (terms : Terms) (old mid new : List Entry) (payload rest next : List ℕ) → IsLegal terms old → BehindFront format terms old mid payload rest → TakesEntry format terms mid new rest next → TakesFront format terms old new payload next
  taken_behind terms old mid new payload rest next legal (inl none) t =
      first_front terms old new payload next legal (subst (λ (h : List Entry). TakesEntry format terms h new payload next) none.0 (subst (λ (l : List ℕ). TakesEntry format terms mid new l next) none.1 t))
  taken_behind terms old mid new payload rest next legal (inr some) t = more_front terms old mid new payload rest next some.0 t

  pub stops_behind : (terms : Terms) (old mid : List Entry) (payload rest : List ℕ) (why : DeskFault) → IsLegal terms old → BehindFront format terms old mid payload rest → RefusesEntry format terms mid rest why → RefusesRecord format terms old payload why
  stops_behind terms old mid payload rest why legal (inl none) deny =
      stops_first terms old payload why legal (subst (λ (h : List Entry). RefusesEntry format terms h payload why) none.0 (subst (λ (l : List ℕ). RefusesEntry format terms mid l why) none.1 deny))
  stops_behind terms old mid payload rest why legal (inr some) deny = stops_later terms old mid payload rest why some.0 some.1 deny

  pub none_left : (bytes : List ℕ) → length bytes ≡ 0 → bytes ≡ []
  none_left [] none = refl
  none_left (b ∷ bytes) none = absurd (omega (arith, none))
