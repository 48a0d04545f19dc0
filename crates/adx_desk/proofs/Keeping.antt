-- What a desk keeps, from call to call.
use Rattle.std.proofs.Common.{◌≡◌, ◌⊎◌, ⊎_elim, inl, inr, ℕ, ◌+◌, ◌<◌, ◌≤◌, List, [], ◌∷◌, ◌++◌, Bool, true, false, IsTrue, Option, Some, None, length, refl, sym, ◌∙◌, ap, subst, arith, append-nil}
use Rattle.std.specs.Prelude.{is_some}
use Rattle.std.proofs.lemmas.Bool.{false≢true}
use Rattle.day_journal.specs.Disks.{Each, LeavesOnly}
use Rattle.day_journal.specs.Faults.{greatest_size}
use Rattle.day_journal.specs.Tails.{JournalState, Keeps, size_of, size_after, WithAtMostOne as WithOnePayload}
use Rattle.day_journal.proofs.Keeping.{keeps_stand, place_after}
use Rattle.day_journal.proofs.Moments.{started, weaker}
use Rattle.day_entries.specs.Entries.{Fits, IsNoticeOrMoment, entry_bytes, entries_bytes}
use Rattle.day_rules.specs.declared.entry.Entry.{Entry}
use Rattle.day_rules.specs.DayState.{IsDay}
use Rattle.day_rules.specs.Legal.{IsLegal, MayFollow}
use Rattle.day_rules.proofs.Histories.{legal_push}
use Rattle.adx_desk.specs.Desks.{DeskKeeps, DeskKeepsSome, DeskState, MayStandBehind, StandsOnDisk}
use Rattle.adx_desk.specs.Endings.{size_with}
use Rattle.day_machine.specs.Held.{held}
use Rattle.adx_desk.specs.Histories.{IsRecord, WithAtMostOne, WithOrWithout}
use Rattle.adx_desk.specs.Journaled.{beside}
use Rattle.day_machine.proofs.Holding.{held_falls}
use Rattle.adx_desk.proofs.Records.{behind_stands, history_stands, no_empty, one_bytes, one_record, records_push}

-- a journal that isn't in doubt keeps its payloads with any tail
any_tail_by : (images : List ℕ → Type 0) (format gate : ℕ) (b : Bool) (ps : List (List ℕ)) (t a : List ℕ) → (IsTrue b → ⊥)
    → Keeps images (record { format = format; gate = gate; in_doubt = b }) ps t → Keeps images (record { format = format; gate = gate; in_doubt = b }) ps a
any_tail_by images format gate true ps t a sure k = absurd (sure refl)
any_tail_by images format gate false ps t a sure k = record { known = k.known; place = k.place; each = k.each; doubted = λ no. absurd (sure no); ends = k.ends }

any_tail : (images : List ℕ → Type 0) (j : JournalState) (ps : List (List ℕ)) (t a : List ℕ) → (IsTrue j.in_doubt → ⊥) → Keeps images j ps t → Keeps images j ps a
any_tail images j ps t a sure k = any_tail_by images j.format j.gate j.in_doubt ps t a sure k

-- with no bytes as its tail a journal isn't in doubt
pub sure_by_none : (images : List ℕ → Type 0) (j : JournalState) (ps : List (List ℕ)) → Keeps images j ps [] → IsTrue j.in_doubt → ⊥
sure_by_none images j ps k doubt = let p = k.doubted doubt in omega (arith, p.some)

-- each image represents the history, or it and the tail
keeps_by : (images : List ℕ → Type 0) (desk : DeskState) (tail : List Entry) (b : Bool) → desk.journal.in_doubt ≡ b → DeskKeeps images desk tail → Each images (WithOrWithout desk.terms desk.history tail)
keeps_by images desk tail true is k c left =
    let may = k.doubted is in
    ⊎_elim (λ alone. inl (history_stands desk.journal.format desk.terms c k.rest desk.history k.records k.legal k.room alone))
    (λ with_tail. inr (behind_stands desk.journal.format desk.terms c k.rest desk.history tail k.records may with_tail))
    (keeps_stand images desk.journal (desk.terms.digest ∷ k.rest) (entries_bytes desk.journal.format tail) k.kept c left)
keeps_by images desk tail false is k c left =
    let ps : List (List ℕ) = desk.terms.digest ∷ k.rest in
    let none = any_tail images desk.journal ps (entries_bytes desk.journal.format tail) [] (λ yes. false≢true (sym is ∙ yes)) k.kept in
    ⊎_elim (λ alone. inl (history_stands desk.journal.format desk.terms c k.rest desk.history k.records k.legal k.room alone))
    (λ with_none. absurd (no_empty desk.journal.format c ps with_none))
    (keeps_stand images desk.journal ps [] none c left)

pub keeps_histories : (images : List ℕ → Type 0) (desk : DeskState) (tail : List Entry) → DeskKeeps images desk tail → Each images (WithOrWithout desk.terms desk.history tail)
keeps_histories images desk tail k = keeps_by images desk tail desk.journal.in_doubt refl k

-- a desk that isn't in doubt keeps its history with no tail
sure_keeps : (images : List ℕ → Type 0) (desk : DeskState) (tail : List Entry) → desk.journal.in_doubt ≡ false → DeskKeeps images desk tail → DeskKeeps images desk []
sure_keeps images desk tail sure k =
    let no : IsTrue desk.journal.in_doubt → ⊥ = λ yes. false≢true (sym sure ∙ yes) in record {
      rest = k.rest;
      kept = any_tail images desk.journal (desk.terms.digest ∷ k.rest) (entries_bytes desk.journal.format tail) (entries_bytes desk.journal.format []) no k.kept;
      records = k.records;
      legal = k.legal;
      room = k.room;
      doubted = λ yes. absurd (no yes);
    }

-- what a crash leaves of a desk
pub stands_on_disk : (images : List ℕ → Type 0) (desk : DeskState) → DeskKeepsSome images desk → StandsOnDisk images desk
stands_on_disk images desk k = by desk.journal.in_doubt refl
  where
    by : (b : Bool) → desk.journal.in_doubt ≡ b → StandsOnDisk images desk
    by true doubt = record {
      tail = k.tail;
      one_record = k.one_record;
      legal = (k.keeps.doubted doubt).legal;
      sure = λ none. let s = k.sure none in absurd (sure_by_none images desk.journal (desk.terms.digest ∷ s.rest) s.kept doubt);
      each = keeps_histories images desk k.tail k.keeps;
    }
    by false sure = record {
      tail = [];
      one_record = omega arith;
      legal = subst (IsLegal desk.terms.day) (sym (append-nil desk.history)) k.keeps.legal;
      sure = λ none. refl;
      each = keeps_histories images desk [] (sure_keeps images desk k.tail sure k.keeps);
    }

-- the room that an entry leaves, and what the journal was asked to hold beside its record
pub fits_with : (desk : DeskState) (e : Entry) → IsDay desk.terms.day desk.history → MayFollow desk.terms.day desk.history e → size_of desk.journal + held desk.journal.format desk.history ≤ greatest_size
    → size_after desk.journal (entry_bytes desk.journal.format e) (beside desk.journal.format desk.history e) ≤ greatest_size → size_with desk e ≤ greatest_size
fits_with desk (Entry.Ask a) day follows room fits = omega (arith, fits)
fits_with desk (Entry.Win n) day follows room fits = omega (arith, room, held_falls desk.journal.format desk.terms.day desk.history (Entry.Win n) day follows tt)
fits_with desk (Entry.Bill n) day follows room fits = omega (arith, room, held_falls desk.journal.format desk.terms.day desk.history (Entry.Bill n) day follows tt)
fits_with desk (Entry.Loss n) day follows room fits = omega (arith, room, held_falls desk.journal.format desk.terms.day desk.history (Entry.Loss n) day follows tt)
fits_with desk (Entry.Expire now) day follows room fits = omega (arith, room, held_falls desk.journal.format desk.terms.day desk.history (Entry.Expire now) day follows tt)
fits_with desk (Entry.Budget campaign change budget) day follows room fits = omega (arith, fits)

pub passes_with : (desk : DeskState) (e : Entry) → IsDay desk.terms.day desk.history → MayFollow desk.terms.day desk.history e → size_of desk.journal + held desk.journal.format desk.history ≤ greatest_size
    → greatest_size < size_after desk.journal (entry_bytes desk.journal.format e) (beside desk.journal.format desk.history e) → size_after desk.journal (entry_bytes desk.journal.format e) (beside desk.journal.format desk.history e) ≡ size_with desk e
passes_with desk (Entry.Ask a) day follows room passes = omega arith
passes_with desk (Entry.Win n) day follows room passes = absurd (omega (arith, room, passes, held_falls desk.journal.format desk.terms.day desk.history (Entry.Win n) day follows tt))
passes_with desk (Entry.Bill n) day follows room passes = absurd (omega (arith, room, passes, held_falls desk.journal.format desk.terms.day desk.history (Entry.Bill n) day follows tt))
passes_with desk (Entry.Loss n) day follows room passes = absurd (omega (arith, room, passes, held_falls desk.journal.format desk.terms.day desk.history (Entry.Loss n) day follows tt))
passes_with desk (Entry.Expire now) day follows room passes = absurd (omega (arith, room, passes, held_falls desk.journal.format desk.terms.day desk.history (Entry.Expire now) day follows tt))
passes_with desk (Entry.Budget campaign change budget) day follows room passes = omega arith

-- the entry of a notice or a moment always fits
pub notice_fits : (desk : DeskState) (e : Entry) → IsDay desk.terms.day desk.history → MayFollow desk.terms.day desk.history e → IsNoticeOrMoment e → size_of desk.journal + held desk.journal.format desk.history ≤ greatest_size → size_with desk e ≤ greatest_size
notice_fits desk e day follows none room = omega (arith, room, held_falls desk.journal.format desk.terms.day desk.history e day follows none)

-- entries that may come after the desk's history as one record, for which its journal has room
pub record MayAdd (desk : DeskState) (es : List Entry) : Type 0 where
  pub is_record : IsRecord desk.journal.format es
  pub legal : IsLegal desk.terms.day (desk.history ++ es)
  pub room : size_of desk.journal + (length (entries_bytes desk.journal.format es) + 5) + held desk.journal.format (desk.history ++ es) ≤ greatest_size

-- one entry
pub may_add : (desk : DeskState) (e : Entry) → IsLegal desk.terms.day desk.history → MayFollow desk.terms.day desk.history e → Fits desk.journal.format e → size_with desk e ≤ greatest_size → MayAdd desk (e ∷ [])
may_add desk e legal follows fits room =
    record { is_record = one_record desk.journal.format e fits; legal = legal_push desk.terms.day desk.history e legal follows; room = omega (arith, room, ap length (one_bytes desk.journal.format e)) }

-- as a record after those of the desk
pub may_stand : (images : List ℕ → Type 0) (desk : DeskState) (es : List Entry) (tail : List Entry) → MayAdd desk es → (k : DeskKeeps images desk tail) → MayStandBehind desk.terms desk.journal.format (desk.terms.digest ∷ k.rest) desk.history es
may_stand images desk es tail may k =
    let place = place_after desk.journal.format (desk.terms.digest ∷ k.rest) (entries_bytes desk.journal.format es) desk.journal.gate (length (entries_bytes desk.journal.format es) + 5) k.kept.place refl in
    record { is_record = may.is_record; legal = may.legal; room = omega (arith, place, may.room) }

-- what holds of each journal of a format holds of one
with_format : (P : JournalState → Type 0) (format : ℕ) (j : JournalState) → j.format ≡ format → ((gate : ℕ) (b : Bool) → P (record { format = format; gate = gate; in_doubt = b })) → P j
with_format P format j same all = subst (λ (f : ℕ). P (record { format = f; gate = j.gate; in_doubt = j.in_doubt })) (sym same) (all j.gate j.in_doubt)

-- a journal of the desk's format
abbrev like : DeskState → ℕ → Bool → JournalState
like desk gate d = record { format = desk.journal.format; gate = gate; in_doubt = d }

-- where the record was acknowledged
pushed_like : (images new_images : List ℕ → Type 0) (desk : DeskState) (gate : ℕ) (d : Bool) (faults : ℕ) (es : List Entry) (tail any : List Entry)
    → MayAdd desk es
    → ((payloads : List (List ℕ)) (t a : List ℕ) → Keeps images desk.journal payloads t → Keeps new_images (like desk gate d) (payloads ++ entries_bytes desk.journal.format es ∷ []) a)
    → DeskKeeps images desk tail → DeskKeeps new_images (record { terms = desk.terms; history = desk.history ++ es; journal = like desk gate d; faults = faults }) any
pushed_like images new_images desk gate d faults es tail any add kept k =
    let ps : List (List ℕ) = desk.terms.digest ∷ k.rest in
    let after : (a : List ℕ) → Keeps new_images (like desk gate d) (ps ++ entries_bytes desk.journal.format es ∷ []) a = λ a. kept ps (entries_bytes desk.journal.format tail) a k.kept in
    let may = may_stand images desk es tail add k in
    record {
      rest = k.rest ++ entries_bytes desk.journal.format es ∷ [];
      kept = after (entries_bytes desk.journal.format any);
      records = records_push desk.journal.format k.rest desk.history es k.records add.is_record;
      legal = add.legal;
      room = may.room;
      doubted = λ doubt. absurd (sure_by_none new_images (like desk gate d) (ps ++ entries_bytes desk.journal.format es ∷ []) (after []) doubt);
    }

pub keeps_pushed : (images new_images : List ℕ → Type 0) (desk : DeskState) (journal : JournalState) (faults : ℕ) (es : List Entry) (tail any : List Entry)
    → journal.format ≡ desk.journal.format → MayAdd desk es
    → ((payloads : List (List ℕ)) (t a : List ℕ) → Keeps images desk.journal payloads t → Keeps new_images journal (payloads ++ entries_bytes desk.journal.format es ∷ []) a)
    → DeskKeeps images desk tail → DeskKeeps new_images (record { terms = desk.terms; history = desk.history ++ es; journal = journal; faults = faults }) any
keeps_pushed images new_images desk journal faults es tail any same add =
    with_format (λ j. ((payloads : List (List ℕ)) (t a : List ℕ) → Keeps images desk.journal payloads t → Keeps new_images j (payloads ++ entries_bytes desk.journal.format es ∷ []) a)
    → DeskKeeps images desk tail → DeskKeeps new_images (record { terms = desk.terms; history = desk.history ++ es; journal = j; faults = faults }) any)
    desk.journal.format journal same (λ gate d. pushed_like images new_images desk gate d faults es tail any add)

-- the desk after a fault of the disk
abbrev pub after_fault : DeskState → JournalState → ℕ → DeskState
after_fault desk journal faults = record { terms = desk.terms; history = desk.history; journal = journal; faults = faults }

abbrev KeptEither : (List ℕ → Type 0) → DeskState → JournalState → ℕ → List Entry → List Entry → Type 0
KeptEither new_images desk journal faults tail new = DeskKeeps new_images (after_fault desk journal faults) tail ⊎ DeskKeeps new_images (after_fault desk journal faults) new

-- with this call's record in doubt
keeps_new : (images new_images : List ℕ → Type 0) (desk : DeskState) (gate : ℕ) (d : Bool) (faults : ℕ) (es : List Entry) (tail : List Entry)
    → MayAdd desk es
    → (k : DeskKeeps images desk tail) → Keeps new_images (like desk gate d) (desk.terms.digest ∷ k.rest) (entries_bytes desk.journal.format es)
    → DeskKeeps new_images (after_fault desk (like desk gate d) faults) es
keeps_new images new_images desk gate d faults es tail add k kept = record {
  rest = k.rest;
  kept = kept;
  records = k.records;
  legal = k.legal;
  room = k.room;
  doubted = λ doubt. may_stand images desk es tail add k;
}

-- with the record that was in doubt
keeps_old : (images new_images : List ℕ → Type 0) (desk : DeskState) (gate : ℕ) (d : Bool) (faults : ℕ) (tail : List Entry)
    → (k : DeskKeeps images desk tail) → Keeps new_images (like desk gate d) (desk.terms.digest ∷ k.rest) (entries_bytes desk.journal.format tail)
    → (IsTrue (like desk gate d).in_doubt → MayStandBehind desk.terms desk.journal.format (desk.terms.digest ∷ k.rest) desk.history tail)
    → DeskKeeps new_images (after_fault desk (like desk gate d) faults) tail
keeps_old images new_images desk gate d faults tail k kept may =
    record { rest = k.rest; kept = kept; records = k.records; legal = k.legal; room = k.room; doubted = may }

keeps_either : (images new_images : List ℕ → Type 0) (desk : DeskState) (gate : ℕ) (d : Bool) (faults : ℕ) (es : List Entry) (tail : List Entry) (b : Bool) → desk.journal.in_doubt ≡ b
    → MayAdd desk es
    → ((payloads : List (List ℕ)) (t : List ℕ) → Keeps images desk.journal payloads t → Keeps new_images (like desk gate d) payloads t ⊎ Keeps new_images (like desk gate d) payloads (entries_bytes desk.journal.format es))
    → DeskKeeps images desk tail → KeptEither new_images desk (like desk gate d) faults tail es
keeps_either images new_images desk gate d faults es tail true is add kept k =
    ⊎_elim (λ old. inl (keeps_old images new_images desk gate d faults tail k old (λ doubt. k.doubted is)))
    (λ new. inr (keeps_new images new_images desk gate d faults es tail add k new))
    (kept (desk.terms.digest ∷ k.rest) (entries_bytes desk.journal.format tail) k.kept)
keeps_either images new_images desk gate d faults es tail false is add kept k =
    let ps : List (List ℕ) = desk.terms.digest ∷ k.rest in
    let none = any_tail images desk.journal ps (entries_bytes desk.journal.format tail) [] (λ yes. false≢true (sym is ∙ yes)) k.kept in
    ⊎_elim (λ old.
    let sure : IsTrue (like desk gate d).in_doubt → ⊥ = sure_by_none new_images (like desk gate d) ps old in
    inl (keeps_old images new_images desk gate d faults tail k (any_tail new_images (like desk gate d) ps [] (entries_bytes desk.journal.format tail) sure old) (λ doubt. absurd (sure doubt))))
    (λ new. inr (keeps_new images new_images desk gate d faults es tail add k new))
    (kept ps [] none)

-- where the disk failed
pub keeps_doubted : (images new_images : List ℕ → Type 0) (desk : DeskState) (journal : JournalState) (faults : ℕ) (es : List Entry) (tail : List Entry)
    → journal.format ≡ desk.journal.format → MayAdd desk es
    → ((payloads : List (List ℕ)) (t : List ℕ) → Keeps images desk.journal payloads t → Keeps new_images journal payloads t ⊎ Keeps new_images journal payloads (entries_bytes desk.journal.format es))
    → DeskKeeps images desk tail → KeptEither new_images desk journal faults tail es
keeps_doubted images new_images desk journal faults es tail same add =
    with_format (λ j. ((payloads : List (List ℕ)) (t : List ℕ) → Keeps images desk.journal payloads t → Keeps new_images j payloads t ⊎ Keeps new_images j payloads (entries_bytes desk.journal.format es))
    → DeskKeeps images desk tail → KeptEither new_images desk j faults tail es)
    desk.journal.format journal same (λ gate d. keeps_either images new_images desk gate d faults es tail desk.journal.in_doubt refl add)

-- the moments of a call that writes a record
module _ {D : Type 0} (moment : D → ℕ) (left_since : D → ℕ → List ℕ → Type 0) where
  moments_by : (old new : D) (images : List ℕ → Type 0) (desk : DeskState) (es : List Entry) (tail : List Entry) (b : Bool) → desk.journal.in_doubt ≡ b
      → MayAdd desk es
      → ((payloads : List (List ℕ)) (t : List ℕ) → Keeps images desk.journal payloads t → LeavesOnly moment left_since old new (WithOnePayload desk.journal.format payloads t (entries_bytes desk.journal.format es)))
      → DeskKeeps images desk tail → LeavesOnly moment left_since old new (WithAtMostOne desk.terms desk.history tail es)
  moments_by old new images desk es tail true is add run k =
      let ps : List (List ℕ) = desk.terms.digest ∷ k.rest in
      let may = may_stand images desk es tail add k in
      weaker moment left_since old new (WithOnePayload desk.journal.format ps (entries_bytes desk.journal.format tail) (entries_bytes desk.journal.format es)) (WithAtMostOne desk.terms desk.history tail es)
      (run ps (entries_bytes desk.journal.format tail) k.kept)
      (λ c. ⊎_elim (λ alone. inl (history_stands desk.journal.format desk.terms c k.rest desk.history k.records k.legal k.room alone))
      (⊎_elim (λ with_tail. inr (inl (behind_stands desk.journal.format desk.terms c k.rest desk.history tail k.records (k.doubted is) with_tail)))
      (λ with_new. inr (inr (behind_stands desk.journal.format desk.terms c k.rest desk.history es k.records may with_new)))))
  moments_by old new images desk es tail false is add run k =
      let ps : List (List ℕ) = desk.terms.digest ∷ k.rest in
      let may = may_stand images desk es tail add k in
      let none = any_tail images desk.journal ps (entries_bytes desk.journal.format tail) [] (λ yes. false≢true (sym is ∙ yes)) k.kept in
      weaker moment left_since old new (WithOnePayload desk.journal.format ps [] (entries_bytes desk.journal.format es)) (WithAtMostOne desk.terms desk.history tail es)
      (run ps [] none)
      (λ c. ⊎_elim (λ alone. inl (history_stands desk.journal.format desk.terms c k.rest desk.history k.records k.legal k.room alone))
      (⊎_elim (λ with_none. absurd (no_empty desk.journal.format c ps with_none))
      (λ with_new. inr (inr (behind_stands desk.journal.format desk.terms c k.rest desk.history es k.records may with_new)))))

  pub moments_pushed : (old new : D) (images : List ℕ → Type 0) (desk : DeskState) (es : List Entry) (tail : List Entry)
      → MayAdd desk es
      → ((payloads : List (List ℕ)) (t : List ℕ) → Keeps images desk.journal payloads t → LeavesOnly moment left_since old new (WithOnePayload desk.journal.format payloads t (entries_bytes desk.journal.format es)))
      → DeskKeeps images desk tail → LeavesOnly moment left_since old new (WithAtMostOne desk.terms desk.history tail es)
  moments_pushed old new images desk es tail = moments_by old new images desk es tail desk.journal.in_doubt refl

  -- those of a call that leaves the disk as it is
  pub moments_same : (disk : D) (images : List ℕ → Type 0) (desk : DeskState) (tail new : List Entry) → ((c : List ℕ) → left_since disk (moment disk) c → images c)
      → DeskKeeps images desk tail → LeavesOnly moment left_since disk disk (WithAtMostOne desk.terms desk.history tail new)
  moments_same disk images desk tail new now k =
      started moment left_since disk (WithAtMostOne desk.terms desk.history tail new)
      (λ c left. ⊎_elim inl (λ with_tail. inr (inl with_tail)) (keeps_histories images desk tail k c (now c left)))

pub told_some : {A : Type 0} (o : Option A) → is_some o ≡ true → (x : A) × (o ≡ Some x)
told_some None told = absurd (cc told)
told_some (Some x) told = (x, refl)
