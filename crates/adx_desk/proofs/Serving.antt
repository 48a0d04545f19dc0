-- What a call leaves, by its parts.
use Rattle.std.proofs.Common.{◌≡◌, ◌⊎◌, inl, inr, ℕ, ◌<◌, ◌≤◌, List, [], ◌∷◌, ◌++◌, length, Option, Some, None, refl, sym, ◌∙◌, ap, subst, arith}
use Rattle.std.specs.Prelude.{Result, Ok, Err, IfErr}
use Rattle.std.proofs.lemmas.List.{append-nil}
use Rattle.day_journal.specs.Disks.{LeavesOnly}
use Rattle.adx_io.specs.Fakes.{counted}
use Rattle.day_journal.specs.Tails.{JournalState, Keeps, WithAtMostOne as WithOnePayload}
use Rattle.day_rules.specs.declared.entry.Entry.{Entry}
use Rattle.adx_desk.specs.declared.fault.DeskFault.{DeskFault}
use Rattle.adx_desk.specs.Desks.{AtOpening, DeskKeeps, DeskKeepsSome, DeskState, OnDisk}
use Rattle.adx_desk.specs.Endings.{EndsAsk, EndsNotice}
use Rattle.adx_desk.specs.Journaled.{unopened}
use Rattle.day_machine.specs.Batches.{added_by}
use Rattle.day_entries.specs.Entries.{entries_bytes}
use Rattle.adx_desk.specs.Serving.{Serves, ServesAll}
use Rattle.adx_desk.proofs.Keeping.{MayAdd, after_fault, keeps_doubted, keeps_pushed, moments_pushed, moments_same}

along : {A B : Type 0} (P : A → B → Type 0) {a b : A} {c d : B} → a ≡ b → c ≡ d → P a c → P b d
along P {a} {b} {c} {d} p q h = subst (λ x. P x d) p (subst (P a) q h)

module _ {D : Type 0} (may_leave : D → List ℕ → Type 0) (moment : D → ℕ) (left_since : D → ℕ → List ℕ → Type 0) where
  -- a record that was acknowledged
  pub serves_added : {T : Type 0} (x : T) (desk : DeskState) (old new : D) (journal : JournalState) (faults : ℕ) (es : List Entry) → journal.format ≡ desk.journal.format → MayAdd desk es
      → ((payloads : List (List ℕ)) (t : List ℕ) → Keeps (may_leave old) desk.journal payloads t → LeavesOnly moment left_since old new (WithOnePayload desk.journal.format payloads t (entries_bytes desk.journal.format es)))
      → ((payloads : List (List ℕ)) (t a : List ℕ) → Keeps (may_leave old) desk.journal payloads t → Keeps (may_leave new) journal (payloads ++ entries_bytes desk.journal.format es ∷ []) a)
      → ServesAll {T = T} may_leave moment left_since (record { desk = desk; disk = old; since = unopened }) (record { desk = record { terms = desk.terms; history = desk.history ++ es; journal = journal; faults = faults }; disk = new; since = unopened }) es (Ok x)
  serves_added {T} x desk old new journal faults es same add run kept = record {
    terms = refl;
    since = refl;
    history = refl;
    same = record {};
    any_moment = λ tail k. moments_pushed moment left_since old new (may_leave old) desk es tail add run k;
    done = λ tail k. keeps_pushed (may_leave old) (may_leave new) desk journal faults es tail tail same add kept k;
    acknowledged = λ some tail any k. keeps_pushed (may_leave old) (may_leave new) desk journal faults es tail any same add kept k;
    doubted = record {};
  }

  -- a fault of the disk
  pub serves_failed : {T : Type 0} (why : DeskFault) (desk : DeskState) (old new : D) (journal : JournalState) (faults : ℕ) (es : List Entry) → journal.format ≡ desk.journal.format → MayAdd desk es
      → ((payloads : List (List ℕ)) (t : List ℕ) → Keeps (may_leave old) desk.journal payloads t → LeavesOnly moment left_since old new (WithOnePayload desk.journal.format payloads t (entries_bytes desk.journal.format es)))
      → ((payloads : List (List ℕ)) (t : List ℕ) → Keeps (may_leave old) desk.journal payloads t → Keeps (may_leave new) journal payloads t ⊎ Keeps (may_leave new) journal payloads (entries_bytes desk.journal.format es))
      → ServesAll {T = T} may_leave moment left_since (record { desk = desk; disk = old; since = unopened }) (record { desk = after_fault desk journal faults; disk = new; since = unopened }) es (Err why)
  serves_failed {T} why desk old new journal faults es same add run kept = record {
    terms = refl;
    since = refl;
    history = record {};
    same = refl;
    any_moment = λ tail k. moments_pushed moment left_since old new (may_leave old) desk es tail add run k;
    done = record {};
    acknowledged = record {};
    doubted = λ tail k. keeps_doubted (may_leave old) (may_leave new) desk journal faults es tail same add kept k;
  }

  -- a record of one entry
  pub serves_one : {T : Type 0} (old new : OnDisk D) (e : Entry) (r : Result T DeskFault) → ServesAll {T = T} may_leave moment left_since old new (e ∷ []) r → Serves {T = T} may_leave moment left_since old new (Some e) r
  serves_one old new e (Ok x) s = record {
    terms = s.terms;
    since = s.since;
    history = s.history;
    same = record {};
    any_moment = s.any_moment;
    done = s.done;
    acknowledged = s.acknowledged (omega arith);
    doubted = record {};
  }
  serves_one old new e (Err why) s = record {
    terms = s.terms;
    since = s.since;
    history = record {};
    same = s.same;
    any_moment = s.any_moment;
    done = record {};
    acknowledged = record {};
    doubted = s.doubted;
  }

  -- a call that adds nothing, and leaves desk and disk as they are
  pub serves_unmoved : {T : Type 0} (x : T) (on : OnDisk D) (entries : List Entry) → entries ≡ [] → ((c : List ℕ) → left_since on.disk (moment on.disk) c → may_leave on.disk c)
      → ServesAll {T = T} may_leave moment left_since on on entries (Ok x)
  serves_unmoved {T} x on entries none now =
      subst (λ (es : List Entry). ServesAll {T = T} may_leave moment left_since on on es (Ok x)) (sym none) (record {
        terms = refl;
        since = refl;
        history = sym (append-nil on.desk.history);
        same = record {};
        any_moment = λ tail k. moments_same moment left_since on.disk (may_leave on.disk) on.desk tail [] now k;
        done = λ tail k. k;
        acknowledged = λ some. absurd (omega (arith, some));
        doubted = record {};
      })

  -- a refusal, which leaves desk and disk as they are
  pub serves_refused : {T : Type 0} (why : DeskFault) (on : OnDisk D) (entry : Option Entry) → ((c : List ℕ) → left_since on.disk (moment on.disk) c → may_leave on.disk c)
      → Serves {T = T} may_leave moment left_since on on entry (Err why)
  serves_refused {T} why on entry now = record {
    terms = refl;
    since = refl;
    history = record {};
    same = refl;
    any_moment = λ tail k. moments_same moment left_since on.disk (may_leave on.disk) on.desk tail (added_by entry) now k;
    done = record {};
    acknowledged = record {};
    doubted = λ tail k. inl k;
  }

  -- an answer that adds nothing
  pub serves_nothing : {T : Type 0} (x : T) (on : OnDisk D) → ((c : List ℕ) → left_since on.disk (moment on.disk) c → may_leave on.disk c)
      → Serves {T = T} may_leave moment left_since on on None (Ok x)
  serves_nothing {T} x on now = record {
    terms = refl;
    since = refl;
    history = refl;
    same = record {};
    any_moment = λ tail k. moments_same moment left_since on.disk (may_leave on.disk) on.desk tail [] now k;
    done = λ tail k. k;
    acknowledged = record {};
    doubted = record {};
  }

  -- the same by what the journal answered of its payload, in the words of the fields
  pub added : {T : Type 0} (x : T) (desk next : DeskState) (was : JournalState) (payload : List ℕ) (old new : D) (es : List Entry)
      → was ≡ desk.journal → payload ≡ entries_bytes desk.journal.format es → next.terms ≡ desk.terms → next.history ≡ desk.history ++ es → next.journal.format ≡ was.format → MayAdd desk es
      → ((payloads : List (List ℕ)) (t : List ℕ) → Keeps (may_leave old) was payloads t → LeavesOnly moment left_since old new (WithOnePayload was.format payloads t payload))
      → ((payloads : List (List ℕ)) (t a : List ℕ) → Keeps (may_leave old) was payloads t → Keeps (may_leave new) next.journal (payloads ++ payload ∷ []) a)
      → ServesAll {T = T} may_leave moment left_since (record { desk = desk; disk = old; since = unopened }) (record { desk = next; disk = new; since = unopened }) es (Ok x)
  added {T} x desk next was payload old new es journal bytes terms history format add run kept =
      let run_on = along (λ (j : JournalState) (p : List ℕ). (payloads : List (List ℕ)) (t : List ℕ) → Keeps (may_leave old) j payloads t → LeavesOnly moment left_since old new (WithOnePayload j.format payloads t p)) journal bytes run in
      let kept_on = along (λ (j : JournalState) (p : List ℕ). (payloads : List (List ℕ)) (t a : List ℕ) → Keeps (may_leave old) j payloads t → Keeps (may_leave new) next.journal (payloads ++ p ∷ []) a) journal bytes kept in
      subst (λ (d : DeskState). ServesAll {T = T} may_leave moment left_since (record { desk = desk; disk = old; since = unopened }) (record { desk = d; disk = new; since = unopened }) es (Ok x))
      (λ i. record { terms = sym terms i; history = sym history i; journal = next.journal; faults = next.faults })
      (serves_added x desk old new next.journal next.faults es (format ∙ ap (λ (j : JournalState). j.format) journal) add run_on kept_on)

  pub failed : {T : Type 0} (why : DeskFault) (desk next : DeskState) (was : JournalState) (payload : List ℕ) (old new : D) (es : List Entry)
      → was ≡ desk.journal → payload ≡ entries_bytes desk.journal.format es → next.terms ≡ desk.terms → next.history ≡ desk.history → next.journal.format ≡ was.format → MayAdd desk es
      → ((payloads : List (List ℕ)) (t : List ℕ) → Keeps (may_leave old) was payloads t → LeavesOnly moment left_since old new (WithOnePayload was.format payloads t payload))
      → ((payloads : List (List ℕ)) (t : List ℕ) → Keeps (may_leave old) was payloads t → Keeps (may_leave new) next.journal payloads t ⊎ Keeps (may_leave new) next.journal payloads payload)
      → ServesAll {T = T} may_leave moment left_since (record { desk = desk; disk = old; since = unopened }) (record { desk = next; disk = new; since = unopened }) es (Err why)
  failed {T} why desk next was payload old new es journal bytes terms history format add run kept =
      let run_on = along (λ (j : JournalState) (p : List ℕ). (payloads : List (List ℕ)) (t : List ℕ) → Keeps (may_leave old) j payloads t → LeavesOnly moment left_since old new (WithOnePayload j.format payloads t p)) journal bytes run in
      let kept_on = along (λ (j : JournalState) (p : List ℕ). (payloads : List (List ℕ)) (t : List ℕ) → Keeps (may_leave old) j payloads t → Keeps (may_leave new) next.journal payloads t ⊎ Keeps (may_leave new) next.journal payloads p) journal bytes kept in
      subst (λ (d : DeskState). ServesAll {T = T} may_leave moment left_since (record { desk = desk; disk = old; since = unopened }) (record { desk = d; disk = new; since = unopened }) es (Err why))
      (λ i. record { terms = sym terms i; history = sym history i; journal = next.journal; faults = next.faults })
      (serves_failed why desk old new next.journal next.faults es (format ∙ ap (λ (j : JournalState). j.format) journal) add run_on kept_on)

  -- where desk and disk are as they were
  pub refused : {T : Type 0} (why : DeskFault) (on next : OnDisk D) (entry : Option Entry) → next ≡ on → ((c : List ℕ) → left_since on.disk (moment on.disk) c → may_leave on.disk c)
      → Serves {T = T} may_leave moment left_since on next entry (Err why)
  refused {T} why on next entry same now =
      subst (λ (o : OnDisk D). Serves {T = T} may_leave moment left_since on o entry (Err why)) (sym same) (serves_refused why on entry now)

  pub nothing : {T : Type 0} (x : T) (on next : OnDisk D) (entry : Option Entry) → entry ≡ None → next ≡ on → ((c : List ℕ) → left_since on.disk (moment on.disk) c → may_leave on.disk c)
      → Serves {T = T} may_leave moment left_since on next entry (Ok x)
  nothing {T} x on next entry none same now =
      subst (λ (o : OnDisk D). Serves {T = T} may_leave moment left_since on o entry (Ok x)) (sym same)
      (subst (λ (m : Option Entry). Serves {T = T} may_leave moment left_since on on m (Ok x)) (sym none) (serves_nothing x on now))

  -- an answer or a refusal, of a call that adds nothing
  pub untouched : {T : Type 0} (r : Result T DeskFault) (on : OnDisk D) (entry : Option Entry) → entry ≡ None → ((c : List ℕ) → left_since on.disk (moment on.disk) c → may_leave on.disk c)
      → Serves {T = T} may_leave moment left_since on on entry r
  untouched (Ok x) on entry none now = nothing x on on entry none (λ i. on) now
  untouched (Err why) on entry none now = refused why on on entry (λ i. on) now

  -- the same outcome with another answer
  pub told_ok : {T U : Type 0} (x : T) (y : U) (old next : OnDisk D) (entry : Option Entry) → Serves {T = T} may_leave moment left_since old next entry (Ok x) → Serves {T = U} may_leave moment left_since old next entry (Ok y)
  told_ok {T} {U} x y old next entry s = record {
    terms = s.terms;
    since = s.since;
    history = s.history;
    same = record {};
    any_moment = s.any_moment;
    done = s.done;
    acknowledged = s.acknowledged;
    doubted = record {};
  }

  pub told_err : {T U : Type 0} (why : DeskFault) (old next : OnDisk D) (entry : Option Entry) → Serves {T = T} may_leave moment left_since old next entry (Err why) → Serves {T = U} may_leave moment left_since old next entry (Err why)
  told_err {T} {U} why old next entry s = record {
    terms = s.terms;
    since = s.since;
    history = record {};
    same = s.same;
    any_moment = s.any_moment;
    done = record {};
    acknowledged = record {};
    doubted = s.doubted;
  }

  -- whatever the disk's count was when the desk was opened
  pub serves_since : {T : Type 0} (since : AtOpening) (a b : DeskState) (old new : D) (entry : Option Entry) (r : Result T DeskFault)
      → Serves {T = T} may_leave moment left_since (record { desk = a; disk = old; since = unopened }) (record { desk = b; disk = new; since = unopened }) entry r
      → Serves {T = T} may_leave moment left_since (record { desk = a; disk = old; since = since }) (record { desk = b; disk = new; since = since }) entry r
  serves_since {T} since a b old new entry r s = record {
    terms = s.terms;
    since = refl;
    history = s.history;
    same = s.same;
    any_moment = s.any_moment;
    done = s.done;
    acknowledged = s.acknowledged;
    doubted = s.doubted;
  }

  pub serves_all_since : {T : Type 0} (since : AtOpening) (a b : DeskState) (old new : D) (entries : List Entry) (r : Result T DeskFault)
      → ServesAll {T = T} may_leave moment left_since (record { desk = a; disk = old; since = unopened }) (record { desk = b; disk = new; since = unopened }) entries r
      → ServesAll {T = T} may_leave moment left_since (record { desk = a; disk = old; since = since }) (record { desk = b; disk = new; since = since }) entries r
  serves_all_since {T} since a b old new entries r s = record {
    terms = s.terms;
    since = refl;
    history = s.history;
    same = s.same;
    any_moment = s.any_moment;
    done = s.done;
    acknowledged = s.acknowledged;
    doubted = s.doubted;
  }

-- a refusal, whatever the disk's count was when the desk was opened
pub refused_since : {D T : Type 0} (since : AtOpening) (a b : DeskState) (old new : D) (r : Result T DeskFault)
    → IfErr r (λ e. (e ≡ DeskFault.DiskFault → ⊥) → ◌≡◌ {A = OnDisk D} (record { desk = b; disk = new; since = unopened }) (record { desk = a; disk = old; since = unopened }))
    → IfErr r (λ e. (e ≡ DeskFault.DiskFault → ⊥) → ◌≡◌ {A = OnDisk D} (record { desk = b; disk = new; since = since }) (record { desk = a; disk = old; since = since }))
refused_since since a b old new (Ok x) same = record {}
refused_since {D} since a b old new (Err e) same = λ other. ap (λ (o : OnDisk D). record o { since = since }) (same other)

-- how the number of faults goes on in a call: as it was where the call was done, and else nothing changed or it isn't 0
abbrev pub CountsFault : {D T : Type 0} → OnDisk D → OnDisk D → Result T DeskFault → Type 0
CountsFault old new (Ok x) = new.desk.faults ≡ old.desk.faults
CountsFault old new (Err e) = (new ≡ old) ⊎ (0 < new.desk.faults)

some_counted : (n m : ℕ) → n ≡ counted m → 0 < n
some_counted n m is = omega (arith, is)

-- so it does in a notice, a tick and a batch, and in an ask and a change of a budget
pub notice_counts : {D T : Type 0} (before now : ℕ) (old new : OnDisk D) (r : Result T DeskFault) → EndsNotice before now old.desk new.desk r → CountsFault old new r
notice_counts before now old new (Ok answer) ends = ends.desk
notice_counts before now old new (Err DeskFault.DiskFault) ends = inr (some_counted new.desk.faults old.desk.faults ends.counted)
notice_counts before now old new (Err (DeskFault.JournalFull size)) ends = absurd ends
notice_counts before now old new (Err (DeskFault.BadEntry at)) ends = absurd ends
notice_counts before now old new (Err (DeskFault.OtherRoster kept)) ends = absurd ends
notice_counts before now old new (Err (DeskFault.NotAJournal at)) ends = absurd ends
notice_counts before now old new (Err (DeskFault.BadLength at)) ends = absurd ends
notice_counts before now old new (Err DeskFault.OutOfMemory) ends = absurd ends

pub ask_counts : {D T : Type 0} (before now : ℕ) (old new : OnDisk D) (entry : Option Entry) (r : Result T DeskFault) → EndsAsk before now old.desk new.desk entry r
    → IfErr r (λ e. (e ≡ DeskFault.DiskFault → ⊥) → new ≡ old) → CountsFault old new r
ask_counts before now old new entry (Ok answer) ends same = ends.1.desk
ask_counts before now old new entry (Err DeskFault.DiskFault) ends same = inr (some_counted new.desk.faults old.desk.faults ends.1.counted)
ask_counts before now old new entry (Err (DeskFault.JournalFull size)) ends same = inl (same (λ e. cc e))
ask_counts before now old new entry (Err (DeskFault.BadEntry at)) ends same = absurd ends
ask_counts before now old new entry (Err (DeskFault.OtherRoster kept)) ends same = absurd ends
ask_counts before now old new entry (Err (DeskFault.NotAJournal at)) ends same = absurd ends
ask_counts before now old new entry (Err (DeskFault.BadLength at)) ends same = absurd ends
ask_counts before now old new entry (Err DeskFault.OutOfMemory) ends same = inl (same (λ e. cc e))

pub few_added : (entry : Option Entry) → length (added_by entry) ≤ 32
few_added None = omega arith
few_added (Some e) = omega arith

module _ {D : Type 0} (may_leave : D → List ℕ → Type 0) where
  -- where nothing changed, or the number of faults isn't 0
  refused_sure : (old new : OnDisk D) → (new ≡ old) ⊎ (0 < new.desk.faults) → DeskKeepsSome (may_leave old.disk) old.desk → new.desk.faults ≡ 0 → DeskKeeps (may_leave new.disk) new.desk []
  refused_sure old new (inl same) k none = subst (λ (o : OnDisk D). o.desk.faults ≡ 0 → DeskKeeps (may_leave o.disk) o.desk []) (sym same) k.sure none
  refused_sure old new (inr some) k none = absurd (omega (arith, some, none))

  kept_by : (old new : OnDisk D) (own : List Entry) → length own ≤ 32 → (new ≡ old) ⊎ (0 < new.desk.faults) → (k : DeskKeepsSome (may_leave old.disk) old.desk)
      → DeskKeeps (may_leave new.disk) new.desk k.tail ⊎ DeskKeeps (may_leave new.disk) new.desk own → DeskKeepsSome (may_leave new.disk) new.desk
  kept_by old new own few counts k (inl same) = record { tail = k.tail; one_record = k.one_record; keeps = same; sure = refused_sure old new counts k }
  kept_by old new own few counts k (inr record_is) = record { tail = own; one_record = few; keeps = record_is; sure = refused_sure old new counts k }

  module _ (moment : D → ℕ) (left_since : D → ℕ → List ℕ → Type 0) where
    -- after a call the desk keeps its history, with the same tail or with the call's record in doubt
    pub keeps_some : {T : Type 0} (old new : OnDisk D) (entry : Option Entry) (r : Result T DeskFault) → CountsFault old new r → Serves {T = T} may_leave moment left_since old new entry r
        → DeskKeepsSome (may_leave old.disk) old.desk → DeskKeepsSome (may_leave new.disk) new.desk
    keeps_some old new entry (Ok x) counts s k =
        record { tail = k.tail; one_record = k.one_record; keeps = s.done k.tail k.keeps; sure = λ none. s.done [] (k.sure (sym counts ∙ none)) }
    keeps_some old new entry (Err e) counts s k = kept_by old new (added_by entry) (few_added entry) counts k (s.doubted k.tail k.keeps)

    pub keeps_some_all : {T : Type 0} (old new : OnDisk D) (entries : List Entry) (r : Result T DeskFault) → length entries ≤ 32 → CountsFault old new r
        → ServesAll {T = T} may_leave moment left_since old new entries r
        → DeskKeepsSome (may_leave old.disk) old.desk → DeskKeepsSome (may_leave new.disk) new.desk
    keeps_some_all old new entries (Ok x) few counts s k =
        record { tail = k.tail; one_record = k.one_record; keeps = s.done k.tail k.keeps; sure = λ none. s.done [] (k.sure (sym counts ∙ none)) }
    keeps_some_all old new entries (Err e) few counts s k = kept_by old new entries few counts k (s.doubted k.tail k.keeps)
