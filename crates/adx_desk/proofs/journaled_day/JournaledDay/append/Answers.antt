-- An entry in the journal, and then in the history.
use Rattle.std.proofs.Common.{◌≡◌, ℕ, ◌<◌, ◌≤◌, min, Some, List, [], ◌∷◌, ◌++◌, length, sym, ◌∙◌, ap, subst, arith}
use Rattle.std.specs.Prelude.{Err}
use Rattle.adx_io.specs.Streams.{last_count}
use Rattle.day_journal.specs.declared.fault.AppendFault.{AppendFault}
use Rattle.day_journal.specs.Faults.{greatest_size}
use Rattle.day_journal.specs.Tails.{JournalState, size_after}
use Rattle.day_entries.specs.Entries.{entry_bytes}
use Rattle.day_rules.specs.declared.entry.Entry.{Entry}
use Rattle.day_rules.specs.Books.{awards_of}
use Rattle.day_rules.specs.DayState.{HasRoomFor}
use Rattle.day_rules.specs.Legal.{MayFollow}
use Rattle.adx_desk.specs.Desks.{DeskState}
use Rattle.adx_desk.specs.Endings.{size_with}
use Rattle.day_machine.specs.Held.{open_count}
use Rattle.adx_desk.specs.Journaled.{JournaledState, beside, day_in, on_disk, unopened}
use Rattle.adx_desk.proofs.Inside.{follows_back, journaled_added, known}
use Rattle.day_entries.proofs.Lengths.{some_bytes}
use Rattle.adx_desk.proofs.Keeping.{fits_with, may_add, notice_fits, passes_with}
use Rattle.adx_desk.proofs.Records.{one_bytes}
use Rattle.adx_desk.proofs.Serving.{added, failed, refused, serves_one}
use Rattle.adx_desk.proofs.journaled_day.JournaledDay.append.Goals as goal

sizes : (a b : JournalState) (p q : List ℕ) (h k : ℕ) → a ≡ b → p ≡ q → h ≡ k → size_after a p h ≡ size_after b q k
sizes a b p q h k x y z = λ i. size_after (x i) (y i) (z i)

pub append-requires : goal.append-requires
append-requires g c = subst (λ (p : List ℕ). 0 < length p) (sym c.requires.payload) (some_bytes c.args.self.now.desk.journal.format c.args.entry)

pub open_behind-without_end-requires-clause-follows : goal.open_behind-without_end-requires-clause-follows
open_behind-without_end-requires-clause-follows g c =
    follows_back c.day.result.now c.self.inside.day c.args.self.now.desk c.day.ensures.terms c.day.ensures.history (ap (λ (t : JournaledState). t.desk.terms.day) c.self.view_is) (ap (λ (t : JournaledState). t.desk.history) c.self.view_is) c.args.entry c.requires.follows

pub commit-requires-clause-legal : goal.commit-requires-clause-legal
commit-requires-clause-legal g c =
    subst (λ (s : JournaledState). MayFollow s.desk.terms.day s.desk.history c.args.entry) (sym c.self.view_is) c.requires.follows

pub commit-requires-clause-room : goal.commit-requires-clause-room
commit-requires-clause-room g c = subst (λ (s : JournaledState). HasRoomFor (day_in s) c.args.entry) (sym c.self.view_is) c.requires.room

pub invariant_of-self : goal.invariant_of-self
invariant_of-self g c =
    let s : JournaledState = c.args.self.now in
    let e : Entry = c.args.entry in
    let k = known c.self.inside.day c.self.inside.digest c.self.inside.journal c.self.inside.faults c.self.inside.without_end s c.self.invariant c.self.view_is in
    let journal : c.self.inside.journal ≡ s.desk.journal = ap (λ (t : JournaledState). t.desk.journal) c.self.view_is in
    let room : size_with s.desk e ≤ greatest_size =
    fits_with s.desk e k.is_day c.requires.follows k.room (subst (λ (n : ℕ). n ≤ greatest_size) (sizes _ _ _ _ _ _ journal c.requires.payload c.held_beside-held.ensures) c.in-Ok.ensures.ends.0) in
    journaled_added c.self.inside.day c.commit.new.self c.self.inside.digest c.self.inside.journal c.append.new.self s.desk c.self.inside.without_end c.open_behind-without_end.result c.args.frame.now.payload (e ∷ [])
    c.commit.ensures.terms c.commit.ensures.history c.self.invariant journal (ap (λ (t : JournaledState). t.desk.terms.day) c.self.view_is) (ap (λ (t : JournaledState). t.desk.history) c.self.view_is)
    (c.requires.payload ∙ sym (one_bytes s.desk.journal.format e)) c.in-Ok.ensures.grown c.append.ensures.format (may_add s.desk e k.is_day.legal c.requires.follows c.requires.fits room)
    (c.open_behind-without_end.ensures ∙ (ap (λ (h : List Entry). open_count (awards_of (h ++ e ∷ []))) c.day.ensures.history ∙ ap (λ (h : List Entry). open_count (awards_of h)) (sym c.commit.ensures.history)))

pub returns-in-Ok-clause-serves : goal.returns-in-Ok-clause-serves
returns-in-Ok-clause-serves g c =
    let D = g.D.Disk in
    let s : JournaledState = c.args.self.now in
    let e : Entry = c.args.entry in
    let k = known c.self.inside.day c.self.inside.digest c.self.inside.journal c.self.inside.faults c.self.inside.without_end s c.self.invariant c.self.view_is in
    let journal : c.self.inside.journal ≡ s.desk.journal = ap (λ (t : JournaledState). t.desk.journal) c.self.view_is in
    let room : size_with s.desk e ≤ greatest_size =
    fits_with s.desk e k.is_day c.requires.follows k.room (subst (λ (n : ℕ). n ≤ greatest_size) (sizes _ _ _ _ _ _ journal c.requires.payload c.held_beside-held.ensures) c.in-Ok.ensures.ends.0) in
    let next : DeskState = record {
      terms = record { day = c.commit.new.self.terms; digest = c.self.inside.digest };
      history = c.commit.new.self.history;
      journal = c.append.new.self;
      faults = c.self.inside.faults;
    } in
    let terms : next.terms ≡ s.desk.terms =
    ap (λ t. record { day = t; digest = c.self.inside.digest }) c.commit.ensures.terms ∙ ap (λ (t : JournaledState). t.desk.terms) c.self.view_is in
    let history : next.history ≡ s.desk.history ++ e ∷ [] = c.commit.ensures.history ∙ ap (λ (t : JournaledState). t.desk.history ++ e ∷ []) c.self.view_is in
    serves_one D.may_leave D.moment D.left_since _ _ e _
    (added D.may_leave D.moment D.left_since _ s.desk next c.self.inside.journal c.args.frame.now.payload c.args.disk.now c.append.new.disk (e ∷ [])
    journal (c.requires.payload ∙ sym (one_bytes s.desk.journal.format e)) terms history c.append.ensures.format (may_add s.desk e k.is_day.legal c.requires.follows c.requires.fits room) c.in-Ok.ensures.any_moment c.in-Ok.ensures.acknowledged)

pub returns-in-Ok-clause-ends : goal.returns-in-Ok-clause-ends
returns-in-Ok-clause-ends g c =
    let s : JournaledState = c.args.self.now in
    let e : Entry = c.args.entry in
    let k = known c.self.inside.day c.self.inside.digest c.self.inside.journal c.self.inside.faults c.self.inside.without_end s c.self.invariant c.self.view_is in
    let journal : c.self.inside.journal ≡ s.desk.journal = ap (λ (t : JournaledState). t.desk.journal) c.self.view_is in (
      fits_with s.desk e k.is_day c.requires.follows k.room (subst (λ (n : ℕ). n ≤ greatest_size) (sizes _ _ _ _ _ _ journal c.requires.payload c.held_beside-held.ensures) c.in-Ok.ensures.ends.0),
      record { disk = c.in-Ok.ensures.ends.1; desk = ap (λ (t : JournaledState). t.desk.faults) c.self.view_is },
    )

pub returns-in-Err-DiskFault-clause-serves : goal.returns-in-Err-DiskFault-clause-serves
returns-in-Err-DiskFault-clause-serves g c =
    let D = g.D.Disk in
    let s : JournaledState = c.args.self.now in
    let e : Entry = c.args.entry in
    let k = known c.self.inside.day c.self.inside.digest c.self.inside.journal c.self.inside.faults c.self.inside.without_end s c.self.invariant c.self.view_is in
    let journal : c.self.inside.journal ≡ s.desk.journal = ap (λ (t : JournaledState). t.desk.journal) c.self.view_is in
    let ends = rw c.in-Err-DiskFault.field-0-is at c.in-Err-DiskFault.ensures.ends in
    let room : size_with s.desk e ≤ greatest_size =
    fits_with s.desk e k.is_day c.requires.follows k.room (subst (λ (n : ℕ). n ≤ greatest_size) (sizes _ _ _ _ _ _ journal c.requires.payload c.held_beside-held.ensures) ends.0) in
    let next : DeskState = record {
      terms = record { day = c.self.inside.day.terms; digest = c.self.inside.digest };
      history = c.self.inside.day.history;
      journal = c.append.new.self;
      faults = c.saturating_add-self-inside.result;
    } in
    serves_one D.may_leave D.moment D.left_since _ _ e _
    (failed D.may_leave D.moment D.left_since _ s.desk next c.self.inside.journal c.args.frame.now.payload c.args.disk.now c.append.new.disk (e ∷ [])
    journal (c.requires.payload ∙ sym (one_bytes s.desk.journal.format e)) (ap (λ (t : JournaledState). t.desk.terms) c.self.view_is) (ap (λ (t : JournaledState). t.desk.history) c.self.view_is) c.append.ensures.format
    (may_add s.desk e k.is_day.legal c.requires.follows c.requires.fits room) c.in-Err-DiskFault.ensures.any_moment c.in-Err-DiskFault.ensures.doubted)

pub returns-in-Err-DiskFault-clause-ends : goal.returns-in-Err-DiskFault-clause-ends
returns-in-Err-DiskFault-clause-ends g c =
    let s : JournaledState = c.args.self.now in
    let e : Entry = c.args.entry in
    let k = known c.self.inside.day c.self.inside.digest c.self.inside.journal c.self.inside.faults c.self.inside.without_end s c.self.invariant c.self.view_is in
    let journal : c.self.inside.journal ≡ s.desk.journal = ap (λ (t : JournaledState). t.desk.journal) c.self.view_is in
    let ends = rw c.in-Err-DiskFault.field-0-is at c.in-Err-DiskFault.ensures.ends in (
      fits_with s.desk e k.is_day c.requires.follows k.room (subst (λ (n : ℕ). n ≤ greatest_size) (sizes _ _ _ _ _ _ journal c.requires.payload c.held_beside-held.ensures) ends.0),
      record {
        later = ends.1;
        risen = ends.2;
        counted = omega (arith, c.saturating_add-self-inside.ensures, ap (λ (t : JournaledState). t.desk.faults) c.self.view_is);
      },
    )

pub returns-clause-ends : goal.returns-clause-ends
returns-clause-ends g c =
    let s : JournaledState = c.args.self.now in
    let e : Entry = c.args.entry in
    let k = known c.self.inside.day c.self.inside.digest c.self.inside.journal c.self.inside.faults c.self.inside.without_end s c.self.invariant c.self.view_is in
    let journal : c.self.inside.journal ≡ s.desk.journal = ap (λ (t : JournaledState). t.desk.journal) c.self.view_is in
    let ends = rw c.in-Err-Full.field-0-is at c.in-Err-Full.ensures.ends in
    let told : size_after c.self.inside.journal c.args.frame.now.payload c.held_beside-held.result ≡ size_after s.desk.journal (entry_bytes s.desk.journal.format e) (beside s.desk.journal.format s.desk.history e) =
    sizes _ _ _ _ _ _ journal c.requires.payload c.held_beside-held.ensures in
    let total = told ∙ passes_with s.desk e k.is_day c.requires.follows k.room (subst (λ (n : ℕ). greatest_size < n) told ends.0) in (
      (subst (λ (n : ℕ). greatest_size < n) total ends.0, ends.1 ∙ ap (λ (n : ℕ). min n last_count) total),
      record { disk = ends.2; desk = ap (λ (t : JournaledState). t.desk.faults) c.self.view_is },
    )

pub returns-clause-serves : goal.returns-clause-serves
returns-clause-serves g c =
    let D = g.D.Disk in
    let s : JournaledState = c.args.self.now in
    let both = c.in-Err-Full.ensures.refused _ (ap (λ (x : AppendFault). Err x) c.in-Err-Full.field-0-is) in
    let next : DeskState = record {
      terms = record { day = c.self.inside.day.terms; digest = c.self.inside.digest };
      history = c.self.inside.day.history;
      journal = c.append.new.self;
      faults = c.self.inside.faults;
    } in
    let before : DeskState = record next { journal = c.self.inside.journal } in
    let first : next ≡ before = ap (λ (j : JournalState). record next { journal = j }) both.0 in
    let same : next ≡ s.desk = first ∙ ap (λ (t : JournaledState). t.desk) c.self.view_is in
    refused D.may_leave D.moment D.left_since _ (on_disk s c.args.disk.now) (record { desk = next; disk = c.append.new.disk; since = unopened }) (Some c.args.entry)
    (λ i. record { desk = same i; disk = both.1 i; since = unopened }) (g.met.D.Disk.only_now c.args.disk.now)

pub returns-in-Ok-clause-always : goal.returns-in-Ok-clause-always
returns-in-Ok-clause-always g c = λ none.
    let k = known c.self.inside.day c.self.inside.digest c.self.inside.journal c.self.inside.faults c.self.inside.without_end c.args.self.now c.self.invariant c.self.view_is in
    notice_fits c.args.self.now.desk c.args.entry k.is_day c.requires.follows none k.room

pub returns-in-Err-DiskFault-clause-always : goal.returns-in-Err-DiskFault-clause-always
returns-in-Err-DiskFault-clause-always g c = λ none.
    let k = known c.self.inside.day c.self.inside.digest c.self.inside.journal c.self.inside.faults c.self.inside.without_end c.args.self.now c.self.invariant c.self.view_is in
    notice_fits c.args.self.now.desk c.args.entry k.is_day c.requires.follows none k.room

pub returns-clause-always : goal.returns-clause-always
returns-clause-always g c = λ none.
    let k = known c.self.inside.day c.self.inside.digest c.self.inside.journal c.self.inside.faults c.self.inside.without_end c.args.self.now c.self.invariant c.self.view_is in
    notice_fits c.args.self.now.desk c.args.entry k.is_day c.requires.follows none k.room
