-- How a run of serving ends: its causes, and when its document or its links are refused.
use Rattle.std.proofs.Common.{◌≡◌, ◌≢◌, ◌⊎◌, ◌∙◌, inl, inr, sym, ap, subst, refl, ℕ, List, [], ◌∷◌, length, map, All, Option, Some, None, IfSome, option_map, Result, Ok, Err, Vec, is_some, arith}
use Rattle.std.specs.Prelude.{IfErr, IfOk}
use Rattle.std.proofs.Common.{Global}
use Rattle.std.proofs.lemmas.List.{length-map}
use Rattle.adx_links.specs.Pairs.{PairTold, PairsTold, pairs_told}
use Rattle.adx_links.specs.Told.{told_by}
use Rattle.adx_links.specs.declared.acceptor.Acceptor as acceptors
use Rattle.adx_desk.specs.Calls.{DeskGivesUp}
use Rattle.adx_desk.specs.Desks.{OnDisk}
use Rattle.adx_desk.specs.Endings.{IsWithinRise}
use Rattle.adx_desk.specs.Openings.{HasDiskCause}
use Rattle.adx_desk.specs.Rosters.{desk_terms}
use Rattle.adx_desk.specs.declared.fault.DeskFault.{DeskFault}
use Rattle.adx_io.specs.Streams.{Rises}
use Rattle.day_journal.specs.declared.disk.Disk as disks
use Rattle.adx_io.specs.declared.sink.Sink as sinks
use Rattle.adx_io.specs.declared.source.Source as sources
use Rattle.adx_links.specs.declared.link.Link as links
use Rattle.deal_floor.specs.declared.roster.Roster.{Roster}
use Rattle.exchange_serving.specs.Lanes.{lists_of}
use Rattle.exchange_serving.specs.Served.{ServesDay}
use Rattle.exchange_serving.specs.Unserved.{IsGivenBack as GivesDayBack}
use Rattle.exchange_serving.specs.declared.ending.Ending.{Ending}
use Rattle.exchange_serving.specs.declared.leaving.Served.{Served as Left}
use Rattle.exchange_serving.specs.declared.leaving.Unserved.{Unserved}
use Rattle.fan_out.specs.declared.lane.Lane.{Lane}
use Rattle.history_runs.specs.Histories.{KeepsHistory}
use Rattle.command_notices.specs.Rosters.{BeginsWithRoster, LacksRoster}
use Rattle.script_lines.specs.declared.refusal.RosterRefusal.{RosterRefusal}
use Rattle.adx_commands.specs.Causes.{HasCauses}
use Rattle.adx_commands.specs.Lanes.{Fit, links_in}
use Rattle.adx_commands.specs.Served.{ComesExactly, EndsAtOnce}
use Rattle.adx_commands.specs.Serving.{EndsOpening, EndsRoster, FitsServing, GivesBack, GivesServed, LosesDay, OpensNot, RunsServing, SaysUnfit, ServesOpened, all_left, no_disk_left, post_left, serving, status_by, status_by_fault, unfit, unserved}
use Rattle.adx_commands.specs.declared.not_begun.NotBegun.{NotBegun}
use Rattle.adx_commands.specs.declared.objects.Objects.{Objects}
use Rattle.adx_commands.specs.declared.served.Served.{Served}
use Rattle.adx_commands.proofs.Documents.{one_begun, roster_taken}
use Rattle.adx_commands.proofs.Ends.{ended_causes, rises_one, says, there}
use Rattle.adx_commands.proofs.LinkLanes.{all_fit}

-- ---- an acceptor that reports no pairs yet, by what its pairs report

no_items : {X Y : Type 0} (f : X → Y) (xs : List X) → map f xs ≡ [] → xs ≡ []
no_items f [] is = refl
no_items f (x ∷ xs) is = absurd (cc is)

pub unused_pairs : {P : Type 0} (told : P → PairTold) (pairs : Option (PairsTold P)) → IfSome (option_map (pairs_told told) pairs) (λ t. (t.out ≡ []) × (t.back ≡ []))
    → IfSome pairs (λ t. (t.out ≡ []) × (t.back ≡ []))
unused_pairs told (Some t) unused = (no_items told t.out unused.0, no_items told t.back unused.1)
unused_pairs told None unused = unused

-- ---- statuses

at_four : (e : Ending) → status_by e ≡ 4 → e ≡ Ending.AcceptorFault
at_four Ending.Done is = absurd (omega (arith, is))
at_four Ending.AcceptorFault is = refl
at_four Ending.DiskFault is = absurd (omega (arith, is))
at_four Ending.Pending is = absurd (omega (arith, is))
at_four Ending.OutOfMemory is = absurd (omega (arith, is))

at_six : (e : Ending) → status_by e ≡ 6 → e ≡ Ending.DiskFault
at_six Ending.Done is = absurd (omega (arith, is))
at_six Ending.AcceptorFault is = absurd (omega (arith, is))
at_six Ending.DiskFault is = refl
at_six Ending.Pending is = absurd (omega (arith, is))
at_six Ending.OutOfMemory is = absurd (omega (arith, is))

at_none : (e : Ending) → status_by e ≢ 4 → status_by e ≢ 6 → status_by e ≢ 12 → (e ≡ Ending.Done) ⊎ (e ≡ Ending.Pending)
at_none Ending.Done a b c = inl refl
at_none Ending.AcceptorFault a b c = absurd (a refl)
at_none Ending.DiskFault a b c = absurd (b refl)
at_none Ending.Pending a b c = inr refl
at_none Ending.OutOfMemory a b c = absurd (c refl)

not_three : (e : Ending) → status_by e ≡ 3 → ⊥
not_three Ending.Done is = omega (arith, is)
not_three Ending.AcceptorFault is = omega (arith, is)
not_three Ending.DiskFault is = omega (arith, is)
not_three Ending.Pending is = omega (arith, is)
not_three Ending.OutOfMemory is = omega (arith, is)

not_two : (e : Ending) → status_by e ≡ 2 → ⊥
not_two Ending.Done is = omega (arith, is)
not_two Ending.AcceptorFault is = omega (arith, is)
not_two Ending.DiskFault is = omega (arith, is)
not_two Ending.Pending is = omega (arith, is)
not_two Ending.OutOfMemory is = omega (arith, is)

fault_not : (n : ℕ) → (6 ≡ n → ⊥) → (7 ≡ n → ⊥) → (12 ≡ n → ⊥) → (why : DeskFault) → status_by_fault why ≡ n → ⊥
fault_not n a b c DeskFault.DiskFault is = a is
fault_not n a b c (DeskFault.JournalFull size) is = b is
fault_not n a b c (DeskFault.BadEntry at) is = b is
fault_not n a b c (DeskFault.OtherRoster kept) is = b is
fault_not n a b c (DeskFault.NotAJournal at) is = b is
fault_not n a b c (DeskFault.BadLength at) is = b is
fault_not n a b c DeskFault.OutOfMemory is = c is

cause_risen : (before now : ℕ) (why : DeskFault) → status_by_fault why ≡ 6 → HasDiskCause before now why → Rises before now
cause_risen before now DeskFault.DiskFault is cause = cause.1
cause_risen before now (DeskFault.JournalFull size) is cause = absurd (omega (arith, is))
cause_risen before now (DeskFault.BadEntry at) is cause = absurd (omega (arith, is))
cause_risen before now (DeskFault.OtherRoster kept) is cause = absurd (omega (arith, is))
cause_risen before now (DeskFault.NotAJournal at) is cause = absurd (omega (arith, is))
cause_risen before now (DeskFault.BadLength at) is cause = absurd (omega (arith, is))
cause_risen before now DeskFault.OutOfMemory is cause = absurd (omega (arith, is))

cause_passed : (before now : ℕ) (why : DeskFault) → status_by_fault why ≢ 6 → HasDiskCause before now why → now ≡ before
cause_passed before now DeskFault.DiskFault other cause = absurd (other refl)
cause_passed before now (DeskFault.JournalFull size) other cause = cause
cause_passed before now (DeskFault.BadEntry at) other cause = cause
cause_passed before now (DeskFault.OtherRoster kept) other cause = cause
cause_passed before now (DeskFault.NotAJournal at) other cause = cause
cause_passed before now (DeskFault.BadLength at) other cause = cause
cause_passed before now DeskFault.OutOfMemory other cause = cause

-- ---- workers

pub all_lists : {A D L : Type 0} (lanes : List (Vec (Lane L) Global)) (served : Result (Left A D L) (Unserved A D L)) → IfOk served (λ left. left.ending ≢ Ending.OutOfMemory → left.workers ≡ length lanes)
    → IfOk served (λ left. left.ending ≢ Ending.OutOfMemory → left.workers ≡ length (lists_of lanes))
all_lists {L = L} lanes (Ok left) as_many = λ other. as_many other ∙ sym (length-map lanes (λ (v : Vec (Lane L) Global). v.items))
all_lists lanes (Err left) as_many = as_many

-- ---- the day of a roster

module _ {A I O D L : Type 0} (a : acceptors.Ghosts A I O) (s : sources.Ghosts I) (k : sinks.Ghosts O) (d : disks.Ghosts D) (l : links.Ghosts L) (IsMoment : ℕ → Type 0)
    (acceptor : A) (disk : D) (post : L) (back : Served A D L) (roster : Roster) (workers : List (List (Lane L))) where
  -- it was opened, and served, or memory was refused then
  pub opened_ends : (opened : OnDisk D) (lanes : Vec (Vec (Lane L) Global) Global) (served : Result (Left A D L) (Unserved A D L)) → KeepsHistory d roster opened.desk.history disk opened.disk
      → opened.since ≡ record { count = d.faults opened.disk; tells = is_some (d.reads disk) } → d.faults opened.disk ≡ d.faults disk
      → IfOk served (λ left. ServesDay d l IsMoment roster workers opened left.disk (told_by a s k acceptor) (told_by a s k left.acceptor) post left.post left.ending)
      → IfOk served (λ left. left.ending ≢ Ending.OutOfMemory → left.workers ≡ length workers)
      → IfErr served (λ left. GivesDayBack l roster opened acceptor lanes post left)
      → GivesServed served back → EndsOpening a s k d l IsMoment acceptor disk post back roster workers
  opened_ends opened lanes (Ok left) opens since same serves as_many left_over (gives, counted) = inl (record {
    opened = opened;
    opens = opens;
    since = subst (λ (n : ℕ). opened.since ≡ record { count = n; tells = is_some (d.reads disk) }) same since;
    left = left;
    serves = serves;
    as_many = λ other. counted ∙ as_many other;
    gives = gives;
  })
  opened_ends opened lanes (Err (Unserved.Unbegun desk acceptor_now lanes_now post_now)) opens since same serves as_many (desk_is, acceptor_is, lanes_are, post_is) gives =
      inr (inr (all_left desk (subst (λ (o : OnDisk D). KeepsHistory d roster o.desk.history disk o.disk) (sym desk_is) opens)
      (subst (λ (x : A). GivesBack 12 (Some x) (Some desk.disk) post None back) acceptor_is
      (subst (λ (p : L). GivesBack 12 (Some acceptor_now) (Some desk.disk) p None back) post_is gives))))
  opened_ends opened lanes (Err (Unserved.Unshared acceptor_now lanes_now post_now)) opens since same serves as_many (acceptor_is, lanes_are, post_is) gives =
      inr (inr (no_disk_left (subst (λ (x : A). GivesBack 12 (Some x) None post None back) acceptor_is
      (subst (λ (p : L). GivesBack 12 (Some acceptor_now) None p None back) post_is gives))))
  opened_ends opened lanes (Err (Unserved.Lost post_now)) opens since same serves as_many tried gives = inr (inr (post_left opened opens post_now tried gives))

  -- it wasn't
  pub unopened_ends : (why : DeskFault) (now : D) → DeskGivesUp d (desk_terms roster) disk now why → HasDiskCause (d.faults disk) (d.faults now) why
      → back.status ≡ status_by_fault why → back.acceptor ≡ Some acceptor → back.disk ≡ Some now → back.post ≡ Some post → back.why ≡ Some (NotBegun.Journal why)
      → EndsOpening a s k d l IsMoment acceptor disk post back roster workers
  unopened_ends why now gives_up cause status acceptor_back disk_back post_back why_back =
      inr (inl (record {
        why = why;
        disk_now = now;
        gives_up = gives_up;
        cause = cause;
        gives = record { status_is = status; acceptor_is = acceptor_back; disk_is = disk_back; post_is = post_back; why_is = why_back };
      }))

module _ {A I O D L : Type 0} (a : acceptors.Ghosts A I O) (s : sources.Ghosts I) (k : sinks.Ghosts O) (d : disks.Ghosts D) (l : links.Ghosts L) (IsMoment : ℕ → Type 0)
    (given : Objects A D L) (back : Served A D L) where
  opened_causes : (roster : Roster) (workers : List (List (Lane L))) → ServesOpened a s k d l IsMoment given.acceptor given.disk given.post back roster workers → HasCauses a d given back
  opened_causes roster workers o =
      let e = o.left.ending in let g = o.gives in let since : o.opened.since.count ≡ d.faults given.disk = ap (λ s. s.count) o.since in record {
        acceptor_fault = λ is. says (λ now. Rises (a.faults given.acceptor) (a.faults now)) back.acceptor o.left.acceptor g.acceptor_is
            (o.serves.accepted.fault (at_four e (sym g.status_is ∙ is)));
        acceptor_passed = λ other more. says (λ now. a.faults now ≡ a.faults given.acceptor) back.acceptor o.left.acceptor g.acceptor_is
            (o.serves.accepted.over (λ is. more (g.status_is ∙ ap status_by is)) (λ is. other (g.status_is ∙ ap status_by is))).1;
        disk_fault = λ is. says (λ now. IsWithinRise (d.faults given.disk) 1 (d.faults now)) back.disk o.left.disk g.disk_is
            (subst (λ (n : ℕ). IsWithinRise n 1 (d.faults o.left.disk)) since (o.serves.fault (at_six e (sym g.status_is ∙ is))));
        disk_passed = λ four six twelve. says (λ now. d.faults now ≡ d.faults given.disk) back.disk o.left.disk g.disk_is
            ((o.serves.passed (at_none e (λ is. four (g.status_is ∙ is)) (λ is. six (g.status_is ∙ is)) (λ is. twelve (g.status_is ∙ is)))).1 ∙ since);
        all_back = λ other.
            record { acceptor = there back.acceptor o.left.acceptor g.acceptor_is; disk = there back.disk o.left.disk g.disk_is; post = there back.post o.left.post g.post_is };
        post_back = there back.post o.left.post g.post_is;
      }

  unopened_causes : (roster : Roster) → OpensNot a s k d l IsMoment given.acceptor given.disk given.post back roster → HasCauses a d given back
  unopened_causes roster o = let g = o.gives in record {
    acceptor_fault = λ is. absurd (fault_not 4 (λ e. omega (arith, e)) (λ e. omega (arith, e)) (λ e. omega (arith, e)) o.why (sym g.status_is ∙ is));
    acceptor_passed = λ other more. says (λ now. a.faults now ≡ a.faults given.acceptor) back.acceptor given.acceptor g.acceptor_is refl;
    disk_fault = λ is. says (λ now. IsWithinRise (d.faults given.disk) 1 (d.faults now)) back.disk o.disk_now g.disk_is
        (rises_one (d.faults given.disk) (d.faults o.disk_now) (cause_risen (d.faults given.disk) (d.faults o.disk_now) o.why (sym g.status_is ∙ is) o.cause));
    disk_passed = λ four six twelve. says (λ now. d.faults now ≡ d.faults given.disk) back.disk o.disk_now g.disk_is
        (cause_passed (d.faults given.disk) (d.faults o.disk_now) o.why (λ is. six (g.status_is ∙ is)) o.cause);
    all_back = λ other. record { acceptor = there back.acceptor given.acceptor g.acceptor_is; disk = there back.disk o.disk_now g.disk_is; post = there back.post given.post g.post_is };
    post_back = there back.post given.post g.post_is;
  }

  -- what is given back of a day that no desk was left for
  lost_with : (acceptor : Option A) (disk : Option D) (post : L) → GivesBack 12 acceptor disk post None back → HasCauses a d given back
  lost_with acceptor disk post g = record {
    acceptor_fault = λ is. absurd (omega (arith, g.status_is, is));
    acceptor_passed = λ other more. absurd (more g.status_is);
    disk_fault = λ is. absurd (omega (arith, g.status_is, is));
    disk_passed = λ four six twelve. absurd (twelve g.status_is);
    all_back = λ other. absurd (other g.status_is);
    post_back = there back.post post g.post_is;
  }

  lost_causes : (roster : Roster) → LosesDay a s k d l IsMoment given.acceptor given.disk given.post back roster → HasCauses a d given back
  lost_causes roster (all_left opened keeps g) = lost_with (Some given.acceptor) (Some opened.disk) given.post g
  lost_causes roster (no_disk_left g) = lost_with (Some given.acceptor) None given.post g
  lost_causes roster (post_left opened opens post_now tried g) = lost_with None None post_now g

  lost_status : (roster : Roster) → LosesDay a s k d l IsMoment given.acceptor given.disk given.post back roster → back.status ≡ 12
  lost_status roster (all_left opened keeps g) = g.status_is
  lost_status roster (no_disk_left g) = g.status_is
  lost_status roster (post_left opened opens post_now tried g) = g.status_is

  pub serving_causes : (document : List ℕ) (workers : ℕ) → RunsServing a s k d l IsMoment given back document workers → HasCauses a d given back
  serving_causes document workers (serving fits r) = by_end r.ends
    where
      by_end : EndsOpening a s k d l IsMoment given.acceptor given.disk given.post back fits.roster r.workers → HasCauses a d given back
      by_end (inl o) = opened_causes fits.roster r.workers o
      by_end (inr (inl o)) = unopened_causes fits.roster o
      by_end (inr (inr loses)) = lost_causes fits.roster loses
  serving_causes document workers (unfit misfit e said) = ended_causes a d given back 3 (λ is. omega (arith, is)) (λ is. omega (arith, is)) e
  serving_causes document workers (unserved e) = ended_causes a d given back 12 (λ is. omega (arith, is)) (λ is. omega (arith, is)) e

  -- no run ends with the status of words that are none
  opening_not : (n : ℕ) → ((e : Ending) → status_by e ≡ n → ⊥) → (6 ≡ n → ⊥) → (7 ≡ n → ⊥) → (12 ≡ n → ⊥) → (roster : Roster) (workers : List (List (Lane L)))
      → EndsOpening a s k d l IsMoment given.acceptor given.disk given.post back roster workers → back.status ≡ n → ⊥
  opening_not n none six seven twelve roster workers (inl o) is = none o.left.ending (sym o.gives.status_is ∙ is)
  opening_not n none six seven twelve roster workers (inr (inl o)) is = fault_not n six seven twelve o.why (sym o.gives.status_is ∙ is)
  opening_not n none six seven twelve roster workers (inr (inr loses)) is = twelve (sym (lost_status roster loses) ∙ is)

  pub serving_not_two : (document : List ℕ) (workers : ℕ) → RunsServing a s k d l IsMoment given back document workers → back.status ≡ 2 → ⊥
  serving_not_two document workers (serving fits r) is =
      opening_not 2 not_two (λ e. omega (arith, e)) (λ e. omega (arith, e)) (λ e. omega (arith, e)) fits.roster r.workers r.ends is
  serving_not_two document workers (unfit misfit e said) is = omega (arith, e.status_is, is)
  serving_not_two document workers (unserved e) is = omega (arith, e.status_is, is)

  -- status 3 exactly where the links don't fit the document
  pub serve_refused : (document : List ℕ) (workers : ℕ) → RunsServing a s k d l IsMoment given back document workers
      → ComesExactly back.status 3 (FitsServing document workers (links_in given.links.items) → ⊥)
  serve_refused document workers (serving fits r) = (
    λ is. absurd (opening_not 3 not_three (λ e. omega (arith, e)) (λ e. omega (arith, e)) (λ e. omega (arith, e)) fits.roster r.workers r.ends is),
    λ misfit. absurd (misfit fits),
  )
  serve_refused document workers (unfit misfit e said) = (λ is. misfit, λ why. inl e.status_is)
  serve_refused document workers (unserved e) = (λ is. absurd (omega (arith, e.status_is, is)), λ why. inr e.status_is)

  -- what was served by a roster is what the document asks for
  pub runs_by : (document : List ℕ) (workers : ℕ) (roster : Roster) → BeginsWithRoster document roster → length given.links.items ≡ workers
      → EndsRoster a s k d l IsMoment given back roster → RunsServing a s k d l IsMoment given back document workers
  runs_by document workers roster begins counted (inl r) =
      serving (record { roster = roster; begins = begins; counted = length-map given.links.items links_at ∙ counted; each = all_fit roster (links_in given.links.items) r.workers r.lanes }) r
    where
      links_at : Vec L Global → List L
      links_at v = v.items
  runs_by document workers roster begins counted (inr (inl (misfit, e, none))) =
      unfit (λ fits. misfit (subst (λ (o : Roster). All (Fit o.bidders) (links_in given.links.items)) (one_begun document fits.roster roster fits.begins begins) fits.each)) e
      (subst (SaysUnfit document workers (links_in given.links.items)) (sym none) (inr (roster, begins)))
  runs_by document workers roster begins counted (inr (inr e)) = unserved e

  pub runs_uncounted : (document : List ℕ) (workers : ℕ) → length given.links.items ≢ workers → EndsAtOnce given back 3 → back.why ≡ None → RunsServing a s k d l IsMoment given back document workers
  runs_uncounted document workers other e none = unfit (λ fits. other (sym (length-map given.links.items links_at) ∙ fits.counted)) e
      (subst (SaysUnfit document workers (links_in given.links.items)) (sym none) (inl (λ counted. other (sym (length-map given.links.items links_at) ∙ counted))))
    where
      links_at : Vec L Global → List L
      links_at v = v.items

  pub runs_refused : (document : List ℕ) (workers : ℕ) (why : RosterRefusal) → LacksRoster document why → EndsAtOnce given back 3 → back.why ≡ Some (NotBegun.Line why) → RunsServing a s k d l IsMoment given back document workers
  runs_refused document workers why lacks e said = unfit (λ fits. roster_taken document fits.roster why fits.begins lacks) e
      (subst (SaysUnfit document workers (links_in given.links.items)) (sym said) lacks)
