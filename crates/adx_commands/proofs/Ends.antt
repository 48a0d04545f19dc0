-- The causes of a command's end, and when its document is refused.
use Rattle.std.proofs.Common.{◌≡◌, ◌≢◌, ◌⊎◌, ◌∙◌, inl, inr, sym, ap, subst, refl, ℕ, ◌<◌, ◌≤◌, List, [], length, Option, Some, None, IfSome, arith}
use Rattle.std.specs.Prelude.{IsSome}
use Rattle.adx_links.specs.Pairs.{AcceptorTold}
use Rattle.adx_links.specs.Told.{told_by}
use Rattle.adx_links.specs.declared.acceptor.Acceptor as acceptors
use Rattle.adx_desk.specs.Endings.{IsWithinRise}
use Rattle.adx_desk.specs.declared.fault.DeskFault.{DeskFault}
use Rattle.adx_io.specs.Streams.{Rises, last_count}
use Rattle.day_journal.specs.declared.disk.Disk as disks
use Rattle.adx_io.specs.declared.sink.Sink as sinks
use Rattle.adx_io.specs.declared.source.Source as sources
use Rattle.adx_links.specs.declared.link.Link as links
use Rattle.command_bidder.specs.Bidding.{EndsBid, HasFailed}
use Rattle.command_bidder.specs.Statuses.{status_by as status_by_bid}
use Rattle.command_bidder.specs.declared.ending.BidEnd.{BidEnd}
use Rattle.deal_floor.specs.declared.roster.Roster.{Roster}
use Rattle.command_notices.specs.Posting.{EndsDay, EndsPosting}
use Rattle.command_notices.specs.Statuses.{status_by as status_by_post}
use Rattle.command_notices.specs.declared.ending.PostEnd.{PostEnd}
use Rattle.adx_commands.specs.Causes.{HasCauses}
use Rattle.adx_commands.specs.NetworkCommands.{PostsNotices, RunsBid, RunsPost, ServesBidder}
use Rattle.adx_commands.specs.Documents.{HasNoPrices, HasNoRoster}
use Rattle.adx_commands.specs.Served.{ComesExactly, EndsAtOnce, IsUntouched, KeepsObjects, linked, ran, unbegun}
use Rattle.adx_commands.specs.declared.objects.Objects.{Objects}
use Rattle.adx_commands.specs.declared.served.Served.{Served}
use Rattle.adx_commands.proofs.Documents.{prices_taken, roster_taken}

-- what is said of an object that was given back
abbrev pub Says : {T : Type 0} → (T → Type 0) → Option T → Type 0
Says P back = IfSome back P

pub says : {T : Type 0} (P : T → Type 0) (back : Option T) (x : T) → back ≡ Some x → P x → IfSome back P
says P back x is holds = subst (λ (b : Option _). IfSome b P) (sym is) holds

-- what is said of each object is said of it
some_more : {T : Type 0} (P Q : T → Type 0) → ((x : T) → P x → Q x) → (back : Option T) → IfSome back P → IfSome back Q
some_more P Q more (Some x) holds = more x holds
some_more P Q more None holds = holds

-- a count that rose did so by one at least
pub rises_one : (before now : ℕ) → Rises before now → IsWithinRise before 1 now
rises_one before now (inl more) = inl (omega (arith, more))
rises_one before now (inr last) = inr (subst (λ (n : ℕ). last_count ≤ n) (sym last) (omega arith))

pub there : {T : Type 0} (back : Option T) (x : T) → back ≡ Some x → IsSome back
there back x is = subst (λ (b : Option _). IsSome b) (sym is) refl

-- ---- the disk of a day whose notices were tried

module _ {L D : Type 0} (l : links.Ghosts L) (d : disks.Ghosts D) (roster : Roster) (disk disk_now : D) (link link_now : L) where
  day_faulted : EndsDay l d roster disk disk_now link link_now PostEnd.DiskFault → Rises (d.faults disk) (d.faults disk_now)
  day_faulted (inl (history, keeps, tries)) = absurd tries
  day_faulted (inr (DeskFault.DiskFault, is, same, gives_up, cause)) = cause.1
  day_faulted (inr (DeskFault.JournalFull size, is, same, gives_up, cause)) = absurd (cc is)
  day_faulted (inr (DeskFault.BadEntry at, is, same, gives_up, cause)) = absurd (cc is)
  day_faulted (inr (DeskFault.OtherRoster kept, is, same, gives_up, cause)) = absurd (cc is)
  day_faulted (inr (DeskFault.NotAJournal at, is, same, gives_up, cause)) = absurd (cc is)
  day_faulted (inr (DeskFault.BadLength at, is, same, gives_up, cause)) = absurd (cc is)
  day_faulted (inr (DeskFault.OutOfMemory, is, same, gives_up, cause)) = absurd (cc is)

  day_passed : (end : PostEnd) → end ≢ PostEnd.DiskFault → EndsDay l d roster disk disk_now link link_now end → d.faults disk_now ≡ d.faults disk
  day_passed end other (inl (history, keeps, tries)) = keeps.counted
  day_passed end other (inr (DeskFault.DiskFault, is, same, gives_up, cause)) = absurd (other is)
  day_passed end other (inr (DeskFault.JournalFull size, is, same, gives_up, cause)) = cause
  day_passed end other (inr (DeskFault.BadEntry at, is, same, gives_up, cause)) = cause
  day_passed end other (inr (DeskFault.OtherRoster kept, is, same, gives_up, cause)) = cause
  day_passed end other (inr (DeskFault.NotAJournal at, is, same, gives_up, cause)) = cause
  day_passed end other (inr (DeskFault.BadLength at, is, same, gives_up, cause)) = cause
  day_passed end other (inr (DeskFault.OutOfMemory, is, same, gives_up, cause)) = cause

module _ {L D : Type 0} (l : links.Ghosts L) (d : disks.Ghosts D) (document : List ℕ) (disk disk_now : D) (link link_now : L) where
  post_faulted : (end : PostEnd) → status_by_post end ≡ 6 → EndsPosting l d document disk disk_now link link_now end → Rises (d.faults disk) (d.faults disk_now)
  post_faulted PostEnd.Delivered is ends = absurd (omega (arith, is))
  post_faulted PostEnd.Pending is ends = absurd (omega (arith, is))
  post_faulted (PostEnd.Refused why) is ends = absurd (omega (arith, is))
  post_faulted PostEnd.DiskFault is (roster, begins, ends) = day_faulted l d roster disk disk_now link link_now ends
  post_faulted (PostEnd.NoHistory why) is ends = absurd (omega (arith, is))
  post_faulted PostEnd.OutOfMemory is ends = absurd (omega (arith, is))

  post_passed : (end : PostEnd) → status_by_post end ≢ 6 → EndsPosting l d document disk disk_now link link_now end → d.faults disk_now ≡ d.faults disk
  post_passed PostEnd.Delivered other (roster, begins, ends) = day_passed l d roster disk disk_now link link_now PostEnd.Delivered (λ e. cc e) ends
  post_passed PostEnd.Pending other (roster, begins, ends) = day_passed l d roster disk disk_now link link_now PostEnd.Pending (λ e. cc e) ends
  post_passed (PostEnd.Refused why) other (lacks, (disk_same, link_same)) = ap d.faults disk_same
  post_passed PostEnd.DiskFault other ends = absurd (other refl)
  post_passed (PostEnd.NoHistory why) other (roster, begins, ends) = day_passed l d roster disk disk_now link link_now (PostEnd.NoHistory why) (λ e. cc e) ends
  post_passed PostEnd.OutOfMemory other (inl untouched) = ap d.faults untouched.0
  post_passed PostEnd.OutOfMemory other (inr (roster, begins, ends)) = day_passed l d roster disk disk_now link link_now PostEnd.OutOfMemory (λ e. cc e) ends

  -- status 3 where the document has no roster, and else not
  post_lacking : (end : PostEnd) → status_by_post end ≡ 3 → EndsPosting l d document disk disk_now link link_now end → HasNoRoster document
  post_lacking PostEnd.Delivered is ends = absurd (omega (arith, is))
  post_lacking PostEnd.Pending is ends = absurd (omega (arith, is))
  post_lacking (PostEnd.Refused why) is ends = (why, ends.0)
  post_lacking PostEnd.DiskFault is ends = absurd (omega (arith, is))
  post_lacking (PostEnd.NoHistory why) is ends = absurd (omega (arith, is))
  post_lacking PostEnd.OutOfMemory is ends = absurd (omega (arith, is))

  post_refuses : (end : PostEnd) → HasNoRoster document → EndsPosting l d document disk disk_now link link_now end → (status_by_post end ≡ 3) ⊎ (status_by_post end ≡ 12)
  post_refuses PostEnd.Delivered lacks (roster, begins, ends) = absurd (roster_taken document roster lacks.0 begins lacks.1)
  post_refuses PostEnd.Pending lacks (roster, begins, ends) = absurd (roster_taken document roster lacks.0 begins lacks.1)
  post_refuses (PostEnd.Refused why) lacks ends = inl refl
  post_refuses PostEnd.DiskFault lacks (roster, begins, ends) = absurd (roster_taken document roster lacks.0 begins lacks.1)
  post_refuses (PostEnd.NoHistory why) lacks (roster, begins, ends) = absurd (roster_taken document roster lacks.0 begins lacks.1)
  post_refuses PostEnd.OutOfMemory lacks ends = inr refl

-- ---- the acceptor of a bidder's connections

bid_faulted : (document : List ℕ) (old new : AcceptorTold) (end : BidEnd) → status_by_bid end ≡ 4 → EndsBid document old new end → HasFailed old new
bid_faulted document old new BidEnd.Over is ends = absurd (omega (arith, is))
bid_faulted document old new (BidEnd.Refused why) is ends = absurd (omega (arith, is))
bid_faulted document old new BidEnd.AcceptorFault is ends = ends.1
bid_faulted document old new BidEnd.OutOfMemory is ends = absurd (omega (arith, is))

bid_passed : (document : List ℕ) (old new : AcceptorTold) (end : BidEnd) → status_by_bid end ≢ 4 → status_by_bid end ≢ 12 → EndsBid document old new end → new.faults ≡ old.faults
bid_passed document old new BidEnd.Over other more ends = ends.1.1
bid_passed document old new (BidEnd.Refused why) other more ends = ap (λ (a : AcceptorTold). a.faults) ends.1
bid_passed document old new BidEnd.AcceptorFault other more ends = absurd (other refl)
bid_passed document old new BidEnd.OutOfMemory other more ends = absurd (more refl)

bid_lacking : (document : List ℕ) (old new : AcceptorTold) (end : BidEnd) → status_by_bid end ≡ 3 → EndsBid document old new end → HasNoPrices document
bid_lacking document old new BidEnd.Over is ends = absurd (omega (arith, is))
bid_lacking document old new (BidEnd.Refused why) is ends = (why, ends.0)
bid_lacking document old new BidEnd.AcceptorFault is ends = absurd (omega (arith, is))
bid_lacking document old new BidEnd.OutOfMemory is ends = absurd (omega (arith, is))

bid_refuses : (document : List ℕ) (old new : AcceptorTold) (end : BidEnd) → HasNoPrices document → EndsBid document old new end → (status_by_bid end ≡ 3) ⊎ (status_by_bid end ≡ 12)
bid_refuses document old new BidEnd.Over lacks ends = absurd (prices_taken document ends.0.bidder lacks.0 ends.0.prices lacks.1)
bid_refuses document old new (BidEnd.Refused why) lacks ends = inl refl
bid_refuses document old new BidEnd.AcceptorFault lacks ends = absurd (prices_taken document ends.0.bidder lacks.0 ends.0.prices lacks.1)
bid_refuses document old new BidEnd.OutOfMemory lacks ends = inr refl

-- ---- what each run says of its objects

never_empty : {X : Type 0} (xs : List X) → xs ≡ [] → 0 < length xs → ⊥
never_empty xs none some = omega (arith, ap length none, some)

module _ {A I O D L : Type 0} (a : acceptors.Ghosts A I O) (d : disks.Ghosts D) (given : Objects A D L) (back : Served A D L) where
  -- what keeps its objects has the causes of any run
  pub kept_causes : (back.status ≡ 4 → IfSome back.acceptor (λ now. Rises (a.faults given.acceptor) (a.faults now)))
      → (back.status ≢ 4 → back.status ≢ 12 → IfSome back.acceptor (λ now. a.faults now ≡ a.faults given.acceptor))
      → KeepsObjects d given back → HasCauses a d given back
  kept_causes fault passed k = record {
    acceptor_fault = fault;
    acceptor_passed = passed;
    disk_fault = λ is. some_more (λ (now : D). Rises (d.faults given.disk) (d.faults now)) (λ (now : D). IsWithinRise (d.faults given.disk) 1 (d.faults now))
        (λ now. rises_one (d.faults given.disk) (d.faults now)) back.disk (k.disk_fault is);
    disk_passed = λ four six twelve. k.disk_passed six;
    all_back = λ other. k.all_back;
    post_back = k.all_back.post;
  }

  -- all objects are as they were, at a status that is no fault's
  untouched_kept : d.lasts given.disk given.disk → back.status ≢ 6 → IsUntouched given back → KeepsObjects d given back
  untouched_kept same not_six u = record {
    all_back = record { acceptor = there back.acceptor given.acceptor u.acceptor; disk = there back.disk given.disk u.disk; post = there back.post given.post u.post };
    disk_lasts = says (λ now. d.lasts given.disk now) back.disk given.disk u.disk same;
    disk_fault = λ is. absurd (not_six is);
    disk_passed = λ other. says (λ now. d.faults now ≡ d.faults given.disk) back.disk given.disk u.disk refl;
  }

  pub ended_kept : d.lasts given.disk given.disk → (status : ℕ) → status ≢ 4 → status ≢ 6 → EndsAtOnce given back status → HasCauses a d given back × KeepsObjects d given back
  ended_kept same status not_four not_six e =
      let kept = untouched_kept same (λ is. not_six (sym e.status_is ∙ is)) e.untouched in (
        kept_causes (λ is. absurd (not_four (sym e.status_is ∙ is)))
            (λ other more. says (λ now. a.faults now ≡ a.faults given.acceptor) back.acceptor given.acceptor e.untouched.acceptor refl) kept,
        kept,
      )

  pub ended_causes : (status : ℕ) → status ≢ 4 → status ≢ 6 → EndsAtOnce given back status → HasCauses a d given back
  ended_causes status not_four not_six e =
      let u = e.untouched in record {
        acceptor_fault = λ is. absurd (not_four (sym e.status_is ∙ is));
        acceptor_passed = λ other more. says (λ now. a.faults now ≡ a.faults given.acceptor) back.acceptor given.acceptor u.acceptor refl;
        disk_fault = λ is. absurd (not_six (sym e.status_is ∙ is));
        disk_passed = λ four six twelve. says (λ now. d.faults now ≡ d.faults given.disk) back.disk given.disk u.disk refl;
        all_back = λ other. record { acceptor = there back.acceptor given.acceptor u.acceptor; disk = there back.disk given.disk u.disk; post = there back.post given.post u.post };
        post_back = there back.post given.post u.post;
      }

  module _ (l : links.Ghosts L) (document : List ℕ) where
    pub post_causes : PostsNotices l d document given back → HasCauses a d given back × KeepsObjects d given back
    post_causes p =
        let kept : KeepsObjects d given back = record {
          all_back = record { acceptor = there back.acceptor given.acceptor p.acceptor_back; disk = there back.disk p.disk p.disk_back; post = there back.post p.post p.post_back };
          disk_lasts = says (λ now. d.lasts given.disk now) back.disk p.disk p.disk_back p.lasts;
          disk_fault = λ is. says (λ now. Rises (d.faults given.disk) (d.faults now)) back.disk p.disk p.disk_back
              (post_faulted l d document given.disk p.disk given.post p.post p.end (sym p.told ∙ is) p.ends);
          disk_passed = λ other. says (λ now. d.faults now ≡ d.faults given.disk) back.disk p.disk p.disk_back
              (post_passed l d document given.disk p.disk given.post p.post p.end (λ is. other (p.told ∙ is)) p.ends);
        } in (
          kept_causes (λ is. says (λ now. Rises (a.faults given.acceptor) (a.faults now)) back.acceptor given.acceptor p.acceptor_back (absurd (never_four p.end (sym p.told ∙ is))))
              (λ other more. says (λ now. a.faults now ≡ a.faults given.acceptor) back.acceptor given.acceptor p.acceptor_back refl) kept,
          kept,
        )
      where
        never_four : (end : PostEnd) → status_by_post end ≡ 4 → ⊥
        never_four PostEnd.Delivered is = omega (arith, is)
        never_four PostEnd.Pending is = omega (arith, is)
        never_four (PostEnd.Refused why) is = omega (arith, is)
        never_four PostEnd.DiskFault is = omega (arith, is)
        never_four (PostEnd.NoHistory why) is = omega (arith, is)
        never_four PostEnd.OutOfMemory is = omega (arith, is)

    pub post_refused : RunsPost l d document given back → ComesExactly back.status 3 ((0 < length given.links.items) ⊎ HasNoRoster document)
    post_refused (ran none p) = (
      λ is. inr (post_lacking l d document given.disk p.disk given.post p.post p.end (sym p.told ∙ is) p.ends),
      λ why. elim why [
        | inl some ↦ absurd (never_empty given.links.items none some)
        | inr lacks ↦
            subst (λ (n : ℕ). (n ≡ 3) ⊎ (n ≡ 12)) (sym p.told) (post_refuses l d document given.disk p.disk given.post p.post p.end lacks p.ends)
      ],
    )
    post_refused (linked some e none) = (λ is. inl some, λ why. inl e.status_is)
    post_refused (unbegun e) = (λ is. absurd (omega (arith, e.status_is, is)), λ why. inr e.status_is)

  module _ (s : sources.Ghosts I) (k : sinks.Ghosts O) (document : List ℕ) where
    pub bid_causes : d.lasts given.disk given.disk → ServesBidder a s k document given back → HasCauses a d given back × KeepsObjects d given back
    bid_causes same b =
        let tells = told_by a s k in
        let kept : KeepsObjects d given back = record {
          all_back = record { acceptor = there back.acceptor b.acceptor b.acceptor_back; disk = there back.disk given.disk b.disk_back; post = there back.post given.post b.post_back };
          disk_lasts = says (λ now. d.lasts given.disk now) back.disk given.disk b.disk_back same;
          disk_fault = λ is. absurd (never_six b.end (sym b.told ∙ is));
          disk_passed = λ other. says (λ now. d.faults now ≡ d.faults given.disk) back.disk given.disk b.disk_back refl;
        } in (
          kept_causes (λ is. says (λ now. Rises (a.faults given.acceptor) (a.faults now)) back.acceptor b.acceptor b.acceptor_back
              (bid_faulted document (tells given.acceptor) (tells b.acceptor) b.end (sym b.told ∙ is) b.ends))
              (λ other more. says (λ now. a.faults now ≡ a.faults given.acceptor) back.acceptor b.acceptor b.acceptor_back
              (bid_passed document (tells given.acceptor) (tells b.acceptor) b.end (λ is. other (b.told ∙ is)) (λ is. more (b.told ∙ is)) b.ends)) kept,
          kept,
        )
      where
        never_six : (end : BidEnd) → status_by_bid end ≡ 6 → ⊥
        never_six BidEnd.Over is = omega (arith, is)
        never_six (BidEnd.Refused why) is = omega (arith, is)
        never_six BidEnd.AcceptorFault is = omega (arith, is)
        never_six BidEnd.OutOfMemory is = omega (arith, is)

    pub bid_refused : RunsBid a s k document given back → ComesExactly back.status 3 ((0 < length given.links.items) ⊎ HasNoPrices document)
    bid_refused (ran none b) =
        let tells = told_by a s k in (
          λ is. inr (bid_lacking document (tells given.acceptor) (tells b.acceptor) b.end (sym b.told ∙ is) b.ends),
          λ why. elim why [
            | inl some ↦ absurd (never_empty given.links.items none some)
            | inr lacks ↦ subst (λ (n : ℕ). (n ≡ 3) ⊎ (n ≡ 12)) (sym b.told) (bid_refuses document (tells given.acceptor) (tells b.acceptor) b.end lacks b.ends)
          ],
        )
    bid_refused (linked some e none) = (λ is. inl some, λ why. inl e.status_is)
    bid_refused (unbegun e) = (λ is. absurd (omega (arith, e.status_is, is)), λ why. inr e.status_is)
