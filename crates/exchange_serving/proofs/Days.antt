-- What a day of serving leaves, from what the lobby left and the desk that was closed.
use Rattle.std.proofs.Common.{◌≡◌, ◌⊎◌, inl, inr, ⊎_elim, ℕ, ◌+◌, ◌<◌, ◌≤◌, List, [], length, map, get_or, All, Bool, true, false, Option, Some, None, IfSome, refl, sym, ap, ◌∙◌, subst, arith}
use Rattle.std.proofs.lemmas.List.{length-map}
use Rattle.std.proofs.lemmas.Bool.Decides.{leb_tells}
use Rattle.std.specs.Prelude.{unwrap_or}
use mathlib.Core.List.{IsPrefix}
use Rattle.adx_links.specs.Pairs.{AcceptorTold, PairTold, PairsTold}
use Rattle.adx_io.specs.Streams.{last_count}
use Rattle.day_journal.specs.declared.disk.Disk as disk
use Rattle.adx_links.specs.declared.link.Link as links
use Rattle.adx_desk.specs.Desks.{OnDisk, StandsInDoubt, StandsOnDisk}
use Rattle.adx_desk.specs.Endings.{IsWithinRise}
use Rattle.adx_desk.specs.Histories.{DeskTerms}
use Rattle.adx_desk.specs.Rosters.{desk_terms}
use Rattle.adx_desk.specs.Shared.{IsTurnAt, is_disk_fault, opened_with, terms_in}
use Rattle.adx_desk.specs.declared.shared.OpenedWith.{OpenedWith}
use Rattle.adx_desk.specs.declared.turn.Turn.{Turn}
use Rattle.day_rules.specs.declared.entry.Entry.{Entry}
use Rattle.day_rules.specs.DayState.{IsDay}
use Rattle.day_rules.specs.Legal.{IsLegal}
use Rattle.day_rules.proofs.RunBooks.{books_along}
use Rattle.deal_floor.specs.declared.roster.Roster.{Roster}
use Rattle.desk_board.proofs.Meeting.{prefix_on, prefix_short}
use Rattle.exchange_messages.specs.Floors.{IsMomentOf}
use Rattle.fan_out.specs.declared.lane.Lane.{Lane}
use Rattle.adx_links.specs.Lobbies.{AllServed, IsIntake, WasServed}
use Rattle.adx_links.specs.Serving.{ServedPair}
use Rattle.adx_links.specs.declared.intake.Intake.{Intake}
use Rattle.adx_links.proofs.Keeping.{joins, leaves, opens}
use Rattle.desk_board.specs.Rooms.{HasTended, IsTendedTo}
use Rattle.desk_board.specs.Tending.{AreTended}
use Rattle.desk_board.specs.declared.mail.Mail.{Mail}
use Rattle.shared_desk.specs.Callers.{DeskPass, IsRightPass, entry_of}
use Rattle.shared_desk.specs.Idle.{IsIdle}
use Rattle.shared_desk.proofs.Taken.{all_taken}
use Rattle.turnstile.specs.Passes.{joined}
use Rattle.turnstile.specs.Places.{AreAllOnce, AreOneList}
use Rattle.turnstile.specs.Turns.{AreAllRight, Stand, faults_noted, places_of}
use Rattle.turnstile.specs.declared.limits.TheConstants.{LAST_COUNT}
use Rattle.turnstile.specs.declared.noted.Noted.{Noted}
use Rattle.exchange_serving.specs.Finishing.{Closes, Tells}
use Rattle.exchange_serving.specs.Rounds.{IsServedIn}
use Rattle.exchange_serving.specs.Served.{ArePosted, HasBack, IsServed, ServesDay, faults_in, turns_in}
use Rattle.exchange_serving.specs.declared.ending.Ending.{Ending}
use Rattle.exchange_serving.specs.Unserved.{LeavesPost}
use Rattle.exchange_serving.proofs.Rounds.{served_longer}

-- the turns that met a fault, by the desk's number of faults
within_noted : (since faults now noted last : ℕ) → (faults < last → noted ≤ faults) → (since + faults ≤ now) ⊎ (last ≤ now) → (since + noted ≤ now) ⊎ (last ≤ now)
within_noted since faults now noted last few (inr past) = inr past
within_noted since faults now noted last few (inl within) = ⊎_elim
    (λ t. let less = t.1 in let le = few (omega arith) in inl (omega arith))
    (λ t. let past = t.1 in inr (omega arith))
    (leb_tells (faults + 1) last)

within_one : (since faults now last : ℕ) → 0 < faults → (since + faults ≤ now) ⊎ (last ≤ now) → (since + 1 ≤ now) ⊎ (last ≤ now)
within_one since faults now last some (inl within) = inl (omega arith)
within_one since faults now last some (inr past) = inr past

-- no turn met one where the desk counted none
none_noted : (faults noted last : ℕ) → 0 < last → faults ≡ 0 → (faults < last → noted ≤ faults) → noted ≡ 0
none_noted faults noted last some zero few = let le = few (omega arith) in omega arith

-- as many were given back as were given out
as_many_back : (o : Option (PairsTold PairTold)) (n : ℕ) (rows : List (ServedPair Turn)) → length rows ≡ n → IfSome o (λ t. length t.out ≡ n) → IfSome o (λ t. t.back ≡ map (λ (s : ServedPair Turn). s.told) rows) → IfSome o (λ t. length t.out ≡ length t.back)
as_many_back None n rows e h k = tt
as_many_back (Some t) n rows e h k = h ∙ (sym e ∙ (sym (length-map rows (λ (s : ServedPair Turn). s.told)) ∙ sym (ap (λ (l : List PairTold). length l) k)))

-- what the acceptor said
has_back : (before now : AcceptorTold) (n : ℕ) (rows : List (ServedPair Turn)) (intake : Intake) (short : Bool) (faults : ℕ) (ending : Ending) → Tells short intake faults ending →
    before.faults ≤ now.faults → IsIntake intake now.is_over before.faults now.faults → length rows ≡ n → IfSome now.pairs (λ t. length t.out ≡ n) →
    IfSome now.pairs (λ t. t.back ≡ map (λ (s : ServedPair Turn). s.told) rows) → HasBack before now rows ending
has_back before now n rows intake short faults ending tells later said long out back = record {
  back = back;
  all_back = as_many_back now.pairs n rows long out back;
  later = later;
  fault = λ e. subst (λ (i : Intake). IsIntake i now.is_over before.faults now.faults) (tells.failed e) said;
  over = λ x y. subst (λ (i : Intake). IsIntake i now.is_over before.faults now.faults) (tells.over x y) said;
}

module _ {L : Type 0} (l : links.Ghosts L) where
  -- the pairs were served in the whole history
  each_served : (moment : Option ℕ) (roster : Option Roster) (r : Roster) (workers : List (List (Lane L))) (opened history : List Entry) (rows : List (ServedPair Turn)) → roster ≡ Some r →
      All (WasServed (IsServedIn l moment roster workers opened) history) rows → All (IsServed l (IsMomentOf moment) r opened workers history) rows
  each_served moment roster r workers opened history rows is each j d h =
      let s : ServedPair Turn = get_or rows j d in
      let t = each j d h in
      let same : t.2.0 ≡ r = ap (λ (o : Option Roster). unwrap_or o r) (sym t.2.1 ∙ is) in
      served_longer l (IsMomentOf moment) r opened workers t.0 history s t.1
      (subst (λ (x : Roster). IsServed l (IsMomentOf moment) x opened workers t.0 s) same t.2.2)

  module _ (moment : Option ℕ) (roster : Option Roster) (workers : List (List (Lane L))) (first : DeskPass) where
    abbrev pub Left : ℕ → ℕ → AcceptorTold → DeskPass → Intake → Bool → Type 0
    Left = AllServed (IsServedIn l moment roster workers first.seen) first

    -- once the two other passes were joined
    both_joined : (before : ℕ) (a : AcceptorTold) (pass one other mid last : DeskPass) (intake : Intake) (short : Bool) → one.turns ≡ [] → other.turns ≡ [] → mid ≡ joined pass one → AreOneList pass.seen one.seen → last ≡ joined mid other → AreOneList mid.seen other.seen →
        Left 2 before a pass intake short → Left 0 before a last intake short
    both_joined before a pass one other mid last intake short none none' mid_is mid_one last_is last_one left =
        joins (IsServedIn l moment roster workers first.seen) first 1 before a mid last other intake short (omega arith) none' last_is last_one
        (joins (IsServedIn l moment roster workers first.seen) first 2 before a pass mid one intake short (omega arith) none mid_is mid_one left)

    -- no worker began
    pub none_served : (before : ℕ) (a : AcceptorTold) (p : DeskPass) → p ≡ first → p.is_first ≡ true → p.out ≡ 2 → p.turns ≡ [] → a.faults ≡ before →
        IfSome a.pairs (λ t. (t.out ≡ []) × (t.back ≡ [])) → Left 2 before a p Intake.Open true
    none_served before a p is f out none counts fresh =
        let served = IsServedIn l moment roster workers first.seen in
        leaves served first 2 before a p 0 0 Intake.Open false true refl (λ e. refl) (opens served first 2 before a p is f out none counts fresh)

  -- all of it
  pub day_served : {D : Type 0} (d : disk.Ghosts D) (moment : Option ℕ) (roster : Option Roster) (r : Roster) (workers : List (List (Lane L))) (first pass one other : DeskPass) (fixed : OpenedWith)
      (opened closed : OnDisk D) (disk_now : D) (acceptor acceptor_now : AcceptorTold) (link link_now : L) (intake : Intake) (short : Bool) (ending : Ending) →
      roster ≡ Some r → terms_in fixed ≡ desk_terms r → first.opening ≡ length first.seen → opened.desk.history ≡ first.seen → opened_with opened.desk.terms opened.since ≡ fixed →
      AllServed (IsServedIn l moment roster workers first.seen) first 2 acceptor.faults acceptor_now pass intake short →
      one.turns ≡ [] → other.turns ≡ [] → Closes fixed pass one other closed.desk.history closed.desk.faults → opened_with closed.desk.terms closed.since ≡ fixed →
      Tells short intake closed.desk.faults ending → (closed.since.tells ≡ true → StandsOnDisk (d.may_leave disk_now) closed.desk) →
      IsWithinRise closed.since.count closed.desk.faults (d.faults disk_now) → (closed.desk.faults ≡ 0 → d.faults disk_now ≡ closed.since.count) → ArePosted l closed.desk.history link link_now ending →
      ServesDay d l (IsMomentOf moment) r workers opened disk_now acceptor acceptor_now link link_now ending
  day_served d moment roster r workers first pass one other fixed opened closed disk_now acceptor acceptor_now link link_now intake short ending
      roster_is terms opening history opened_is left none none' closes closed_is tells stands within zero posted =
      let history_now = closed.desk.history in
      let k = both_joined moment roster workers first acceptor.faults acceptor_now pass one other closes.mid closes.last intake short none none' closes.mid_is closes.mid_one closes.last_is closes.last_one left in
      let s = k.served_are in
      let last = closes.last in
      let rows = k.rows in
      let is : last.seen ≡ history_now = sym closes.history_is in
      let turns : last.turns ≡ turns_in rows = s.turns in
      let same_since : closed.since.count ≡ opened.since.count = ap (λ (o : OpenedWith). o.faults) (closed_is ∙ sym opened_is) in
      let same_tells : closed.since.tells ≡ opened.since.tells = ap (λ (o : OpenedWith). o.tells) (closed_is ∙ sym opened_is) in
      let closed_terms : closed.desk.terms ≡ desk_terms r = ap terms_in closed_is ∙ terms in
      let within' : IsWithinRise opened.since.count closed.desk.faults (d.faults disk_now) = subst (λ (n : ℕ). IsWithinRise n closed.desk.faults (d.faults disk_now)) same_since within in
      let legal : IsLegal (desk_terms r).day history_now = subst (IsLegal (desk_terms r).day) is (subst (λ (t : DeskTerms). IsLegal t.day last.seen) terms closes.right.legal.legal) in
      let right : AreAllRight (IsTurnAt (desk_terms r)) history_now (turns_in rows) = subst (λ (h : List Entry). AreAllRight (IsTurnAt (desk_terms r)) h (turns_in rows)) is
      (subst (λ (ts : List (Noted Turn)). AreAllRight (IsTurnAt (desk_terms r)) last.seen ts) turns
      (subst (λ (t : DeskTerms). AreAllRight (IsTurnAt t) last.seen last.turns) terms closes.right.turns)) in
      let counted : closed.desk.faults < LAST_COUNT → faults_in rows ≤ closed.desk.faults = subst (λ (ts : List (Noted Turn)). closed.desk.faults < LAST_COUNT → faults_noted (λ (t : Turn). is_disk_fault t.ended) ts ≤ closed.desk.faults) turns closes.counted in
      record {
        history = history_now;
        begins = subst (λ (h : List Entry). IsPrefix h history_now) (sym history) (subst (IsPrefix first.seen) is k.later.begins);
        legal = legal;
        books = books_along (desk_terms r).day history_now legal;
        faults = closed.desk.faults;
        risen = within';
        on_disk = λ e. subst (λ (t : DeskTerms). StandsInDoubt (d.may_leave disk_now) t history_now closed.desk.faults) closed_terms (stands (same_tells ∙ e));
        sound = tells.passed;
        rows = rows;
        served = record {
          each = subst (λ (h : List Entry). All (IsServed l (IsMomentOf moment) r h workers history_now) rows) (sym history)
              (each_served moment roster r workers first.seen history_now rows roster_is (subst (λ (h : List Entry). All (WasServed (IsServedIn l moment roster workers first.seen) h) rows) is s.each));
          wanting = λ j x h e. tells.short_is (s.short j x h e);
          right = right;
          taken = all_taken (desk_terms r) history_now (turns_in rows) legal right;
          stand = subst (λ (h : List Entry). Stand entry_of h (turns_in rows)) is (subst (λ (ts : List (Noted Turn)). Stand entry_of last.seen ts) turns closes.right.stand);
          own = subst (λ (n : ℕ). AreAllOnce n (length history_now) (places_of entry_of (turns_in rows))) (k.later.opening ∙ (opening ∙ ap (λ (h : List Entry). length h) (sym history)))
              (subst (λ (h : List Entry). AreAllOnce last.opening (length h) (places_of entry_of (turns_in rows))) is
              (subst (λ (ts : List (Noted Turn)). AreAllOnce last.opening (length last.seen) (places_of entry_of ts)) turns closes.own));
        };
        accepted = has_back acceptor acceptor_now k.count rows intake short closed.desk.faults ending tells k.counts k.intake_is s.given_is s.out s.back;
        counted = within_noted opened.since.count closed.desk.faults (d.faults disk_now) (faults_in rows) last_count counted within';
        fault = λ e. within_one opened.since.count closed.desk.faults (d.faults disk_now) last_count (tells.fault e) within';
        passed = λ e. (none_noted closed.desk.faults (faults_in rows) LAST_COUNT (omega arith) (tells.passed e) counted, zero (tells.passed e) ∙ same_since);
        posted = posted;
      }

-- the posts of what a pass has seen
pub leaves_post : {L : Type 0} (l : links.Ghosts L) (fixed : OpenedWith) (r : Roster) (link : Option L) (post : L) (first p : DeskPass) (mail : Mail L) → terms_in fixed ≡ desk_terms r → link ≡ Some post →
    IsIdle first p → IsRightPass fixed p → IsTendedTo l link p.seen mail → LeavesPost l r first.seen post mail.link
leaves_post {L} l fixed r link post first p mail terms is idle right t =
    let day : IsDay (desk_terms r).day p.seen = subst (λ (d : DeskTerms). IsDay d.day p.seen) terms right.legal in
    let same : t.before ≡ post = ap (λ (o : Option L). unwrap_or o post) (sym t.before_is ∙ is) in record {
      history = p.seen;
      begins = idle.begins;
      legal = day.legal;
      followed = t.history;
      front = t.begins;
      pending = mail.outbox.pending;
      tended = subst (λ (k : L). AreTended l t.history mail.outbox.pending k mail.link) same t.has.tended;
    }

-- what the second pass had seen begins the history
pub begins_history : (fixed : OpenedWith) (first one other : DeskPass) (history : List Entry) (faults : ℕ) → Closes fixed first one other history faults → IsPrefix other.seen history
begins_history fixed first one other history faults c =
    subst (λ (h : List Entry). IsPrefix other.seen h) (sym (c.history_is ∙ ap (λ (p : DeskPass). p.seen) c.last_is)) c.last_one.1

module _ {L : Type 0} (l : links.Ghosts L) where
  -- an outbox has followed no more than the history
  pub few_followed : (link : Option L) (seen history : List Entry) (mail : Mail L) → IsTendedTo l link seen mail → IsPrefix seen history → mail.outbox.followed ≤ length history
  few_followed link seen history mail t p = omega (arith, t.has.followed.count, prefix_short t.history seen t.begins, prefix_short seen history p)

  -- the posts of an outbox that has followed a front of the history
  pub posted_by : (link : Option L) (post : L) (seen history : List Entry) (mail : Mail L) (post_now : L) (ending : Ending) → link ≡ Some post → IsTendedTo l link seen mail → IsPrefix seen history →
      ((front : List Entry) (before : L) → IsPrefix front history → HasTended l front before mail → ArePosted l history before post_now ending) → ArePosted l history post post_now ending
  posted_by link post seen history mail post_now ending is t p posts =
      let same : t.before ≡ post = ap (λ (o : Option L). unwrap_or o post) (sym t.before_is ∙ is) in
      subst (λ (k : L). ArePosted l history k post_now ending) same (posts t.history t.before (prefix_on t.history seen history t.begins p) t.has)

  -- what the lobby left, by the names of the day and by what they represent
  pub left_named : (moment told : Option ℕ) (roster : Option Roster) (workers came : List (List (Lane L))) (first was : DeskPass) (faults before : ℕ) (a b : AcceptorTold) (p : DeskPass) (intake : Intake) (short : Bool) →
      moment ≡ told → workers ≡ came → first ≡ was → faults ≡ before → a ≡ b → AllServed (IsServedIn l moment roster workers first.seen) first 2 faults a p intake short →
      AllServed (IsServedIn l told roster came was.seen) was 2 before b p intake short
  left_named moment told roster workers came first was faults before a b p intake short m w f n is left =
      subst (λ (x : Option ℕ). AllServed (IsServedIn l x roster came was.seen) was 2 before b p intake short) m
      (subst (λ (x : List (List (Lane L))). AllServed (IsServedIn l moment roster x was.seen) was 2 before b p intake short) w
      (subst (λ (x : DeskPass). AllServed (IsServedIn l moment roster workers x.seen) x 2 before b p intake short) f
      (subst (λ (x : ℕ). AllServed (IsServedIn l moment roster workers first.seen) first 2 x b p intake short) n
      (subst (λ (x : AcceptorTold). AllServed (IsServedIn l moment roster workers first.seen) first 2 faults x p intake short) is left))))
