-- The journal of a generated day that begins with no entry has room for each of its calls.
use Rattle.std.proofs.Common.{◌≡◌, ◌≢◌, ℕ, suc, ◌+◌, ◌*◌, ◌<◌, ◌≤◌, ◌^◌, List, [], ◌∷◌, ◌++◌, length, Bool, true, false, ◌==◌, nat_lt, max, All, Option, Some, None, IfSome, slice_get, if◌then◌else◌, refl, sym, ap, ◌∙◌, subst, arith, length-append, append_assoc}
use Rattle.std.specs.List.{flat_map, sum_by}
use Rattle.std.proofs.lemmas.List.Elements.{All-nil, All-cons, All-head, All-tail}
use Rattle.day_machine.specs.Held.{longest_held, longest_record}
use Rattle.adx_desk.specs.Histories.{DeskTerms, longest_size}
use Rattle.day_machine.proofs.Holding.{held_ask, held_falls}
use Rattle.answer_lines.specs.declared.faults.Fault.{Fault}
use Rattle.day_journal.specs.Places.{head, open_place}
use Rattle.day_journal.specs.declared.start.TheConstants.{NEW_FORMAT}
use Rattle.day_entries.specs.Entries.{IsNoticeOrMoment}
use Rattle.day_entries.proofs.Lengths.{notice_bytes}
use Rattle.notice_book.specs.declared.award.Award.{Award}
use Rattle.notice_book.specs.declared.kind.NoticeKind.{NoticeKind}
use Rattle.notice_book.specs.declared.ruling.Ruling.{Ruling}
use Rattle.notice_book.specs.Rules.{ruling_of}
use Rattle.notice_book.specs.AwardList.{due_count}
use Rattle.day_rules.specs.declared.answer.Answer.{Answer}
use Rattle.day_rules.specs.declared.answer.Seen.{Seen}
use Rattle.day_rules.specs.declared.answer.Which.{Which}
use Rattle.day_rules.specs.declared.ask.Ask.{Ask}
use Rattle.day_rules.specs.declared.entry.Entry.{Entry}
use Rattle.day_rules.specs.Asks.{settled}
use Rattle.day_rules.specs.Books.{awards_of, latest}
use Rattle.day_rules.specs.Entries.{entry_of_notice}
use Rattle.day_rules.specs.Legal.{IsLegal, MayFollow}
use Rattle.day_rules.specs.Replies.{Call, Reply, added, answered, ask, ask_reply, ask_reply_by, asks_with, bids_with, full, is_of_auction, known_reply, notice, reply, ruled_reply, seen_in, text_with, set_budget, tick, ticked, with_entry}
use Rattle.day_rules.specs.Runs.{AreTurns, IsCall, Outcome, Turn, after_turn, done, faulted}
use Rattle.day_rules.specs.DayState.{IsDay}
use Rattle.day_rules.specs.Terms.{AreTerms, Terms}
use Rattle.day_rules.proofs.Following.{call_follows}
use Rattle.day_rules.proofs.Histories.{legal_none}
use Rattle.day_rules.proofs.Running.{run_legal}
use Rattle.adx_desk.specs.Courses.{HasNoDiskFault}
use Rattle.adx_desk.specs.Meanings.{AreDone, Told, outcome_by, turn_of, turns_of}
use Rattle.adx_desk.specs.OnDisk.{FullEach, FullOnly, history_after}
use Rattle.command_gen.specs.Generated.{ask_by}
use Rattle.command_gen.specs.declared.generator.TheConstants.{MOST_ASKS}
use Rattle.command_gen.proofs.Weight.{ask_adds, weight, weight_more}

-- a call of a generated day
abbrev pub IsOfDay : ℕ → Call → Type 0
IsOfDay seed (ask a) = (number : ℕ) × (number < MOST_ASKS) × (a ≡ ask_by seed number)
IsOfDay seed (notice kind auction n) = Unit {0}
IsOfDay seed (tick now) = Unit {0}
IsOfDay seed (set_budget x) = ⊥

-- the entry of a reply to an ask is the settled ask
abbrev AddsAsk : Ask → Reply → Type 0
AddsAsk s r = (e : Entry) → r.entry ≡ Some e → e ≡ Entry.Ask s

either : (s : Ask) (b : Bool) (r other : Reply) → AddsAsk s r → AddsAsk s other → AddsAsk s (if b then r else other)
either s true r other one two = one
either s false r other one two = two

ask_entry : (terms : Terms) (history : List Entry) (a : Ask) → AddsAsk (settled terms history a) (ask_reply terms history a)
ask_entry terms history a = by_seen (seen_in history a.auction a.digest)
  where
    none_added : (s : Ask) (x : Answer) → AddsAsk s (answered x)
    none_added s x e is = absurd (cc is)

    sold : (s : Ask) (x : Answer) → AddsAsk s (added x (Entry.Ask s))
    sold s x e is = sym (cc is)

    by_seen : (seen : Seen) → AddsAsk (settled terms history a) (ask_reply_by seen terms history a)
    by_seen Seen.New =
        let s = settled terms history a in
        either s (nat_lt terms.limits.auctions (asks_with history)) (full Which.Auctions (asks_with history)) _ (λ e is. absurd (cc is))
        (either s (nat_lt terms.limits.bids (bids_with history s)) (full Which.Bids (bids_with history s)) _ (λ e is. absurd (cc is))
        (either s (nat_lt terms.limits.text (text_with history s)) (full Which.Text (text_with history s)) _ (λ e is. absurd (cc is)) (λ e is. sym (cc is))))
    by_seen (Seen.Same place) = λ e is. absurd (cc is)
    by_seen (Seen.Other kept) = λ e is. absurd (cc is)

-- that of a notice or a tick is a notice's or a moment's
abbrev AddsNoticeOrMoment : Reply → Type 0
AddsNoticeOrMoment r = (e : Entry) → r.entry ≡ Some e → IsNoticeOrMoment e

kind_entry : (kind : NoticeKind) (n : ℕ) → IsNoticeOrMoment (entry_of_notice kind n)
kind_entry NoticeKind.Win n = tt
kind_entry NoticeKind.Bill n = tt
kind_entry NoticeKind.Loss n = tt

notice_entry : (history : List Entry) (kind : NoticeKind) (auction : List ℕ) (n : ℕ) (w : Option Award) → AddsNoticeOrMoment (known_reply history kind auction n w)
notice_entry history kind auction n None = λ e is. absurd (cc is)
notice_entry history kind auction n (Some w) = by (is_of_auction history auction w)
  where
    ruled : (r : Ruling) → AddsNoticeOrMoment (ruled_reply history kind n r)
    ruled Ruling.Counted e is = let same : entry_of_notice kind n ≡ e = cc is in subst IsNoticeOrMoment same (kind_entry kind n)
    ruled Ruling.Repeat e is = absurd (cc is)
    ruled (Ruling.Conflict end) e is = absurd (cc is)

    by : (b : Bool) → AddsNoticeOrMoment (if b then ruled_reply history kind n (ruling_of kind w) else answered Answer.Unknown)
    by true = ruled (ruling_of kind w)
    by false = λ e is. absurd (cc is)

tick_entry : (moment ended : ℕ) → AddsNoticeOrMoment (ticked moment ended)
tick_entry moment ended = by (ended == 0)
  where
    by : (b : Bool) → AddsNoticeOrMoment (if b then answered (Answer.Ticked 0) else added (Answer.Ticked ended) (Entry.Expire moment))
    by true = λ e is. absurd (cc is)
    by false = λ e is. let same : Entry.Expire moment ≡ e = cc is in subst IsNoticeOrMoment same tt

-- one call adds at most 1,000 bytes
falls : (terms : Terms) (history : List Entry) (e : Entry) → IsDay terms history → MayFollow terms history e → IsNoticeOrMoment e → weight (history ++ e ∷ []) ≤ weight history + 1000
falls terms history e day follows none =
    omega (arith, weight_more history e, held_falls 2 terms history e day follows none, notice_bytes 1 e none, notice_bytes 2 e none)

call_adds : (terms : Terms) (history : List Entry) (seed : ℕ) (c : Call) (e : Entry) → AreTerms terms → IsLegal terms history → IsCall (length terms.budgets) c → IsOfDay seed c → (reply terms history c).entry ≡ Some e
    → weight (history ++ e ∷ []) ≤ weight history + 1000
call_adds terms history seed (ask a) e ok legal well (number, few, is) adds =
    let s : Entry = Entry.Ask (settled terms history (ask_by seed number)) in
    let same : e ≡ s = ask_entry terms history a e adds ∙ ap (λ (x : Ask). Entry.Ask (settled terms history x)) is in
    subst (λ (x : Entry). weight (history ++ x ∷ []) ≤ weight history + 1000) (sym same)
    (omega (arith, weight_more history s, held_ask 2 terms history (settled terms history (ask_by seed number)) legal, ask_adds terms history seed number few))
call_adds terms history seed (notice kind auction n) e ok legal well of adds =
    falls terms history e (record { terms_ok = ok; legal = legal }) (subst (λ (o : Option Entry). IfSome o (MayFollow terms history)) adds (call_follows terms history (notice kind auction n) legal well))
    (notice_entry history kind auction n (slice_get (awards_of history) n) e adds)
call_adds terms history seed (tick now) e ok legal well of adds =
    falls terms history e (record { terms_ok = ok; legal = legal }) (subst (λ (o : Option Entry). IfSome o (MayFollow terms history)) adds (call_follows terms history (tick now) legal well))
    (tick_entry (max now (latest history)) (due_count (max now (latest history)) (awards_of history)) e adds)
call_adds terms history seed (set_budget x) e ok legal well of adds = absurd of

turn_adds : (terms : Terms) (history : List Entry) (seed : ℕ) (c : Call) (o : Outcome) → AreTerms terms → IsLegal terms history → IsCall (length terms.budgets) c → IsOfDay seed c
    → weight (after_turn terms history (record { call = c; outcome = o })) ≤ weight history + 1000
turn_adds terms history seed c faulted ok legal well of = omega arith
turn_adds terms history seed c done ok legal well of = by (reply terms history c).entry refl
  where
    by : (x : Option Entry) → (reply terms history c).entry ≡ x → weight (with_entry history x) ≤ weight history + 1000
    by None is = omega arith
    by (Some e) is = call_adds terms history seed c e ok legal well of is

-- and so many calls
pub calls_add : (terms : Terms) (seed : ℕ) (start : List Entry) (told : List Told) → AreTerms terms → IsLegal terms start → AreTurns (length terms.budgets) (turns_of told) → All (λ (t : Told). IsOfDay seed t.call) told
    → weight (history_after terms start told) ≤ weight start + 1000 * length told
calls_add terms seed start [] ok legal taken of = omega arith
calls_add terms seed start (t ∷ told) ok legal taken of =
    let P : Turn → Type 0 = λ turn. IsCall (length terms.budgets) turn.call in
    let Q : Told → Type 0 = λ u. IsOfDay seed u.call in
    let well = All-head P (turn_of t) (turns_of told) taken in
    let next = after_turn terms start (turn_of t) in
    let legal_next : IsLegal terms next = run_legal terms start (turn_of t ∷ []) legal (All-cons P (turn_of t) [] well (All-nil P)) in
    omega (
      arith,
      turn_adds terms start seed t.call (outcome_by t.fault) ok legal well (All-head Q t told of),
      calls_add terms seed next told ok legal_next (All-tail P (turn_of t) (turns_of told) taken) (All-tail Q t told of),
    )

-- the head of the journal, the roster's digest, and the gate
head_size : (terms : DeskTerms) (history : List Entry) → length terms.digest ≡ 32 → longest_size terms history ≤ 100 + sum_by longest_record history
head_size terms history long =
    omega (arith, length-append (head NEW_FORMAT) (flat_map open_place (terms.digest ∷ [])), length-append (open_place terms.digest) [], long)

-- no journal of a day that begins with no entry is too small for one of so few calls
all_left : (P : Told → Type 0) (xs ys : List Told) → All P (xs ++ ys) → All P xs
all_left P [] ys all = All-nil P
all_left P (x ∷ xs) ys all = All-cons P x xs (All-head P x (xs ++ ys) all) (all_left P xs ys (All-tail P x (xs ++ ys) all))

turns_left : (P : Turn → Type 0) (xs ys : List Told) → All P (turns_of (xs ++ ys)) → All P (turns_of xs) × All P (turns_of ys)
turns_left P [] ys all = (All-nil P, all)
turns_left P (x ∷ xs) ys all =
    let rest = turns_left P xs ys (All-tail P (turn_of x) (turns_of (xs ++ ys)) all) in
    (All-cons P (turn_of x) (turns_of xs) (All-head P (turn_of x) (turns_of (xs ++ ys)) all) rest.0, rest.1)

all_right : (P : Told → Type 0) (xs ys : List Told) → All P (xs ++ ys) → All P ys
all_right P [] ys all = all
all_right P (x ∷ xs) ys all = all_right P xs ys (All-tail P x (xs ++ ys) all)

-- nothing is held for no entry
none_held : weight [] ≡ 0
unfolding awards_of
none_held = refl

module _ (terms : DeskTerms) (seed : ℕ) (told : List Told) (ok : AreTerms terms.day) (long : length terms.digest ≡ 32) (few : length told ≤ 4000000)
    (taken : AreTurns (length terms.day.budgets) (turns_of told)) (of : All (λ (t : Told). IsOfDay seed t.call) told) where
  has_room : (front : List Told) (one : Told) (back : List Told) (e : Entry) → told ≡ front ++ one ∷ back → (reply terms.day (history_after terms.day [] front) one.call).entry ≡ Some e
      → longest_size terms (history_after terms.day [] front) + longest_record e + longest_held (history_after terms.day [] front ++ e ∷ []) ≤ 2 ^ 32
  has_room front one back e split adds =
      let P : Turn → Type 0 = λ turn. IsCall (length terms.day.budgets) turn.call in
      let Q : Told → Type 0 = λ u. IsOfDay seed u.call in
      let h = history_after terms.day [] front in
      let turns = turns_left P front (one ∷ back) (subst (λ (l : List Told). AreTurns (length terms.day.budgets) (turns_of l)) split taken) in
      let each : All Q (front ++ one ∷ back) = subst (All Q) split of in
      let legal : IsLegal terms.day h = run_legal terms.day [] (turns_of front) (legal_none terms.day) turns.0 in
      let before : weight h ≤ weight [] + 1000 * length front = calls_add terms.day seed [] front ok (legal_none terms.day) turns.0 (all_left Q front (one ∷ back) each) in
      let one_more = call_adds terms.day h seed one.call e ok legal (All-head P (turn_of one) (turns_of back) turns.1) (All-head Q one back (all_right Q front (one ∷ back) each)) adds in
      let count : length front + suc (length back) ≡ length told = sym (length-append front (one ∷ back)) ∙ sym (ap (λ l. length l) split) in
      omega (arith, few, before, one_more, count, weight_more h e, head_size terms h long, none_held)

  -- so none of the calls is answered that the journal is full
  never_full : (front : List Told) (one : Told) (back : List Told) (size : ℕ) → FullEach terms [] told → told ≡ front ++ one ∷ back → one.fault ≡ Some (Fault.JournalFull size) → ⊥
  never_full front one back size full split is =
      by (reply terms.day (history_after terms.day [] front) one.call).entry refl
      (subst (FullOnly terms (history_after terms.day [] front) (reply terms.day (history_after terms.day [] front) one.call).entry) is (full front one back split))
    where
      by : (o : Option Entry) → (reply terms.day (history_after terms.day [] front) one.call).entry ≡ o → FullOnly terms (history_after terms.day [] front) o (Some (Fault.JournalFull size)) → ⊥
      by None adds only = only
      by (Some e) adds only = absurd (omega (arith, only.0, only.1, has_room front one back e split adds))

  -- and all are done where none was given up by the disk
  done_behind : (front rest : List Told) → FullEach terms [] told → told ≡ front ++ rest → HasNoDiskFault rest → AreDone rest
  done_behind front [] full split none = All-nil (λ (t : Told). t.fault ≡ None)
  done_behind front (t ∷ rest) full split none =
      let N : Told → Type 0 = λ u. u.fault ≢ Some Fault.Disk in
      All-cons (λ (u : Told). u.fault ≡ None) t rest (by t.fault refl (All-head N t rest none))
      (done_behind (front ++ t ∷ []) rest full (split ∙ sym (append_assoc front (t ∷ []) rest)) (All-tail N t rest none))
    where
      by : (f : Option Fault) → t.fault ≡ f → t.fault ≢ Some Fault.Disk → t.fault ≡ None
      by None is other = is
      by (Some Fault.Disk) is other = absurd (other is)
      by (Some (Fault.JournalFull size)) is other = absurd (never_full front t rest size full split is)

  pub all_are_done : FullEach terms [] told → HasNoDiskFault told → AreDone told
  all_are_done full none = done_behind [] told full refl none
