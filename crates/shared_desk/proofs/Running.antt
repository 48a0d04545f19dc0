-- What a call on a desk makes of it, as a job tells it.
use Rattle.std.proofs.Common.{◌≡◌, inl, inr, ℕ, ◌+◌, ◌<◌, ◌≤◌, min, List, [], ◌∷◌, ◌++◌, Option, Some, None, length, refl, sym, ◌∙◌, ap, subst, arith, append-nil}
use Rattle.std.specs.Prelude.{Result, Ok, Err, IfOk, OnOk, OnErr}
use mathlib.Core.Logic.{dite}
use native.Mathlib.Decide.{dec_le}
use Rattle.adx_io.specs.Fakes.{counted}
use Rattle.adx_io.specs.Streams.{last_count}
use Rattle.day_journal.specs.Faults.{greatest_size}
use Rattle.day_journal.specs.Tails.{size_of}
use Rattle.day_rules.specs.declared.answer.Answer.{Answer}
use Rattle.day_rules.specs.declared.entry.Entry.{Entry}
use Rattle.day_rules.specs.declared.ask.Ask.{Ask}
use Rattle.day_rules.specs.Replies.{reply, with_entry}
use Rattle.day_rules.specs.Runs.{IsCall}
use Rattle.adx_desk.specs.declared.done.Done.{Done}
use Rattle.adx_desk.specs.declared.fault.DeskFault.{DeskFault}
use Rattle.adx_desk.specs.declared.turn.Call.{Call}
use Rattle.adx_desk.specs.declared.turn.Turn.{Turn}
use Rattle.adx_desk.specs.Asked.{ask_for}
use Rattle.adx_desk.specs.Desks.{DeskState, OnDisk}
use Rattle.adx_desk.specs.Endings.{EndsAsk, EndsNotice, PassesJournal, size_with}
use Rattle.adx_desk.specs.Histories.{DeskTerms, longest_size}
use Rattle.adx_desk.specs.Shared.{EndsAs, IsTurnAt, MayBeFull, TakesRoom, call_of, is_disk_fault, opened_with}
use Rattle.day_machine.specs.Held.{longest_held, longest_record}
use Rattle.day_machine.proofs.Sizes.{held_longest, record_longest}
use Rattle.turnstile.specs.Turns.{HasRisen, added_by, one_if, one_or_none}
use Rattle.turnstile.specs.Places.{one_where}
use Rattle.std.proofs.Common.{Bool, true, false}
use Rattle.shared_desk.specs.Callers.{answer_in, entry_of, entry_where_done, raised_by, turn_at}
use Rattle.shared_desk.specs.declared.ran.Ran.{Ran}
use Rattle.shared_desk.specs.Jobs.{AskedAt, HasCopy, IsRun, Makes, RanAt}

-- the numbers of faults before and after a call that ended so
pub record Counts (ended : Result Answer DeskFault) (before after : ℕ) : Type 0 where
  pub no_fewer : before ≤ after
  pub one : after ≤ before + 1
  pub risen : HasRisen (raised_by ended) before after

pub same_count : (a b : ℕ) → b ≡ a → (a ≤ b) × (b ≤ a + 1) × HasRisen 0 a b
same_count a b e = (omega arith, omega arith, inl (omega arith))

pub one_more : (a b : ℕ) → a ≤ last_count → b ≡ counted a → (a ≤ b) × (b ≤ a + 1) × HasRisen 1 a b
one_more a b fits e = (omega arith, omega arith, dite (dec_le (a + 1) last_count) (λ le. inl (omega arith)) (λ gt. inr (omega arith)))

counts_same : (ended : Result Answer DeskFault) (a b : ℕ) → raised_by ended ≡ 0 → b ≡ a → Counts ended a b
counts_same ended a b none e = let s = same_count a b e in record { no_fewer = s.0; one = s.1; risen = subst (λ (n : ℕ). HasRisen n a b) (sym none) s.2 }

pub counts_notice : (before now : ℕ) (old new : DeskState) (ended : Result Answer DeskFault) → old.faults ≤ last_count → EndsNotice before now old new ended → Counts ended old.faults new.faults
counts_notice before now old new (Ok answer) fits ends = counts_same (Ok answer) old.faults new.faults refl ends.desk
counts_notice before now old new (Err DeskFault.DiskFault) fits ends = let s = one_more old.faults new.faults fits ends.counted in record { no_fewer = s.0; one = s.1; risen = s.2 }
counts_notice before now old new (Err (DeskFault.JournalFull size)) fits ends = absurd ends
counts_notice before now old new (Err (DeskFault.BadEntry at)) fits ends = absurd ends
counts_notice before now old new (Err (DeskFault.OtherRoster kept)) fits ends = absurd ends
counts_notice before now old new (Err (DeskFault.NotAJournal at)) fits ends = absurd ends
counts_notice before now old new (Err (DeskFault.BadLength at)) fits ends = absurd ends
counts_notice before now old new (Err DeskFault.OutOfMemory) fits ends = absurd ends

-- a call that takes memory and room
pub counts_room : (before now : ℕ) (old new : DeskState) (entry : Option Entry) (ended : Result Answer DeskFault) → old.faults ≤ last_count → EndsAsk before now old new entry ended → Counts ended old.faults new.faults
counts_room before now old new entry (Ok answer) fits ends = counts_same (Ok answer) old.faults new.faults refl ends.1.desk
counts_room before now old new entry (Err DeskFault.DiskFault) fits ends = let s = one_more old.faults new.faults fits ends.1.counted in record { no_fewer = s.0; one = s.1; risen = s.2 }
counts_room before now old new entry (Err (DeskFault.JournalFull size)) fits ends = counts_same (Err (DeskFault.JournalFull size)) old.faults new.faults refl ends.1.desk
counts_room before now old new entry (Err (DeskFault.BadEntry at)) fits ends = absurd ends
counts_room before now old new entry (Err (DeskFault.OtherRoster kept)) fits ends = absurd ends
counts_room before now old new entry (Err (DeskFault.NotAJournal at)) fits ends = absurd ends
counts_room before now old new entry (Err (DeskFault.BadLength at)) fits ends = absurd ends
counts_room before now old new entry (Err DeskFault.OutOfMemory) fits ends = counts_same (Err DeskFault.OutOfMemory) old.faults new.faults refl ends.desk

-- how an ask ends, by its answer alone
ends_in : (before now : ℕ) (old new : DeskState) (entry : Option Entry) (ended : Result Done DeskFault) → EndsAsk before now old new entry ended → EndsAsk before now old new entry (answer_in ended)
ends_in before now old new entry (Ok done) ends = ends
ends_in before now old new entry (Err DeskFault.DiskFault) ends = ends
ends_in before now old new entry (Err (DeskFault.JournalFull size)) ends = ends
ends_in before now old new entry (Err (DeskFault.BadEntry at)) ends = ends
ends_in before now old new entry (Err (DeskFault.OtherRoster kept)) ends = ends
ends_in before now old new entry (Err (DeskFault.NotAJournal at)) ends = ends
ends_in before now old new entry (Err (DeskFault.BadLength at)) ends = ends
ends_in before now old new entry (Err DeskFault.OutOfMemory) ends = ends

answer_is : (ended : Result Done DeskFault) (a : Answer) → IfOk ended (λ done. done.answer ≡ a) → IfOk (answer_in ended) (λ answer. answer ≡ a)
answer_is (Ok done) a is = is
answer_is (Err fault) a is = record {}

-- the history behind a call is the one before it with the entry of its turn
with_added : (before after : List Entry) (entry : Option Entry) → after ≡ with_entry before entry → after ≡ before ++ (one_or_none entry_of entry ++ [])
with_added before after None e = e ∙ sym (append-nil before)
with_added before after (Some x) e = e

grown : (terms : DeskTerms) (before after : List Entry) (call : Call) (ended : Result Answer DeskFault) → OnOk ended (after ≡ with_entry before (reply terms.day before (call_of call)).entry) → OnErr ended (after ≡ before)
    → after ≡ before ++ added_by entry_of (turn_at terms before call ended ∷ [])
grown terms before after call (Ok answer) ok err = with_added before after (reply terms.day before (call_of call)).entry ok
grown terms before after call (Err fault) ok err = err ∙ sym (append-nil before)

pub few_of_one : (turn : Turn) → length (added_by entry_of (turn ∷ [])) ≤ 32
few_of_one turn = go turn.entry
  where
    go : (entry : Option Entry) → length (one_or_none entry_of entry ++ []) ≤ 32
    go None = omega arith
    go (Some e) = omega arith

ends_notice : (before now : ℕ) (old new : DeskState) (terms : DeskTerms) (history : List Entry) (call : Call) (ended : Result Answer DeskFault)
    → IfOk ended (λ answer. answer ≡ (reply terms.day history (call_of call)).answer) → EndsNotice before now old new ended
    → EndsAs terms history call (reply terms.day history (call_of call)) ended (entry_where_done ended (reply terms.day history (call_of call)).entry)
ends_notice before now old new terms history call (Ok answer) is ends = (is, refl)
ends_notice before now old new terms history call (Err DeskFault.DiskFault) is ends = refl
ends_notice before now old new terms history call (Err (DeskFault.JournalFull size)) is ends = absurd ends
ends_notice before now old new terms history call (Err (DeskFault.BadEntry at)) is ends = absurd ends
ends_notice before now old new terms history call (Err (DeskFault.OtherRoster kept)) is ends = absurd ends
ends_notice before now old new terms history call (Err (DeskFault.NotAJournal at)) is ends = absurd ends
ends_notice before now old new terms history call (Err (DeskFault.BadLength at)) is ends = absurd ends
ends_notice before now old new terms history call (Err DeskFault.OutOfMemory) is ends = absurd ends

-- the size that is told, between what a journal may have and the longest that it may be
told_between : (most size told longest last : ℕ) → most < size → told ≡ min size last → most < last → size ≤ longest → (most < told) × (told ≤ longest)
told_between most size told longest last passes is small fits = (omega (arith, passes, is, small), omega (arith, is, fits))

sizes_counted : greatest_size < last_count
sizes_counted = omega arith

may_be_full : (old : DeskState) (size : ℕ) (entry : Option Entry) → PassesJournal old size entry → size_of old.journal ≤ longest_size old.terms old.history → MayBeFull old.terms old.history entry size
may_be_full old size None passes short = absurd passes
may_be_full old size (Some e) passes short =
    let longest = longest_size old.terms old.history + longest_record e + longest_held (old.history ++ e ∷ []) in
    let fits : size_with old e ≤ longest = omega (arith, short, record_longest old.journal.format e, held_longest old.journal.format (old.history ++ e ∷ [])) in
    told_between greatest_size (size_with old e) size longest last_count passes.0 passes.1 sizes_counted fits

ends_room : (before now : ℕ) (old new : DeskState) (call : Call) (ended : Result Answer DeskFault) → TakesRoom call
    → IfOk ended (λ answer. answer ≡ (reply old.terms.day old.history (call_of call)).answer)
    → EndsAsk before now old new (reply old.terms.day old.history (call_of call)).entry ended → size_of old.journal ≤ longest_size old.terms old.history
    → EndsAs old.terms old.history call (reply old.terms.day old.history (call_of call)) ended (entry_where_done ended (reply old.terms.day old.history (call_of call)).entry)
ends_room before now old new call (Ok answer) takes is ends short = (is, refl)
ends_room before now old new call (Err DeskFault.DiskFault) takes is ends short = refl
ends_room before now old new call (Err (DeskFault.JournalFull size)) takes is ends short = (refl, takes, may_be_full old size (reply old.terms.day old.history (call_of call)).entry ends.0 short)
ends_room before now old new call (Err (DeskFault.BadEntry at)) takes is ends short = absurd ends
ends_room before now old new call (Err (DeskFault.OtherRoster kept)) takes is ends short = absurd ends
ends_room before now old new call (Err (DeskFault.NotAJournal at)) takes is ends short = absurd ends
ends_room before now old new call (Err (DeskFault.BadLength at)) takes is ends short = absurd ends
ends_room before now old new call (Err DeskFault.OutOfMemory) takes is ends short = (refl, takes)

-- A call left of x the desk y.
pub record Leaves {D : Type 0} (x y : OnDisk D) (call : Call) (ended : Result Answer DeskFault) : Type 0 where
  pub history : y.desk.history ≡ x.desk.history ++ added_by entry_of (turn_at x.desk.terms x.desk.history call ended ∷ [])
  pub right : IsTurnAt x.desk.terms x.desk.history (turn_at x.desk.terms x.desk.history call ended)
  pub opened : opened_with y.desk.terms y.since ≡ opened_with x.desk.terms x.since
  pub counts : Counts ended x.desk.faults y.desk.faults

pub same_opened : {D : Type 0} (x y : OnDisk D) → y.desk.terms ≡ x.desk.terms → y.since ≡ x.since → opened_with y.desk.terms y.since ≡ opened_with x.desk.terms x.since
same_opened x y t s = λ i. opened_with (t i) (s i)

pub makes_notice : {D : Type 0} (before now : ℕ) (x y : OnDisk D) (call : Call) (ended : Result Answer DeskFault) → IsCall (length x.desk.terms.day.budgets) (call_of call)
    → IfOk ended (λ answer. answer ≡ (reply x.desk.terms.day x.desk.history (call_of call)).answer) → EndsNotice before now x.desk y.desk ended → x.desk.faults ≤ last_count
    → y.desk.terms ≡ x.desk.terms → y.since ≡ x.since → OnOk ended (y.desk.history ≡ with_entry x.desk.history (reply x.desk.terms.day x.desk.history (call_of call)).entry) → OnErr ended (y.desk.history ≡ x.desk.history)
    → Leaves x y call ended
makes_notice before now x y call ended takes is ends fits terms since ok err = record {
  history = grown x.desk.terms x.desk.history y.desk.history call ended ok err;
  right = record { takes = takes; ends = ends_notice before now x.desk y.desk x.desk.terms x.desk.history call ended is ends };
  opened = same_opened x y terms since;
  counts = counts_notice before now x.desk y.desk ended fits ends;
}

on_answer : (P : Type 0) (ended : Result Done DeskFault) → OnOk ended P → OnOk (answer_in ended) P
on_answer P (Ok done) p = p
on_answer P (Err fault) p = record {}

on_fault : (P : Type 0) (ended : Result Done DeskFault) → OnErr ended P → OnErr (answer_in ended) P
on_fault P (Ok done) p = record {}
on_fault P (Err fault) p = p

-- a call that takes memory and room
pub makes_room : {D : Type 0} (before now : ℕ) (x y : OnDisk D) (call : Call) (ended : Result Answer DeskFault) → TakesRoom call → IsCall (length x.desk.terms.day.budgets) (call_of call)
    → IfOk ended (λ answer. answer ≡ (reply x.desk.terms.day x.desk.history (call_of call)).answer)
    → EndsAsk before now x.desk y.desk (reply x.desk.terms.day x.desk.history (call_of call)).entry ended → size_of x.desk.journal ≤ longest_size x.desk.terms x.desk.history → x.desk.faults ≤ last_count
    → y.desk.terms ≡ x.desk.terms → y.since ≡ x.since → OnOk ended (y.desk.history ≡ with_entry x.desk.history (reply x.desk.terms.day x.desk.history (call_of call)).entry) → OnErr ended (y.desk.history ≡ x.desk.history)
    → Leaves x y call ended
makes_room before now x y call ended room takes is ends short fits terms since ok err = record {
  history = grown x.desk.terms x.desk.history y.desk.history call ended ok err;
  right = record { takes = takes; ends = ends_room before now x.desk y.desk call ended room is ends short };
  opened = same_opened x y terms since;
  counts = counts_room before now x.desk y.desk (reply x.desk.terms.day x.desk.history (call_of call)).entry ended fits ends;
}

pub makes_ask : {D : Type 0} (before now : ℕ) (x y : OnDisk D) (ask : Ask) (ended : Result Done DeskFault) → IsCall (length x.desk.terms.day.budgets) (call_of (Call.Ask ask))
    → IfOk ended (λ done. done.answer ≡ (reply x.desk.terms.day x.desk.history (call_of (Call.Ask ask))).answer)
    → EndsAsk before now x.desk y.desk (reply x.desk.terms.day x.desk.history (call_of (Call.Ask ask))).entry ended → size_of x.desk.journal ≤ longest_size x.desk.terms x.desk.history → x.desk.faults ≤ last_count
    → y.desk.terms ≡ x.desk.terms → y.since ≡ x.since → OnOk ended (y.desk.history ≡ with_entry x.desk.history (reply x.desk.terms.day x.desk.history (call_of (Call.Ask ask))).entry) → OnErr ended (y.desk.history ≡ x.desk.history)
    → Leaves x y (Call.Ask ask) (answer_in ended)
makes_ask before now x y ask ended takes is ends short fits terms since ok err =
    let r = reply x.desk.terms.day x.desk.history (call_of (Call.Ask ask)) in
    makes_room before now x y (Call.Ask ask) (answer_in ended) (record {}) takes (answer_is ended r.answer is) (ends_in before now x.desk y.desk r.entry ended ends) short fits terms since (on_answer _ ended ok) (on_fault _ ended err)

noted_one : (ended : Result Answer DeskFault) → one_if (λ (t : Turn). is_disk_fault t.ended) (is_disk_fault ended) + 0 ≤ one_where (is_disk_fault ended)
noted_one ended = go (is_disk_fault ended)
  where
    go : (b : Bool) → one_if (λ (t : Turn). is_disk_fault t.ended) b + 0 ≤ one_where b
    go true = omega arith
    go false = omega arith

run_of : {D : Type 0} (x y : OnDisk D) (call : Call) (ended : Result Answer DeskFault) → Leaves x y call ended
    → IsRun x y (turn_at x.desk.terms x.desk.history call ended ∷ []) (raised_by ended)
run_of x y call ended m = record {
  items = m.history;
  few = few_of_one (turn_at x.desk.terms x.desk.history call ended);
  fixed = m.opened;
  no_fewer = m.counts.no_fewer;
  one_at_most = m.counts.one;
  right = (m.right, record {});
  noted = noted_one ended;
  counted = m.counts.risen;
}

-- what is kept of the call, with the desk before it
pub made : {D : Type 0} (x y : OnDisk D) (call : Call) (ran : Ran D) → ran.at.value ≡ x → Leaves x y call ran.ended → Makes x y call ran
made {D} x y call ran same m = record {
  terms = ap (λ (z : OnDisk D). z.desk.terms) same;
  history = ap (λ (z : OnDisk D). z.desk.history) same;
  run = subst (λ (z : OnDisk D). IsRun x y (turn_at z.desk.terms z.desk.history call ran.ended ∷ []) (raised_by ran.ended)) (sym same) (run_of x y call ran.ended m);
}

-- what a call tells of a desk that was opened with this
pub ran_at : {D : Type 0} (x y : OnDisk D) (call : Call) (ran : Ran D) → Makes x y call ran → RanAt (opened_with x.desk.terms x.since) x.desk.history call (Some ran)
ran_at x y call ran m = record { ran = ran; is = refl; terms = m.terms; history = m.history; right = m.run.right.0 }

copy_there : (done : Result Done DeskFault) (copy : Option Ask) (before after : List Entry) (entry : Option Entry) → IfOk done (λ d. copy ≡ d.ask) → IfOk done (λ d. d.ask ≡ ask_for after d.answer) → OnOk done (after ≡ with_entry before entry)
    → IfOk (answer_in done) (λ answer. copy ≡ ask_for (with_entry before (entry_where_done (answer_in done) entry)) answer)
copy_there (Ok d) copy before after entry is of grew = is ∙ of ∙ ap (λ (h : List Entry). ask_for h d.answer) grew
copy_there (Err fault) copy before after entry is of grew = record {}

-- the copy of a done ask is that of the ask that stands in the history then
pub copy_at : {D : Type 0} (x : OnDisk D) (after : List Entry) (ask : Ask) (done : Result Done DeskFault) (ran : Ran D) (copy : Option Ask) → ran.at.value ≡ x → answer_in done ≡ ran.ended
    → IfOk done (λ d. copy ≡ d.ask) → IfOk done (λ d. d.ask ≡ ask_for after d.answer) → OnOk done (after ≡ with_entry x.desk.history (reply x.desk.terms.day x.desk.history (call_of (Call.Ask ask))).entry)
    → HasCopy x.desk.history ask copy ran
copy_at {D} x after ask done ran copy there e is of grew =
    subst (λ (z : OnDisk D × Result Answer DeskFault). IfOk z.1 (λ answer. copy ≡ ask_for (with_entry x.desk.history (turn_at z.0.desk.terms z.0.desk.history (Call.Ask ask) z.1).entry) answer))
    (λ i. (sym there i, e i))
    (copy_there done copy x.desk.history after (reply x.desk.terms.day x.desk.history (call_of (Call.Ask ask))).entry is of grew)

-- an ask that is the one wanted
pub as_wanted : {D : Type 0} (x y : OnDisk D) (ask wanted : Ask) (copy : Option Ask) (ran : Ran D) → ask ≡ wanted → Makes x y (Call.Ask ask) ran → HasCopy x.desk.history ask copy ran
    → Makes x y (Call.Ask wanted) ran × HasCopy x.desk.history wanted copy ran
as_wanted {D} x y ask wanted copy ran same m is = subst (λ (a : Ask). Makes x y (Call.Ask a) ran × HasCopy x.desk.history a copy ran) same (m, is)

pub asked_at : {D : Type 0} (x y : OnDisk D) (ask wanted : Ask) (copy : Option Ask) (ran : Ran D) → ask ≡ wanted → Makes x y (Call.Ask ask) ran → HasCopy x.desk.history ask copy ran
    → AskedAt (opened_with x.desk.terms x.since) x.desk.history wanted copy (Some ran)
unfolding ran_at
asked_at x y ask wanted copy ran same m is =
    let both = as_wanted x y ask wanted copy ran same m is in record { at = ran_at x y (Call.Ask wanted) ran both.0; copy_is = both.1 }

pub ended_as : {D : Type 0} (x y : OnDisk D) (call : Call) (ended ended' : Result Answer DeskFault) → ended ≡ ended' → Leaves x y call ended → Leaves x y call ended'
ended_as x y call ended ended' e m = subst (λ (r : Result Answer DeskFault). Leaves x y call r) e m
