-- What the calls of a desk come to over a run: how it begins, how it goes on by the calls of a line, and how it ends.
use Rattle.std.proofs.Common.{◌≡◌, ◌≢◌, ◌⊎◌, ⊎_elim, inl, inr, ℕ, ◌+◌, ◌<◌, min, List, [], ◌∷◌, ◌++◌, length, Option, Some, None, refl, sym, ap, ◌∙◌, subst, arith, append_assoc, append-nil, if◌then◌else◌}
use Rattle.std.proofs.lemmas.List.{map-append}
use Rattle.std.proofs.lemmas.List.Elements.{All-nil, All-cons, All-append}
use Rattle.day_journal.specs.Disks.{Each, LeavesOnly}
use Rattle.adx_io.specs.Streams.{last_count}
use Rattle.adx_desk.specs.Desks.{OnDisk}
use Rattle.day_machine.specs.Batches.{added_by}
use Rattle.adx_desk.specs.Histories.{DeskTerms, WithAtMostOne, WithOrWithout}
use Rattle.adx_desk.specs.Opened.{Opens}
use Rattle.adx_desk.specs.Openings.{StandsAsRead}
use Rattle.adx_desk.proofs.Keeping.{keeps_histories}
use Rattle.answer_lines.specs.declared.faults.Fault.{Fault}
use Rattle.day_journal.proofs.Moments.{joined, weaker}
use Rattle.day_rules.specs.declared.entry.Entry.{Entry}
use Rattle.day_rules.specs.Legal.{IsLegal}
use Rattle.day_rules.specs.Replies.{reply, with_entry}
use Rattle.day_rules.specs.Runs.{AreTurns, IsCall, Turn, after_turn, is_done, run}
use Rattle.day_rules.specs.Terms.{Terms}
use Rattle.adx_desk.specs.Answering.{DeskRuns, MayBeLeft, ServesCall, ServesLine, faults_after}
use Rattle.adx_desk.specs.Courses.{HasDiskFault, HasNoDiskFault, one_more, taken_calls}
use Rattle.adx_desk.specs.Meanings.{Told, outcome_by, turn_of, turns_of}
use Rattle.adx_desk.specs.OnDisk.{CountsEach, CountsOne, FullEach, FullOnly, IsRecordOf, MayBeInDoubt, ServesRun, StandsInRun, StandsWithin, history_after, record_of}
use Rattle.day_rules.proofs.RunBooks.{run_append, run_books}

-- the turns of two lists of calls
pub turns_append : (first rest : List Told) → turns_of (first ++ rest) ≡ turns_of first ++ turns_of rest
turns_append first rest = map-append turn_of first rest

-- the history after two lists of calls
pub history_append : (terms : Terms) (start : List Entry) (first rest : List Told) → history_after terms start (first ++ rest) ≡ history_after terms (history_after terms start first) rest
history_append terms start first rest = ap (run terms start) (turns_append first rest) ∙ run_append terms start (turns_of first) (turns_of rest)

-- and after one call more
pub history_more : (terms : Terms) (start : List Entry) (told : List Told) (t : Told) → history_after terms start (told ++ t ∷ []) ≡ after_turn terms (history_after terms start told) (turn_of t)
history_more terms start told t = history_append terms start told (t ∷ [])

-- the calls, and one more, are calls that a day takes
pub taken_more : (campaigns : ℕ) (told : List Told) (t : Told) → AreTurns campaigns (turns_of told) → IsCall campaigns t.call → AreTurns campaigns (turns_of (told ++ t ∷ []))
taken_more campaigns told t taken one =
    let P : Turn → Type 0 = λ turn. IsCall campaigns turn.call in
    subst (AreTurns campaigns) (sym (turns_append told (t ∷ [])))
    (All-append P (turns_of told) (turn_of t ∷ []) taken (All-cons P (turn_of t) [] one (All-nil P)))

-- a place in a list and one item more: the last, or one of the list
pub split_more : {X : Type 0} (xs : List X) (x : X) (front : List X) (one : X) (back : List X) → xs ++ x ∷ [] ≡ front ++ one ∷ back
    → ((front ≡ xs) × (one ≡ x)) ⊎ ((rest : List X) × (xs ≡ front ++ one ∷ rest))
split_more [] x [] one back is = inl (refl, sym (cc is))
split_more [] x (a ∷ []) one back is = absurd (cc is)
split_more [] x (a ∷ b ∷ front) one back is = absurd (cc is)
split_more (y ∷ xs) x [] one back is = inr (xs, ap (λ z. z ∷ xs) (cc is))
split_more (y ∷ xs) x (a ∷ front) one back is =
    let head : y ≡ a = cc is in
    let tail : xs ++ x ∷ [] ≡ front ++ one ∷ back = cc is in
    ⊎_elim (λ last. inl ((λ i. sym head i ∷ last.0 i), last.1))
    (λ among. inr (among.0, λ i. head i ∷ among.1 i))
    (split_more xs x front one back tail)

-- a call among the calls is one among them and one more
pub split_front : {X : Type 0} (xs front : List X) (one : X) (back : List X) (x : X) → xs ≡ front ++ one ∷ back → xs ++ x ∷ [] ≡ front ++ one ∷ (back ++ x ∷ [])
split_front xs front one back x is = ap (λ l. l ++ x ∷ []) is ∙ append_assoc front (one ∷ back) (x ∷ [])

-- a fault of the disk among the calls
fault_stays : (told : List Told) (t : Told) → HasDiskFault told → HasDiskFault (told ++ t ∷ [])
fault_stays told t f = record { front = f.front; faulted = f.faulted; back = f.back ++ t ∷ []; split = split_front told f.front f.faulted f.back t f.split; by_disk = f.by_disk }

none_more : (told : List Told) (t : Told) → HasNoDiskFault told → t.fault ≢ Some Fault.Disk → HasNoDiskFault (told ++ t ∷ [])
none_more told t none other =
    let P : Told → Type 0 = λ u. u.fault ≢ Some Fault.Disk in
    All-append P told (t ∷ []) none (All-cons P t [] other (All-nil P))

-- a count that was raised isn't 0
raised : (n last : ℕ) → 0 < last → min (n + 1) last ≡ 0 → ⊥
raised n last some none = omega (arith, some, none)

counts_some : 0 < last_count
counts_some = omega arith

-- the desk counts a fault exactly where a call was given up by one
none_by : (told : List Told) (t : Told) (fault : Option Fault) (before now : ℕ) → t.fault ≡ fault → now ≡ faults_after fault before → (before ≡ 0 → HasNoDiskFault told) → now ≡ 0 → HasNoDiskFault (told ++ t ∷ [])
none_by told t None before now is known none zero = none_more told t (none (sym known ∙ zero)) (λ disk. absurd (cc (sym is ∙ disk)))
none_by told t (Some Fault.Disk) before now is known none zero = absurd (raised before last_count counts_some (sym known ∙ zero))
none_by told t (Some (Fault.JournalFull size)) before now is known none zero = none_more told t (none (sym known ∙ zero)) (λ disk. absurd (cc (sym is ∙ disk)))

some_by : (told : List Told) (t : Told) (fault : Option Fault) (before now : ℕ) → t.fault ≡ fault → now ≡ faults_after fault before → (before ≢ 0 → HasDiskFault told) → now ≢ 0 → HasDiskFault (told ++ t ∷ [])
some_by told t None before now is known some more = fault_stays told t (some (λ zero. more (known ∙ zero)))
some_by told t (Some Fault.Disk) before now is known some more = record { front = told; faulted = t; back = []; split = refl; by_disk = is }
some_by told t (Some (Fault.JournalFull size)) before now is known some more = fault_stays told t (some (λ zero. more (known ∙ zero)))

-- the counts of the disk over one call more
counts_more : (told : List Told) (t : Told) (before between now : ℕ) → CountsEach before told between → CountsOne between t.fault now → CountsEach before (told ++ t ∷ []) now
counts_more [] t before between now each one = (now, subst (λ (n : ℕ). CountsOne n t.fault now) each one, refl)
counts_more (u ∷ told) t before between now (after, first, rest) one = (after, first, counts_more told t after between now rest one)

-- a call is answered that the journal is full only where it may be
full_more : (terms : DeskTerms) (start : List Entry) (told : List Told) (t : Told) → FullEach terms start told
    → FullOnly terms (history_after terms.day start told) (reply terms.day (history_after terms.day start told) t.call).entry t.fault → FullEach terms start (told ++ t ∷ [])
full_more terms start told t full one front at back split =
    ⊎_elim (λ last. subst (λ (p : List Told × Told). FullOnly terms (history_after terms.day start p.0) (reply terms.day (history_after terms.day start p.0) p.1.call).entry p.1.fault) (λ i. (sym last.0 i, sym last.1 i)) one)
    (λ among. full front at among.0 among.1)
    (split_more told t front at back split)

-- a call without an entry, and one that was given up, leave the history
same_by : (terms : Terms) (history : List Entry) (t : Told) (entry : Option Entry) → t.fault ≡ None → (reply terms history t.call).entry ≡ entry → with_entry history entry ≡ history → after_turn terms history (turn_of t) ≡ history
same_by terms history t entry done is same =
    ap (λ (f : Option Fault). with_entry history (if is_done (outcome_by f) then (reply terms history t.call).entry else None)) done
    ∙ ap (with_entry history) is ∙ same

same_given_up : (terms : Terms) (history : List Entry) (t : Told) (f : Fault) → t.fault ≡ Some f → after_turn terms history (turn_of t) ≡ history
same_given_up terms history t f is = ap (λ (x : Option Fault). with_entry history (if is_done (outcome_by x) then (reply terms history t.call).entry else None)) is

-- what was in doubt is so after a call that leaves the history
doubt_stays : (terms : Terms) (start : List Entry) (told : List Told) (t : Told) (tail : List Entry) → MayBeInDoubt terms start told tail → history_after terms start (told ++ t ∷ []) ≡ history_after terms start told → MayBeInDoubt terms start (told ++ t ∷ []) tail
doubt_stays terms start told t tail (inl none) same = inl none
doubt_stays terms start told t tail (inr d) same = inr (record {
  front = d.front;
  one = d.one;
  back = d.back ++ t ∷ [];
  split = split_front told d.front d.one d.back t d.split;
  by_disk = d.by_disk;
  is = d.is;
  last = same ∙ d.last;
})

-- a call that was done leaves none in doubt where it added an entry, and else what was
doubt_done : (terms : Terms) (start : List Entry) (told : List Told) (t : Told) (tail next : List Entry) (entry : Option Entry) → t.fault ≡ None → (reply terms (history_after terms start told) t.call).entry ≡ entry
    → MayBeInDoubt terms start told tail → MayBeLeft None (added_by entry) tail next → MayBeInDoubt terms start (told ++ t ∷ []) next
doubt_done terms start told t tail next None done is may left =
    subst (MayBeInDoubt terms start (told ++ t ∷ [])) (sym left)
    (doubt_stays terms start told t tail may (history_more terms start told t ∙ same_by terms (history_after terms start told) t None done is refl))
doubt_done terms start told t tail next (Some e) done is may left = inl left

-- one that was given up leaves what was, or its record where the disk's fault gave it up
doubt_left : (terms : Terms) (start : List Entry) (told : List Told) (t : Told) (tail next : List Entry) (fault : Option Fault) → t.fault ≡ fault
    → MayBeInDoubt terms start told tail → MayBeLeft fault (record_of terms (history_after terms start told) t.call) tail next → MayBeInDoubt terms start (told ++ t ∷ []) next
doubt_left terms start told t tail next None is may left =
    doubt_done terms start told t tail next (reply terms (history_after terms start told) t.call).entry is refl may left
doubt_left terms start told t tail next (Some Fault.Disk) is may (inl left) =
    subst (MayBeInDoubt terms start (told ++ t ∷ [])) (sym left)
    (doubt_stays terms start told t tail may (history_more terms start told t ∙ same_given_up terms (history_after terms start told) t Fault.Disk is))
doubt_left terms start told t tail next (Some Fault.Disk) is may (inr left) = inr (record {
  front = told;
  one = t;
  back = [];
  split = refl;
  by_disk = is;
  is = left;
  last = history_more terms start told t ∙ same_given_up terms (history_after terms start told) t Fault.Disk is;
})
doubt_left terms start told t tail next (Some (Fault.JournalFull size)) is may left =
    subst (MayBeInDoubt terms start (told ++ t ∷ [])) (sym left)
    (doubt_stays terms start told t tail may (history_more terms start told t ∙ same_given_up terms (history_after terms start told) t (Fault.JournalFull size) is))

-- the record of one of the calls is one of them and one more
record_stays : (terms : Terms) (start : List Entry) (told : List Told) (t : Told) (history tail : List Entry) → IsRecordOf terms start told history tail → IsRecordOf terms start (told ++ t ∷ []) history tail
record_stays terms start told t history tail r = record { front = r.front; one = r.one; back = r.back ++ t ∷ []; split = split_front told r.front r.one r.back t r.split; at = r.at; is = r.is }

-- what is in doubt is the record of one of the calls at the history after all of them
doubt_of : (terms : Terms) (start : List Entry) (told : List Told) (tail : List Entry) → MayBeInDoubt terms start told tail → (tail ≡ []) ⊎ IsRecordOf terms start told (history_after terms start told) tail
doubt_of terms start told tail (inl none) = inl none
doubt_of terms start told tail (inr d) = inr (record {
  front = d.front;
  one = d.one;
  back = d.back;
  split = d.split;
  at = d.last;
  is = d.is ∙ ap (λ (h : List Entry). record_of terms h d.one.call) (sym d.last);
})

record_or_none : (terms : Terms) (start : List Entry) (told : List Told) (t : Told) (history tail : List Entry) → (tail ≡ []) ⊎ IsRecordOf terms start told history tail → (tail ≡ []) ⊎ IsRecordOf terms start (told ++ t ∷ []) history tail
record_or_none terms start told t history tail (inl none) = inl none
record_or_none terms start told t history tail (inr r) = inr (record_stays terms start told t history tail r)

-- a file that is within the run of the calls is within that of one more
within_more : (terms : DeskTerms) (images : List ℕ → Type 0) (reads : Option (List ℕ)) (start : List Entry) (told : List Told) (t : Told) (file : List ℕ) → StandsWithin terms images reads start told file → StandsWithin terms images reads start (told ++ t ∷ []) file
within_more terms images reads start told t file (inl before) = inl before
within_more terms images reads start told t file (inr s) = inr (record {
  front = s.front;
  back = s.back ++ t ∷ [];
  split = ap (λ l. l ++ t ∷ []) s.split ∙ append_assoc s.front s.back (t ∷ []);
  tail = s.tail;
  is = record_or_none terms.day start told t (history_after terms.day start s.front) s.tail s.is;
  stands = s.stands;
})

-- a crash in a call leaves the history before it, or it and one record
stands_front : (terms : DeskTerms) (start : List Entry) (told : List Told) (t : Told) (tail : List Entry) (file : List ℕ) → (tail ≡ []) ⊎ IsRecordOf terms.day start (told ++ t ∷ []) (history_after terms.day start told) tail
    → WithOrWithout terms (history_after terms.day start told) tail file → StandsInRun terms start (told ++ t ∷ []) file
stands_front terms start told t tail file is stands = record { front = told; back = t ∷ []; split = refl; tail = tail; is = is; stands = stands }

within_call : (terms : DeskTerms) (images : List ℕ → Type 0) (reads : Option (List ℕ)) (start : List Entry) (told : List Told) (t : Told) (tail : List Entry) (file : List ℕ) → MayBeInDoubt terms.day start told tail
    → WithAtMostOne terms (history_after terms.day start told) tail (record_of terms.day (history_after terms.day start told) t.call) file → StandsWithin terms images reads start (told ++ t ∷ []) file
within_call terms images reads start told t tail file may (inl alone) = inr (stands_front terms start told t [] file (inl refl) (inl alone))
within_call terms images reads start told t tail file may (inr (inl with_tail)) =
    inr (stands_front terms start told t tail file (record_or_none terms.day start told t (history_after terms.day start told) tail (doubt_of terms.day start told tail may)) (inr with_tail))
within_call terms images reads start told t tail file may (inr (inr with_new)) =
    inr (stands_front terms start told t (record_of terms.day (history_after terms.day start told) t.call) file
    (inr (record { front = told; one = t; back = []; split = refl; at = refl; is = refl })) (inr with_new))

module _ {D : Type 0} (faults : D → ℕ) (reads : D → Option (List ℕ)) (may_leave : D → List ℕ → Type 0) (moment : D → ℕ) (left_since : D → ℕ → List ℕ → Type 0) where
  -- a desk that was opened, and answered no call yet
  pub desk_begins : (terms : DeskTerms) (old : D) (now : OnDisk D) → Opens reads may_leave moment left_since terms old now.disk now.desk → IsLegal terms.day now.desk.history → faults now.disk ≡ faults old
      → DeskRuns faults reads may_leave moment left_since terms old now.desk.history [] now
  desk_begins terms old now opens legal same_count = record {
    same_terms = opens.same_terms;
    begins = opens.history;
    legal = legal;
    taken = All-nil (λ (turn : Turn). IsCall (length terms.day.budgets) turn.call);
    ran = refl;
    none = λ zero. All-nil (λ (u : Told). u.fault ≢ Some Fault.Disk);
    some = λ more. absurd (more opens.no_fault);
    counted = same_count;
    full = λ front one back split. absurd (no_place front one back split);
    keeps = λ file is. ([], inl refl, opens.keeps file is []);
    any_moment = λ file is.
        weaker moment left_since old now.disk (StandsAsRead terms (may_leave old) (reads old)) (StandsWithin terms (may_leave old) (reads old) now.desk.history []) (opens.any_moment file is) (λ c before. inl before);
  }
    where
      no_place : (front : List Told) (one : Told) (back : List Told) → [] ≡ front ++ one ∷ back → ⊥
      no_place [] one back is = cc is
      no_place (a ∷ front) one back is = cc is

  -- one call more
  pub call_goes_on : (terms : DeskTerms) (disk : D) (start : List Entry) (told : List Told) (now next : OnDisk D) (t : Told) → DeskRuns faults reads may_leave moment left_since terms disk start told now
      → ServesCall faults may_leave moment left_since now next t → DeskRuns faults reads may_leave moment left_since terms disk start (told ++ t ∷ []) next
  call_goes_on terms disk start told now next t runs call = record {
    same_terms = call.terms ∙ runs.same_terms;
    begins = runs.begins;
    legal = runs.legal;
    taken = taken_more (length terms.day.budgets) told t runs.taken (subst (λ (d : DeskTerms). IsCall (length d.day.budgets) t.call) runs.same_terms call.taken);
    ran = call.history ∙ (λ i. after_turn (runs.same_terms i).day (runs.ran i) (turn_of t)) ∙ sym (history_more terms.day start told t);
    none = none_by told t t.fault now.desk.faults next.desk.faults refl call.known runs.none;
    some = some_by told t t.fault now.desk.faults next.desk.faults refl call.known runs.some;
    counted = counts_more told t (faults disk) (faults now.disk) (faults next.disk) runs.counted call.counted;
    full = full_more terms start told t runs.full
        (along (λ (d : DeskTerms) (h : List Entry). FullOnly d h (reply d.day h t.call).entry t.fault) call.full);
    keeps = λ file is.
        let kept = runs.keeps file is in
        let left = call.keeps kept.0 kept.2 in
        (left.0, doubt_left terms.day start told t kept.0 left.0 t.fault refl kept.1 (along (λ (d : DeskTerms) (h : List Entry). MayBeLeft t.fault (record_of d.day h t.call) kept.0 left.0) left.1), left.2);
    any_moment = λ file is.
        let kept = runs.keeps file is in
        joined moment left_since disk now.disk next.disk
        (StandsWithin terms (may_leave disk) (reads disk) start told)
        (WithAtMostOne terms (history_after terms.day start told) kept.0 (record_of terms.day (history_after terms.day start told) t.call))
        (StandsWithin terms (may_leave disk) (reads disk) start (told ++ t ∷ []))
        (runs.any_moment file is)
        (along (λ (d : DeskTerms) (h : List Entry). LeavesOnly moment left_since now.disk next.disk (WithAtMostOne d h kept.0 (record_of d.day h t.call))) (call.any_moment kept.0 kept.2))
        (λ c was. within_more terms (may_leave disk) (reads disk) start told t c was)
        (λ c left. within_call terms (may_leave disk) (reads disk) start told t kept.0 c kept.1 left);
  }
    where
      along : (P : DeskTerms → List Entry → Type 0) → P now.desk.terms now.desk.history → P terms (history_after terms.day start told)
      along P p = subst (λ (x : DeskTerms × List Entry). P x.0 x.1) (λ i. (runs.same_terms i, runs.ran i)) p

  -- the calls of one line
  pub desk_goes_on : (terms : DeskTerms) (disk : D) (start : List Entry) (told more : List Told) (now next : OnDisk D) → DeskRuns faults reads may_leave moment left_since terms disk start told now
      → ServesLine faults may_leave moment left_since now next more → DeskRuns faults reads may_leave moment left_since terms disk start (told ++ more) next
  desk_goes_on terms disk start told [] now next runs same =
      subst (λ (p : List Told × OnDisk D). DeskRuns faults reads may_leave moment left_since terms disk start p.0 p.1) (λ i. (sym (append-nil told) i, sym same i)) runs
  desk_goes_on terms disk start told (t ∷ []) now next runs call = call_goes_on terms disk start told now next t runs call
  desk_goes_on terms disk start told (t ∷ u ∷ rest) now next runs none = absurd none

  -- what became of the disk over these calls
  pub run_serves : (terms : DeskTerms) (disk : D) (start : List Entry) (told : List Told) (now : OnDisk D) → DeskRuns faults reads may_leave moment left_since terms disk start told now
      → ServesRun faults reads may_leave moment left_since terms start told disk now.disk
  run_serves terms disk start told now runs = record {
    begins = runs.begins;
    taken = runs.taken;
    books = run_books terms.day start (turns_of told) (history_after terms.day start told) runs.legal runs.taken refl;
    counted = runs.counted;
    full = runs.full;
    keeps = λ file is.
        let kept = runs.keeps file is in
        record {
          tail = kept.0;
          doubted = kept.1;
          each = subst (λ (x : DeskTerms × List Entry). Each (may_leave now.disk) (WithOrWithout x.0 x.1 kept.0)) (λ i. (runs.same_terms i, runs.ran i)) (keeps_histories (may_leave now.disk) now.desk kept.0 kept.2);
        };
    any_moment = runs.any_moment;
  }

  -- a day whose answers were all written
  pub run_ends : (terms : DeskTerms) (disk : D) (start : List Entry) (told : List Told) (now : OnDisk D) → DeskRuns faults reads may_leave moment left_since terms disk start told now
      → ServesRun faults reads may_leave moment left_since terms start (taken_calls told None) disk now.disk
  run_ends terms disk start told now runs =
      subst (λ (l : List Told). ServesRun faults reads may_leave moment left_since terms start l disk now.disk) (sym (append-nil told)) (run_serves terms disk start told now runs)

  -- a day with one call more, whose answer wasn't written
  pub run_ends_with : (terms : DeskTerms) (disk : D) (start : List Entry) (told : List Told) (now next : OnDisk D) (t : Told) → DeskRuns faults reads may_leave moment left_since terms disk start told now
      → ServesCall faults may_leave moment left_since now next t → ServesRun faults reads may_leave moment left_since terms start (taken_calls told (Some t)) disk next.disk
  run_ends_with terms disk start told now next t runs call = run_serves terms disk start (told ++ t ∷ []) next (call_goes_on terms disk start told now next t runs call)

  -- a day that ended at a line whose answer wasn't written: at most one call more was taken
  pub run_ends_at : (terms : DeskTerms) (disk : D) (start : List Entry) (told more : List Told) (now next : OnDisk D) → DeskRuns faults reads may_leave moment left_since terms disk start told now
      → ServesLine faults may_leave moment left_since now next more
      → (unwritten : Option Told) × (one_more unwritten ≡ more) × ServesRun faults reads may_leave moment left_since terms start (taken_calls told unwritten) disk next.disk
  run_ends_at terms disk start told [] now next runs same = (None, refl, run_serves terms disk start (told ++ []) next (desk_goes_on terms disk start told [] now next runs same))
  run_ends_at terms disk start told (t ∷ []) now next runs call = (Some t, refl, run_ends_with terms disk start told now next t runs call)
  run_ends_at terms disk start told (t ∷ u ∷ rest) now next runs none = absurd none
