-- What the ending of serving reports, and what became of the posts.
use Rattle.std.proofs.Common.{◌≡◌, ◌≢◌, ⊎_elim, ℕ, ◌<◌, List, [], ◌∷◌, ◌++◌, length, drop, Bool, true, false, ◌||◌, ◌==◌, if◌then◌else◌, Result, Ok, Err, OnOk, refl, sym, ap, ◌∙◌, subst, arith, append_assoc}
use Rattle.std.proofs.lemmas.Bool.{eqb-true, eqb-false, ltb-true, ltb-false}
use Rattle.std.specs.Prelude.{nat_lt}
use mathlib.Core.List.{IsPrefix}
use Rattle.adx_links.specs.declared.link.Link as links
use Rattle.adx_units.specs.declared.memory.OutOfMemory.{OutOfMemory}
use Rattle.day_rules.specs.DayState.{IsDay}
use Rattle.day_rules.specs.Terms.{Terms}
use Rattle.day_rules.specs.declared.entry.Entry.{Entry}
use Rattle.adx_links.specs.declared.intake.Intake.{Intake}
use Rattle.desk_board.specs.Rooms.{BringsUp, HasTended}
use Rattle.desk_board.specs.Tending.{due_behind}
use Rattle.desk_board.specs.declared.mail.Mail.{Mail}
use Rattle.exchange_serving.specs.Finishing.{IsTendedAll, Tells, ending_at, ending_by}
use Rattle.exchange_serving.specs.Served.{ArePosted}
use Rattle.exchange_serving.specs.declared.ending.Ending.{Ending}

over_tells : (faults : ℕ) (none : Bool) → Tells false Intake.Over faults (ending_at Intake.Over faults none)
over_tells faults none = go (nat_lt 0 faults) (λ e. ltb-true 0 faults e) (λ e. let low = ltb-false 0 faults e in omega arith) none
  where
    go : (b : Bool) → (b ≡ true → 0 < faults) → (b ≡ false → faults ≡ 0) → (c : Bool) → Tells false Intake.Over faults (if b then Ending.DiskFault else if c then Ending.Done else Ending.Pending)
    go true some zero c = record {
      short_is = λ e. absurd (cc e);
      failed = λ e. absurd (cc e);
      over = λ x y. refl;
      fault = λ e. some refl;
      passed = λ e. ⊎_elim (λ x. absurd (cc x)) (λ x. absurd (cc x)) e;
    }
    go false some zero true = record {
      short_is = λ e. absurd (cc e);
      failed = λ e. absurd (cc e);
      over = λ x y. refl;
      fault = λ e. absurd (cc e);
      passed = λ e. zero refl;
    }
    go false some zero false = record {
      short_is = λ e. absurd (cc e);
      failed = λ e. absurd (cc e);
      over = λ x y. refl;
      fault = λ e. absurd (cc e);
      passed = λ e. zero refl;
    }

wanting_tells : (short : Bool) (intake : Intake) (faults : ℕ) → Tells short intake faults Ending.OutOfMemory
wanting_tells short intake faults = record {
  short_is = λ e. refl;
  failed = λ e. absurd (cc e);
  over = λ x y. absurd (x refl);
  fault = λ e. absurd (cc e);
  passed = λ e. ⊎_elim (λ x. absurd (cc x)) (λ x. absurd (cc x)) e;
}

pub tells : (short missed : Bool) (intake : Intake) (faults : ℕ) (none : Bool) → Tells short intake faults (ending_by (short || missed) intake faults none)
tells true missed intake faults none = wanting_tells true intake faults
tells false true intake faults none = wanting_tells false intake faults
tells false false Intake.Open faults none = wanting_tells false Intake.Open faults
tells false false Intake.Failed faults none = record {
  short_is = λ e. absurd (cc e);
  failed = λ e. refl;
  over = λ x y. absurd (y refl);
  fault = λ e. absurd (cc e);
  passed = λ e. ⊎_elim (λ x. absurd (cc x)) (λ x. absurd (cc x)) e;
}
tells false false Intake.Over faults none = over_tells faults none

-- whether a list is empty, by the test
pub none_is : {X : Type 0} (xs ys : List X) (none : Bool) → ys ≡ xs → none ≡ (length ys == 0) → (none ≡ true → xs ≡ []) × (none ≡ false → 0 < length xs)
none_is {X} xs ys none is test = (
  λ e. empty xs (ap (λ (l : List X). length l) (sym is) ∙ eqb-true (length ys) 0 (sym test ∙ e)),
  λ e. some xs (λ z. eqb-false (length ys) 0 (sym test ∙ e) (ap (λ (l : List X). length l) is ∙ z)),
)
  where
    empty : (l : List X) → length l ≡ 0 → l ≡ []
    empty [] z = refl
    empty (x ∷ l) z = absurd (cc z)

    some : (l : List X) → length l ≢ 0 → 0 < length l
    some [] z = absurd (z refl)
    some (x ∷ l) z = omega arith

-- nothing was missed where memory wasn't wanting
not_missed : (short missed : Bool) (intake : Intake) (faults : ℕ) (none : Bool) → ending_by (short || missed) intake faults none ≢ Ending.OutOfMemory → missed ≡ false
not_missed true missed intake faults none some = absurd (some refl)
not_missed false true intake faults none some = absurd (some refl)
not_missed false false intake faults none some = refl

-- nor where it wasn't before
pub not_short : (short : Bool) (ending : Ending) → (short ≡ true → ending ≡ Ending.OutOfMemory) → ending ≢ Ending.OutOfMemory → short ≡ false
not_short true ending is some = absurd (some (is refl))
not_short false ending is some = refl

-- whether posts are pending, by the ending
done_none : (short : Bool) (intake : Intake) (faults : ℕ) (none : Bool) → ending_by short intake faults none ≡ Ending.Done → none ≡ true
done_none true intake faults none e = absurd (cc e)
done_none false Intake.Open faults none e = absurd (cc e)
done_none false Intake.Failed faults none e = absurd (cc e)
done_none false Intake.Over faults none e = go (nat_lt 0 faults) none e
  where
    go : (b c : Bool) → (if b then Ending.DiskFault else if c then Ending.Done else Ending.Pending) ≡ Ending.Done → c ≡ true
    go true c x = absurd (cc x)
    go false true x = refl
    go false false x = absurd (cc x)

pending_some : (short : Bool) (intake : Intake) (faults : ℕ) (none : Bool) → ending_by short intake faults none ≡ Ending.Pending → none ≡ false
pending_some true intake faults none e = absurd (cc e)
pending_some false Intake.Open faults none e = absurd (cc e)
pending_some false Intake.Failed faults none e = absurd (cc e)
pending_some false Intake.Over faults none e = go (nat_lt 0 faults) none e
  where
    go : (b c : Bool) → (if b then Ending.DiskFault else if c then Ending.Done else Ending.Pending) ≡ Ending.Pending → c ≡ false
    go true c x = absurd (cc x)
    go false true x = absurd (cc x)
    go false false x = refl

module _ {A : Type 0} where
  -- what is after a front
  behind_front : (front all : List A) → IsPrefix front all → front ++ drop (length front) all ≡ all
  behind_front front all p = subst (λ (l : List A). front ++ drop (length front) l ≡ l) p.1 (ap (λ (l : List A). front ++ l) (dropped front p.0))
    where
      dropped : (xs ys : List A) → drop (length xs) (xs ++ ys) ≡ ys
      dropped [] ys = refl
      dropped (x ∷ xs) ys = dropped xs ys

  -- some of what is after it
  front_on : (front more all : List A) → IsPrefix front all → IsPrefix more (drop (length front) all) → IsPrefix (front ++ more) all
  front_on front more all p q = (q.0, append_assoc front more q.0 ∙ (ap (λ (l : List A). front ++ l) q.1 ∙ behind_front front all p))

module _ {L : Type 0} (l : links.Ghosts L) where
  -- the last entries were followed, and the last round went over the posts
  pub brought_all : (history whole entries : List Entry) (link : L) (old new : Mail L) (r : Result Unit OutOfMemory) (missed : Bool) → IsPrefix history whole → entries ≡ drop (length history) whole →
      (missed ≡ false → r ≡ Ok tt) → BringsUp l history entries link old new r → IsTendedAll l whole history link old new missed
  brought_all history whole entries link old new r missed front are done b = record {
    more = b.more;
    begins = front_on history b.more whole front (subst (IsPrefix b.more) are b.begins);
    round = b.round;
    tended = b.has.tended;
    all = λ e. ap (λ (es : List Entry). history ++ es) (all_of r (b.more ≡ entries) (done e) b.all ∙ are) ∙ behind_front history whole front;
    each_tried = λ e. all_of r (length b.round.outcomes ≡ length (due_behind old.outbox.pending history b.more)) (done e) b.each_tried;
  }
    where
      all_of : (r : Result Unit OutOfMemory) (P : Type 0) → r ≡ Ok tt → OnOk r P → P
      all_of (Ok x) P e p = p
      all_of (Err x) P e p = absurd (cc e)

  -- the same by what the call says
  pub brought_in : (terms : Terms) (history whole entries : List Entry) (link : L) (old new : Mail L) (r : Result Unit OutOfMemory) (missed : Bool) → IsPrefix history whole → entries ≡ drop (length history) whole →
      (missed ≡ false → r ≡ Ok tt) → IsDay terms whole → HasTended l history link old →
      ((terms : Terms) (history : List Entry) (link : L) → IsDay terms (history ++ entries) → HasTended l history link old → BringsUp l history entries link old new r) → IsTendedAll l whole history link old new missed
  brought_in terms history whole entries link old new r missed front are done day has brings =
      let all : history ++ entries ≡ whole = ap (λ (es : List Entry). history ++ es) are ∙ behind_front history whole front in
      brought_all history whole entries link old new r missed front are done (brings terms history link (subst (IsDay terms) (sym all) day) has)

  -- by how serving ended
  pub posted : (whole history : List Entry) (link : L) (old new : Mail L) (short missed : Bool) (intake : Intake) (faults : ℕ) (none : Bool) → (none ≡ true → new.outbox.pending ≡ []) → (none ≡ false → 0 < length new.outbox.pending) →
      HasTended l history link old → IsTendedAll l whole history link old new missed → ArePosted l whole link new.link (ending_by (short || missed) intake faults none)
  posted whole history link old new short missed intake faults none empty some has t = record {
    followed = history;
    waiting = old.outbox.pending;
    between = old.link;
    earlier = has.tended;
    more = t.more;
    begins = t.begins;
    pending = new.outbox.pending;
    round = t.round;
    tended = t.tended;
    all = λ e. t.all (not_missed short missed intake faults none e);
    each_tried = λ e. t.each_tried (not_missed short missed intake faults none e);
    none = λ e. empty (done_none (short || missed) intake faults none e);
    some = λ e. some (pending_some (short || missed) intake faults none e);
  }
