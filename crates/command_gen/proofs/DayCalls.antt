-- The calls of a generated day: those of first asks and of the rest, and those that are all done.
use Rattle.std.proofs.Common.{◌≡◌, ◌<◌, ◌+◌, ◌-◌, ℕ, zero, suc, List, [], ◌∷◌, ◌++◌, None, Ok, Err, refl, sym, ap, ◌∙◌, subst, append_assoc, append-nil, arith}
use Rattle.std.proofs.lemmas.List.{map-append}
use Rattle.std.proofs.lemmas.List.Elements.{All-nil, All-cons, All-head, All-tail}
use Rattle.adx_desk.specs.Desks.{OnDisk}
use Rattle.day_rules.specs.declared.entry.Entry.{Entry}
use Rattle.day_rules.specs.Replies.{Call, ask, reply}
use Rattle.day_rules.specs.Runs.{done, run}
use Rattle.day_rules.specs.Terms.{Terms}
use Rattle.command_gen.specs.declared.early.EarlyEnd.{EarlyEnd}
use Rattle.adx_desk.specs.Meanings.{AreDone, Told, outcome_by, turns_of}
use Rattle.day_rules.proofs.RunBooks.{run_append}
use Rattle.adx_desk.proofs.DeskRuns.{turns_append}
use Rattle.command_gen.specs.Generated.{AreFrom, AreOfAsk, AreOfDay, BeginDay, ask_by, award_by, award_told, calls_behind, calls_of_ask, done_turns, generated_from}
use Rattle.command_gen.specs.Taking.{BeginAsk, TakesDay, TakesNumber, TookFirst, calls_of}
use Rattle.command_gen.proofs.Taking.{calls_of_done, done_told, early_behind, none_append, none_at_all, serves_append, serves_history, serves_terms}

-- the turns of done calls
pub turns_of_done : (terms : Terms) (seed : ℕ) (calls : List Call) → turns_of (done_told calls) ≡ done_turns terms seed calls
turns_of_done terms seed [] = refl
turns_of_done terms seed (c ∷ calls) = ap (λ l. record { call = c; outcome = done } ∷ l) (turns_of_done terms seed calls)

pub done_append : (xs ys : List Call) → done_told (xs ++ ys) ≡ done_told xs ++ done_told ys
done_append [] ys = refl
done_append (c ∷ xs) ys = ap (λ l. record { call = c; fault = None } ∷ l) (done_append xs ys)

-- calls that are all done have the turns of done calls
pub turns_done : (terms : Terms) (seed : ℕ) (told : List Told) → AreDone told → turns_of told ≡ done_turns terms seed (calls_of told)
turns_done terms seed [] all = refl
turns_done terms seed (t ∷ told) all =
    let P : Told → Type 0 = λ u. u.fault ≡ None in
    λ i. record { call = t.call; outcome = outcome_by (All-head P t told all i) } ∷ turns_done terms seed told (All-tail P t told all) i

-- two lists of calls are done where they are after one another
done_parts : (xs ys : List Told) → AreDone (xs ++ ys) → AreDone xs × AreDone ys
done_parts [] ys all = (All-nil (λ (t : Told). t.fault ≡ None), all)
done_parts (t ∷ xs) ys all =
    let P : Told → Type 0 = λ u. u.fault ≡ None in
    let rest = done_parts xs ys (All-tail P t (xs ++ ys) all) in
    (All-cons P t xs (All-head P t (xs ++ ys) all) rest.0, rest.1)

module _ (terms : Terms) (seed : ℕ) where
  -- the calls of some asks, and of those that come after them
  pub from_append : (n m i j k : ℕ) (h : List Entry) (xs ys : List Told) → j ≡ i + n → k ≡ n + m → AreFrom terms seed n i h xs → AreFrom terms seed m j (run terms h (turns_of xs)) ys
      → AreFrom terms seed k i h (xs ++ ys)
  from_append zero m i j k h xs ys behind count none rest =
      let few : m ≡ k = omega (arith, count) in
      let first : j ≡ i = omega (arith, behind) in
      subst (λ (l : List Told). AreFrom terms seed k i h (l ++ ys)) (sym none)
      (subst (λ (p : ℕ × ℕ × List Told). AreFrom terms seed p.0 p.1 (run terms h (turns_of p.2)) ys) (λ q. (few q, first q, none q)) rest)
  from_append (suc n) m i j zero h xs ys behind count from rest = absurd (omega (arith, count))
  from_append (suc n) m i j (suc k) h xs ys behind count (first, more, of, from, split) rest =
      let same : run terms (run terms h (turns_of first)) (turns_of more) ≡ run terms h (turns_of xs) =
      sym (run_append terms h (turns_of first) (turns_of more)) ∙ ap (run terms h) (sym (turns_append first more) ∙ ap turns_of (sym split)) in (
        first,
        more ++ ys,
        of,
        from_append n m (suc i) j k (run terms h (turns_of first)) more ys (omega (arith, behind)) (omega (arith, count)) from (subst (λ (g : List Entry). AreFrom terms seed m j g ys) (sym same) rest),
        ap (λ l. l ++ ys) split ∙ append_assoc first more ys,
      )

  -- the calls of an ask, all done
  pub done_of_ask : (i : ℕ) (h : List Entry) → AreOfAsk terms seed i h (done_told (calls_of_ask terms seed h i))
  done_of_ask i h =
      let follow = calls_behind seed i (award_by h (reply terms h (ask (ask_by seed i))).answer) in
      record { asked = record { call = ask (ask_by seed i); fault = None }; behind = done_told follow; is = refl; follow = calls_of_done follow; all = refl }

  -- and those of so many asks
  pub done_from : (n i : ℕ) (h : List Entry) → AreFrom terms seed n i h (done_told (generated_from terms seed n i h))
  done_from zero i h = refl
  done_from (suc n) i h =
      let calls = calls_of_ask terms seed h i in
      let next = run terms h (done_turns terms seed calls) in
      let same : run terms h (turns_of (done_told calls)) ≡ next = ap (run terms h) (turns_of_done terms seed calls) in (
        done_told calls,
        done_told (generated_from terms seed n (suc i) next),
        done_of_ask i h,
        subst (λ (g : List Entry). AreFrom terms seed n (suc i) g (done_told (generated_from terms seed n (suc i) next))) (sym same) (done_from n (suc i) next),
        done_append calls (generated_from terms seed n (suc i) next),
      )

  -- a day that ended within an ask took some first ones of its calls
  pub begin_day : (asks number : ℕ) (start : List Entry) (told more : List Told) → number < asks → AreFrom terms seed number 0 start told → BeginAsk terms seed number (run terms start (turns_of told)) more
      → BeginDay terms seed asks start (told ++ more)
  begin_day asks number start told more few from (rest, of) =
      let k = asks - suc number in
      let h = run terms start (turns_of told) in
      let after = run terms h (turns_of (more ++ rest)) in
      let others = done_told (generated_from terms seed k (suc number) after) in (
        rest ++ others,
        subst (AreFrom terms seed asks 0 start) (ap (λ l. told ++ l) (append_assoc more rest others) ∙ sym (append_assoc told more (rest ++ others)))
            (from_append number (suc k) 0 number asks start told ((more ++ rest) ++ others) (omega arith) (omega (arith, few)) from (more ++ rest, others, of, done_from k (suc number) after, refl)),
      )

  -- the calls of an ask, where all are done
  asked_done : (i : ℕ) (h : List Entry) (first : List Told) → AreOfAsk terms seed i h first → AreDone first → calls_of first ≡ calls_of_ask terms seed h i
  asked_done i h first of all =
      let P : Told → Type 0 = λ u. u.fault ≡ None in
      let each : AreDone (of.asked ∷ of.behind) = subst AreDone of.all all in
      ap calls_of of.all
      ∙ (λ q. of.is q ∷ of.follow q)
      ∙ (λ q. ask (ask_by seed i) ∷ calls_behind seed i (award_told terms h (of.is q) (All-head P of.asked of.behind each q)))

  -- all calls of so many asks, where all are done: those of the run over the generated calls
  pub all_done : (n i : ℕ) (h : List Entry) (told : List Told) → AreFrom terms seed n i h told → AreDone told → turns_of told ≡ done_turns terms seed (generated_from terms seed n i h)
  all_done zero i h told none all = ap turns_of none
  all_done (suc n) i h told (first, rest, of, from, split) all =
      let parts = done_parts first rest (subst AreDone split all) in
      let asked : turns_of first ≡ done_turns terms seed (calls_of_ask terms seed h i) = turns_done terms seed first parts.0 ∙ ap (done_turns terms seed) (asked_done i h first of parts.0) in
      let next = run terms h (done_turns terms seed (calls_of_ask terms seed h i)) in
      ap turns_of split ∙ turns_append first rest
      ∙ (λ q. asked q ++ turns_of rest)
      ∙ ap (λ l. done_turns terms seed (calls_of_ask terms seed h i) ++ l) (all_done n (suc i) next rest (subst (λ (g : List Entry). AreFrom terms seed n (suc i) g rest) (ap (run terms h) asked) from) parts.1)
      ∙ sym (map-append (λ (c : Call). record { call = c; outcome = done }) (calls_of_ask terms seed h i) (generated_from terms seed n (suc i) next))

module _ {D : Type 0} (faults : D → ℕ) (may_leave : D → List ℕ → Type 0) (moment : D → ℕ) (left_since : D → ℕ → List ℕ → Type 0) where
  -- a day of which no ask was taken yet
  pub day_starts : (seed : ℕ) (desk : OnDisk D) → TookFirst faults may_leave moment left_since desk desk seed 0
  day_starts seed desk = record { told = []; serves = refl; first = refl; none = none_at_all }

  -- the desk after the first asks, as the calls of the next see it
  at_next : (seed number : ℕ) (old now : OnDisk D) (took : TookFirst faults may_leave moment left_since old now seed number) (P : Terms → List Entry → Type 0)
      → P now.desk.terms.day now.desk.history → P old.desk.terms.day (run old.desk.terms.day old.desk.history (turns_of took.told))
  at_next seed number old now took P p =
      subst (λ (x : Terms × List Entry). P x.0 x.1)
      (λ i. ((serves_terms faults may_leave moment left_since old now took.told took.serves i).day, serves_history faults may_leave moment left_since old now took.told took.serves i)) p

  -- one ask more
  pub day_more : (seed number : ℕ) (old now next : OnDisk D) → TookFirst faults may_leave moment left_since old now seed number → TakesNumber faults may_leave moment left_since now next seed number (Ok tt)
      → TookFirst faults may_leave moment left_since old next seed (number + 1)
  day_more seed number old now next took more =
      let terms = old.desk.terms.day in
      let start = old.desk.history in
      record {
        told = took.told ++ more.told;
        serves = serves_append faults may_leave moment left_since old now next took.told more.told took.serves more.serves;
        first = from_append terms seed number 1 0 number (number + 1) start took.told more.told (omega arith) (omega arith) took.first
            (more.told, [], at_next seed number old now took (λ (t : Terms) (h : List Entry). AreOfAsk t seed number h more.told) more.took.0, refl, sym (append-nil more.told));
        none = none_append took.told more.told took.none more.took.1;
      }

  -- the run ended within an ask
  pub day_early : (seed asks number : ℕ) (old now next : OnDisk D) (ending : EarlyEnd) → number < asks → TookFirst faults may_leave moment left_since old now seed number
      → TakesNumber faults may_leave moment left_since now next seed number (Err ending) → TakesDay faults may_leave moment left_since old next seed asks (Err ending)
  day_early seed asks number old now next ending few took more =
      let terms = old.desk.terms.day in
      let start = old.desk.history in
      record {
        told = took.told ++ more.told;
        serves = serves_append faults may_leave moment left_since old now next took.told more.told took.serves more.serves;
        took = early_behind
            (AreOfAsk now.desk.terms.day seed number now.desk.history) (BeginAsk now.desk.terms.day seed number now.desk.history) (AreOfDay terms seed asks start) (BeginDay terms seed asks start)
            took.told more.told ending took.none
            (λ begin. begin_day terms seed asks number start took.told more.told few took.first (at_next seed number old now took (λ (t : Terms) (h : List Entry). BeginAsk t seed number h more.told) begin)) more.took;
      }

  -- all asks were taken
  pub day_done : (seed asks number : ℕ) (old now : OnDisk D) → number ≡ asks → TookFirst faults may_leave moment left_since old now seed number → TakesDay faults may_leave moment left_since old now seed asks (Ok tt)
  day_done seed asks number old now all took = record {
    told = took.told;
    serves = took.serves;
    took = (subst (λ (n : ℕ). AreFrom old.desk.terms.day seed n 0 old.desk.history took.told) all took.first, took.none);
  }
