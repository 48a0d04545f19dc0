-- One run after another is a run.
use Rattle.std.proofs.Common.{◌≡◌, ◌⊎◌, ⊎_elim, inl, inr, ℕ, List, [], ◌∷◌, ◌++◌, length, refl, sym, ap, ◌∙◌, subst, append_assoc}
use Rattle.std.proofs.lemmas.List.Elements.{All-append}
use Rattle.day_journal.specs.Disks.{LeavesOnly}
use Rattle.adx_desk.specs.Desks.{OnDisk}
use Rattle.adx_desk.specs.Histories.{DeskTerms, WithOrWithout}
use Rattle.day_journal.proofs.Moments.{joined}
use Rattle.day_rules.specs.declared.entry.Entry.{Entry}
use Rattle.day_rules.specs.Replies.{reply}
use Rattle.day_rules.specs.Runs.{AreTurns, IsCall, Turn}
use Rattle.day_rules.specs.Terms.{Terms}
use Rattle.adx_desk.specs.Meanings.{Told, turns_of}
use Rattle.adx_desk.specs.OnDisk.{FullEach, FullOnly, history_after}
use Rattle.adx_desk.proofs.DeskRuns.{history_append, turns_append}
use Rattle.adx_desk.specs.Records.{AreGivenUp, IsLeftInDoubt, IsRecordOfRun, MayBeInDoubtAt, MayBeLeftBy, RunsOn, StandsInRunFrom}
use Rattle.adx_desk.proofs.RunsRecords.{record_along}
use Rattle.adx_desk.proofs.RunsCounts.{counts_join, among_later, raises_join, raises_none, rises_join}

-- a place in two lists, one after the other
split_join : {X : Type 0} (xs ys front : List X) (one : X) (back : List X) → xs ++ ys ≡ front ++ one ∷ back
    → ((rest : List X) × (xs ≡ front ++ one ∷ rest)) ⊎ ((rest : List X) × (front ≡ xs ++ rest) × (ys ≡ rest ++ one ∷ back))
split_join [] ys front one back is = inr (front, refl, is)
split_join (x ∷ xs) ys [] one back is =
    let head : x ≡ one = cc is in
    inl (xs, λ i. head i ∷ xs)
split_join (x ∷ xs) ys (a ∷ front) one back is =
    let head : x ≡ a = cc is in
    let tail : xs ++ ys ≡ front ++ one ∷ back = cc is in
    ⊎_elim (λ among. inl (among.0, λ i. head i ∷ among.1 i))
    (λ behind. inr (behind.0, (λ i. sym head i ∷ behind.1 i), behind.2))
    (split_join xs ys front one back tail)

-- the record of calls of a run is one of the run with more calls after it,
pub record_in_front : (terms : Terms) (start : List Entry) (told more : List Told) (history tail : List Entry) → IsRecordOfRun terms start told history tail → IsRecordOfRun terms start (told ++ more) history tail
record_in_front terms start told more history tail r = record {
  front = r.front;
  group = r.group;
  back = r.back ++ more;
  split = ap (λ (l : List Told). l ++ more) r.split ∙ (append_assoc r.front (r.group ++ r.back) more ∙ ap (λ (l : List Told). r.front ++ l) (append_assoc r.group r.back more));
  share = r.share;
  at = r.at;
  is = r.is;
}

-- and with more before it
pub record_in_rest : (terms : Terms) (start : List Entry) (told more : List Told) (history tail : List Entry) → IsRecordOfRun terms (history_after terms start told) more history tail → IsRecordOfRun terms start (told ++ more) history tail
record_in_rest terms start told more history tail r = record {
  front = told ++ r.front;
  group = r.group;
  back = r.back;
  split = ap (λ (l : List Told). told ++ l) r.split ∙ sym (append_assoc told r.front (r.group ++ r.back));
  share = r.share;
  at = r.at ∙ sym (history_append terms start told r.front);
  is = r.is;
}

-- the same of one that is in doubt
left_in_front : (terms : Terms) (start : List Entry) (told more : List Told) (tail : List Entry) → IsLeftInDoubt terms start told tail → history_after terms start (told ++ more) ≡ history_after terms start told → IsLeftInDoubt terms start (told ++ more) tail
unfolding record_in_front
left_in_front terms start told more tail d same =
    let now = history_after terms start told in
    let all = history_after terms start (told ++ more) in record {
      record_is = record_along terms start (told ++ more) now all tail same (record_in_front terms start told more now tail d.record_is);
      by_disk = subst (λ (h : List Entry). AreGivenUp terms h d.record_is.group) (sym same) d.by_disk;
    }

left_in_rest : (terms : Terms) (start : List Entry) (told more : List Told) (tail : List Entry) → IsLeftInDoubt terms (history_after terms start told) more tail → IsLeftInDoubt terms start (told ++ more) tail
unfolding record_in_rest
left_in_rest terms start told more tail d =
    let now = history_after terms (history_after terms start told) more in
    let all = history_after terms start (told ++ more) in
    let same = history_append terms start told more in record {
      record_is = record_along terms start (told ++ more) now all tail same (record_in_rest terms start told more now tail d.record_is);
      by_disk = subst (λ (h : List Entry). AreGivenUp terms h d.record_is.group) (sym same) d.by_disk;
    }

-- what may be in doubt after both
left_join : (terms : Terms) (start : List Entry) (told more : List Told) (tail mid next : List Entry) → MayBeLeftBy terms (history_after terms start told) more mid next → MayBeLeftBy terms start told tail mid → MayBeLeftBy terms start (told ++ more) tail next
left_join terms start told more tail mid next (inl none) first = inl none
left_join terms start told more tail mid next (inr (inr d)) first = inr (inr (left_in_rest terms start told more next d))
left_join terms start told more tail mid next (inr (inl (same, stays))) (inl none) = inl (same ∙ none)
left_join terms start told more tail mid next (inr (inl (same, stays))) (inr (inl (is, stayed))) =
    inr (inl (same ∙ is, history_append terms start told more ∙ (stays ∙ stayed)))
left_join terms start told more tail mid next (inr (inl (same, stays))) (inr (inr d)) =
    subst (MayBeLeftBy terms start (told ++ more) tail) (sym same)
    (inr (inr (left_in_front terms start told more mid d (history_append terms start told more ∙ stays))))

-- a file that is within the first run is within both
one_in_front : (terms : Terms) (start tail : List Entry) (told more : List Told) (history es : List Entry) → MayBeInDoubtAt terms start tail told history es → MayBeInDoubtAt terms start tail (told ++ more) history es
one_in_front terms start tail told more history es (inl none) = inl none
one_in_front terms start tail told more history es (inr (inl same)) = inr (inl same)
one_in_front terms start tail told more history es (inr (inr r)) = inr (inr (record_in_front terms start told more history es r))

pub stands_in_front : (terms : DeskTerms) (start tail : List Entry) (told more : List Told) (file : List ℕ) → StandsInRunFrom terms start tail told file → StandsInRunFrom terms start tail (told ++ more) file
stands_in_front terms start tail told more file s = record {
  front = s.front;
  back = s.back ++ more;
  split = ap (λ (l : List Told). l ++ more) s.split ∙ append_assoc s.front s.back more;
  more = s.more;
  is = one_in_front terms.day start tail told more (history_after terms.day start s.front) s.more s.is;
  stands = s.stands;
}

-- and so does one that is within the rest
one_in_rest : (terms : Terms) (start tail mid : List Entry) (told more : List Told) (history es : List Entry) → MayBeInDoubtAt terms (history_after terms start told) mid more history es → MayBeLeftBy terms start told tail mid
    → MayBeInDoubtAt terms start tail (told ++ more) history es
one_in_rest terms start tail mid told more history es (inl none) left = inl none
one_in_rest terms start tail mid told more history es (inr (inr r)) left = inr (inr (record_in_rest terms start told more history es r))
one_in_rest terms start tail mid told more history es (inr (inl (is, at))) (inl none) = inl (is ∙ none)
one_in_rest terms start tail mid told more history es (inr (inl (is, at))) (inr (inl (same, stays))) = inr (inl (is ∙ same, at ∙ stays))
one_in_rest terms start tail mid told more history es (inr (inl (is, at))) (inr (inr d)) =
    let now = history_after terms start told in
    inr (inr (record_along terms start (told ++ more) now history es at
    (subst (IsRecordOfRun terms start (told ++ more) now) (sym is) (record_in_front terms start told more now mid d.record_is))))

stands_in_rest : (terms : DeskTerms) (start tail mid : List Entry) (told more : List Told) (file : List ℕ) → MayBeLeftBy terms.day start told tail mid → StandsInRunFrom terms (history_after terms.day start told) mid more file → StandsInRunFrom terms start tail (told ++ more) file
stands_in_rest terms start tail mid told more file left s =
    let now = history_after terms.day (history_after terms.day start told) s.front in
    let same = sym (history_append terms.day start told s.front) in record {
      front = told ++ s.front;
      back = s.back;
      split = ap (λ (l : List Told). told ++ l) s.split ∙ sym (append_assoc told s.front s.back);
      more = s.more;
      is = subst (λ (h : List Entry). MayBeInDoubtAt terms.day start tail (told ++ more) h s.more) same (one_in_rest terms.day start tail mid told more now s.more s.is left);
      stands = subst (λ (h : List Entry). WithOrWithout terms h s.more file) same s.stands;
    }

-- a call of both is answered that the journal is full only where it may be
full_join : (terms : DeskTerms) (start : List Entry) (told more : List Told) → FullEach terms start told → FullEach terms (history_after terms.day start told) more → FullEach terms start (told ++ more)
full_join terms start told more first rest front one back split =
    ⊎_elim (λ among. first front one among.0 among.1)
    (λ behind. subst (λ (h : List Entry). FullOnly terms h (reply terms.day h one.call).entry one.fault)
    (sym (history_append terms.day start told behind.0) ∙ ap (history_after terms.day start) (sym behind.1))
    (rest behind.0 one back behind.2))
    (split_join told more front one back split)

module _ {D : Type 0} (faults : D → ℕ) (may_leave : D → List ℕ → Type 0) (moment : D → ℕ) (left_since : D → ℕ → List ℕ → Type 0) where
  -- one run after another
  pub runs_join : (old mid new : OnDisk D) (told more : List Told) → RunsOn faults may_leave moment left_since old mid told → RunsOn faults may_leave moment left_since mid new more
      → RunsOn faults may_leave moment left_since old new (told ++ more)
  runs_join old mid new told more first rest =
      let d = old.desk.terms in
      let start = old.desk.history in record {
        terms = rest.terms ∙ first.terms;
        since = rest.since ∙ first.since;
        legal = first.legal;
        taken = subst (AreTurns (length d.day.budgets)) (sym (turns_append told more))
            (All-append (λ (turn : Turn). IsCall (length d.day.budgets) turn.call) (turns_of told) (turns_of more) first.taken
            (subst (λ (x : DeskTerms). AreTurns (length x.day.budgets) (turns_of more)) first.terms rest.taken));
        history = rest.history ∙ ((λ i. history_after (first.terms i).day (first.history i) more) ∙ sym (history_append d.day start told more));
        counted = counts_join (faults old.disk) (faults mid.disk) (faults new.disk) told more first.counted rest.counted;
        known = raises_join old.desk.faults mid.desk.faults new.desk.faults told more first.known rest.known;
        passed = λ none. rest.passed none ∙ first.passed (raises_none mid.desk.faults new.desk.faults more rest.known none);
        risen = rises_join old.desk.faults mid.desk.faults new.desk.faults (faults old.disk) (faults mid.disk) (faults new.disk)
            (among_later (faults old.disk) (faults mid.disk) told first.counted) (among_later (faults mid.disk) (faults new.disk) more rest.counted) first.risen rest.risen;
        full = full_join d start told more first.full (along (λ (x : DeskTerms) (h : List Entry). FullEach x h more) rest.full);
        keeps = λ tail kept.
            let between = first.keeps tail kept in
            let left = rest.keeps between.0 between.2 in
            (left.0, left_join d.day start told more tail between.0 left.0 (along (λ (x : DeskTerms) (h : List Entry). MayBeLeftBy x.day h more between.0 left.0) left.1) between.1, left.2);
        any_moment = λ tail kept.
            let between = first.keeps tail kept in
            joined moment left_since old.disk mid.disk new.disk
            (StandsInRunFrom d start tail told)
            (StandsInRunFrom d (history_after d.day start told) between.0 more)
            (StandsInRunFrom d start tail (told ++ more))
            (first.any_moment tail kept)
            (along (λ (x : DeskTerms) (h : List Entry). LeavesOnly moment left_since mid.disk new.disk (StandsInRunFrom x h between.0 more)) (rest.any_moment between.0 between.2))
            (λ c was. stands_in_front d start tail told more c was)
            (λ c now. stands_in_rest d start tail between.0 told more c between.1 now);
      }
    where
      along : (P : DeskTerms → List Entry → Type 0) → P mid.desk.terms mid.desk.history → P old.desk.terms (history_after old.desk.terms.day old.desk.history told)
      along P p = subst (λ (x : DeskTerms × List Entry). P x.0 x.1) (λ i. (first.terms i, first.history i)) p
