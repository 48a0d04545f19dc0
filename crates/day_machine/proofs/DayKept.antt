-- What the fields of a day keep, entry by entry.
use Rattle.std.proofs.Common.{◌≡◌, ◌≢◌, ◌⊎◌, ℕ, ◌+◌, ◌≤◌, max, List, [], ◌∷◌, ◌++◌, map, length, take, get_or, Bool, true, false, cond, ◌||◌, refl, sym, ap, ◌∙◌, subst, inl, inr, arith, Option, Some, None, slice_get, is_some}
use Rattle.std.specs.List.{All, cons_option}
use Rattle.std.specs.Option.{option_map_or}
use Rattle.std.proofs.lemmas.List.{append-nil}
use Rattle.std.proofs.lemmas.Bool.{cases_eq, eqb-true, false≢true}
use Rattle.notice_book.specs.declared.award.Award.{Award}
use Rattle.notice_book.specs.declared.kind.NoticeKind.{NoticeKind}
use Rattle.notice_book.specs.AwardList.{Counts, expired_by, noticed}
use Rattle.day_rules.specs.declared.ask.Ask.{Ask}
use Rattle.day_rules.specs.declared.entry.Entry.{Entry}
use Rattle.adx_units.specs.Changed.{changed_at}
use Rattle.adx_units.specs.declared.units.Units.{Units}
use Rattle.day_rules.specs.Entries.{BudgetChange, Notice, asked, budgeted, counts, entry_of_change, entry_of_notice, notice_of}
use Rattle.day_rules.specs.Books.{ask_count, asks_of, awards_of, bid_count, entries_to_come, kept_size, moment_of, text_count}
use Rattle.day_rules.specs.DayState.{DayState, HasRoomFor}
use Rattle.day_rules.specs.Legal.{BudgetMayFollow, ExpireMayFollow, IsLegal}
use Rattle.day_rules.specs.Replies.{notice_place}
use Rattle.day_rules.specs.Terms.{AreTerms, Terms}
use Rattle.day_rules.proofs.Asked.{asks_after}
use Rattle.day_rules.proofs.Asking.{awards_budget}
use Rattle.day_rules.proofs.Budgets.{budgets_changed, budgets_kept, budgets_none, change_of_entry, changes_push}
use Rattle.day_rules.proofs.Following.{notice_may_follow}
use Rattle.day_rules.proofs.Histories.{legal_none, legal_push}
use Rattle.day_rules.proofs.Noticing.{counted_fresh, had_notice, notice_stands, place_kept, place_new, stands, stands_push}
use Rattle.day_rules.proofs.Pushing.{awards_moment, awards_notice, bill_of_open, loss_of_open}
use Rattle.day_rules.proofs.Room.{to_come_moment, to_come_notice}
use Rattle.day_rules.proofs.Within.{asks_push, bids_push, latest_push, text_push}
use Rattle.day_machine.specs.DayFields.{AreFields, AreIds, ArePlaces, AreSums}
use Rattle.day_machine.specs.LedgerState.{LedgerState, no_places, place_of, placed}
use Rattle.day_machine.specs.ChangeRows.{AreRowsOf, ChangeRow, IsWithout}
use Rattle.day_machine.specs.Sums.{totals_with_change, totals_with_moment}
use Rattle.day_machine.proofs.RowsKept.{rows_kept, rows_new}
use Rattle.day_machine.specs.declared.places.Places.{Places}
use Rattle.day_machine.specs.declared.totals.Totals.{Totals}

-- entries that are no ask
no_ask_ids : (h : List Entry) (e : Entry) (ids : List (List ℕ × ℕ)) → asked e ≡ None → AreIds h ids → AreIds (h ++ e ∷ []) ids
no_ask_ids h e ids none i =
    let same : ask_count (h ++ e ∷ []) ≡ ask_count h = asks_push h e ∙ (ap (λ (o : Option Ask). ask_count h + cond (is_some o) 1 0) none ∙ omega arith) in
    let asks : asks_of (h ++ e ∷ []) ≡ asks_of h =
    asks_after h e ∙ (ap (λ (o : Option Ask). asks_of h ++ cons_option (placed_as (length h) o) []) none ∙ append-nil (asks_of h)) in
    record {
      front = ap (λ (n : ℕ). take n ids) same ∙ (i.front ∙ ap (map (λ (p : ℕ × Ask). (p.1.auction, p.0))) (sym asks));
      one_more = omega (arith, i.one_more);
    }
  where
    placed_as : ℕ → Option Ask → Option (ℕ × Ask)
    placed_as place None = None
    placed_as place (Some a) = Some (place, a)

no_ask_sums : (h : List Entry) (e : Entry) (t u : Totals) → asked e ≡ None → AreSums h t → u.asks ≡ t.asks → u.bids ≡ t.bids → u.text ≡ t.text → u.changes ≡ t.changes + change_of_entry e → u.moment ≡ max t.moment (moment_of e) → AreSums (h ++ e ∷ []) u
no_ask_sums h e t u none s a b x d m = record {
  asks = a ∙ (s.asks ∙ sym (asks_push h e ∙ (ap (λ (o : Option Ask). ask_count h + cond (is_some o) 1 0) none ∙ omega arith)));
  bids = b ∙ (s.bids ∙ sym (bids_push h e ∙ (ap (λ (o : Option Ask). bid_count h + option_map_or (λ a. length a.offers) o 0) none ∙ omega arith)));
  text = x ∙ (s.text ∙ sym (text_push h e ∙ (ap (λ (o : Option Ask). text_count h + option_map_or kept_size o 0) none ∙ omega arith)));
  changes = omega (arith, d, s.changes, changes_push h e);
  moment = m ∙ (ap (λ (k : ℕ). max k (moment_of e)) s.moment ∙ sym (latest_push h e));
}

-- entries that count no notice
pub other_places : (h : List Entry) (e : Entry) (ps qs : List Places) → ((x : Notice) → counts x e ≡ false) → ArePlaces h ps → ((n : ℕ) → get_or qs n no_places ≡ get_or ps n no_places) → ArePlaces (h ++ e ∷ []) qs
other_places h e ps qs none p same kind n standing =
    let x : Notice = notice_of kind n in
    let before : stands h x ≡ true = by (stands h x) (counts x e) (sym (stands_push h e x) ∙ standing) (none x) in
    ap (place_of kind) (same n) ∙ (p kind n before ∙ sym (place_kept h e x before))
  where
    by : (a b : Bool) → (a || b) ≡ true → b ≡ false → a ≡ true
    by true b h f = refl
    by false b h f = absurd (false≢true (sym f ∙ h))

-- the place of a counted notice
own_place : (kind : NoticeKind) (place : ℕ) (p : Places) → place_of kind (placed kind place p) ≡ place
own_place NoticeKind.Win place p = refl
own_place NoticeKind.Bill place p = refl
own_place NoticeKind.Loss place p = refl

pub record IsThat (kind : NoticeKind) (n : ℕ) (other : NoticeKind) (m : ℕ) : Type 0 where
  pub kind_is : other ≡ kind
  pub number_is : m ≡ n

that_one : (kind : NoticeKind) (n : ℕ) (other : NoticeKind) (m : ℕ) → counts (notice_of other m) (entry_of_notice kind n) ≡ true → IsThat kind n other m
that_one NoticeKind.Win n NoticeKind.Win m h = record { kind_is = refl; number_is = eqb-true m n h }
that_one NoticeKind.Win n NoticeKind.Bill m h = absurd (false≢true h)
that_one NoticeKind.Win n NoticeKind.Loss m h = absurd (false≢true h)
that_one NoticeKind.Bill n NoticeKind.Win m h = absurd (false≢true h)
that_one NoticeKind.Bill n NoticeKind.Bill m h = record { kind_is = refl; number_is = eqb-true m n h }
that_one NoticeKind.Bill n NoticeKind.Loss m h = absurd (false≢true h)
that_one NoticeKind.Loss n NoticeKind.Win m h = absurd (false≢true h)
that_one NoticeKind.Loss n NoticeKind.Bill m h = absurd (false≢true h)
that_one NoticeKind.Loss n NoticeKind.Loss m h = record { kind_is = refl; number_is = eqb-true m n h }

-- a bill and a loss of one award aren't both there
had_open : (kind : NoticeKind) (w : Award) → w.end ≡ None → kind ≢ NoticeKind.Win → had_notice kind (Some w) ≡ false
had_open NoticeKind.Win w none other = absurd (other refl)
had_open NoticeKind.Bill w none other = rw none refl
had_open NoticeKind.Loss w none other = rw none refl

open_stands : (terms : Terms) (h : List Entry) (kind : NoticeKind) (n : ℕ) (w : Award) → IsLegal terms h → slice_get (awards_of h) n ≡ Some w → w.end ≡ None → kind ≢ NoticeKind.Win → stands h (notice_of kind n) ≡ true → ⊥
open_stands terms h kind n w legal at none other s =
    false≢true (sym (notice_stands terms h legal kind n ∙ (ap (had_notice kind) at ∙ had_open kind w none other)) ∙ s)

kept_place : (terms : Terms) (h : List Entry) (kind : NoticeKind) (n place : ℕ) (other : NoticeKind) (p : Places) → IsLegal terms h → Counts kind n (awards_of h) → stands h (notice_of other n) ≡ true → place_of other (placed kind place p) ≡ place_of other p
kept_place terms h NoticeKind.Win n place NoticeKind.Win p legal c s = absurd (false≢true (sym (counted_fresh terms h NoticeKind.Win n legal c) ∙ s))
kept_place terms h NoticeKind.Win n place NoticeKind.Bill p legal c s = refl
kept_place terms h NoticeKind.Win n place NoticeKind.Loss p legal c s = refl
kept_place terms h NoticeKind.Bill n place NoticeKind.Win p legal c s = refl
kept_place terms h NoticeKind.Bill n place NoticeKind.Bill p legal c s = absurd (open_stands terms h NoticeKind.Bill n c.award legal c.known (bill_of_open c.award.won c.award.end c.counted) (λ e. cc) s)
kept_place terms h NoticeKind.Bill n place NoticeKind.Loss p legal c s = absurd (open_stands terms h NoticeKind.Loss n c.award legal c.known (bill_of_open c.award.won c.award.end c.counted) (λ e. cc) s)
kept_place terms h NoticeKind.Loss n place NoticeKind.Win p legal c s = refl
kept_place terms h NoticeKind.Loss n place NoticeKind.Bill p legal c s = absurd (open_stands terms h NoticeKind.Bill n c.award legal c.known (loss_of_open c.award.won c.award.end c.counted) (λ e. cc) s)
kept_place terms h NoticeKind.Loss n place NoticeKind.Loss p legal c s = absurd (open_stands terms h NoticeKind.Loss n c.award legal c.known (loss_of_open c.award.won c.award.end c.counted) (λ e. cc) s)

notice_places : (terms : Terms) (h : List Entry) (kind : NoticeKind) (n : ℕ) (ps qs : List Places) → IsLegal terms h → Counts kind n (awards_of h) → ArePlaces h ps
    → get_or qs n no_places ≡ placed kind (length h) (get_or ps n no_places) → ((m : ℕ) → m ≢ n → get_or qs m no_places ≡ get_or ps m no_places)
    → ArePlaces (h ++ entry_of_notice kind n ∷ []) qs
notice_places terms h kind n ps qs legal c p here others other m standing = by (stands h x) refl
  where
    e : Entry
    e = entry_of_notice kind n

    x : Notice
    x = notice_of other m

    by : (b : Bool) → stands h x ≡ b → place_of other (get_or qs m no_places) ≡ notice_place (h ++ e ∷ []) x
    by true s = elim (cases_eq m n) [
      | inl same ↦
          let s_n : stands h (notice_of other n) ≡ true = subst (λ (k : ℕ). stands h (notice_of other k) ≡ true) same s in
          ap (λ (k : ℕ). place_of other (get_or qs k no_places)) same
          ∙ (ap (place_of other) here
          ∙ (kept_place terms h kind n (length h) other (get_or ps n no_places) legal c s_n
          ∙ (ap (λ (k : ℕ). place_of other (get_or ps k no_places)) (sym same) ∙ (p other m s ∙ sym (place_kept h e x s)))))
      | inr apart ↦ ap (place_of other) (others m apart) ∙ (p other m s ∙ sym (place_kept h e x s))
    ]
    by false s =
        let found : counts x e ≡ true = sym (ap (λ (b : Bool). b || counts x e) s) ∙ (sym (stands_push h e x) ∙ standing) in
        let that : IsThat kind n other m = that_one kind n other m found in
        ap (λ (k : ℕ). place_of other (get_or qs k no_places)) that.number_is
        ∙ (ap (place_of other) here
        ∙ (ap (λ (k : NoticeKind). place_of k (placed kind (length h) (get_or ps n no_places))) that.kind_is
        ∙ (own_place kind (length h) (get_or ps n no_places) ∙ sym (place_new h e x s found))))

notice_asks : (kind : NoticeKind) (n : ℕ) → asked (entry_of_notice kind n) ≡ None
notice_asks NoticeKind.Win n = refl
notice_asks NoticeKind.Bill n = refl
notice_asks NoticeKind.Loss n = refl

notice_moment : (kind : NoticeKind) (n : ℕ) → moment_of (entry_of_notice kind n) ≡ 0
notice_moment NoticeKind.Win n = refl
notice_moment NoticeKind.Bill n = refl
notice_moment NoticeKind.Loss n = refl

notice_changes : (kind : NoticeKind) (n : ℕ) → budgeted (entry_of_notice kind n) ≡ None
notice_changes NoticeKind.Win n = refl
notice_changes NoticeKind.Bill n = refl
notice_changes NoticeKind.Loss n = refl

-- the fields after a notice
pub fields_notice : (terms : Terms) (h : List Entry) (spare rest : ℕ) (l k : LedgerState) (ids : List (List ℕ × ℕ)) (cs : List ChangeRow) (t : Totals) (kind : NoticeKind) (n : ℕ) → AreFields terms h spare l ids cs t → Counts kind n (awards_of h)
    → spare ≤ rest + 1 → k.budgets ≡ l.budgets → k.awards ≡ noticed kind n l.awards
    → get_or k.places n no_places ≡ placed kind (length h) (get_or l.places n no_places) → ((m : ℕ) → m ≢ n → get_or k.places m no_places ≡ get_or l.places m no_places)
    → AreFields terms (h ++ entry_of_notice kind n ∷ []) rest k ids cs t
fields_notice terms h spare rest l k ids cs t kind n f c less budgets awards here others =
    let e : Entry = entry_of_notice kind n in
    let after : awards_of (h ++ e ∷ []) ≡ noticed kind n (awards_of h) = awards_notice h kind n c in
    record {
      day = record { terms_ok = f.day.terms_ok; legal = legal_push terms h e f.day.legal (notice_may_follow terms h kind n c) };
      budgets_are = budgets ∙ (f.budgets_are ∙ sym (budgets_kept terms h e (notice_changes kind n)));
      awards_are = awards ∙ (ap (noticed kind n) f.awards_are ∙ sym after);
      places_are = notice_places terms h kind n l.places k.places f.day.legal c f.places_are here others;
      ids_are = no_ask_ids h e ids (notice_asks kind n) f.ids_are;
      changes_are = rows_kept (length terms.budgets) h e cs (notice_changes kind n) f.changes_are;
      totals_are = no_ask_sums h e t t (notice_asks kind n) f.totals_are refl refl refl (omega (arith, ap {B = ℕ} (λ (o : Option BudgetChange). cond (is_some o) 1 0) (notice_changes kind n))) (omega (arith, notice_moment kind n));
      to_come = omega (arith, f.to_come, to_come_notice kind n (awards_of h) c, ap entries_to_come after);
    }

-- the fields after a moment
pub fields_moment : (terms : Terms) (h : List Entry) (spare rest : ℕ) (l k : LedgerState) (ids : List (List ℕ × ℕ)) (cs : List ChangeRow) (t u : Totals) (now : ℕ) → AreFields terms h spare l ids cs t → ExpireMayFollow h now
    → spare ≤ rest + 1 → k.budgets ≡ l.budgets → k.awards ≡ expired_by now l.awards → k.places ≡ l.places → u ≡ totals_with_moment t now
    → AreFields terms (h ++ Entry.Expire now ∷ []) rest k ids cs u
fields_moment terms h spare rest l k ids cs t u now f follows less budgets awards places totals =
    let e : Entry = Entry.Expire now in
    let after : awards_of (h ++ e ∷ []) ≡ expired_by now (awards_of h) = awards_moment h now in
    record {
      day = record { terms_ok = f.day.terms_ok; legal = legal_push terms h e f.day.legal follows };
      budgets_are = budgets ∙ (f.budgets_are ∙ sym (budgets_kept terms h e refl));
      awards_are = awards ∙ (ap (expired_by now) f.awards_are ∙ sym after);
      places_are = other_places h e l.places k.places (λ x. refl) f.places_are (λ n. ap (λ (ps : List Places). get_or ps n no_places) places);
      ids_are = no_ask_ids h e ids refl f.ids_are;
      changes_are = rows_kept (length terms.budgets) h e cs refl f.changes_are;
      totals_are = no_ask_sums h e t u refl f.totals_are (ap (λ (v : Totals). v.asks) totals) (ap (λ (v : Totals). v.bids) totals) (ap (λ (v : Totals). v.text) totals) (ap (λ (v : Totals). v.changes) totals ∙ omega arith) (ap (λ (v : Totals). v.moment) totals ∙ omega arith);
      to_come = omega (arith, f.to_come, to_come_moment now (awards_of h), follows.ends, ap entries_to_come after);
    }

-- the fields after a change of a budget
pub fields_change : (terms : Terms) (h : List Entry) (spare rest : ℕ) (l k : LedgerState) (ids : List (List ℕ × ℕ)) (cs ds : List ChangeRow) (t u : Totals) (x : BudgetChange) → AreFields terms h spare l ids cs t → BudgetMayFollow terms h x
    → 1 + entries_to_come (awards_of h) ≤ spare → spare ≤ rest + 1 → k.budgets ≡ changed_at (λ b. x.budget) x.campaign l.budgets → k.awards ≡ l.awards → k.places ≡ l.places
    → AreRowsOf (length terms.budgets) (h ++ entry_of_change x ∷ []) ds → u ≡ totals_with_change t
    → AreFields terms (h ++ entry_of_change x ∷ []) rest k ids ds u
fields_change terms h spare rest l k ids cs ds t u x f follows room less budgets awards places rows totals =
    let e : Entry = entry_of_change x in
    let after : awards_of (h ++ e ∷ []) ≡ awards_of h = awards_budget h x.campaign x.change x.budget in
    record {
      day = record { terms_ok = f.day.terms_ok; legal = legal_push terms h e f.day.legal follows };
      budgets_are = budgets ∙ (ap (changed_at (λ (b : Units). x.budget) x.campaign) f.budgets_are ∙ sym (budgets_changed terms h x));
      awards_are = awards ∙ (f.awards_are ∙ sym after);
      places_are = other_places h e l.places k.places (λ y. refl) f.places_are (λ n. ap (λ (ps : List Places). get_or ps n no_places) places);
      ids_are = no_ask_ids h e ids refl f.ids_are;
      changes_are = rows;
      totals_are = no_ask_sums h e t u refl f.totals_are (ap (λ (v : Totals). v.asks) totals) (ap (λ (v : Totals). v.bids) totals) (ap (λ (v : Totals). v.text) totals) (ap (λ (v : Totals). v.changes) totals) (ap (λ (v : Totals). v.moment) totals ∙ omega arith);
      to_come = omega (arith, ap entries_to_come after);
    }

-- the room for a notice
pub notice_room : (kind : NoticeKind) (n : ℕ) (s : DayState) → HasRoomFor s (entry_of_notice kind n)
notice_room NoticeKind.Win n s = tt
notice_room NoticeKind.Bill n s = tt
notice_room NoticeKind.Loss n s = tt

-- the fields at the start
none_sold : awards_of [] ≡ []
unfolding awards_of
none_sold = refl

pub fields_new : (terms : Terms) (spare : ℕ) (l : LedgerState) (ids : List (List ℕ × ℕ)) (cs : List ChangeRow) (t : Totals) → AreTerms terms → l.budgets ≡ terms.budgets → l.awards ≡ [] → ids ≡ [] → length cs ≡ length terms.budgets → All IsWithout cs → t.asks ≡ 0 → t.bids ≡ 0 → t.text ≡ 0 → t.changes ≡ 0 → t.moment ≡ 0 → AreFields terms [] spare l ids cs t
fields_new terms spare l ids cs t ok budgets awards none count without asks bids text changes moment = record {
  day = record { terms_ok = ok; legal = legal_none terms };
  budgets_are = budgets ∙ sym (budgets_none terms);
  awards_are = awards ∙ sym none_sold;
  places_are = λ kind n standing. absurd (false≢true standing);
  ids_are = record { front = refl; one_more = omega (arith, ap (λ (xs : List (List ℕ × ℕ)). length xs) none) };
  changes_are = rows_new (length terms.budgets) cs count without;
  totals_are = record { asks = asks; bids = bids; text = text; changes = changes; moment = moment };
  to_come = omega (arith, ap entries_to_come none_sold);
}

-- entries that are no ask and no change have their room
pub other_room : (s : DayState) (e : Entry) → ((x : ℕ) × (e ≡ Entry.Win x)) ⊎ (((x : ℕ) × (e ≡ Entry.Bill x)) ⊎ (((x : ℕ) × (e ≡ Entry.Loss x)) ⊎ ((x : ℕ) × (e ≡ Entry.Expire x)))) → HasRoomFor s e
other_room s e (inl w) = subst (HasRoomFor s) (sym w.1) tt
other_room s e (inr (inl w)) = subst (HasRoomFor s) (sym w.1) tt
other_room s e (inr (inr (inl w))) = subst (HasRoomFor s) (sym w.1) tt
other_room s e (inr (inr (inr w))) = subst (HasRoomFor s) (sym w.1) tt
