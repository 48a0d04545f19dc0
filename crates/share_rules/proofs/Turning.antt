-- What another call leaves of a campaign's budget and changes, and that each event leaves a place sound.
use Rattle.std.proofs.Common.{◌≡◌, ◌≢◌, ℕ, ◌<◌, ◌≤◌, max, List, [], ◌∷◌, ◌++◌, length, Bool, eqb, ltb, refl, sym, ap, subst, arith, Option, Some, None, IfSome}
use Rattle.std.proofs.lemmas.Bool.{cond_both, cond-false, ne_eqb}
use Rattle.std.proofs.lemmas.List.Elements.{All-cons, All-nil}
use Rattle.allocator_core.specs.Choice.{budget_at}
use Rattle.notice_book.specs.declared.kind.NoticeKind.{NoticeKind}
use Rattle.day_rules.specs.declared.answer.Seen.{Seen}
use Rattle.day_rules.specs.declared.ask.Ask.{Ask}
use Rattle.day_rules.specs.declared.entry.Entry.{Entry}
use Rattle.day_rules.specs.declared.limits.TheConstants.{MAX_CHANGES}
use Rattle.day_rules.specs.Entries.{BudgetChange, budgeted, entry_of_change, entry_of_notice}
use Rattle.day_rules.specs.Changes.{last_change, number_by, same_change}
use Rattle.day_rules.specs.Books.{committed, latest}
use Rattle.day_rules.specs.Asks.{settled}
use Rattle.day_rules.specs.Terms.{Terms, budgets_after}
use Rattle.day_rules.specs.Legal.{IsLegal}
use Rattle.day_rules.specs.Replies.{Call, Reply, ask, notice, tick, set_budget, ask_reply_by, asks_with, bids_with, change_reply, changes_with, reply, seen_in, text_with, with_entry}
use Rattle.day_rules.specs.Runs.{Outcome, done, faulted, Turn, IsCall, after_turn}
use Rattle.day_rules.proofs.Budgets.{budget_other, budgets_kept, last_change_push}
use Rattle.day_rules.proofs.Following.{notice_entry, tick_entry}
use Rattle.day_rules.proofs.Running.{run_legal}
use Rattle.day_rules.proofs.Within.{within_budget}
use Rattle.share_rules.specs.declared.budget.Budget.{Budget}
use Rattle.share_rules.specs.declared.share.Share.{Share}
use Rattle.share_rules.specs.Shares.{taken}
use Rattle.share_rules.specs.Machine as machine
use Rattle.share_rules.specs.Machine.{Message, Place, came, nth}
use Rattle.share_rules.proofs.Sound.{IsSound}
use Rattle.share_rules.proofs.Steps.{comes_sound}
use Rattle.share_rules.specs.Days.{DayPlace, IsMessage, IsOther, IsTakenAs, WhereThere, budget_in, change_by, day_came, day_turns, done_of, seen, told}
use Rattle.share_rules.proofs.Taking.{takes}

-- ---- an entry that changes no budget of a campaign

pub record IsSame (terms : Terms) (history : List Entry) (campaign : ℕ) (after : List Entry) : Type 0 where
  pub has : budget_at (budgets_after terms after) campaign ≡ budget_at (budgets_after terms history) campaign
  pub last : last_change campaign after ≡ last_change campaign history

no_change : {A : Type 0} (x : A) → Some x ≡ None → ⊥
no_change x h = cc

number_none : (campaign : ℕ) (e : Entry) → budgeted e ≡ None → number_by campaign e ≡ 0
number_none campaign (Entry.Ask a) none = refl
number_none campaign (Entry.Win n) none = refl
number_none campaign (Entry.Bill n) none = refl
number_none campaign (Entry.Loss n) none = refl
number_none campaign (Entry.Expire now) none = refl
number_none campaign (Entry.Budget c n b) none = absurd (no_change _ none)

same_entry : (terms : Terms) (history : List Entry) (campaign : ℕ) (e : Entry) → budgeted e ≡ None → IsSame terms history campaign (history ++ e ∷ [])
same_entry terms history campaign e none =
    let pushed = last_change_push campaign history e in
    let zero = number_none campaign e none in
    record {
      has = ap (λ (bs : List _). budget_at bs campaign) (budgets_kept terms history e none);
      last = omega (arith, pushed, zero);
    }

other_change : (terms : Terms) (history : List Entry) (campaign : ℕ) (x : BudgetChange) → campaign ≢ x.campaign → IsSame terms history campaign (history ++ entry_of_change x ∷ [])
other_change terms history campaign x apart =
    let pushed = last_change_push campaign history (entry_of_change x) in
    let zero : number_by campaign (entry_of_change x) ≡ 0 = cond-false (eqb x.campaign campaign) x.change 0 (ne_eqb x.campaign campaign (λ h. apart (sym h))) in
    record { has = budget_other terms history x campaign apart; last = omega (arith, pushed, zero) }

with_same : (terms : Terms) (history : List Entry) (campaign : ℕ) (o : Option Entry) → IfSome o (λ (e : Entry). IsSame terms history campaign (history ++ e ∷ [])) → IsSame terms history campaign (with_entry history o)
with_same terms history campaign None h = record { has = refl; last = refl }
with_same terms history campaign (Some e) h = h

-- ---- another call

asked_same : (s : Seen) (terms : Terms) (history : List Entry) (a : Ask) (P : Entry → Type 0) → ((b : Ask) → P (Entry.Ask b)) → IfSome (ask_reply_by s terms history a).entry P
asked_same Seen.New terms history a P then =
    let Q : Reply → Type 0 = λ r. IfSome r.entry P in
    let s : Ask = settled terms history a in
    cond_both (ltb terms.limits.auctions (asks_with history)) _ _ Q (λ h. tt) (λ asks.
    cond_both (ltb terms.limits.bids (bids_with history s)) _ _ Q (λ h. tt) (λ bids.
    cond_both (ltb terms.limits.text (text_with history s)) _ _ Q (λ h. tt) (λ text. then s)))
asked_same (Seen.Same place) terms history a P then = tt
asked_same (Seen.Other kept) terms history a P then = tt

notice_none : (kind : NoticeKind) (n : ℕ) → budgeted (entry_of_notice kind n) ≡ None
notice_none NoticeKind.Win n = refl
notice_none NoticeKind.Bill n = refl
notice_none NoticeKind.Loss n = refl

changed_same : (history : List Entry) (x : BudgetChange) (o : Option (ℕ × BudgetChange)) (P : Entry → Type 0) → P (entry_of_change x) → IfSome (change_reply history x o).entry P
changed_same history x None P then =
    let Q : Reply → Type 0 = λ r. IfSome r.entry P in
    cond_both (ltb x.change (last_change x.campaign history)) _ _ Q (λ late. tt) (λ early.
    cond_both (ltb x.budget.0 (committed history x.campaign)) _ _ Q (λ below. tt) (λ covers.
    cond_both (ltb MAX_CHANGES (changes_with history)) _ _ Q (λ full. tt) (λ few. then)))
changed_same history x (Some (place, y)) P then =
    let Q : Reply → Type 0 = λ r. IfSome r.entry P in
    cond_both (eqb y.budget.0 x.budget.0) _ _ Q (λ same. tt) (λ other. tt)

other_call : (terms : Terms) (history : List Entry) (campaign : ℕ) (c : Call) → IsOther campaign c → IfSome (reply terms history c).entry (λ (e : Entry). IsSame terms history campaign (history ++ e ∷ []))
other_call terms history campaign (ask a) other =
    asked_same (seen_in history a.auction a.digest) terms history a (λ e. IsSame terms history campaign (history ++ e ∷ [])) (λ b. same_entry terms history campaign (Entry.Ask b) refl)
other_call terms history campaign (notice kind auction n) other =
    notice_entry history kind auction n (λ e. IsSame terms history campaign (history ++ e ∷ [])) (λ counts. same_entry terms history campaign (entry_of_notice kind n) (notice_none kind n))
other_call terms history campaign (tick now) other =
    tick_entry history now (λ e. IsSame terms history campaign (history ++ e ∷ [])) (λ some. same_entry terms history campaign (Entry.Expire (max now (latest history))) refl)
other_call terms history campaign (set_budget x) other =
    let P : Entry → Type 0 = λ e. IsSame terms history campaign (history ++ e ∷ []) in
    let Q : Reply → Type 0 = λ r. IfSome r.entry P in
    cond_both (ltb x.campaign (length terms.budgets)) _ _ Q
    (λ known. changed_same history x (same_change x history) P (other_change terms history campaign x other))
    (λ unknown. tt)

turn_same : (terms : Terms) (history : List Entry) (campaign : ℕ) (c : Call) (o : Outcome) → IsOther campaign c → IsSame terms history campaign (after_turn terms history (record { call = c; outcome = o }))
turn_same terms history campaign c done other = with_same terms history campaign (reply terms history c).entry (other_call terms history campaign c other)
turn_same terms history campaign c faulted other = record { has = refl; last = refl }

-- ---- a place

pub record IsDay (p : DayPlace) : Type 0 where
  pub legal : IsLegal p.terms p.history
  pub known : p.campaign < length p.terms.budgets
  pub sound : IsSound (seen p)

turn_legal : (terms : Terms) (history : List Entry) (turn : Turn) → IsLegal terms history → IsCall (length terms.budgets) turn.call → IsLegal terms (after_turn terms history turn)
turn_legal terms history turn legal call =
    let P : Turn → Type 0 = λ t. IsCall (length terms.budgets) t.call in
    run_legal terms history (turn ∷ []) legal (All-cons P turn [] call (All-nil P))

abbrev placed : Share → ℕ → ℕ → ℕ → List Message → List machine.Reply → Place
placed share has last money messages replies = record { share = share; budget = record { has = has; last = last; committed = money }; messages = messages; replies = replies }

-- the same budget and number, and other committed money within it
sound_with : (share : Share) (has last money h l c : ℕ) (ms : List Message) (rs : List machine.Reply) → h ≡ has → l ≡ last → c ≤ h → IsSound (placed share has last money ms rs) → IsSound (placed share h l c ms rs)
sound_with share has last money h l c ms rs eh el within k =
    let moved : IsSound (placed share has last c ms rs) = record {
      last = k.last;
      has = k.has;
      committed = omega (arith, eh, within);
      sent = k.sent;
      told = k.told;
      exact = k.exact;
    } in
    subst (λ (x : ℕ). IsSound (placed share x l c ms rs)) (sym eh) (subst (λ (y : ℕ). IsSound (placed share has y c ms rs)) (sym el) moved)

turned : (share : Share) (terms : Terms) (campaign : ℕ) (history : List Entry) (ms : List Message) (rs : List machine.Reply) (c : Call) (o : Outcome)
    → IsCall (length terms.budgets) c → IsOther campaign c → IsDay (record { share = share; terms = terms; campaign = campaign; history = history; messages = ms; replies = rs })
    → IsDay (record { share = share; terms = terms; campaign = campaign; history = after_turn terms history (record { call = c; outcome = o }); messages = ms; replies = rs })
turned share terms campaign history ms rs c o call other d =
    let turn : Turn = record { call = c; outcome = o } in
    let after : List Entry = after_turn terms history turn in
    let legal : IsLegal terms after = turn_legal terms history turn d.legal call in
    let same : IsSame terms history campaign after = turn_same terms history campaign c o other in
    record {
      legal = legal;
      known = d.known;
      sound = sound_with share (budget_at (budgets_after terms history) campaign) (last_change campaign history) (committed history campaign) (budget_at (budgets_after terms after) campaign) (last_change campaign after) (committed after campaign) ms rs same.has same.last (within_budget terms after legal campaign) d.sound;
    }

pub turns_day : (turn : Turn) (p : DayPlace) → IsCall (length p.terms.budgets) turn.call × IsOther p.campaign turn.call → IsDay p → IsDay (day_turns turn p)
turns_day turn p may d = turned p.share p.terms p.campaign p.history p.messages p.replies turn.call turn.outcome may.0 may.1 d

-- a reply that says something, and the budget after it
told_sound : (share : Share) (b after : Budget) (ms : List Message) (rs : List machine.Reply) (m : Message) (o : Option Bool) → IsTakenAs b m o after
    → IsSound (record { share = share; budget = b; messages = ms; replies = rs })
    → IsSound (came (record { share = share; budget = b; messages = ms; replies = rs }) (Some m))
    → IsSound (record { share = share; budget = after; messages = ms; replies = told m.number o rs })
told_sound share b after ms rs m None t k new =
    subst (λ (x : Budget). IsSound (record { share = share; budget = x; messages = ms; replies = rs })) (sym (t.none refl)) k
told_sound share b after ms rs m (Some is) t k new =
    let both = t.some is refl in
    subst (λ (x : Budget). IsSound (record { share = share; budget = x; messages = ms; replies = record { number = m.number; done = is } ∷ rs })) (sym both.1)
    (subst (λ (y : Bool). IsSound (record { share = share; budget = taken b m.number m.budget; messages = ms; replies = record { number = m.number; done = y } ∷ rs })) (sym both.0) new)

answered : (share : Share) (terms : Terms) (campaign : ℕ) (history : List Entry) (ms : List Message) (rs : List machine.Reply) (m : Message)
    → IsMessage m → IsDay (record { share = share; terms = terms; campaign = campaign; history = history; messages = ms; replies = rs })
    → IsSound (came (record { share = share; budget = budget_in terms history campaign; messages = ms; replies = rs }) (Some m))
    → IsDay (record { share = share; terms = terms; campaign = campaign; history = with_entry history (reply terms history (set_budget (change_by campaign m))).entry; messages = ms; replies = told m.number (done_of (reply terms history (set_budget (change_by campaign m))).answer) rs })
answered share terms campaign history ms rs m call d new =
    let r : Reply = reply terms history (set_budget (change_by campaign m)) in
    record {
      legal = turn_legal terms history (record { call = set_budget (change_by campaign m); outcome = done }) d.legal call;
      known = d.known;
      sound = told_sound share (budget_in terms history campaign) (budget_in terms (with_entry history r.entry) campaign) ms rs m (done_of r.answer) (takes terms history campaign m d.legal d.known call) d.sound new;
    }

came_day : (p : DayPlace) (o : Option Message) (outcome : Outcome) → WhereThere IsMessage o → IsSound (came (seen p) o) → IsDay p → IsDay (day_came p o outcome)
came_day p None outcome call new d = d
came_day p (Some m) done call new d = answered p.share p.terms p.campaign p.history p.messages p.replies m call d new
came_day p (Some m) faulted call new d = d

pub comes_day : (which : ℕ) (outcome : Outcome) (p : DayPlace) → WhereThere IsMessage (nth p.messages which) → IsDay p → IsDay (day_came p (nth p.messages which) outcome)
comes_day which outcome p call d = came_day p (nth p.messages which) outcome call (comes_sound which (seen p) d.sound) d
