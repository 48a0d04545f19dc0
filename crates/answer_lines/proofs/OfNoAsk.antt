-- What a notice, a tick and a change of a budget are answered is about no ask.
use Rattle.std.proofs.Common.{◌≡◌, ℕ, max, nat_lt, length, ◌==◌, slice_get, find, List, [], ◌∷◌, Bool, true, false, if◌then◌else◌, Option, Some, None, option_and_then, refl, sym, ap, ◌∙◌}
use Rattle.std.proofs.lemmas.List.Folds.{find_at}
use Rattle.notice_book.specs.declared.award.Award.{Award}
use Rattle.notice_book.specs.declared.kind.NoticeKind.{NoticeKind}
use Rattle.notice_book.specs.declared.ruling.Ruling.{Ruling}
use Rattle.notice_book.specs.Rules.{ruling_of}
use Rattle.notice_book.specs.AwardList.{due_count}
use Rattle.day_rules.specs.declared.answer.Answer.{Answer}
use Rattle.day_rules.specs.declared.ask.Ask.{Ask}
use Rattle.day_rules.specs.declared.entry.Entry.{Entry}
use Rattle.adx_units.specs.Money.{units}
use Rattle.day_rules.specs.declared.answer.Which.{Which}
use Rattle.day_rules.specs.declared.limits.TheConstants.{MAX_CHANGES}
use Rattle.day_rules.specs.Books.{ask_at, awards_of, committed, latest}
use Rattle.day_rules.specs.Changes.{last_change, same_change}
use Rattle.day_rules.specs.Entries.{BudgetChange, Notice, asked, counts, entry_of_change, notice_of}
use Rattle.day_rules.specs.Replies.{Reply, added, answered, budget_reply, change_reply, changes_with, full, is_of_auction, known_reply, new_change_reply, notice_place, notice_reply, ruled_reply, tick_reply, with_entry}
use Rattle.day_rules.specs.Terms.{Terms}
use Rattle.day_rules.proofs.Budgets.{change_stands}
use Rattle.answer_lines.specs.Answers.{ask_told}

-- an entry that counts a notice records no ask
counting : (x : Notice) (e : Entry) → counts x e ≡ true → asked e ≡ None
counting x (Entry.Ask a) is = absurd (cc is)
counting x (Entry.Win n) is = refl
counting x (Entry.Bill n) is = refl
counting x (Entry.Loss n) is = refl
counting x (Entry.Expire now) is = refl
counting x (Entry.Budget campaign change budget) is = absurd (cc is)

found_first : (x : Notice) (e : Entry) (b : Bool) (rest : Option Entry) → counts x e ≡ b → option_and_then asked rest ≡ None → option_and_then asked (if b then Some e else rest) ≡ None
found_first x e true rest is none = counting x e is
found_first x e false rest is none = none

found_none : (x : Notice) (history : List Entry) → option_and_then asked (find (counts x) history) ≡ None
found_none x [] = refl
found_none x (e ∷ es) = found_first x e (counts x e) (find (counts x) es) refl (found_none x es)

no_ask_there : (history : List Entry) (x : Notice) → ask_at history (notice_place history x) ≡ None
no_ask_there history x = ap (option_and_then asked) (sym (find_at (counts x) history)) ∙ found_none x history

abbrev IsOfNone : List Entry → Reply → Type 0
IsOfNone history r = ask_told (with_entry history r.entry) r.answer ≡ None

either : (history : List Entry) (b : Bool) (r s : Reply) → IsOfNone history r → IsOfNone history s → IsOfNone history (if b then r else s)
either history true r s first second = first
either history false r s first second = second

ruled : (history : List Entry) (kind : NoticeKind) (n : ℕ) (r : Ruling) → IsOfNone history (ruled_reply history kind n r)
ruled history NoticeKind.Win n Ruling.Counted = refl
ruled history NoticeKind.Bill n Ruling.Counted = refl
ruled history NoticeKind.Loss n Ruling.Counted = refl
ruled history kind n Ruling.Repeat = no_ask_there history (notice_of kind n)
ruled history kind n (Ruling.Conflict end) = refl

known : (history : List Entry) (kind : NoticeKind) (auction : List ℕ) (n : ℕ) (o : Option Award) → IsOfNone history (known_reply history kind auction n o)
known history kind auction n None = refl
known history kind auction n (Some w) =
    either history (is_of_auction history auction w) (ruled_reply history kind n (ruling_of kind w)) (answered Answer.Unknown) (ruled history kind n (ruling_of kind w)) refl

-- what a notice, a tick and a change are answered is about no ask
pub notice_of_none : (history : List Entry) (kind : NoticeKind) (auction : List ℕ) (n : ℕ)
    → ask_told (with_entry history (notice_reply history kind auction n).entry) (notice_reply history kind auction n).answer ≡ None
notice_of_none history kind auction n = known history kind auction n (slice_get (awards_of history) n)

pub tick_of_none : (history : List Entry) (now : ℕ) → ask_told (with_entry history (tick_reply history now).entry) (tick_reply history now).answer ≡ None
tick_of_none history now =
    let moment = max now (latest history) in
    let ended = due_count moment (awards_of history) in
    either history (ended == 0) (answered (Answer.Ticked 0)) (added (Answer.Ticked ended) (Entry.Expire moment)) refl refl

-- the place of a change in the history is no ask's
changed : (history : List Entry) (x y : BudgetChange) (place : ℕ) (b : Bool) → same_change x history ≡ Some (place, y) → IsOfNone history (if b then answered (Answer.Repeat place) else answered (Answer.BudgetReused y.budget))
changed history x y place true found = ap (option_and_then asked) (change_stands x history place y found)
changed history x y place false found = refl

new_change : (history : List Entry) (x : BudgetChange) → IsOfNone history (new_change_reply history x)
new_change history x =
    let last = last_change x.campaign history in
    let money = committed history x.campaign in
    let count = changes_with history in
    let third : Reply = if nat_lt MAX_CHANGES count then full Which.Changes count else added Answer.Budgeted (entry_of_change x) in
    let second : Reply = if nat_lt x.budget.0 money then answered (Answer.BelowCommitted (units money)) else third in
    either history (nat_lt x.change last) (answered (Answer.Late last)) second refl
    (either history (nat_lt x.budget.0 money) (answered (Answer.BelowCommitted (units money))) third refl
    (either history (nat_lt MAX_CHANGES count) (full Which.Changes count) (added Answer.Budgeted (entry_of_change x)) refl refl))

known_change : (history : List Entry) (x : BudgetChange) (o : Option (ℕ × BudgetChange)) → same_change x history ≡ o → IsOfNone history (change_reply history x o)
known_change history x None found = new_change history x
known_change history x (Some (place, y)) found = changed history x y place (y.budget.0 == x.budget.0) found

pub change_of_none : (terms : Terms) (history : List Entry) (x : BudgetChange) → ask_told (with_entry history (budget_reply terms history x).entry) (budget_reply terms history x).answer ≡ None
change_of_none terms history x =
    either history (nat_lt x.campaign (length terms.budgets)) (change_reply history x (same_change x history)) (answered Answer.NoCampaign)
    (known_change history x (same_change x history) refl) refl
