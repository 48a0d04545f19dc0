-- Histories in which no award is lost and none expires: only asks move their campaigns' committed money.
use Rattle.std.proofs.Common.{◌≡◌, ℕ, ◌+◌, ◌≤◌, List, [], ◌∷◌, ◌++◌, map, length, Bool, true, false, cond, ◌&&◌, ◌||◌, ltb, refl, sym, ap, ◌∙◌, subst, arith, Option, Some, None}
use Rattle.std.specs.List.{list_all, sum_by}
use Rattle.std.proofs.lemmas.Bool.{and_parts, false≢true}
use Rattle.std.proofs.lemmas.List.{append_assoc, append-nil}
use Rattle.std.proofs.lemmas.List.Sums.{sum_by-append, sum_by-cons, sum_by-le-sum_by}
use Rattle.allocator_core.proofs.Lists.{sum_by-map}
use Rattle.notice_book.specs.declared.award.Award.{Award}
use Rattle.notice_book.specs.declared.award.End.{End as AwardEnd}
use Rattle.notice_book.specs.declared.kind.NoticeKind.{NoticeKind}
use Rattle.notice_book.specs.AwardList.{Counts, noticed}
use Rattle.notice_book.specs.Rules.{expired_award, is_billed, is_due, is_open, noticed_award}
use Rattle.day_rules.specs.declared.entry.Entry.{Entry}
use Rattle.day_rules.specs.Entries.{change_of}
use Rattle.day_rules.specs.Books.{award_of, awards_of, committed, sales_of}
use Rattle.day_rules.specs.Legal.{IsLegal, MayFollow}
use Rattle.day_rules.specs.Terms.{Terms}
use Rattle.day_rules.proofs.Asking.{awards_ask, awards_budget}
use Rattle.day_rules.proofs.Lists.{sum_by-both}
use Rattle.day_rules.proofs.Histories.{legal_front, legal_last}
use Rattle.day_rules.proofs.Money.{changed_sum, charge_fails, charge_passes, own_charge}
use Rattle.day_rules.proofs.Pushing.{awards_moment, awards_notice, bill_of_open, loss_of_open}
use Rattle.day_rules.proofs.Within.{committed_budget, held, held_open, held_sum}
use Rattle.bid_record.specs.declared.rows.ImpRow.{ImpRow}
use Rattle.day_close.specs.Choosing.{keeps_award}
use Rattle.served_record.specs.Served.{end_told}
use Rattle.served_record.proofs.Told.{Told, TellsBy}

-- 1 for an end that releases the award's charge
abbrev gone_by : Option AwardEnd → ℕ
gone_by end = cond (is_open end || is_billed end) 0 1

-- 1 for an award that was lost or expired
abbrev pub is_gone : Award → ℕ
is_gone w = gone_by w.end

-- how many awards of a history are gone
abbrev pub gone_in : List Entry → ℕ
gone_in history = sum_by is_gone (awards_of history)

open_stays : (w : Award) → w.end ≡ None → is_gone w ≡ 0
open_stays w none = ap gone_by none

-- a loss and a moment take awards away
gone_lost : (history : List Entry) (n : ℕ) → Counts NoticeKind.Loss n (awards_of history) → gone_in (history ++ Entry.Loss n ∷ []) ≡ gone_in history + 1
gone_lost history n c =
    let ws : List Award = awards_of history in
    let is : gone_in (history ++ Entry.Loss n ∷ []) ≡ sum_by is_gone (noticed NoticeKind.Loss n ws) = ap (sum_by is_gone) (awards_notice history NoticeKind.Loss n c) in
    let was = open_stays c.award (loss_of_open c.award.won c.award.end c.counted) in
    omega (arith, is, was, changed_sum is_gone (noticed_award NoticeKind.Loss) n ws c.award c.known)

gone_billed : (history : List Entry) (n : ℕ) → Counts NoticeKind.Bill n (awards_of history) → gone_in (history ++ Entry.Bill n ∷ []) ≡ gone_in history
gone_billed history n c =
    let ws : List Award = awards_of history in
    let is : gone_in (history ++ Entry.Bill n ∷ []) ≡ sum_by is_gone (noticed NoticeKind.Bill n ws) = ap (sum_by is_gone) (awards_notice history NoticeKind.Bill n c) in
    let was = open_stays c.award (bill_of_open c.award.won c.award.end c.counted) in
    omega (arith, is, was, changed_sum is_gone (noticed_award NoticeKind.Bill) n ws c.award c.known)

gone_won : (history : List Entry) (n : ℕ) → Counts NoticeKind.Win n (awards_of history) → gone_in (history ++ Entry.Win n ∷ []) ≡ gone_in history
gone_won history n c =
    let ws : List Award = awards_of history in
    let is : gone_in (history ++ Entry.Win n ∷ []) ≡ sum_by is_gone (noticed NoticeKind.Win n ws) = ap (sum_by is_gone) (awards_notice history NoticeKind.Win n c) in
    omega (arith, is, changed_sum is_gone (noticed_award NoticeKind.Win) n ws c.award c.known)

-- an award after a moment
abbrev after : ℕ → Award → Award
after now w = cond (is_due now w) (expired_award w) w

is_gone_after : (now : ℕ) (w : Award) (b : Bool) → is_due now w ≡ b → cond b 1 0 + is_gone w ≤ is_gone (cond b (expired_award w) w)
is_gone_after now w false is = omega arith
is_gone_after now w true is = by w.end refl
  where
    by : (e : Option AwardEnd) → w.end ≡ e → 1 + is_gone w ≤ 1
    by None at = omega (arith, open_stays w at)
    by (Some x) at = absurd (false≢true (sym (ap (λ (e : Option AwardEnd). is_open e && ltb w.deadline now) at) ∙ is))

gone_expired : (history : List Entry) (now : ℕ) → gone_in history + sum_by (λ w. cond (is_due now w) 1 0) (awards_of history) ≤ gone_in (history ++ Entry.Expire now ∷ [])
gone_expired history now =
    let ws : List Award = awards_of history in
    let is : gone_in (history ++ Entry.Expire now ∷ []) ≡ sum_by (λ w. is_gone (after now w)) ws =
    ap (sum_by is_gone) (awards_moment history now) ∙ sum_by-map is_gone (after now) ws in
    let both = sum_by-both (λ w. cond (is_due now w) 1 0) is_gone ws in
    let less = sum_by-le-sum_by (λ w. cond (is_due now w) 1 0 + is_gone w) (λ w. is_gone (after now w)) ws (λ w. is_gone_after now w (is_due now w) refl) in
    omega (arith, is, both, less)

-- what is gone stays gone
gone_push : (terms : Terms) (history : List Entry) (e : Entry) → IsLegal terms history → MayFollow terms history e → gone_in history ≤ gone_in (history ++ e ∷ [])
gone_push terms history (Entry.Ask a) legal follows =
    let is : gone_in (history ++ Entry.Ask a ∷ []) ≡ sum_by is_gone (awards_of history ++ map (award_of (length history)) (sales_of a)) = ap (sum_by is_gone) (awards_ask terms history a legal) in
    omega (arith, is, sum_by-append is_gone (awards_of history) (map (award_of (length history)) (sales_of a)))
gone_push terms history (Entry.Win n) legal follows = omega (arith, gone_won history n follows)
gone_push terms history (Entry.Bill n) legal follows = omega (arith, gone_billed history n follows)
gone_push terms history (Entry.Loss n) legal follows = omega (arith, gone_lost history n follows)
gone_push terms history (Entry.Expire now) legal follows = omega (arith, gone_expired history now)
gone_push terms history (Entry.Budget k change budget) legal follows =
    let is : gone_in (history ++ Entry.Budget k change budget ∷ []) ≡ gone_in history = ap (sum_by is_gone) (awards_budget history k change budget) in
    omega (arith, is)

pub gone_front : (terms : Terms) (front rest : List Entry) → IsLegal terms (front ++ rest) → gone_in front ≤ gone_in (front ++ rest)
gone_front terms front [] legal = let same : gone_in (front ++ []) ≡ gone_in front = ap gone_in (append-nil front) in omega arith
gone_front terms front (e ∷ es) legal =
    let same : front ++ e ∷ [] ++ es ≡ front ++ e ∷ es = append_assoc front (e ∷ []) es in
    let one = gone_push terms front e (legal_front terms front (e ∷ es) legal) (legal_last terms front e es legal) in
    let rest = gone_front terms (front ++ e ∷ []) es (subst (IsLegal terms) (sym same) legal) in
    let all : gone_in (front ++ e ∷ [] ++ es) ≡ gone_in (front ++ e ∷ es) = ap gone_in same in
    omega (arith, one, rest, all)

-- a win and a bill move no committed money
committed_won : (history : List Entry) (n campaign : ℕ) → Counts NoticeKind.Win n (awards_of history) → committed (history ++ Entry.Win n ∷ []) campaign ≡ committed history campaign
committed_won history n campaign c =
    let ws : List Award = awards_of history in
    let next : List Award = awards_of (history ++ Entry.Win n ∷ []) in
    let is : sum_by (held campaign) next ≡ sum_by (held campaign) (noticed NoticeKind.Win n ws) = ap (sum_by (held campaign)) (awards_notice history NoticeKind.Win n c) in
    omega (arith, is, held_sum ws campaign, held_sum next campaign, changed_sum (held campaign) (noticed_award NoticeKind.Win) n ws c.award c.known)

committed_billed : (history : List Entry) (n campaign : ℕ) → Counts NoticeKind.Bill n (awards_of history) → committed (history ++ Entry.Bill n ∷ []) campaign ≡ committed history campaign
committed_billed history n campaign c =
    let ws : List Award = awards_of history in
    let next : List Award = awards_of (history ++ Entry.Bill n ∷ []) in
    let w : Award = c.award in
    let v : Award = noticed_award NoticeKind.Bill w in
    let none : w.end ≡ None = bill_of_open w.won w.end c.counted in
    let was : held campaign w ≡ own_charge campaign w = held_open campaign w none in
    let opened = charge_fails is_open campaign v refl in
    let billed = charge_passes is_billed campaign v refl in
    let is : sum_by (held campaign) next ≡ sum_by (held campaign) (noticed NoticeKind.Bill n ws) = ap (sum_by (held campaign)) (awards_notice history NoticeKind.Bill n c) in
    omega (arith, is, was, opened, billed, held_sum ws campaign, held_sum next campaign, changed_sum (held campaign) (noticed_award NoticeKind.Bill) n ws w c.known)

-- where nothing is gone after an entry, it moved no committed money, unless it is an ask
abbrev pub MovesNone : List Entry → Entry → Type 0
MovesNone history (Entry.Ask a) = Unit {0}
MovesNone history (Entry.Win n) = (campaign : ℕ) → committed (history ++ Entry.Win n ∷ []) campaign ≡ committed history campaign
MovesNone history (Entry.Bill n) = (campaign : ℕ) → committed (history ++ Entry.Bill n ∷ []) campaign ≡ committed history campaign
MovesNone history (Entry.Loss n) = ⊥
MovesNone history (Entry.Expire now) = ⊥
MovesNone history (Entry.Budget k change budget) =
    (campaign : ℕ) → committed (history ++ Entry.Budget k change budget ∷ []) campaign ≡ committed history campaign

pub moves_none : (terms : Terms) (history : List Entry) (e : Entry) → MayFollow terms history e → gone_in (history ++ e ∷ []) ≡ 0 → MovesNone history e
moves_none terms history (Entry.Ask a) follows none = tt
moves_none terms history (Entry.Win n) follows none = λ campaign. committed_won history n campaign follows
moves_none terms history (Entry.Bill n) follows none = λ campaign. committed_billed history n campaign follows
moves_none terms history (Entry.Loss n) follows none = omega (arith, none, gone_lost history n follows)
moves_none terms history (Entry.Expire now) follows none = omega (arith, none, gone_expired history now, follows.ends)
moves_none terms history (Entry.Budget k change budget) follows none = λ campaign. committed_budget history (change_of k change budget) campaign

-- rows whose awards are kept say that none is gone
kept_end : (end : Option AwardEnd) → keeps_award (Some (end_told end)) ≡ true → gone_by end ≡ 0
kept_end None h = refl
kept_end (Some AwardEnd.Billed) h = refl
kept_end (Some AwardEnd.Lost) h = absurd (false≢true h)
kept_end (Some AwardEnd.Expired) h = absurd (false≢true h)

pub told_kept : (rows : List ImpRow) (ws : List Award) → Told rows ws → list_all (λ (row : ImpRow). keeps_award row.end) rows ≡ true → sum_by is_gone ws ≡ 0
told_kept [] ws t kept = ap (sum_by is_gone) t
told_kept (row ∷ rows) ws t kept =
    let parts = and_parts (keeps_award row.end) (list_all (λ (row : ImpRow). keeps_award row.end) rows) kept in
    by row.chosen ws t parts.0 (λ ws t. told_kept rows ws t parts.1)
  where
    by : (o : Option ℕ) (ws : List Award) → TellsBy o row (Told rows) ws → keeps_award row.end ≡ true → ((ws : List Award) → Told rows ws → sum_by is_gone ws ≡ 0) → sum_by is_gone ws ≡ 0
    by None ws t here rest = rest ws t.1
    by (Some place) [] t here rest = absurd t
    by (Some place) (w ∷ ws) t here rest =
        let one : is_gone w ≡ 0 = kept_end w.end (ap keeps_award (sym t.0) ∙ here) in
        omega (arith, one, sum_by-cons is_gone w ws, rest ws t.2)
