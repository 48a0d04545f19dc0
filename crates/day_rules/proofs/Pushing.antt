-- What an entry does to the awards of a history.
use Rattle.std.proofs.Common.{◌≡◌, ℕ, suc, ◌+◌, ◌<◌, ◌≤◌, List, [], ◌∷◌, ◌++◌, map, length, drop, Bool, true, false, cond, not, ◌&&◌, ◌||◌, eqb, ltb, refl, sym, ap, ◌∙◌, subst, arith, Option, Some, None, T, is_some, unwrap_or}
use Rattle.std.proofs.Math.Bool.{or-false}
use Rattle.std.specs.List.{All, enumerate_from, flat_map, filter_map, slice_get}
use Rattle.std.specs.Option.{option_or, option_map_or}
use Rattle.std.proofs.lemmas.List.{append-nil, drop-append-le}
use Rattle.std.proofs.lemmas.List.Elements.{filter_map-append, All-append, All-cons, All-head, All-tail, All-nil}
use Rattle.std.proofs.lemmas.List.Folds.{list_any-append}
use Rattle.std.proofs.lemmas.Grind.{flat_map-append}
use Rattle.std.proofs.lemmas.Bool.{eqb-true}
use Rattle.notice_book.specs.declared.award.Award.{Award}
use Rattle.notice_book.specs.declared.award.End.{End}
use Rattle.notice_book.specs.declared.kind.NoticeKind.{NoticeKind}
use Rattle.notice_book.specs.AwardList.{Counts, noticed, expired_by}
use Rattle.notice_book.specs.declared.ruling.Ruling.{Ruling}
use Rattle.notice_book.specs.Rules.{ruling_of, ruling, noticed_award, is_due, is_open, expired_award}
use Rattle.day_rules.specs.declared.ask.Ask.{Ask}
use Rattle.day_rules.specs.declared.entry.Entry.{Entry}
use Rattle.day_rules.specs.Entries.{notice_of, asked, counts, entry_of_notice}
use Rattle.day_rules.specs.Books.{made, made_by, award_of, sales_of, Sale, end_by, end_of, is_won, left_by, awards_of}
use Rattle.day_rules.proofs.Lists.{enumerate-append}

-- the awards of the entries before stay, and the entry makes its own
pub made_push : (history : List Entry) (e : Entry) → made (history ++ e ∷ []) ≡ made history ++ made_by (length history) e
made_push history e =
    let f : ℕ × Entry → List Award = λ p. made_by p.0 p.1 in
    ap (flat_map f) (enumerate-append 0 history (e ∷ []))
    ∙ (flat_map-append f (enumerate_from 0 history) ((0 + length history, e) ∷ [])
    ∙ ap (λ (t : List Award). made history ++ t) (append-nil (made_by (0 + length history) e) ∙ ap (λ k. made_by k e) (omega arith)))

first_of_two : (xs ys : List End) → slice_get (xs ++ ys) 0 ≡ option_or (slice_get xs 0) (slice_get ys 0)
first_of_two [] ys = refl
first_of_two (x ∷ xs) ys = refl

-- the end that one entry gives
only_end : (n : ℕ) (w : Award) (e : Entry) (o : Option End) → end_by n w e ≡ o → slice_get (filter_map (end_by n w) (e ∷ [])) 0 ≡ o
only_end n w e None h = rw h refl
only_end n w e (Some x) h = rw h refl

-- an award whose ask comes before the entry keeps its end, or the entry gives it one
pub end_push : (n : ℕ) (w : Award) (history : List Entry) (e : Entry) → w.ask < length history → end_of n w (history ++ e ∷ []) ≡ option_or (end_of n w history) (end_by n w e)
end_push n w history e within =
    ap (λ (es : List Entry). slice_get (filter_map (end_by n w) es) 0) (drop-append-le (w.ask + 1) history (e ∷ []) (omega arith))
    ∙ (ap (λ (ends : List End). slice_get ends 0) (filter_map-append (end_by n w) (drop (w.ask + 1) history) (e ∷ []))
    ∙ (first_of_two (filter_map (end_by n w) (drop (w.ask + 1) history)) (filter_map (end_by n w) (e ∷ []))
    ∙ ap (option_or (end_of n w history)) (only_end n w e (end_by n w e) refl)))

pub won_push : (n : ℕ) (history : List Entry) (e : Entry) → is_won n (history ++ e ∷ []) ≡ (is_won n history || counts (notice_of NoticeKind.Win n) e)
won_push n history e =
    let p : Entry → Bool = counts (notice_of NoticeKind.Win n) in
    list_any-append p history (e ∷ []) ∙ ap (λ (b : Bool). is_won n history || b) (or-false (p e))

-- every award's ask is in the history
placed : (place bound : ℕ) (sales : List Sale) → place < bound → All (λ w. w.ask < bound) (map (award_of place) sales)
placed place bound [] h = All-nil (λ (w : Award). w.ask < bound)
placed place bound (x ∷ xs) h = All-cons (λ (w : Award). w.ask < bound) (award_of place x) (map (award_of place) xs) h (placed place bound xs h)

placed_by : (place bound : ℕ) (o : Option Ask) → place < bound → All (λ w. w.ask < bound) (option_map_or (λ a. map (award_of place) (sales_of a)) o [])
placed_by place bound None h = All-nil (λ (w : Award). w.ask < bound)
placed_by place bound (Some a) h = placed place bound (sales_of a) h

made_from : (from bound : ℕ) (history : List Entry) → from + length history ≤ bound → All (λ w. w.ask < bound) (flat_map (λ (p : ℕ × Entry). made_by p.0 p.1) (enumerate_from from history))
made_from from bound [] h = All-nil (λ (w : Award). w.ask < bound)
made_from from bound (e ∷ es) h =
    All-append (λ (w : Award). w.ask < bound) (made_by from e) (flat_map (λ (p : ℕ × Entry). made_by p.0 p.1) (enumerate_from (from + 1) es))
    (placed_by from bound (asked e) (omega arith)) (made_from (from + 1) bound es (omega arith))

pub made_before : (history : List Entry) → All (λ w. w.ask < length history) (made history)
made_before history = made_from 0 (length history) history (omega arith)

-- the award with that number after one more entry
abbrev pub after_entry : Entry → ℕ × Award → Award
after_entry e p = record p.1 { won = p.1.won || counts (notice_of NoticeKind.Win p.0) e; end = option_or p.1.end (end_by p.0 p.1 e) }

left_push : (history : List Entry) (e : Entry) (n : ℕ) (w : Award) → w.ask < length history → left_by (history ++ e ∷ []) (n, w) ≡ after_entry e (n, left_by history (n, w))
left_push history e n w within =
    ap (λ (b : Bool). record w { won = b; end = end_of n w (history ++ e ∷ []) }) (won_push n history e)
    ∙ ap (λ (o : Option End). record w { won = is_won n history || counts (notice_of NoticeKind.Win n) e; end = o }) (end_push n w history e within)

pub left_all : (history : List Entry) (e : Entry) (n : ℕ) (ws : List Award) → All (λ w. w.ask < length history) ws → map (left_by (history ++ e ∷ [])) (enumerate_from n ws) ≡ map (after_entry e) (enumerate_from n (map (left_by history) (enumerate_from n ws)))
left_all history e n [] h = refl
left_all history e n (w ∷ ws) h =
    let P : Award → Type 0 = λ w. w.ask < length history in
    ap (λ (x : Award). x ∷ map (left_by (history ++ e ∷ [])) (enumerate_from (n + 1) ws)) (left_push history e n w (All-head P w ws h))
    ∙ ap (λ (t : List Award). after_entry e (n, left_by history (n, w)) ∷ t) (left_all history e (n + 1) ws (All-tail P w ws h))

-- an entry that makes no award changes each award by itself
pub awards_push : (history : List Entry) (e : Entry) → asked e ≡ None → awards_of (history ++ e ∷ []) ≡ map (after_entry e) (enumerate_from 0 (awards_of history))
unfolding awards_of
awards_push history e none =
    let same : made (history ++ e ∷ []) ≡ made history =
    made_push history e
    ∙ (ap (λ (o : Option Ask). made history ++ option_map_or (λ a. map (award_of (length history)) (sales_of a)) o []) none
    ∙ append-nil (made history)) in
    ap (λ (ws : List Award). map (left_by (history ++ e ∷ [])) (enumerate_from 0 ws)) same
    ∙ left_all history e 0 (made history) (made_before history)

-- a moment ends the awards that are due
moment_by : (w : Award) (won : Bool) (end : Option End) (b : Bool) → record w { won = won || false; end = option_or end (cond b (Some End.Expired) None) } ≡ cond (is_open end && b) (record w { won = won; end = Some End.Expired }) (record w { won = won; end = end })
moment_by w true None true = refl
moment_by w true None false = refl
moment_by w true (Some x) b = refl
moment_by w false None true = refl
moment_by w false None false = refl
moment_by w false (Some x) b = refl

moment_all : (now n : ℕ) (ws : List Award) → map (after_entry (Entry.Expire now)) (enumerate_from n ws) ≡ expired_by now ws
moment_all now n [] = refl
moment_all now n (w ∷ ws) =
    ap (λ (x : Award). x ∷ map (after_entry (Entry.Expire now)) (enumerate_from (n + 1) ws)) (moment_by w w.won w.end (ltb w.deadline now))
    ∙ ap (λ (t : List Award). (cond (is_due now w) (expired_award w) w) ∷ t) (moment_all now (n + 1) ws)

pub awards_moment : (history : List Entry) (now : ℕ) → awards_of (history ++ Entry.Expire now ∷ []) ≡ expired_by now (awards_of history)
awards_moment history now = awards_push history (Entry.Expire now) refl ∙ moment_all now 0 (awards_of history)

pub map_same : {X Y : Type 0} (f g : ℕ × X → Y) (n : ℕ) (xs : List X) → ((k : ℕ) (x : X) → slice_get xs k ≡ Some x → f (n + k, x) ≡ g (n + k, x)) → map f (enumerate_from n xs) ≡ map g (enumerate_from n xs)
map_same f g n [] h = refl
map_same {X} {Y} f g n (x ∷ xs) h =
    let first : f (n, x) ≡ g (n, x) = subst (λ k. f (k, x) ≡ g (k, x)) (omega arith) (h 0 x refl) in
    let rest = map_same f g (n + 1) xs (λ k y e. subst (λ m. f (m, y) ≡ g (m, y)) (omega arith) (h (suc k) y e)) in
    ap (λ (y : Y). y ∷ map f (enumerate_from (n + 1) xs)) first ∙ ap (λ (t : List Y). g (n, x) ∷ t) rest

-- a counted notice at one award: a win, and a bill or a loss of an open one
win_at : (w : Award) (won b : Bool) (end : Option End) → record w { won = won || b; end = option_or end (option_or (cond {A = Option End} b None None) None) } ≡ cond b (record w { won = true; end = end }) (record w { won = won; end = end })
win_at w true true None = refl
win_at w true true (Some x) = refl
win_at w true false None = refl
win_at w true false (Some x) = refl
win_at w false true None = refl
win_at w false true (Some x) = refl
win_at w false false None = refl
win_at w false false (Some x) = refl

no_some : {X : Type 0} (y : X) → Some y ≡ None → ⊥
no_some y e = subst (λ (o : Option _). T (is_some o)) e tt

end_at : (w : Award) (won b : Bool) (end : Option End) (x : End) → (b ≡ true → end ≡ None) → record w { won = won || false; end = option_or end (option_or (cond b (Some x) None) None) } ≡ cond b (record w { won = won; end = Some x }) (record w { won = won; end = end })
end_at w true true None x h = refl
end_at w false true None x h = refl
end_at w true true (Some y) x h = absurd (no_some y (h refl))
end_at w false true (Some y) x h = absurd (no_some y (h refl))
end_at w true false None x h = refl
end_at w false false None x h = refl
end_at w true false (Some y) x h = refl
end_at w false false (Some y) x h = refl

abbrev pub is_counted : Ruling → Bool
is_counted Ruling.Counted = true
is_counted Ruling.Repeat = false
is_counted (Ruling.Conflict x) = false

pub bill_of_open : (won : Bool) (end : Option End) → ruling NoticeKind.Bill won end ≡ Ruling.Counted → end ≡ None
bill_of_open won None e = refl
bill_of_open won (Some End.Billed) e = absurd (subst (λ r. T (not (is_counted r))) e tt)
bill_of_open won (Some End.Lost) e = absurd (subst (λ r. T (not (is_counted r))) e tt)
bill_of_open won (Some End.Expired) e = absurd (subst (λ r. T (not (is_counted r))) e tt)

pub loss_of_open : (won : Bool) (end : Option End) → ruling NoticeKind.Loss won end ≡ Ruling.Counted → end ≡ None
loss_of_open won None e = refl
loss_of_open won (Some End.Billed) e = absurd (subst (λ r. T (not (is_counted r))) e tt)
loss_of_open won (Some End.Lost) e = absurd (subst (λ r. T (not (is_counted r))) e tt)
loss_of_open won (Some End.Expired) e = absurd (subst (λ r. T (not (is_counted r))) e tt)

notice_one : (kind : NoticeKind) (n k : ℕ) (w : Award) → (eqb k n ≡ true → ruling_of kind w ≡ Ruling.Counted) → after_entry (entry_of_notice kind n) (k, w) ≡ cond (eqb k n) (noticed_award kind w) w
notice_one NoticeKind.Win n k w h = win_at w w.won (eqb k n) w.end
notice_one NoticeKind.Bill n k w h = end_at w w.won (eqb k n) w.end End.Billed (λ t. bill_of_open w.won w.end (h t))
notice_one NoticeKind.Loss n k w h = end_at w w.won (eqb k n) w.end End.Lost (λ t. loss_of_open w.won w.end (h t))

pub makes_none : (kind : NoticeKind) (n : ℕ) → asked (entry_of_notice kind n) ≡ None
makes_none NoticeKind.Win n = refl
makes_none NoticeKind.Bill n = refl
makes_none NoticeKind.Loss n = refl

counted_here : (kind : NoticeKind) (n k : ℕ) (awards : List Award) (w : Award) → Counts kind n awards → slice_get awards k ≡ Some w → eqb k n ≡ true → ruling_of kind w ≡ Ruling.Counted
counted_here kind n k awards w c at same =
    let k_is : k ≡ n = eqb-true k n same in
    let found : Some c.award ≡ Some w = sym c.known ∙ (ap (λ m. slice_get awards m) (sym k_is) ∙ at) in
    subst (λ (v : Award). ruling_of kind v ≡ Ruling.Counted) (ap (λ (o : Option Award). unwrap_or o w) found) c.counted

-- a counted notice changes its award, and no other
pub awards_notice : (history : List Entry) (kind : NoticeKind) (n : ℕ) → Counts kind n (awards_of history) → awards_of (history ++ entry_of_notice kind n ∷ []) ≡ noticed kind n (awards_of history)
awards_notice history kind n c =
    awards_push history (entry_of_notice kind n) (makes_none kind n)
    ∙ map_same (after_entry (entry_of_notice kind n)) (λ (p : ℕ × Award). cond (eqb p.0 n) (noticed_award kind p.1) p.1) 0 (awards_of history)
    (λ k w at. subst (λ m. after_entry (entry_of_notice kind n) (m, w) ≡ cond (eqb m n) (noticed_award kind w) w) (omega arith) (notice_one kind n k w (counted_here kind n k (awards_of history) w c at)))
