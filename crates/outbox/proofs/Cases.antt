-- What a row is behind a notice or a moment, and which posts it gives: by the cases of its award and of its URLs.
use Rattle.std.proofs.Common.{◌≡◌, ℕ, List, [], ◌∷◌, length, Bool, true, false, ◌&&◌, ◌||◌, not, cond, refl, sym, ap, ◌∙◌, subst, T, Option, Some, None, ltb, eqb, suc, arith}
use Rattle.std.proofs.lemmas.Bool.Decides.{nat_tests}
use Rattle.std.specs.Option.{is_some, option_and_then, option_map_or}
use Rattle.notice_book.specs.declared.award.Award.{Award}
use Rattle.notice_book.specs.declared.award.End.{End}
use Rattle.notice_book.specs.declared.kind.NoticeKind.{NoticeKind}
use Rattle.notice_book.specs.declared.ruling.Ruling.{Ruling}
use Rattle.notice_book.specs.Rules.{expired_award, is_due, is_open, may_end, may_win, ruling, ruling_of}
use Rattle.notice_macros.specs.declared.values.Values.{Values}
use Rattle.notice_macros.specs.Expansion.{url_expansion}
use Rattle.day_rules.proofs.Pushing.{bill_of_open, is_counted, loss_of_open}
use Rattle.outbox.specs.declared.post.Post.{Post}
use Rattle.outbox.specs.declared.post.PostKind.{PostKind}
use Rattle.outbox.specs.declared.row.Row.{Row}
use Rattle.outbox.specs.Bids.{Bid}
use Rattle.outbox.specs.Posts.{bill_post, loss_post, post_of, values_of, win_post}
use Rattle.outbox.specs.Rows.{deadline_of, is_some_text, row_bill, row_loss, row_of, row_win, row_with}
use Rattle.outbox.specs.Keeping.{beside, billed_row, won_row}

-- whether a bid has a URL that an end asks for, and one that a win asks for
abbrev pub has_end_url : Bid → Bool
has_end_url b = is_some_text b.texts.burl || is_some_text b.texts.lurl

abbrev pub has_win_url : Bid → Bool
has_win_url b = is_some_text b.texts.nurl

-- a row and a deadline by these two answers
abbrev pub stays_by : Bool → Bool → Award → Bool
stays_by x y w = (may_end w && x) || (may_win w && y)

abbrev pub row_by_urls : Bool → Bool → Bid → Award → Option Row
row_by_urls x y b w = cond (stays_by x y w) (Some (row_with (b, w))) None

abbrev pub deadline_by_urls : Bool → Bool → Award → Option ℕ
deadline_by_urls x y w = cond (is_open w.end && stays_by x y w) (Some w.deadline) None

abbrev won_by : Bool → Bool → Row → Option Row
won_by x is_open r = cond (is_open && x) (Some (record r { won = true })) None

abbrev billed_by : Bool → Row → Option Row
billed_by y r = cond (not r.won && y) (Some r) None

-- the award with a mark and an end
abbrev with_state : Award → Bool → Option End → Award
with_state w won end = record w { won = won; end = end }

not_counted : {X : Type 0} (r : Ruling) → is_counted r ≡ false → r ≡ Ruling.Counted → X
not_counted r other e = absurd (subst T (ap is_counted (sym e) ∙ other) tt)

won_rows : (x y : Bool) (b : Bid) (w : Award) (end : Option End) → ruling NoticeKind.Win false end ≡ Ruling.Counted → option_and_then (won_by x (is_some (deadline_by_urls x y (with_state w false end)))) (row_by_urls x y b (with_state w false end)) ≡ row_by_urls x y b (with_state w true end)
won_rows true true b w None c = refl
won_rows true false b w None c = refl
won_rows false true b w None c = refl
won_rows false false b w None c = refl
won_rows true true b w (Some End.Billed) c = refl
won_rows true false b w (Some End.Billed) c = refl
won_rows false true b w (Some End.Billed) c = refl
won_rows false false b w (Some End.Billed) c = refl
won_rows x y b w (Some End.Lost) c = not_counted (Ruling.Conflict End.Lost) refl c
won_rows x y b w (Some End.Expired) c = not_counted (Ruling.Conflict End.Expired) refl c

won_deadlines : (x y : Bool) (b : Bid) (w : Award) (end : Option End) → ruling NoticeKind.Win false end ≡ Ruling.Counted → beside (option_and_then (won_by x (is_some (deadline_by_urls x y (with_state w false end)))) (row_by_urls x y b (with_state w false end))) (deadline_by_urls x y (with_state w false end)) ≡ deadline_by_urls x y (with_state w true end)
won_deadlines true true b w None c = refl
won_deadlines true false b w None c = refl
won_deadlines false true b w None c = refl
won_deadlines false false b w None c = refl
won_deadlines true true b w (Some End.Billed) c = refl
won_deadlines true false b w (Some End.Billed) c = refl
won_deadlines false true b w (Some End.Billed) c = refl
won_deadlines false false b w (Some End.Billed) c = refl
won_deadlines x y b w (Some End.Lost) c = not_counted (Ruling.Conflict End.Lost) refl c
won_deadlines x y b w (Some End.Expired) c = not_counted (Ruling.Conflict End.Expired) refl c

pub not_won : (won : Bool) (end : Option End) → ruling NoticeKind.Win won end ≡ Ruling.Counted → won ≡ false
not_won false end c = refl
not_won true end c = not_counted Ruling.Repeat refl c

same_on : (f g : Row → Option Row) (x : Bool) (r : Row) → f r ≡ g r → option_and_then f (cond x (Some r) None) ≡ option_and_then g (cond x (Some r) None)
same_on f g true r e = e
same_on f g false r e = refl

-- a won row is the same by what it has and by what its bid has
won_same : (b : Bid) (w : Award) (d : Bool) → option_and_then (won_row d) (row_of (b, w)) ≡ option_and_then (won_by (has_end_url b) d) (row_of (b, w))
won_same b w d = same_on (won_row d) (won_by (has_end_url b) d) (stays_by (has_end_url b) (has_win_url b) w) (row_with (b, w)) refl

-- a win that counts
pub win_row : (b : Bid) (w : Award) → ruling_of NoticeKind.Win w ≡ Ruling.Counted → option_and_then (won_row (is_some (deadline_of (b, w)))) (row_of (b, w)) ≡ row_of (b, record w { won = true })
win_row b w c =
    let e = not_won w.won w.end c in
    subst (λ (v : Bool). option_and_then (won_row (is_some (deadline_of (b, with_state w v w.end)))) (row_of (b, with_state w v w.end)) ≡ row_of (b, with_state w true w.end)) (sym e)
    (won_same b (with_state w false w.end) (is_some (deadline_of (b, with_state w false w.end)))
    ∙ won_rows (has_end_url b) (has_win_url b) b w w.end (subst (λ v. ruling NoticeKind.Win v w.end ≡ Ruling.Counted) e c))

pub win_deadline : (b : Bid) (w : Award) → ruling_of NoticeKind.Win w ≡ Ruling.Counted → beside (option_and_then (won_row (is_some (deadline_of (b, w)))) (row_of (b, w))) (deadline_of (b, w)) ≡ deadline_of (b, record w { won = true })
win_deadline b w c =
    let e = not_won w.won w.end c in
    subst (λ (v : Bool). beside (option_and_then (won_row (is_some (deadline_of (b, with_state w v w.end)))) (row_of (b, with_state w v w.end))) (deadline_of (b, with_state w v w.end)) ≡ deadline_of (b, with_state w true w.end)) (sym e)
    (ap (λ (o : Option Row). beside o (deadline_of (b, with_state w false w.end))) (won_same b (with_state w false w.end) (is_some (deadline_of (b, with_state w false w.end))))
    ∙ won_deadlines (has_end_url b) (has_win_url b) b w w.end (subst (λ v. ruling NoticeKind.Win v w.end ≡ Ruling.Counted) e c))

billed_rows : (x y won : Bool) (b : Bid) (w : Award) → option_and_then (billed_by y) (row_by_urls x y b (with_state w won None)) ≡ row_by_urls x y b (with_state w won (Some End.Billed))
billed_rows true true true b w = refl
billed_rows true true false b w = refl
billed_rows true false true b w = refl
billed_rows true false false b w = refl
billed_rows false true true b w = refl
billed_rows false true false b w = refl
billed_rows false false true b w = refl
billed_rows false false false b w = refl

-- a bill that counts
pub bill_row : (b : Bid) (w : Award) → ruling_of NoticeKind.Bill w ≡ Ruling.Counted → option_and_then billed_row (row_of (b, w)) ≡ row_of (b, record w { end = Some End.Billed })
bill_row b w c =
    subst (λ (o : Option End). option_and_then billed_row (row_of (b, with_state w w.won o)) ≡ row_of (b, with_state w w.won (Some End.Billed))) (sym (bill_of_open w.won w.end c))
    (same_on billed_row (billed_by (has_win_url b)) (stays_by (has_end_url b) (has_win_url b) (with_state w w.won None)) (row_with (b, with_state w w.won None)) refl
    ∙ billed_rows (has_end_url b) (has_win_url b) w.won b w)

-- an award that is lost or expired
gone_rows : (x y won : Bool) (b : Bid) (w : Award) → row_by_urls x y b (with_state w won (Some End.Lost)) ≡ None
gone_rows x y true b w = refl
gone_rows x y false b w = refl

pub lost_row : (b : Bid) (w : Award) → row_of (b, record w { end = Some End.Lost }) ≡ None
lost_row b w = gone_rows (has_end_url b) (has_win_url b) w.won b w

-- a moment: t says that the deadline is before it
due_rows : (x y won t : Bool) (b : Bid) (w : Award) (end : Option End) → cond (is_open end && stays_by x y (with_state w won end) && t) None (row_by_urls x y b (with_state w won end)) ≡ row_by_urls x y b (cond (is_open end && t) (expired_award (with_state w won end)) (with_state w won end))
due_rows x y won t b w (Some e) = refl
due_rows x y won false b w None = still x y won b w
  where
    still : (x y won : Bool) (b : Bid) (w : Award) → cond (stays_by x y (with_state w won None) && false) None (row_by_urls x y b (with_state w won None)) ≡ row_by_urls x y b (with_state w won None)
    still true y won b w = refl
    still false true true b w = refl
    still false true false b w = refl
    still false false true b w = refl
    still false false false b w = refl
due_rows true y true true b w None = refl
due_rows true y false true b w None = refl
due_rows false true true true b w None = refl
due_rows false true false true b w None = refl
due_rows false false true true b w None = refl
due_rows false false false true b w None = refl

-- whether an award that is kept is due
abbrev pub is_kept_due : ℕ → Bid × Award → Bool
is_kept_due now p = option_map_or (λ d. ltb d now) (deadline_of p) false

pub due_by : (x t : Bool) (d : ℕ) (f : ℕ → Bool) → f d ≡ t → option_map_or f (cond x (Some d) None) false ≡ (x && t)
due_by true t d f e = e
due_by false t d f e = refl

pub moment_row : (now : ℕ) (b : Bid) (w : Award) → cond (is_kept_due now (b, w)) None (row_of (b, w)) ≡ row_of (b, cond (is_due now w) (expired_award w) w)
moment_row now b w =
    ap (λ (v : Bool). cond v None (row_of (b, w))) (due_by (is_open w.end && stays_by (has_end_url b) (has_win_url b) w) (ltb w.deadline now) w.deadline (λ d. ltb d now) refl)
    ∙ due_rows (has_end_url b) (has_win_url b) w.won (ltb w.deadline now) b w w.end

due_deadlines : (x y won t : Bool) (w : Award) (end : Option End) → cond (is_open end && stays_by x y (with_state w won end) && t) None (deadline_by_urls x y (with_state w won end)) ≡ deadline_by_urls x y (cond (is_open end && t) (expired_award (with_state w won end)) (with_state w won end))
due_deadlines x y won t w (Some e) = refl
due_deadlines true y won true w None = refl
due_deadlines true y won false w None = refl
due_deadlines false true true true w None = refl
due_deadlines false true true false w None = refl
due_deadlines false true false true w None = refl
due_deadlines false true false false w None = refl
due_deadlines false false true true w None = refl
due_deadlines false false true false w None = refl
due_deadlines false false false true w None = refl
due_deadlines false false false false w None = refl

pub moment_deadline : (now : ℕ) (b : Bid) (w : Award) → cond (is_kept_due now (b, w)) None (deadline_of (b, w)) ≡ deadline_of (b, cond (is_due now w) (expired_award w) w)
moment_deadline now b w =
    ap (λ (v : Bool). cond v None (deadline_of (b, w))) (due_by (is_open w.end && stays_by (has_end_url b) (has_win_url b) w) (ltb w.deadline now) w.deadline (λ d. ltb d now) refl)
    ∙ due_deadlines (has_end_url b) (has_win_url b) w.won (ltb w.deadline now) w w.end

-- ---- posts

not_none : (n : ℕ) → not (eqb (suc n) 0) ≡ false → ⊥
not_none n e = grind (arith, nat_tests)

no_text : (t : List ℕ) → is_some_text t ≡ false → t ≡ []
no_text [] e = refl
no_text (x ∷ xs) e = absurd (not_none (length xs) e)

pub no_post : (place : ℕ) (kind : PostKind) (v : Values) (t : List ℕ) → is_some_text t ≡ false → post_of place kind (url_expansion v t) ≡ []
no_post place kind v t e = ap (λ (u : List ℕ). post_of place kind (url_expansion v u)) (no_text t e)

or_left : (x y : Bool) → (x || y) ≡ false → x ≡ false
or_left false y e = refl
or_left true y e = absurd (subst T e tt)

or_right : (x y : Bool) → (x || y) ≡ false → y ≡ false
or_right false y e = e
or_right true y e = absurd (subst T e tt)

-- what a row gives where a URL of the bid is missing that would keep it
posts_won : (x y : Bool) (b : Bid) (w : Award) (end : Option End) (f : Row → List Post) (ps : List Post) → ruling NoticeKind.Win false end ≡ Ruling.Counted → f (row_with (b, with_state w false end)) ≡ ps → (y ≡ false → ps ≡ []) → option_map_or f (row_by_urls x y b (with_state w false end)) [] ≡ ps
posts_won x true b w None f ps c same none = kept_anyway x
  where
    kept_anyway : (x : Bool) → option_map_or f (row_by_urls x true b (with_state w false None)) [] ≡ ps
    kept_anyway true = same
    kept_anyway false = same
posts_won true false b w None f ps c same none = same
posts_won false false b w None f ps c same none = sym (none refl)
posts_won x true b w (Some End.Billed) f ps c same none = same
posts_won x false b w (Some End.Billed) f ps c same none = sym (none refl)
posts_won x y b w (Some End.Lost) f ps c same none = not_counted (Ruling.Conflict End.Lost) refl c
posts_won x y b w (Some End.Expired) f ps c same none = not_counted (Ruling.Conflict End.Expired) refl c

posts_ended : (x y won : Bool) (b : Bid) (w : Award) (f : Row → List Post) (ps : List Post) → f (row_with (b, with_state w won None)) ≡ ps → (x ≡ false → ps ≡ []) → option_map_or f (row_by_urls x y b (with_state w won None)) [] ≡ ps
posts_ended true y won b w f ps same none = same
posts_ended false true true b w f ps same none = sym (none refl)
posts_ended false true false b w f ps same none = same
posts_ended false false true b w f ps same none = sym (none refl)
posts_ended false false false b w f ps same none = sym (none refl)

pub win_posts : (place : ℕ) (b : Bid) (w : Award) → ruling_of NoticeKind.Win w ≡ Ruling.Counted → option_map_or (row_win place) (row_of (b, w)) [] ≡ win_post place b
win_posts place b w c =
    let e = not_won w.won w.end c in
    subst (λ (v : Bool). option_map_or (row_win place) (row_of (b, with_state w v w.end)) [] ≡ win_post place b) (sym e)
    (posts_won (has_end_url b) (has_win_url b) b w w.end (row_win place) (win_post place b) (subst (λ v. ruling NoticeKind.Win v w.end ≡ Ruling.Counted) e c) refl (no_post place PostKind.Nurl (values_of b (Some b.charge) 0) b.texts.nurl))

pub open_posts : (b : Bid) (w : Award) (f : Row → List Post) (ps : List Post) → w.end ≡ None → ((v : Award) → f (row_with (b, v)) ≡ ps) → (has_end_url b ≡ false → ps ≡ []) → option_map_or f (row_of (b, w)) [] ≡ ps
open_posts b w f ps still same none =
    subst (λ (o : Option End). option_map_or f (row_of (b, with_state w w.won o)) [] ≡ ps) (sym still)
    (posts_ended (has_end_url b) (has_win_url b) w.won b w f ps (same (with_state w w.won None)) none)

pub bill_posts : (place : ℕ) (b : Bid) (w : Award) → ruling_of NoticeKind.Bill w ≡ Ruling.Counted → option_map_or (row_bill place) (row_of (b, w)) [] ≡ bill_post place b
bill_posts place b w c =
    open_posts b w (row_bill place) (bill_post place b) (bill_of_open w.won w.end c) (λ v. refl)
    (λ e. no_post place PostKind.Burl (values_of b (Some b.charge) 0) b.texts.burl (or_left (is_some_text b.texts.burl) (is_some_text b.texts.lurl) e))

pub loss_none : (place loss : ℕ) (b : Bid) → has_end_url b ≡ false → loss_post place loss b ≡ []
loss_none place loss b e = no_post place PostKind.Lurl (values_of b None loss) b.texts.lurl (or_right (is_some_text b.texts.burl) (is_some_text b.texts.lurl) e)

pub loss_posts : (place loss : ℕ) (b : Bid) (w : Award) → ruling_of NoticeKind.Loss w ≡ Ruling.Counted → option_map_or (row_loss place loss) (row_of (b, w)) [] ≡ loss_post place loss b
loss_posts place loss b w c =
    open_posts b w (row_loss place loss) (loss_post place loss b) (loss_of_open w.won w.end c) (λ v. refl) (loss_none place loss b)

-- what a moment tells of an award, by its row
due_posts_by : (x y won t : Bool) (b : Bid) (w : Award) (end : Option End) (f : Row → List Post) (ps : List Post) → ((v : Award) → f (row_with (b, v)) ≡ ps) → (x ≡ false → ps ≡ []) → cond (is_open end && stays_by x y (with_state w won end) && t) (option_map_or f (row_by_urls x y b (with_state w won end)) []) [] ≡ cond (is_open end && t) ps []
due_posts_by x y won t b w (Some e) f ps same none = refl
due_posts_by true y won true b w None f ps same none = same (with_state w won None)
due_posts_by true y won false b w None f ps same none = refl
due_posts_by false true true true b w None f ps same none = sym (none refl)
due_posts_by false true true false b w None f ps same none = refl
due_posts_by false true false true b w None f ps same none = same (with_state w false None)
due_posts_by false true false false b w None f ps same none = refl
due_posts_by false false true true b w None f ps same none = sym (none refl)
due_posts_by false false true false b w None f ps same none = refl
due_posts_by false false false true b w None f ps same none = sym (none refl)
due_posts_by false false false false b w None f ps same none = refl

pub due_posts : (place loss now : ℕ) (b : Bid) (w : Award) → cond (is_open w.end && stays_by (has_end_url b) (has_win_url b) w && ltb w.deadline now) (option_map_or (row_loss place loss) (row_of (b, w)) []) [] ≡ cond (is_due now w) (loss_post place loss b) []
due_posts place loss now b w =
    due_posts_by (has_end_url b) (has_win_url b) w.won (ltb w.deadline now) b w w.end (row_loss place loss) (loss_post place loss b) (λ v. refl) (loss_none place loss b)
