-- How a day of serving begins: the first pass once two others were split from it, and an outbox that has followed nothing.
use Rattle.std.proofs.Common.{◌≡◌, ℕ, ◌+◌, List, [], ◌++◌, length, drop, true, Option, Some, Result, Ok, Err, OnOk, sym, ap, ◌∙◌, subst, append-nil}
use mathlib.Core.List.{IsPrefix}
use Rattle.adx_desk.specs.declared.shared.OpenedWith.{OpenedWith}
use Rattle.adx_links.specs.declared.link.Link as links
use Rattle.adx_units.specs.declared.memory.OutOfMemory.{OutOfMemory}
use Rattle.day_rules.specs.DayState.{IsDay}
use Rattle.day_rules.specs.Terms.{Terms}
use Rattle.day_rules.specs.declared.entry.Entry.{Entry}
use Rattle.desk_board.specs.Rooms.{FollowsUp, HasTended, IsTendedTo}
use Rattle.desk_board.specs.declared.mail.Mail.{Mail}
use Rattle.shared_desk.specs.Callers.{DeskPass}
use Rattle.shared_desk.specs.Idle.{IsIdle}
use Rattle.turnstile.specs.Passes.{IsOf, TurnstileState, first_pass, split_from}
use Rattle.exchange_serving.specs.Beginning.{IsBegun}

module _ (desk : TurnstileState OpenedWith) (history : List Entry) (faults : ℕ) (p q s one other : DeskPass) where
  -- before the second split
  pub once_split : p ≡ first_pass desk.id history faults desk.fixed → q ≡ record p { out = p.out + 1 } → IsOf q desk × (q.is_first ≡ true)
  once_split is first =
      let e : q ≡ record (first_pass desk.id history faults desk.fixed) { out = 1 } = first ∙ ap (λ (x : DeskPass). record x { out = x.out + 1 }) is in
      ((ap (λ (x : DeskPass). x.turnstile) e, ap (λ (x : DeskPass). x.fixed) e), ap (λ (x : DeskPass). x.is_first) e)

  pub begun : p ≡ first_pass desk.id history faults desk.fixed → q ≡ record p { out = p.out + 1 } → one ≡ split_from p → s ≡ record q { out = q.out + 1 } → other ≡ split_from q → IsBegun desk history s one other
  begun is first one_is second other_is =
      let e : q ≡ record (first_pass desk.id history faults desk.fixed) { out = 1 } = first ∙ ap (λ (x : DeskPass). record x { out = x.out + 1 }) is in
      let f : s ≡ record (first_pass desk.id history faults desk.fixed) { out = 2 } = second ∙ ap (λ (x : DeskPass). record x { out = x.out + 1 }) e in
      let g : one ≡ split_from (first_pass desk.id history faults desk.fixed) = one_is ∙ ap (λ (x : DeskPass). split_from x) is in
      let h : other ≡ split_from (first_pass desk.id history faults desk.fixed) = other_is ∙ ap (λ (x : DeskPass). split_from x) e in record {
        of = (ap (λ (x : DeskPass). x.turnstile) f, ap (λ (x : DeskPass). x.fixed) f);
        is_first = ap (λ (x : DeskPass). x.is_first) f;
        out = ap (λ (x : DeskPass). x.out) f;
        turns = ap (λ (x : DeskPass). x.turns) f;
        opening = ap (λ (x : DeskPass). x.opening) f ∙ sym (ap (λ (x : DeskPass). length x.seen) f);
        seen = sym (ap (λ (x : DeskPass). x.seen) f);
        one_idle = idle s one f g;
        other_idle = idle s other f h;
      }
    where
      idle : (a b : DeskPass) → a ≡ record (first_pass desk.id history faults desk.fixed) { out = 2 } → b ≡ split_from (first_pass desk.id history faults desk.fixed) → IsIdle a b
      idle a b x y = record {
        turnstile = ap (λ (v : DeskPass). v.turnstile) y ∙ sym (ap (λ (v : DeskPass). v.turnstile) x);
        fixed = ap (λ (v : DeskPass). v.fixed) y ∙ sym (ap (λ (v : DeskPass). v.fixed) x);
        split = ap (λ (v : DeskPass). v.is_first) y;
        none = ap (λ (v : DeskPass). v.turns) y;
        begins = ([], append-nil a.seen ∙ (ap (λ (v : DeskPass). v.seen) x ∙ sym (ap (λ (v : DeskPass). v.seen) y)));
      }

-- what has followed the history of a desk that is shared did so over its link as it is
pub has_own : {L : Type 0} (l : links.Ghosts L) (history seen : List Entry) (link : L) (mail : Mail L) → history ≡ seen → mail.link ≡ link → HasTended l history link mail → HasTended l seen mail.link mail
has_own {L} l history seen link mail same is has = subst (λ (es : List Entry). HasTended l es mail.link mail) same (subst (λ (x : L). HasTended l history x mail) (sym is) has)

-- and it has followed a front of what a pass beside the first one has seen
pub tended_to : {L : Type 0} (l : links.Ghosts L) (first was p : DeskPass) (link : Option L) (mail : Mail L) → first ≡ was → IsIdle was p → link ≡ Some mail.link → HasTended l first.seen mail.link mail → IsTendedTo l link p.seen mail
tended_to l first was p link mail same idle is has = record {
  before = mail.link;
  before_is = is;
  history = first.seen;
  begins = subst (λ (q : DeskPass). IsPrefix q.seen p.seen) (sym same) idle.begins;
  has = has;
}

-- an outbox that had followed nothing was to follow all of a desk's history
module _ {L : Type 0} (l : links.Ghosts L) (terms : Terms) (history entries : List Entry) (post : L) (old new : Mail L) (r : Result Unit OutOfMemory) where
  follows_it : entries ≡ drop 0 history → IsDay terms history → HasTended l [] post old →
      ((terms : Terms) (before : List Entry) (link : L) → IsDay terms (before ++ entries) → HasTended l before link old → FollowsUp l before entries link old new r) → FollowsUp l [] entries post old new r
  follows_it are day has follows = follows terms [] post (subst (IsDay terms) (sym are) day) has

  pub followed_all : entries ≡ drop 0 history → IsDay terms history → HasTended l [] post old → r ≡ Ok tt →
      ((terms : Terms) (before : List Entry) (link : L) → IsDay terms (before ++ entries) → HasTended l before link old → FollowsUp l before entries link old new r) → HasTended l history post new
  followed_all are day has done follows =
      let f = follows_it are day has follows in
      subst (λ (es : List Entry). HasTended l es post new) (all_of r (f.more ≡ entries) done f.all ∙ are) f.has
    where
      all_of : (r : Result Unit OutOfMemory) (P : Type 0) → r ≡ Ok tt → OnOk r P → P
      all_of (Ok x) P e p = p
      all_of (Err x) P e p = absurd (cc e)

  pub followed_link : entries ≡ drop 0 history → IsDay terms history → HasTended l [] post old → old.link ≡ post →
      ((terms : Terms) (before : List Entry) (link : L) → IsDay terms (before ++ entries) → HasTended l before link old → FollowsUp l before entries link old new r) → new.link ≡ post
  followed_link are day has is follows = (follows_it are day has follows).link_same ∙ is
