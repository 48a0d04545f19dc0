-- Which lanes are whose, and what a round leaves of a worker.
use Rattle.std.proofs.Common.{◌≡◌, ℕ, List, [], ◌∷◌, ◌++◌, length, slice_get, All, Bool, false, Option, Some, Vec, refl, sym, ap, ◌∙◌, subst, append_assoc, option_to_list, arith}
use Rattle.std.proofs.Common.{Global}
use Rattle.std.proofs.lemmas.List.{map-append}
use Rattle.std.proofs.lemmas.List.Elements.{All-pop}
use mathlib.Core.List.{IsPrefix}
use Rattle.adx_links.specs.Pairs.{IsNew, PairTold}
use Rattle.adx_desk.specs.declared.shared.OpenedWith.{OpenedWith}
use Rattle.day_rules.specs.declared.entry.Entry.{Entry}
use Rattle.adx_links.specs.declared.link.Link as links
use Rattle.deal_floor.specs.declared.roster.Roster.{Roster}
use Rattle.exchange_messages.specs.Floors.{AreLanes, IsMomentOf}
use Rattle.fan_out.specs.declared.lane.Lane.{Lane}
use Rattle.exchange_serving.specs.Lanes.{lists_of}
use Rattle.adx_links.specs.Serving.{IsBeside, IsFresh}
use Rattle.logbook.specs.Pages.{Book}
use Rattle.shared_desk.specs.Callers.{DeskPass}
use Rattle.turnstile.specs.Passes.{IsOf, TurnstileState}
use Rattle.exchange_serving.specs.Rounds.{AreOwn, IsRound, IsServedIn, IsWorker}
use Rattle.exchange_serving.proofs.Rounds.{own_on, served_of}

module _ {X : Type 0} where
  -- the list at the end of a front
  at_end : (front all : List X) (x : X) → IsPrefix (front ++ x ∷ []) all → slice_get all (length front) ≡ Some x
  at_end front all x p = subst (λ (l : List X). slice_get l (length front) ≡ Some x) p.1 (go front p.0)
    where
      go : (front rest : List X) → slice_get ((front ++ x ∷ []) ++ rest) (length front) ≡ Some x
      go [] rest = refl
      go (y ∷ front) rest = go front rest

module _ {L : Type 0} (l : links.Ghosts L) (IsMoment : ℕ → Type 0) (r : Roster) (workers : List (List (Lane L))) where
  -- what is left where the last list was taken
  pub popped : (before left : List (Vec (Lane L) Global)) (o : Option (Vec (Lane L) Global)) → before ≡ left ++ option_to_list o → IsPrefix (lists_of before) workers → IsPrefix (lists_of left) workers
  popped before left o is p =
      let both : lists_of before ≡ lists_of left ++ lists_of (option_to_list o) = ap lists_of is ∙ map-append (λ (v : Vec (Lane L) Global). v.items) left (option_to_list o) in
      (lists_of (option_to_list o) ++ p.0, sym (append_assoc (lists_of left) (lists_of (option_to_list o)) p.0) ∙ (ap (λ (ls : List (List (Lane L))). ls ++ p.0) (sym both) ∙ p.1))

  pub popped_lanes : (before left : List (Vec (Lane L) Global)) (v : Vec (Lane L) Global) → before ≡ left ++ v ∷ [] → All (AreLanes r) (lists_of before) →
      All (AreLanes r) (lists_of left) × AreLanes r v.items
  popped_lanes before left v is all =
      All-pop (AreLanes r) (lists_of before) (lists_of left) (Some v.items) (ap lists_of is ∙ map-append (λ (v : Vec (Lane L) Global). v.items) left (v ∷ [])) all

  -- the last list is one worker's
  pub popped_own : (opened : List Entry) (known : ℕ) (before left : List (Vec (Lane L) Global)) (v : Vec (Lane L) Global) → before ≡ left ++ v ∷ [] → IsPrefix (lists_of before) workers → All (AreLanes r) (lists_of before) →
      AreOwn l IsMoment r opened workers v.items known
  popped_own opened known before left v is p all = record {
    are = (popped_lanes before left v is all).1;
    worker = length (lists_of left);
    came_with = v.items;
    is_worker = at_end (lists_of left) workers v.items (subst (λ (ls : List (List (Lane L))). IsPrefix ls workers) (ap lists_of is ∙ map-append (λ (v : Vec (Lane L) Global). v.items) left (v ∷ [])) p);
    earlier = [];
    are_left = refl;
    shown = omega arith;
  }

module _ {L : Type 0} (l : links.Ghosts L) (told moment : Option ℕ) (roster : Option Roster) (workers : List (List (Lane L))) (first : DeskPass) (book : Book) (desk : TurnstileState OpenedWith) (r : Roster) where
  abbrev pub Works : Book → ℕ → List (Lane L) → Type 0
  Works read known lanes = IsWorker l told moment roster workers first book read known desk r lanes

  -- the pass of a round is one of the desk
  pub fresh_of : (read : Book) (known : ℕ) (lanes : List (Lane L)) (p : DeskPass) → Works read known lanes → IsFresh first p → IsOf p desk
  fresh_of read known lanes p w fresh = (fresh.turnstile ∙ w.of.0, fresh.fixed ∙ w.of.1)

  module _ (read read_now : Book) (known known_now : ℕ) (lanes lanes_now : List (Lane L)) (p q : DeskPass) (before now : PairTold) (short : Bool) where
    abbrev pub Round : Type 0
    Round = IsRound l (IsMomentOf moment) r p q before now lanes lanes_now known known_now short

    told_round : Works read known lanes → Round → IsRound l (IsMomentOf told) r p q before now lanes lanes_now known known_now short
    told_round w round = subst (λ (m : Option ℕ). IsRound l (IsMomentOf m) r p q before now lanes lanes_now known known_now short) w.moment_is round

    -- the pair was served in the day
    pub served_in : Works read known lanes → IsFresh first p → IsNew before → Round →
        IsServedIn l told roster workers first.seen q.seen (record { told = now; turns = q.turns; wanting = short })
    served_in w fresh new round =
        (r, w.roster_is, served_of l (IsMomentOf told) r first.seen workers p q before now lanes lanes_now known known_now short new fresh.none fresh.begins w.own (told_round w round))

    -- the worker is one still
    pub works_on : Works read known lanes → IsFresh first p → IsNew before → AreLanes r lanes_now → read_now ≡ book → Round → Works read_now known_now lanes_now
    works_on w fresh new are named round = record {
      of = w.of;
      opened = w.opened;
      roster_is = w.roster_is;
      moment_is = w.moment_is;
      named = named;
      own = own_on l (IsMomentOf told) r first.seen workers p q before now lanes lanes_now known known_now short new fresh.none fresh.begins are w.own (told_round w round);
    }

    -- and the pass is of the desk still
    pub beside : IsFresh first p → Round → IsBeside first q
    beside fresh round = (round.same.0 ∙ fresh.turnstile, round.same.3 ∙ fresh.fixed)

    pub split_still : IsFresh first p → Round → q.is_first ≡ false
    split_still fresh round = round.same.1 ∙ fresh.split
