-- Whatever happens: each place is sound, and what all may have is at most the whole.
use Rattle.std.proofs.Common.{◌≡◌, ℕ, zero, suc, ◌+◌, ◌<◌, ◌≤◌, List, [], ◌∷◌, ◌++◌, map, length, Bool, true, false, cond, refl, sym, subst, arith, Option, Some, None}
use Rattle.std.specs.Prelude.{nat_le}
use Rattle.adx_units.specs.declared.units.Units.{Units}
use Rattle.allocator_core.specs.Choice.{budget_at}
use Rattle.day_rules.specs.Books.{awards_of, committed}
use Rattle.day_rules.specs.Runs.{IsCall, Outcome, Turn, done, faulted}
use Rattle.day_rules.specs.Terms.{Terms}
use Rattle.day_rules.specs.declared.entry.Entry.{Entry}
use Rattle.day_rules.proofs.Budgets.{budgets_none}
use Rattle.share_rules.specs.Shares.{most_of}
use Rattle.share_rules.specs.Machine as machine
use Rattle.share_rules.specs.Machine.{committed_of, had_of, may_have_of, nth}
use Rattle.share_rules.proofs.Sound.{Every, IsSound}
use Rattle.share_rules.proofs.Steps.{asks_sound, at_most, hears_most, hears_sound, joins_sound, sends_sound}
use Rattle.share_rules.specs.Days.{DayEvent, DayPlace, DayWorld, IsMessage, IsOther, IsWithin, MayAllHappen, MayHappen, WhereThere, at_day, day_allowed, day_asks, day_came, day_comes, day_happens, day_heard, day_hears, day_joined, day_run, day_sends, day_sent, day_start, day_turns, seen}
use Rattle.share_rules.proofs.Turning.{IsDay, comes_day, turns_day}

-- ---- a place

no_entry : (e : Entry) (before after : List Entry) → [] ≡ before ++ e ∷ after → ⊥
no_entry e [] after h = cc
no_entry e (x ∷ xs) after h = cc

nothing_committed : (campaign : ℕ) → committed [] campaign ≡ 0
unfolding awards_of
nothing_committed campaign = refl

abbrev fresh : ℕ → ℕ → ℕ → machine.Place
fresh share has money = record {
  share = record { confirmed = share; intended = None; number = 0 };
  budget = record { has = has; last = 0; committed = money };
  messages = [];
  replies = [];
}

joins_day : (terms : Terms) (campaign : ℕ) → campaign < length terms.budgets → IsDay (day_joined terms campaign)
joins_day terms campaign known =
    let share : ℕ = budget_at terms.budgets campaign in
    record {
      legal = λ before e after is. absurd (no_entry e before after is);
      known = known;
      sound =
          subst (λ (bs : List Units). IsSound (fresh share (budget_at bs campaign) (committed [] campaign))) (sym (budgets_none terms))
          (subst (λ (c : ℕ). IsSound (fresh share share c)) (sym (nothing_committed campaign)) (joins_sound share));
    }

asks_day : (budget : ℕ) (p : DayPlace) → IsDay p → IsDay (day_asks budget p)
asks_day budget p d = record { legal = d.legal; known = d.known; sound = asks_sound budget (seen p) d.sound }

sent_day : (p : DayPlace) (o : Option ℕ) → IsSound (machine.sends_over (seen p) o) → IsDay p → IsDay (day_sent p o)
sent_day p None k d = d
sent_day p (Some budget) k d = record { legal = d.legal; known = d.known; sound = k }

sends_day : (p : DayPlace) → IsDay p → IsDay (day_sends p)
sends_day p d = sent_day p p.share.intended (sends_sound (seen p) d.sound) d

heard_day : (p : DayPlace) (o : Option machine.Reply) → IsSound (machine.heard (seen p) o) → IsDay p → IsDay (day_heard p o)
heard_day p None k d = d
heard_day p (Some r) k d = record { legal = d.legal; known = d.known; sound = k }

hears_day : (which : ℕ) (p : DayPlace) → IsDay p → IsDay (day_hears which p)
hears_day which p d = heard_day p (nth p.replies which) (hears_sound which (seen p) d.sound) d

-- what a place may have

sent_most : (p : DayPlace) (o : Option ℕ) → most_of (day_sent p o).share ≤ most_of p.share
sent_most p None = omega arith
sent_most p (Some budget) = omega arith

heard_most : (p : DayPlace) (o : Option machine.Reply) → most_of (machine.heard (seen p) o).share ≤ most_of p.share → most_of (day_heard p o).share ≤ most_of p.share
heard_most p None h = h
heard_most p (Some r) h = h

answered_most : (p : DayPlace) (m : machine.Message) (outcome : Outcome) → most_of (day_came p (Some m) outcome).share ≤ most_of p.share
answered_most p m done = omega arith
answered_most p m faulted = omega arith

came_most : (p : DayPlace) (o : Option machine.Message) (outcome : Outcome) → most_of (day_came p o outcome).share ≤ most_of p.share
came_most p None outcome = omega arith
came_most p (Some m) outcome = answered_most p m outcome

turns_most : (turn : Turn) (p : DayPlace) → most_of (day_turns turn p).share ≤ most_of p.share
turns_most turn p = omega arith

-- ---- all places

days_at : (f : DayPlace → DayPlace) (Q : DayPlace → Type 0) → ((p : DayPlace) → Q p → IsDay p → IsDay (f p)) → (n : ℕ) (ps : List DayPlace) → WhereThere Q (nth ps n) → Every IsDay ps → Every IsDay (at_day n f ps)
days_at f Q keeps n [] may all = tt
days_at f Q keeps zero (p ∷ ps) may all = (keeps p may all.0, all.1)
days_at f Q keeps (suc n) (p ∷ ps) may all = (all.0, days_at f Q keeps n ps may all.1)

anyway : (n : ℕ) (ps : List DayPlace) → WhereThere (λ (p : DayPlace). Unit {0}) (nth ps n)
anyway n [] = tt
anyway zero (p ∷ ps) = tt
anyway (suc n) (p ∷ ps) = anyway n ps

add_left : (a b c : ℕ) → a ≤ b → a + c ≤ b + c
add_left a b c h = omega (arith, h)

add_right : (a b c : ℕ) → b ≤ c → a + b ≤ a + c
add_right a b c h = omega (arith, h)

may_at : (f : DayPlace → DayPlace) → ((p : DayPlace) → most_of (f p).share ≤ most_of p.share) → (n : ℕ) (ps : List DayPlace) → may_have_of (map seen (at_day n f ps)) ≤ may_have_of (map seen ps)
may_at f less n [] = omega arith
may_at f less zero (p ∷ ps) = add_left (most_of (f p).share) (most_of p.share) (may_have_of (map seen ps)) (less p)
may_at f less (suc n) (p ∷ ps) = add_right (most_of p.share) (may_have_of (map seen (at_day n f ps))) (may_have_of (map seen ps)) (may_at f less n ps)

over : (a b c : ℕ) → a ≤ b → b ≤ c → a ≤ c
over a b c h k = omega (arith, h, k)

-- ---- the world

record IsHeld (w : DayWorld) : Type 0 where
  pub days : Every IsDay w.places
  pub sum : may_have_of (map seen w.places) ≤ w.whole

-- an event that raises nothing
one_held : (f : DayPlace → DayPlace) (Q : DayPlace → Type 0) → ((p : DayPlace) → Q p → IsDay p → IsDay (f p)) → ((p : DayPlace) → most_of (f p).share ≤ most_of p.share) → (n : ℕ) (w : DayWorld) → WhereThere Q (nth w.places n) → IsHeld w
    → IsHeld (record { whole = w.whole; places = at_day n f w.places })
one_held f Q keeps less n w may k = record {
  days = days_at f Q keeps n w.places may k.days;
  sum = over (may_have_of (map seen (at_day n f w.places))) (may_have_of (map seen w.places)) w.whole (may_at f less n w.places) k.sum;
}

allowed_as : (old new : DayWorld) (t : Bool) → nat_le (may_have_of (map seen new.places)) new.whole ≡ t → IsHeld old → Every IsDay new.places → IsHeld (cond t new old)
allowed_as old new true is k days = record { days = days; sum = at_most (may_have_of (map seen new.places)) new.whole is }
allowed_as old new false is k days = k

allowed_held : (old new : DayWorld) → IsHeld old → Every IsDay new.places → IsHeld (day_allowed old new)
allowed_held old new k days = allowed_as old new (nat_le (may_have_of (map seen new.places)) new.whole) refl k days

abbrev Any : DayPlace → Type 0
Any p = Unit {0}

happens_held : (w : DayWorld) (e : DayEvent) → MayHappen w e → IsHeld w → IsHeld (day_happens w e)
happens_held w (DayEvent.Joins terms campaign) may k =
    allowed_held w (record { whole = w.whole; places = day_joined terms campaign ∷ w.places }) k (joins_day terms campaign may, k.days)
happens_held w (DayEvent.Asks place budget) may k =
    allowed_held w (record { whole = w.whole; places = at_day place (day_asks budget) w.places }) k (days_at (day_asks budget) Any (λ p q d. asks_day budget p d) place w.places (anyway place w.places) k.days)
happens_held w (DayEvent.Sends place) may k =
    one_held day_sends Any (λ p q d. sends_day p d) (λ p. sent_most p p.share.intended) place w (anyway place w.places) k
happens_held w (DayEvent.Message_comes place which outcome) may k =
    one_held (day_comes which outcome) (λ (p : DayPlace). WhereThere IsMessage (nth p.messages which)) (comes_day which outcome) (λ p. came_most p (nth p.messages which) outcome) place w may k
happens_held w (DayEvent.Reply_comes place which) may k =
    one_held (day_hears which) Any (λ p q d. hears_day which p d) (λ p. heard_most p (nth p.replies which) (hears_most which (seen p))) place w (anyway place w.places) k
happens_held w (DayEvent.Turns place turn) may k =
    one_held (day_turns turn) (λ (p : DayPlace). IsCall (length p.terms.budgets) turn.call × IsOther p.campaign turn.call) (turns_day turn) (turns_most turn) place w may k
happens_held w (DayEvent.Wants whole) may k = allowed_held w (record { whole = whole; places = w.places }) k k.days

run_held : (es : List DayEvent) (w : DayWorld) → MayAllHappen w es → IsHeld w → IsHeld (day_run es w)
run_held [] w may k = k
run_held (e ∷ es) w may k = run_held es (day_happens w e) may.1 (happens_held w e may.0 k)

start_held : IsHeld day_start
start_held = record { days = tt; sum = omega arith }

add_both : (a b c d : ℕ) → a ≤ b → c ≤ d → a + c ≤ b + d
add_both a b c d h k = omega (arith, h, k)

had_days : (ps : List DayPlace) → Every IsDay ps → had_of (map seen ps) ≤ may_have_of (map seen ps)
had_days [] all = omega arith
had_days (p ∷ ps) all = add_both (seen p).budget.has (most_of p.share) (had_of (map seen ps)) (may_have_of (map seen ps)) all.0.sound.has (had_days ps all.1)

committed_days : (ps : List DayPlace) → Every IsDay ps → committed_of (map seen ps) ≤ had_of (map seen ps)
committed_days [] all = omega arith
committed_days (p ∷ ps) all = add_both (seen p).budget.committed (seen p).budget.has (committed_of (map seen ps)) (had_of (map seen ps)) all.0.sound.committed (committed_days ps all.1)

within : (w : DayWorld) → IsHeld w → IsWithin w
within w k =
    let had : had_of (map seen w.places) ≤ w.whole = over (had_of (map seen w.places)) (may_have_of (map seen w.places)) w.whole (had_days w.places k.days) k.sum in
    record {
      budgets = had;
      committed = over (committed_of (map seen w.places)) (had_of (map seen w.places)) w.whole (committed_days w.places k.days) had;
    }

pub always_within : (es : List DayEvent) → MayAllHappen day_start es → IsWithin (day_run es day_start)
always_within es may = within (day_run es day_start) (run_held es day_start may start_held)
