-- The ask that the answer to an ask speaks of.
use Rattle.std.proofs.Common.{◌≡◌, ◌-◌, List, [], ◌∷◌, ◌++◌, ℕ, take, length, Bool, true, false, cond, ltb, ◌∙◌, ap, subst, arith, Option, Some, None, IfSome}
use Rattle.std.specs.List.{enumerate_from, slice_get}
use Rattle.std.proofs.lemmas.List.{length-map}
use Rattle.std.proofs.lemmas.List.FromFn.{length-enumerate_from}
use Rattle.day_rules.specs.DayMeters.{step_of, steps_of}
use Rattle.std.specs.Option.{ForSome}
use Rattle.std.proofs.lemmas.Bool.{cond_both}
use Rattle.std.proofs.lemmas.Option.{none-some, same_Some}
use Rattle.day_rules.specs.declared.answer.Answer.{Answer}
use Rattle.day_rules.specs.declared.answer.Seen.{Seen}
use Rattle.day_rules.specs.declared.ask.Ask.{Ask}
use Rattle.day_rules.specs.declared.entry.Entry.{Entry}
use Rattle.day_rules.specs.Books.{ask_at}
use Rattle.day_rules.specs.Entries.{asked}
use Rattle.day_rules.specs.Asks.{settled}
use Rattle.day_rules.specs.Replies.{Reply, ask_reply, ask_reply_by, asks_with, bids_with, text_with, is_awarded, seen_in, settled_reply}
use Rattle.day_rules.specs.Terms.{Terms}
use Rattle.day_rules.proofs.Lists.{get-append_right}
use Rattle.adx_desk.specs.Asked.{ask_for}

-- the answer speaks of the ask that the entry records
abbrev SpeaksOfIts : List Entry → Reply → Type 0
SpeaksOfIts history r = (e : Entry) → r.entry ≡ Some e → ask_for (history ++ e ∷ []) r.answer ≡ asked e

last_ask : (history : List Entry) (a : Ask) → ask_at (history ++ Entry.Ask a ∷ []) (length history) ≡ Some a
last_ask history a =
    let here : slice_get (history ++ Entry.Ask a ∷ []) (length history) ≡ slice_get (Entry.Ask a ∷ []) (length history - length history) =
    get-append_right history (Entry.Ask a ∷ []) (length history) (omega arith) in
    let first : slice_get (Entry.Ask a ∷ []) (length history - length history) ≡ Some (Entry.Ask a) =
    ap (slice_get (Entry.Ask a ∷ [])) (let z : length history - length history ≡ 0 = omega arith in z) in
    ap (λ (o : Option Entry). speaks o) (here ∙ first)
  where
    speaks : Option Entry → Option Ask
    speaks None = None
    speaks (Some e) = asked e

sale_speaks : (history : List Entry) (a : Ask) (b : Bool) (e : Entry) → Some (Entry.Ask a) ≡ Some e → ask_for (history ++ e ∷ []) (cond b (Answer.Awarded (length history)) (Answer.NoSale (length history))) ≡ asked e
sale_speaks history a b e is =
    subst (λ (x : Entry). ask_for (history ++ x ∷ []) (cond b (Answer.Awarded (length history)) (Answer.NoSale (length history))) ≡ asked x) (same_Some (Entry.Ask a) e is) (by b)
  where
    by : (b : Bool) → ask_for (history ++ Entry.Ask a ∷ []) (cond b (Answer.Awarded (length history)) (Answer.NoSale (length history))) ≡ Some a
    by true = last_ask history a
    by false = last_ask history a

settled_speaks : (terms : Terms) (history : List Entry) (a : Ask) → SpeaksOfIts history (settled_reply terms.limits history (settled terms history a))
settled_speaks terms history a =
    let P : Reply → Type 0 = SpeaksOfIts history in
    let s : Ask = settled terms history a in
    cond_both (ltb terms.limits.auctions (asks_with history)) _ _ P (λ h e is. absurd (none-some e is)) (λ asks.
    cond_both (ltb terms.limits.bids (bids_with history s)) _ _ P (λ h e is. absurd (none-some e is)) (λ bids.
    cond_both (ltb terms.limits.text (text_with history s)) _ _ P (λ h e is. absurd (none-some e is)) (λ text e is. sale_speaks history s (is_awarded s) e is)))

speaks_by : (seen : Seen) (terms : Terms) (history : List Entry) (a : Ask) → SpeaksOfIts history (ask_reply_by seen terms history a)
speaks_by Seen.New terms history a = settled_speaks terms history a
speaks_by (Seen.Same place) terms history a = λ e is. absurd (none-some e is)
speaks_by (Seen.Other kept) terms history a = λ e is. absurd (none-some e is)

pub reply_speaks : (terms : Terms) (history : List Entry) (a : Ask) (x : Answer) (e : Entry) → x ≡ (ask_reply terms history a).answer → (ask_reply terms history a).entry ≡ Some e → ask_for (history ++ e ∷ []) x ≡ asked e
reply_speaks terms history a x e answer entry =
    ap (ask_for (history ++ e ∷ [])) answer ∙ speaks_by (seen_in history a.auction a.digest) terms history a e entry

-- a fact of the entry of a reply, in the form that a premise has
pub for_some : (P : Entry → Type 0) (o : Option Entry) → IfSome o P → ForSome o P
for_some P None h = λ e is. absurd (none-some e is)
for_some P (Some x) h = λ e is. subst P (same_Some x e is) h

-- a history has a step for each entry
pub as_many_steps : (history : List Entry) → length (steps_of history) ≡ length history
as_many_steps history = length-map (enumerate_from 0 history) (λ (p : ℕ × Entry). step_of (take p.0 history) p.1) ∙ length-enumerate_from 0 history
