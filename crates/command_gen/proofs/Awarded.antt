-- The first award of an ask that was awarded is the next of the history.
use Rattle.std.proofs.Common.{◌≡◌, ℕ, List, [], ◌∷◌, ◌++◌, length, Bool, true, false, slice_get, Option, Some, if◌then◌else◌, refl, ap, ◌∙◌, nat_lt}
use Rattle.std.specs.Option.{option_and_then}
use Rattle.adx_desk.specs.Asked.{ask_for}
use Rattle.day_rules.specs.declared.answer.Answer.{Answer}
use Rattle.day_rules.specs.declared.answer.Seen.{Seen}
use Rattle.day_rules.specs.declared.answer.Which.{Which}
use Rattle.day_rules.specs.declared.ask.Ask.{Ask}
use Rattle.day_rules.specs.declared.entry.Entry.{Entry}
use Rattle.day_rules.specs.Asks.{settled}
use Rattle.day_rules.specs.Books.{made}
use Rattle.day_rules.specs.Entries.{asked}
use Rattle.day_rules.specs.Replies.{Reply, added, ask_reply, ask_reply_by, asks_with, bids_with, full, is_awarded, seen_in, text_with, with_entry}
use Rattle.day_rules.specs.Terms.{Terms}
use Rattle.command_gen.specs.Generated.{award_by}
use Rattle.command_gen.specs.Taking.{award_in}

-- the entry at the end of a history
at_end : (history : List Entry) (e : Entry) → slice_get (history ++ e ∷ []) (length history) ≡ Some e
at_end [] e = refl
at_end (x ∷ history) e = at_end history e

-- what is said of an answer is the award that the reply makes
abbrev TellsAward : List Entry → Reply → Type 0
TellsAward history r =
    (answer : Answer) (told : Option Ask) (next : List Entry) → answer ≡ r.answer → told ≡ ask_for next answer → next ≡ with_entry history r.entry → award_in answer told ≡ award_by history r.answer

either : (history : List Entry) (b : Bool) (r s : Reply) → TellsAward history r → TellsAward history s → TellsAward history (if b then r else s)
either history true r s one other = one
either history false r s one other = other

-- an answer that awards nothing
of_full : (history : List Entry) (which : Which) (count : ℕ) → TellsAward history (full which count)
of_full history which count answer told next is copied ran = ap (λ (a : Answer). award_in a told) is

of_sale : (history : List Entry) (s : Ask) (b : Bool) → s.first ≡ length (made history) → TellsAward history (added (if b then Answer.Awarded (length history) else Answer.NoSale (length history)) (Entry.Ask s))
of_sale history s true first answer told next is copied ran =
    (λ i. award_in (is i) (copied i))
    ∙ (λ i. award_in (Answer.Awarded (length history)) (ask_for (ran i) (is i)))
    ∙ ap (λ (o : Option Entry). award_in (Answer.Awarded (length history)) (option_and_then asked o)) (at_end history (Entry.Ask s))
    ∙ ap Some first
of_sale history s false first answer told next is copied ran = ap (λ (a : Answer). award_in a told) is

by_seen : (terms : Terms) (history : List Entry) (a : Ask) (seen : Seen) → TellsAward history (ask_reply_by seen terms history a)
by_seen terms history a Seen.New =
    let s = settled terms history a in
    either history (nat_lt terms.limits.auctions (asks_with history)) (full Which.Auctions (asks_with history)) _ (of_full history Which.Auctions (asks_with history))
    (either history (nat_lt terms.limits.bids (bids_with history s)) (full Which.Bids (bids_with history s)) _ (of_full history Which.Bids (bids_with history s))
    (either history (nat_lt terms.limits.text (text_with history s)) (full Which.Text (text_with history s)) _ (of_full history Which.Text (text_with history s))
    (of_sale history s (is_awarded s) refl)))
by_seen terms history a (Seen.Same place) = λ answer told next is copied ran. ap (λ (x : Answer). award_in x told) is
by_seen terms history a (Seen.Other kept) = λ answer told next is copied ran. ap (λ (x : Answer). award_in x told) is

pub award_told_so : (terms : Terms) (history : List Entry) (a : Ask) → TellsAward history (ask_reply terms history a)
award_told_so terms history a = by_seen terms history a (seen_in history a.auction a.digest)
