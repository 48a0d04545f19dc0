-- What holds of an exchange holds after each of its calls.
use Rattle.std.proofs.Common.{◌≡◌, ℕ, zero, suc, ◌+◌, ◌≤◌, List, ◌∷◌, [], ◌++◌, length, take, drop, refl, sym, ap, ◌∙◌, subst, arith, length-append, Option, Result, Ok, Err, length-drop, ◌-◌}
use Rattle.std.proofs.lemmas.List.{length-map, length-take-le, take-append-le, take-append-drop}
use Rattle.day_rules.specs.DayState.{DayState, IsDay}
use Rattle.day_rules.specs.Replies.{Call, reply, with_entry}
use Rattle.std.specs.Prelude.{OnOk}
use Rattle.day_rules.specs.Legal.{MayFollow}
use Rattle.day_rules.specs.Terms.{Terms}
use Rattle.day_rules.specs.declared.entry.Entry.{Entry}
use Rattle.deal_floor.specs.declared.campaign.Campaign.{Campaign}
use Rattle.deal_floor.specs.declared.roster.Roster.{Roster}
use Rattle.day_rules.proofs.Histories.{legal_none, legal_push}
use Rattle.outbox.specs.Following.{Follows, HasFollowed, OutboxState}
use Rattle.adx_units.specs.declared.memory.OutOfMemory.{OutOfMemory}
use Rattle.two_books.specs.Exchanges.{ExchangeState, FollowsOn, HasHistory, IsCalled, IsExchange, IsKept, day_terms, not_followed}
use Rattle.two_books.proofs.Rosters.{roster_terms}

-- entries after the front that was followed change nothing of it
pub followed_still : (n : ℕ) (history more : List Entry) (o : OutboxState) → n ≤ length history → HasFollowed (take n history) o → HasFollowed (take n (history ++ more)) o
followed_still n history more o within followed =
    subst (λ (h : List Entry). HasFollowed h o) (sym (take-append-le n history more within)) followed

-- what is after an entry, if there is one
pub exchange_on : (campaigns : List Campaign) (terms : Terms) (history : List Entry) (e : Entry) (o : OutboxState) → IsExchange campaigns terms history o → MayFollow terms history e
    → IsExchange campaigns terms (history ++ e ∷ []) o
exchange_on campaigns terms history e o is follows = record {
  day = record { terms_ok = is.day.terms_ok; legal = legal_push terms history e is.day.legal follows };
  budgets = is.budgets;
  front = omega (arith, is.front, length-append history (e ∷ []));
  followed = followed_still o.followed history (e ∷ []) o is.front is.followed;
}

-- the day after the entries that were followed is the whole day
pub whole_day : (terms : Terms) (n : ℕ) (history : List Entry) → IsDay terms history → IsDay terms (take n history ++ drop n history)
whole_day terms n history day = subst (IsDay terms) (sym (take-append-drop n history)) day

none_taken : (k : ℕ) → ◌≡◌ {A = List Entry} [] (take k [])
none_taken zero = refl
none_taken (suc k) = refl

take_on : (n k : ℕ) (history : List Entry) → take n history ++ take k (drop n history) ≡ take (n + k) history
take_on zero k history = ap (λ m. take m history) (ℕ_zero k)
  where
    ℕ_zero : (k : ℕ) → k ≡ 0 + k
    ℕ_zero k = omega arith
take_on (suc n) k [] = sym (none_taken k) ∙ none_taken (suc n + k)
take_on (suc n) k (e ∷ history) =
    let next : suc (n + k) ≡ suc n + k = omega arith in
    ap (λ (t : List Entry). e ∷ t) (take_on n k history) ∙ ap (λ m. take m (e ∷ history)) next

-- the outbox of an exchange followed the entries that it hadn't yet
pub follows_on : (result : Result (Unit {0}) OutOfMemory) (old new : ExchangeState) → new.day ≡ old.day → new.campaigns ≡ old.campaigns
    → Follows (take old.outbox.followed old.day.history) (not_followed old) result old.outbox new.outbox → FollowsOn result old new
follows_on result old new day campaigns f = record {
  entries = f.done;
  few = f.few;
  all = f.all;
  followed = subst (λ (h : List Entry). HasFollowed h new.outbox) (take_on old.outbox.followed f.done old.day.history) f.followed;
  pending = f.posts;
  undeliverable = f.given_up;
  day = day;
  campaigns = campaigns;
}

-- an exchange before its first call
pub opened : (r : Roster) (terms : Terms) (history : List Entry) (o : OutboxState) → terms ≡ day_terms r → history ≡ [] → HasFollowed [] o → IsExchange r.campaigns terms history o
opened r terms history o known none followed =
    subst (λ (h : List Entry). IsExchange r.campaigns terms h o) (sym none)
    (subst (λ (t : Terms). IsExchange r.campaigns t [] o) (sym known) (record {
      day = record { terms_ok = roster_terms r; legal = legal_none (day_terms r) };
      budgets = length-map r.campaigns (λ (c : Campaign). c.budget);
      front = omega (arith, followed.count);
      followed = subst (λ (h : List Entry). HasFollowed h o) (none_taken o.followed) followed;
    }))

-- an exchange that was called, or had no memory for it
pub called_as : (c : Call) (e : Option Entry) (r : Result (Unit {0}) OutOfMemory) (old new : ExchangeState) → e ≡ (reply old.day.terms old.day.history c).entry
    → OnOk r (HasHistory (with_entry old.day.history e) old new) → OnOk r (IsDay new.day.terms new.day.history) → OnOk r (IsCalled c old new)
called_as c e (Ok done) old new is has legal = record {
  has = subst (λ (o : Option Entry). HasHistory (with_entry old.day.history o) old new) is has;
  legal = legal;
}
called_as c e (Err wanting) old new is has legal = tt

-- nothing changed
pub same_exchange : (e : ExchangeState) → IsKept e e
same_exchange e = record { history = refl; terms = refl; campaigns = refl; outbox = refl }

-- a day that was prepared for an entry and given it
pub added_on : (campaigns : List Campaign) (old mid new : DayState) (e : Entry) (o : OutboxState) → IsExchange campaigns old.terms old.history o → MayFollow old.terms old.history e
    → mid.terms ≡ old.terms → mid.history ≡ old.history → new.terms ≡ mid.terms → new.history ≡ mid.history ++ e ∷ [] → IsExchange campaigns new.terms new.history o
added_on campaigns old mid new e o is follows terms history new_terms new_history =
    subst (λ (t : Terms). IsExchange campaigns t new.history o) (sym (new_terms ∙ terms))
    (subst (λ (h : List Entry). IsExchange campaigns old.terms h o) (sym (new_history ∙ ap (λ (h : List Entry). h ++ e ∷ []) history))
    (exchange_on campaigns old.terms old.history e o is follows))

-- an outbox that followed some more entries
pub follows_keep : (campaigns : List Campaign) (terms : Terms) (history : List Entry) (r : Result (Unit {0}) OutOfMemory) (o o_now : OutboxState) → IsExchange campaigns terms history o
    → Follows (take o.followed history) (drop o.followed history) r o o_now → IsExchange campaigns terms history o_now
follows_keep campaigns terms history r o o_now is f =
    let n : ℕ = o.followed + f.done in
    let followed : HasFollowed (take n history) o_now = subst (λ (h : List Entry). HasFollowed h o_now) (take_on o.followed f.done history) f.followed in
    let few : n ≤ length history = within o.followed f.done (length history) (length (drop o.followed history)) is.front (length-drop o.followed history) f.few in
    let same : o_now.followed ≡ n = followed.count ∙ length-take-le n history few in
    record {
      day = is.day;
      budgets = is.budgets;
      front = subst (λ k. k ≤ length history) (sym same) few;
      followed = subst (λ k. HasFollowed (take k history) o_now) (sym same) followed;
    }
  where
    within : (n k all rest : ℕ) → n ≤ all → rest ≡ all - n → k ≤ rest → n + k ≤ all
    within n k all rest front is few = omega (arith, front, is, few)

-- what an outbox followed that was lent the entries after those that it had
pub followed_day : (r : Result (Unit {0}) OutOfMemory) (day : DayState) (o o_now : OutboxState) (later : List Entry) (m : ℕ) (es : List Entry) → later ≡ drop m es → m ≡ o.followed → es ≡ day.history
    → IsDay day.terms day.history → HasFollowed (take o.followed day.history) o
    → ((terms : Terms) (history : List Entry) → HasFollowed history o → IsDay terms (history ++ later) → Follows history later r o o_now)
    → Follows (take o.followed day.history) (drop o.followed day.history) r o o_now
followed_day r day o o_now later m es is count entries legal followed all =
    let front : List Entry = take o.followed day.history in
    let back : later ≡ drop o.followed day.history = is ∙ (ap (λ k. drop k es) count ∙ ap (λ (t : List Entry). drop o.followed t) entries) in
    subst (λ (l : List Entry). Follows front l r o o_now) back
    (all day.terms front followed (subst (λ (l : List Entry). IsDay day.terms (front ++ l)) (sym back) (whole_day day.terms o.followed day.history legal)))

pub follows_at : (r : Result (Unit {0}) OutOfMemory) (inside old new : ExchangeState) → inside ≡ old → new.day ≡ inside.day → new.campaigns ≡ inside.campaigns
    → Follows (take inside.outbox.followed inside.day.history) (not_followed inside) r inside.outbox new.outbox → FollowsOn r old new
follows_at r inside old new same day campaigns f =
    subst (λ (e : ExchangeState). FollowsOn r e new) same (follows_on r inside new day campaigns f)

pub called_at : (c : Call) (e : Option Entry) (r : Result (Unit {0}) OutOfMemory) (day : DayState) (old new : ExchangeState) → day ≡ old.day → e ≡ (reply day.terms day.history c).entry
    → OnOk r (HasHistory (with_entry old.day.history e) old new) → OnOk r (IsDay new.day.terms new.day.history) → OnOk r (IsCalled c old new)
called_at c e r day old new same is has legal =
    called_as c e r old new (is ∙ ap (λ (d : DayState). (reply d.terms d.history c).entry) same) has legal
