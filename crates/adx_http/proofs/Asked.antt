-- What was asked and what is left, piece by piece.
use Rattle.std.proofs.Common.{◌≡◌, inl, ℕ, ◌+◌, ◌<◌, List, [], ◌++◌, length, take, refl, sym, ap, ◌∙◌, subst, append_assoc, Option, Some, None, option_map, IfSome, Result, Ok, Err, true, false, arith}
use Rattle.std.proofs.Math.Seq.{take-append_seam}
use Rattle.adx_io.specs.Streams.{WhereTold}
use Rattle.adx_links.specs.Links.{Exchange, Exchanges, Begins, begun, exchanges_in, asking, Asks, Connection, Course, Puts, FailsPut, after_put}
use Rattle.adx_io.specs.declared.failed.Failed.{Failed}
use Rattle.adx_http.specs.Exchanging.{AskedIn, AsksAll, OneMore, StandsAs, tape_of}

abbrev with_asked : Exchange → List ℕ → Exchange
with_asked e bytes = record e { asked = bytes }

abbrev with_now : Exchanges → Option Exchange → Exchanges
with_now e now = record e { now = now }

asking_both : (e : Option Exchange) (a b : List ℕ) → option_map (asking b) (option_map (asking a) e) ≡ option_map (asking (a ++ b)) e
asking_both None a b = refl
asking_both (Some e) a b = ap (λ (x : List ℕ). Some (with_asked e x)) (append_assoc e.asked a b)

pub asks_both : (o m n : Option Exchanges) (a b : List ℕ) → WhereTold o m (Asks a) → WhereTold m n (Asks b) → WhereTold o n (Asks (a ++ b))
asks_both None None n a b first second = second
asks_both None (Some m) n a b first second = absurd (cc first)
asks_both (Some o) None n a b first second = absurd first
asks_both (Some o) (Some m) None a b first second = absurd second
asks_both (Some o) (Some m) (Some n) a b first second =
    second ∙ ap (λ (x : Exchanges). with_now x (option_map (asking b) x.now)) first ∙ ap (with_now o) (asking_both o.now a b)

put_keeps : (k : Option Connection) → option_map (λ (x : Connection). x.tape) (option_map after_put k) ≡ option_map (λ (x : Connection). x.tape) k
put_keeps None = refl
put_keeps (Some k) = refl

pub stands_on : (b c d : Option Course) → WhereTold b c StandsAs → WhereTold c d Puts → WhereTold b d StandsAs
stands_on None None d s p = p
stands_on None (Some c) d s p = absurd (cc s)
stands_on (Some b) None d s p = absurd s
stands_on (Some b) (Some c) None s p = absurd p
stands_on (Some b) (Some c) (Some d) s p = record {
  plan = ap (λ (x : Course). x.plan) p ∙ s.plan;
  tape = ap (λ (x : Course). tape_of (Some x)) p ∙ put_keeps c.now ∙ s.tape;
}

-- where the plan lets the put fail, nothing of the piece was asked, since no put succeeded
pub still_unasked : (b c : Option Course) (n m rest : ℕ) → IfSome b (λ (x : Course). FailsPut x.now → rest ≡ m) → (rest ≡ m → c ≡ b) → IfSome c (λ (x : Course). FailsPut x.now → false ≡ true) → IfSome b (λ (x : Course). FailsPut x.now → n ≡ m)
still_unasked None c n m rest planned unput failed = tt
still_unasked (Some x) c n m rest planned unput failed = λ fails. absurd (cc (subst (λ (o : Option Course). IfSome o (λ (y : Course). FailsPut y.now → false ≡ true)) (unput (planned fails)) failed fails))

-- all was asked, so a piece that isn't empty met no such put
pub all_asked : (b : Option Course) (m rest : ℕ) → IfSome b (λ (x : Course). FailsPut x.now → rest ≡ m) → rest ≡ 0 → IfSome b (λ (x : Course). 0 < m → FailsPut x.now → false ≡ true)
all_asked None m rest planned none = tt
all_asked (Some x) m rest planned none = λ some fails. absurd (omega (arith, planned fails, none, some))

pub some_front : (o n : Option Exchanges) (front rest piece : List ℕ) → front ++ rest ≡ piece → WhereTold o n (Asks front) → WhereTold o n (λ a b. (k : ℕ) × Asks (take k piece) a b)
some_front None n front rest piece parts asks = asks
some_front (Some a) None front rest piece parts asks = absurd asks
some_front (Some a) (Some b) front rest piece parts asks = (
  length front,
  asks ∙ ap (λ (f : List ℕ). with_now a (option_map (asking f) a.now)) (sym (take-append_seam front rest) ∙ ap (take (length front)) parts),
)

one_more : (o s : Exchanges) (host : List ℕ) (port : ℕ) (asked : List ℕ) (n : Exchanges) → s ≡ record { past = exchanges_in o; now = Some (begun host port) } → Asks asked s n → OneMore host port asked [] o n
one_more o s host port asked n begins asks = record { more = ap exchanges_in asks ∙ ap (λ (x : Exchanges). exchanges_in (with_now x (option_map (asking asked) x.now))) begins }

pub asked_whole : (o s n : Option Exchanges) (host : List ℕ) (port : ℕ) (request : List ℕ) (result : Result Unit Failed)
    → WhereTold o s (Begins host port (Ok tt)) → WhereTold s n (AsksAll request result) → WhereTold o n (AskedIn host port request result)
asked_whole None None n host port request result begins asks = asks
asked_whole None (Some s) n host port request result begins asks = absurd (cc begins)
asked_whole (Some o) None n host port request result begins asks = absurd begins
asked_whole (Some o) (Some s) None host port request result begins asks = absurd asks
asked_whole (Some o) (Some s) (Some n) host port request (Ok tt) begins asks =
    asks ∙ ap (λ (x : Exchanges). with_now x (option_map (asking request) x.now)) begins
asked_whole (Some o) (Some s) (Some n) host port request (Err e) begins asks =
    inl (asks.0, one_more o s host port (take asks.0 request) n begins asks.1)
