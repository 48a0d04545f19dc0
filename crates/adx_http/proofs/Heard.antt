-- What is answered, take by take.
use Rattle.std.proofs.Common.{◌≡◌, ℕ, List, [], ◌++◌, refl, sym, ap, ◌∙◌, append_assoc, append-nil, Option, Some, None, option_map, Result, Ok, Err}
use Rattle.adx_io.specs.Streams.{Tape, Moved, WhereTold, put_of}
use Rattle.adx_io.specs.declared.failed.Failed.{Failed}
use Rattle.adx_links.specs.Links.{Exchange, Exchanges, answering, Answers, Connection, Course, Takes, TakesFrom}
use Rattle.http_connection.specs.BufferState.{Passes}
use Rattle.adx_http.specs.Exchanging.{Hears, TakesOver}

abbrev with_answered : Exchange → List ℕ → Exchange
with_answered e bytes = record e { answered = bytes }

abbrev with_now : Exchanges → Option Exchange → Exchanges
with_now e now = record e { now = now }

answering_both : (e : Option Exchange) (a b : List ℕ) → option_map (answering b) (option_map (answering a) e) ≡ option_map (answering (a ++ b)) e
answering_both None a b = refl
answering_both (Some e) a b = ap (λ (x : List ℕ). Some (with_answered e x)) (append_assoc e.answered a b)

answers_both : (o m n : Option Exchanges) (a b : List ℕ) → WhereTold o m (Answers a) → WhereTold m n (Answers b) → WhereTold o n (Answers (a ++ b))
answers_both None None n a b first second = second
answers_both None (Some m) n a b first second = absurd (cc first)
answers_both (Some o) None n a b first second = absurd first
answers_both (Some o) (Some m) None a b first second = absurd second
answers_both (Some o) (Some m) (Some n) a b first second =
    second ∙ ap (λ (x : Exchanges). with_now x (option_map (answering b) x.now)) first ∙ ap (with_now o) (answering_both o.now a b)

passes_both : (s t u : Tape) (a b : List ℕ) → Passes a s t → Passes b t u → Passes (a ++ b) s u
passes_both s t u a b first second = record {
  taken = second.taken ∙ ap (λ (x : List ℕ). x ++ b) first.taken ∙ append_assoc s.taken a b;
  left = first.left ∙ ap (λ (x : List ℕ). a ++ x) second.left ∙ sym (append_assoc a b u.left);
}

moved_passes : (out : List ℕ) (result : Result ℕ Failed) (s t : Tape) → Moved out result s t → Passes (put_of result out) s t
moved_passes out (Ok n) s t gives = record { taken = gives.taken; left = gives.left }
moved_passes out (Err e) s t same = record {
  taken = ap (λ (x : Tape). x.taken) same ∙ sym (append-nil s.taken);
  left = ap (λ (x : Tape). x.left) (sym same);
}

takes_on : (b c d : Option Connection) (a out : List ℕ) (result : Result ℕ Failed)
    → WhereTold (option_map (λ (k : Connection). k.tape) b) (option_map (λ (k : Connection). k.tape) c) (Passes a) → WhereTold c d (TakesFrom out result)
    → WhereTold (option_map (λ (k : Connection). k.tape) b) (option_map (λ (k : Connection). k.tape) d) (Passes (a ++ put_of result out))
takes_on None None None a out result passes takes = refl
takes_on None None (Some d) a out result passes takes = absurd (cc takes)
takes_on None (Some c) d a out result passes takes = absurd (cc passes)
takes_on (Some b) None d a out result passes takes = absurd passes
takes_on (Some b) (Some c) None a out result passes takes = absurd takes
takes_on (Some b) (Some c) (Some d) a out result passes takes = passes_both b.tape c.tape d.tape a (put_of result out) passes (moved_passes out result c.tape d.tape takes.moved)

course_on : (p c d : Option Course) (a out : List ℕ) (result : Result ℕ Failed) → WhereTold p c (TakesOver a) → WhereTold c d (Takes out result) → WhereTold p d (TakesOver (a ++ put_of result out))
course_on None None d a out result over takes = takes
course_on None (Some c) d a out result over takes = absurd (cc over)
course_on (Some p) None d a out result over takes = absurd over
course_on (Some p) (Some c) None a out result over takes = absurd takes
course_on (Some p) (Some c) (Some d) a out result over takes = record {
  plan = takes.same ∙ over.plan;
  tape = takes_on p.now c.now d.now a out result over.tape takes.takes;
}

-- one more take
pub hears_more : (talk e f : Option Exchanges) (plan c d : Option Course) (out : List ℕ) (result : Result ℕ Failed)
    → Hears talk e plan c → WhereTold e f (Answers (put_of result out)) → WhereTold c d (Takes out result) → Hears talk f plan d
hears_more talk e f plan c d out result hears answers takes = record {
  bytes = hears.bytes ++ put_of result out;
  talk = answers_both talk e f hears.bytes (put_of result out) hears.talk answers;
  plan = course_on plan c d hears.bytes out result hears.plan takes;
}

stands_none : (k : Option Connection) → WhereTold (option_map (λ (x : Connection). x.tape) k) (option_map (λ (x : Connection). x.tape) k) (Passes [])
stands_none None = refl
stands_none (Some k) = record { taken = sym (append-nil k.tape.taken); left = refl }
