-- A service over a value that is lent: what is said of the one is said of the other.
use Rattle.std.proofs.Common.{inl, inr, ℕ, List, [], ◌∷◌, Option, ap}
use Rattle.adx_io.specs.Streams.{Tape}
use Rattle.http_connection.specs.Messages.{Request}
use Rattle.http_connection.specs.declared.conn.ConnEnd.{ConnEnd}
use Rattle.http_grammar.specs.declared.fault.HttpFault.{HttpFault}
use Rattle.http_service.specs.Connections.{Answering, GivingUp, Replies, Served, Refuses, FailsRefusing, GaveUp, EndsWith}
use Rattle.http_service.specs.declared.answer.Answer.{Answer}

-- the answers of the one are those of the other, by what is seen of its state
abbrev pub SeesAnswers : {S T : Type 0} → (S → T) → Answering S → Answering T → Type 0
SeesAnswers {S = S} see from to = (s : S) (m : Request) (a : Answer) (body : List ℕ) (now : S) → from s m a body now → to (see s) m a body (see now)

abbrev pub SeesGivingUp : {S T : Type 0} → (S → T) → GivingUp S → GivingUp T → Type 0
SeesGivingUp {S = S} see from to = (s : S) (m : Request) (now : S) → from s m now → to (see s) m (see now)

replies_seen : {S T : Type 0} (see : S → T) (from : Answering S) (to : Answering T) → SeesAnswers see from to → (s : S) (ms : List Request) (out : List ℕ) (now : S) → Replies from s ms out now → Replies to (see s) ms out (see now)
replies_seen see from to f s [] out now are = (are.0, ap see are.1)
replies_seen see from to f s (m ∷ ms) out now are =
    (are.0, are.1, see are.2, are.3, f s m are.0 are.1 are.2 are.4, replies_seen see from to f are.2 ms are.3 now are.5, are.6)

served_seen : {S T : Type 0} (see : S → T) (from : Answering S) (to : Answering T) → SeesAnswers see from to → (ms : List Request) (held held_now : Option (List ℕ)) (s now : S) → Served from ms held held_now s now → Served to ms held held_now (see s) (see now)
served_seen see from to f ms held held_now s now served = record {
  out = Served.out served;
  replies = replies_seen see from to f s ms (Served.out served) now (Served.replies served);
  took = Served.took served;
}

refuses_seen : {S T : Type 0} (see : S → T) (from : Answering S) (to : Answering T) → SeesAnswers see from to
    → (limit : ℕ) (tape tape_now : Option Tape) (held held_now : Option (List ℕ)) (s now : S) (fault : HttpFault)
    → Refuses from limit tape tape_now held held_now s now fault → Refuses to limit tape tape_now held held_now (see s) (see now) fault
refuses_seen see from to f limit tape tape_now held held_now s now fault r = record {
  ms = r.ms;
  out = r.out;
  status = r.status;
  go_on = r.go_on;
  replies = replies_seen see from to f s r.ms r.out now r.replies;
  answered = r.answered;
  took = r.took;
  brings = r.brings;
}

fails_seen : {S T : Type 0} (see : S → T) (from : Answering S) (to : Answering T) → SeesAnswers see from to
    → (limit : ℕ) (tape tape_now : Option Tape) (held held_now : Option (List ℕ)) (s now : S) (fault : HttpFault)
    → FailsRefusing from limit tape tape_now held held_now s now fault → FailsRefusing to limit tape tape_now held held_now (see s) (see now) fault
fails_seen see from to f limit tape tape_now held held_now s now fault r = record {
  ms = r.ms;
  out = r.out;
  status = r.status;
  go_on = r.go_on;
  replies = replies_seen see from to f s r.ms r.out now r.replies;
  answered = r.answered;
  took = r.took;
  brings = r.brings;
}

gave_up_seen : {S T : Type 0} (see : S → T) (from : GivingUp S) (to : GivingUp T) → SeesGivingUp see from to → (limit : ℕ) (tape tape_now : Option Tape) (ms : List Request) (s now : S) → GaveUp from limit tape tape_now ms s now → GaveUp to limit tape tape_now ms (see s) (see now)
gave_up_seen see from to f limit tape tape_now ms s now (inl g) = inl (g.0, ap see g.1, g.2)
gave_up_seen see from to f limit tape tape_now ms s now (inr g) = inr (g.0, f s g.0 now g.1, g.2)

-- an end of a connection that the one served is one that the other served
pub ends_seen : {S T : Type 0} (see : S → T) (from : Answering S) (to : Answering T) (given : GivingUp S) (given_to : GivingUp T) → SeesAnswers see from to → SeesGivingUp see given given_to
    → (limit : ℕ) (tape tape_now : Option Tape) (held held_now : Option (List ℕ)) (s now : S) (end : ConnEnd)
    → EndsWith from given limit tape tape_now held held_now s now end → EndsWith to given_to limit tape tape_now held held_now (see s) (see now) end
ends_seen see from to given given_to f g limit tape tape_now held held_now s now ConnEnd.Closed e = (e.0, served_seen see from to f e.0 held held_now s now e.1, e.2)
ends_seen see from to given given_to f g limit tape tape_now held held_now s now ConnEnd.Cut e = (e.0, served_seen see from to f e.0 held held_now s now e.1, e.2, e.3)
ends_seen see from to given given_to f g limit tape tape_now held held_now s now (ConnEnd.Refused fault) e = refuses_seen see from to f limit tape tape_now held held_now s now fault e
ends_seen see from to given given_to f g limit tape tape_now held held_now s now ConnEnd.ReadFault e = (e.0, served_seen see from to f e.0 held held_now s now e.1, e.2, e.3)
ends_seen see from to given given_to f g limit tape tape_now held held_now s now ConnEnd.WriteFault (inl e) =
    inl
    (record {
      before = e.before;
      last = e.last;
      between = see e.between;
      out = e.out;
      answer = e.answer;
      body = e.body;
      go_on = e.go_on;
      replies = replies_seen see from to f s e.before e.out e.between e.replies;
      answered = f e.between e.last e.answer e.body now e.answered;
      took = e.took;
      brings = e.brings;
    })
ends_seen see from to given given_to f g limit tape tape_now held held_now s now ConnEnd.WriteFault (inr e) = inr (e.0, fails_seen see from to f limit tape tape_now held held_now s now e.0 e.1)
ends_seen see from to given given_to f g limit tape tape_now held held_now s now ConnEnd.Spent e = (e.0, served_seen see from to f e.0 held held_now s now e.1, e.2, e.3)
ends_seen see from to given given_to f g limit tape tape_now held held_now s now ConnEnd.OutOfMemory e =
    (e.0, see e.1, served_seen see from to f e.0 held held_now s e.1 e.2, e.3, gave_up_seen see given given_to g limit tape tape_now e.0 e.1 now e.4)
