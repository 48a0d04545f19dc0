-- What follows of the definition of messages: a list of bytes gives one answer and no two, and what a front of the bytes
-- gives stays so whatever follows.
use Rattle.std.specs.Prelude.{◌≡◌, ◌≢◌, ℕ, List, [], ◌++◌}
use Rattle.http_grammar.specs.declared.fault.HttpFault.{HttpFault}
use Rattle.http_connection.specs.declared.bodies.Body.{Body}
use Rattle.http_connection.specs.BodyForms.{body_of_response}
use Rattle.http_connection.specs.Messages.{Request, IsRequestThen, RefusesRequest, ResponseRead, IsResponseThen, RefusesResponse}

-- a request and the bytes after it, a fault, or the end, where there is no byte
pub data RequestAnswer : Type 0 where
  request : Request → List ℕ → RequestAnswer
  refusal : HttpFault → RequestAnswer
  ending : RequestAnswer

-- what a reader of requests answers to these bytes
abbrev pub AnswersRequest : ℕ → List ℕ → RequestAnswer → Type 0
AnswersRequest limit bytes (request m rest) = IsRequestThen limit bytes m rest
AnswersRequest limit bytes (refusal fault) = RefusesRequest limit bytes fault
AnswersRequest limit bytes ending = bytes ≡ []

-- a response and the bytes after it, or a fault
pub data ResponseAnswer : Type 0 where
  response : ResponseRead → List ℕ → ResponseAnswer
  refused : HttpFault → ResponseAnswer

-- what a reader of responses answers to these bytes
abbrev pub GivesAnswer : ℕ → List ℕ → ResponseAnswer → Type 0
GivesAnswer limit bytes (response m rest) = IsResponseThen limit bytes m rest
GivesAnswer limit bytes (refused fault) = RefusesResponse limit bytes fault

-- two answers that the same bytes give are one
abbrev pub HasOneRequest : Type 0
HasOneRequest = (limit : ℕ) (bytes : List ℕ) (a b : RequestAnswer) → AnswersRequest limit bytes a → AnswersRequest limit bytes b → a ≡ b

-- of the same bytes a reader gives one answer
abbrev pub HasOneResponse : Type 0
HasOneResponse = (limit : ℕ) (bytes : List ℕ) (a b : ResponseAnswer) → GivesAnswer limit bytes a → GivesAnswer limit bytes b → a ≡ b

-- a request that the front of the bytes gives is given by all of them, and what follows comes after it
abbrev pub RequestStays : Type 0
RequestStays = (limit : ℕ) (front more : List ℕ) (m : Request) (rest : List ℕ) → IsRequestThen limit front m rest → IsRequestThen limit (front ++ more) m (rest ++ more)

-- a fault of the front is one of all bytes, but for the front's own end
abbrev pub RequestFaultStays : Type 0
RequestFaultStays =
    (limit : ℕ) (front more : List ℕ) (fault : HttpFault) → (fault ≢ HttpFault.Cut) → RefusesRequest limit front fault
    → RefusesRequest limit (front ++ more) fault

-- the same for a response whose body doesn't go to the end of the bytes
abbrev pub ResponseStays : Type 0
ResponseStays =
    (limit : ℕ) (front more : List ℕ) (m : ResponseRead) (rest : List ℕ) → (r : IsResponseThen limit front m rest)
    → (body_of_response (IsResponseThen.framing r) ≢ Body.ToEnd)
    → IsResponseThen limit (front ++ more) m (rest ++ more)

-- what refuses a response refuses it whatever bytes come after it, unless it was cut
abbrev pub ResponseFaultStays : Type 0
ResponseFaultStays =
    (limit : ℕ) (front more : List ℕ) (fault : HttpFault) → (fault ≢ HttpFault.Cut)
    → RefusesResponse limit front fault → RefusesResponse limit (front ++ more) fault
