-- Each call has a request.
use Rattle.std.proofs.Common.{ℕ, ◌<◌, List, length, sym, subst, arith}
use Rattle.url.specs.Host.{host_text}
use Rattle.outbox.specs.Calls.{port_of, request_for, target_of}
use Rattle.outbox.specs.declared.calling.Call.{Call}
use Rattle.two_books.proofs.MadeRequests.{made_of}
use Rattle.two_books.proofs.Tried.{HaveRequests}

some_request : (host : List ℕ) (port : ℕ) (target : List ℕ) → 0 < length (request_for host port target)
some_request host port target = omega arith

pub have_requests : HaveRequests
have_requests url c e =
    let made = (made_of url c e).2 in
    let p = (made_of url c e).0 in
    subst (λ (d : Call). 0 < length d.request) (sym made.is) (some_request (host_text made.host) (port_of p) (target_of p))
