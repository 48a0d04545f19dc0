-- What came of a connection is what a run wrote.
use Rattle.std.proofs.Common.{◌≡◌, ◌∙◌, ◌≤◌, inl, inr, ℕ, ◌+◌, List, [], ◌∷◌, ◌++◌, Option, Result, Ok, Err, length, refl, sym, ap, subst, append_assoc, append-nil, length-append, arith}
use Rattle.adx_io.specs.Lines.{tape_behind}
use Rattle.adx_io.specs.Streams.{Tape, Took, WhereTold}
use Rattle.adx_io.specs.declared.line_buffer.TheConstants.{CHUNK}
use Rattle.adx_io.specs.declared.stop.Stop.{Stop}
use Rattle.command_runs.specs.Meanings.{Wrote}
use Rattle.command_runs.specs.declared.outcome.Outcome.{Outcome}
use Rattle.command_runs.proofs.Told.{told_ahead, told_source}
use Rattle.http_connection.specs.Messages.{AreRequests, RefusesRequest, Request}
use Rattle.http_connection.specs.State.{room_of}
use Rattle.http_connection.specs.declared.conn.ConnEnd.{ConnEnd}
use Rattle.http_grammar.specs.declared.fault.HttpFault.{HttpFault}
use Rattle.http_service.specs.Connections.{Answering, EndsWith, FailsRefusing, FailsWriting, GivingUp}
use Rattle.http_service.specs.Replies.{refusal_bytes, reply_to}
use Rattle.http_service.proofs.Fronts.{requests_front}
use Rattle.http_service.specs.ConnectionRuns.{BreaksReply, Come, IsLast, IsOwnEnd, connection_by, result_by}

-- what was taken of an input that is these messages, of which some bytes wait after a buffer
came : (limit : ℕ) (input beyond pending left : List ℕ) (ms : List Request) → AreRequests limit input ms (beyond ++ (pending ++ left)) → (taken : List ℕ) × (input ≡ taken ++ left) × AreRequests limit (taken ++ left) ms ((beyond ++ pending) ++ left)
came limit input beyond pending left ms are =
    let split : AreRequests limit input ms ((beyond ++ pending) ++ left) = subst (λ (rest : List ℕ). AreRequests limit input ms rest) (sym (append_assoc beyond pending left)) are in
    let front = requests_front limit input (beyond ++ pending) left ms split in
    (front.0, front.1, subst (λ (i : List ℕ). AreRequests limit i ms ((beyond ++ pending) ++ left)) front.1 split)

-- the same, and what is known of the rest
pub come : (limit : ℕ) (input pending left : List ℕ) (ms : List Request) (Rest : List ℕ → Type 0) → ((beyond : List ℕ) × AreRequests limit input ms (beyond ++ (pending ++ left)) × Rest (beyond ++ (pending ++ left)))
    → (taken : List ℕ) × (input ≡ taken ++ left) × Come limit taken left ms (λ beyond rest. Rest rest)
come limit input pending left ms Rest b =
    let t = came limit input b.0 pending left ms b.1 in
    (t.0, t.1, (b.0 ++ pending, t.2, subst Rest (sym (append_assoc b.0 pending left)) b.2))

-- the same of bytes beyond the last message
module _ (limit most : ℕ) (pending : List ℕ) (few : length pending ≤ CHUNK) (enough : room_of limit + CHUNK ≤ most) where
  come_last : (input left : List ℕ) (ms : List Request) → ((beyond : List ℕ) × (length beyond ≤ room_of limit) × AreRequests limit input ms (beyond ++ (pending ++ left))) → (taken : List ℕ) × (input ≡ taken ++ left) × Come limit taken left ms (IsLast most)
  come_last input left ms b =
      let t = came limit input b.0 pending left ms b.2 in
      (t.0, t.1, (b.0 ++ pending, t.2, omega (arith, b.1, few, enough, length-append b.0 pending)))

module _ {S : Type 0} (answers : Answering S) (gives_up : GivingUp S) (limit most : ℕ) (enough : room_of limit + CHUNK ≤ most) (tape told : Option Tape) (pending : List ℕ) (few : length pending ≤ CHUNK) (held held_now : Option (List ℕ)) (s after : S) where
  abbrev behind : Option Tape
  behind = tape_behind pending told

  -- the connection ended so, as http_service says it
  abbrev Ended_so : ConnEnd → Type 0
  Ended_so end = EndsWith answers gives_up limit tape behind held held_now s after end

  -- whatever its run may end with, and whatever is put together
  module _ (MayEnd : Outcome → Type 0) (Breaks : List ℕ → List ℕ → List ℕ → List ℕ → Type 0) where
    abbrev Wrote_so : Result Outcome Stop → Type 0
    Wrote_so result = WhereTold tape told (λ x y. Wrote (connection_by answers gives_up limit most s after MayEnd Breaks) x.left y.left held held_now result)

    -- nothing more was put
    took_all : (out : List ℕ) → Took held held_now out → Took held held_now (out ++ [])
    took_all out took = subst (Took held held_now) (sym (append-nil out)) took

    pub refusing_wrote : (fault : HttpFault) → FailsRefusing answers limit tape behind held held_now s after fault → Wrote_so (Err Stop.WriteFault)
    refusing_wrote fault r = told_source tape pending told _ _ r.brings (λ x z b.
        let t = come limit x.left pending z.left r.ms (λ rest. RefusesRequest limit rest fault) b in
        (t.0, r.out, refusal_bytes r.status, r.took.0, r.took.1, t.1, inr (inl (r.ms, fault, r.status, r.go_on, r.replies, r.answered, refl, t.2)), r.took.2, r.took.3))

    pub own_wrote : (outcome : Outcome) → MayEnd outcome → (end : ConnEnd) → IsOwnEnd end → Ended_so end → Wrote_so (Ok outcome)
    own_wrote outcome may ConnEnd.Closed own (ms, served, inl kept) = told_source tape pending told _ _ kept.1 (λ x z b.
        let t = come limit x.left pending z.left ms (λ rest. rest ≡ []) b in (t.0, served.out, t.1, (may, inl (ms, served.replies, inl (kept.0, t.2))), served.took))
    own_wrote outcome may ConnEnd.Closed own (ms, served, inr closed) = told_source tape pending told _ _ closed.1 (λ x z b.
        let t = come_last limit most pending few enough x.left z.left ms b in (t.0, served.out, t.1, (may, inl (ms, served.replies, inr (inl (closed.0, t.2)))), served.took))
    own_wrote outcome may ConnEnd.Cut own (ms, served, go_on, brings) = told_source tape pending told _ _ brings (λ x z b.
        let t = come limit x.left pending z.left ms (λ rest. RefusesRequest limit rest HttpFault.Cut) b in (t.0, served.out, t.1, (may, inl (ms, served.replies, inr (inr (inl (go_on, t.2))))), served.took))
    own_wrote outcome may (ConnEnd.Refused fault) own r = told_source tape pending told _ _ r.brings (λ x z b.
        let t = come limit x.left pending z.left r.ms (λ rest. RefusesRequest limit rest fault) b in
        (t.0, _, t.1, (may, inr (r.out, refusal_bytes r.status, (r.ms, fault, r.status, r.go_on, r.replies, r.answered, refl, t.2), refl)), r.took))
    own_wrote outcome may ConnEnd.ReadFault own e = absurd own
    own_wrote outcome may ConnEnd.WriteFault own e = absurd own
    own_wrote outcome may ConnEnd.Spent own (ms, served, spent, brings) = told_source tape pending told _ _ brings (λ x z b.
        let t = come_last limit most pending few enough x.left z.left ms b in (t.0, served.out, t.1, (may, inl (ms, served.replies, inr (inr (inr (spent, t.2))))), served.took))
    own_wrote outcome may ConnEnd.OutOfMemory own e = absurd own

    pub unread_wrote : pending ≡ [] → Ended_so ConnEnd.ReadFault → Wrote_so (Err Stop.ReadFault)
    unread_wrote none (ms, served, go_on, gave) = told_source tape pending told _ _ gave (λ x z b.
        (b.0, served.out, b.2 ∙ ap (λ (p : List ℕ). b.0 ++ (p ++ z.left)) none, (ms, b.1, served.replies, go_on, b.3, b.4), served.took))

    pub refused_wrote : Ended_so ConnEnd.OutOfMemory → Wrote_so (Err Stop.OutOfMemory)
    refused_wrote (ms, between, served, go_on, inl none) =
        subst (λ (t : Option Tape). WhereTold t told (λ x y. Wrote (connection_by answers gives_up limit most s after MayEnd Breaks) x.left y.left held held_now (Err Stop.OutOfMemory))) none.2
        (told_ahead pending told _ (λ z. (pending, served.out, [], [], [], refl, inr (inr ((ms, between, served.replies, go_on, inl (none.0, none.1, omega (arith, few, enough))), refl)), refl, took_all served.out served.took)))
    refused_wrote (ms, between, served, go_on, inr gave) = told_source tape pending told _ _ gave.2 (λ x z b.
        let t = come_last limit most pending few enough x.left z.left (ms ++ gave.0 ∷ []) b in
        (t.0, served.out, [], [], [], t.1, inr (inr ((ms, between, served.replies, go_on, inr (gave.0, gave.1, t.2)), refl)), refl, took_all served.out served.took))

  -- a connection whose replies are put one by one
  abbrev IsDone : Outcome → Type 0
  IsDone outcome = outcome ≡ Outcome.Done

  abbrev One_reply : List ℕ → List ℕ → List ℕ → List ℕ → Type 0
  One_reply = BreaksReply answers gives_up limit most s after

  by_reply : FailsWriting answers limit tape behind held held_now s after → Wrote_so IsDone One_reply (Err Stop.WriteFault)
  by_reply f = told_source tape pending told _ _ f.brings (λ x z b.
      let t = come_last limit most pending few enough x.left z.left (f.before ++ f.last ∷ []) b in
      (t.0, f.out, reply_to f.last f.answer f.body, f.took.0, f.took.1, t.1, inl (f.before, f.last, f.between, f.answer, f.body, f.go_on, f.replies, f.answered, refl, t.2), f.took.2, f.took.3))

  pub connection_wrote : (end : ConnEnd) → (end ≡ ConnEnd.ReadFault → pending ≡ []) → Ended_so end → Wrote_so IsDone One_reply (result_by end)
  connection_wrote ConnEnd.Closed read_out e = own_wrote IsDone One_reply Outcome.Done refl ConnEnd.Closed tt e
  connection_wrote ConnEnd.Cut read_out e = own_wrote IsDone One_reply Outcome.Done refl ConnEnd.Cut tt e
  connection_wrote (ConnEnd.Refused fault) read_out e = own_wrote IsDone One_reply Outcome.Done refl (ConnEnd.Refused fault) tt e
  connection_wrote ConnEnd.ReadFault read_out e = unread_wrote IsDone One_reply (read_out refl) e
  connection_wrote ConnEnd.WriteFault read_out (inl f) = by_reply f
  connection_wrote ConnEnd.WriteFault read_out (inr (fault, r)) = refusing_wrote IsDone One_reply fault r
  connection_wrote ConnEnd.Spent read_out e = own_wrote IsDone One_reply Outcome.Done refl ConnEnd.Spent tt e
  connection_wrote ConnEnd.OutOfMemory read_out e = refused_wrote IsDone One_reply e
