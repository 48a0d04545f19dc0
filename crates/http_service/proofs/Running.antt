-- How a connection goes on by its steps, and ends.
use Rattle.std.proofs.Common.{◌≡◌, ◌≢◌, inl, inr, ℕ, ◌+◌, ◌<◌, ◌≤◌, List, [], ◌∷◌, ◌++◌, length, true, Option, Some, None, refl, sym, ap, ◌∙◌, append_assoc, subst, arith, lit<}
use Rattle.std.proofs.lemmas.List.Elements.{All-nil}
use Rattle.adx_io.specs.Streams.{Tape, WhereTold, Took}
use Rattle.adx_io.proofs.Moved.{took_none, took_both}
use Rattle.http_connection.proofs.Told.{told_map, told_same, told_then}
use Rattle.http_connection.specs.Messages.{Request, IsRequestThen, AreRequests, RefusesRequest, IsUnfinishedRequest}
use Rattle.http_connection.specs.State.{room_of}
use Rattle.http_connection.specs.declared.conn.ConnEnd.{ConnEnd}
use Rattle.http_grammar.specs.Requests.{is_kept}
use Rattle.http_grammar.specs.declared.fault.HttpFault.{HttpFault}
use Rattle.http_service.specs.Connections.{Answering, GivingUp, GoOn, Brings, BringsLast, Gave, Served, TookFront, TookWithFront, Refuses, FailsRefusing, EndsWith, HasCauses, Replies}
use Rattle.http_service.specs.Replies.{refusal_bytes, reply_to}
use Rattle.http_service.specs.Steps.{Answers, BringsOne, Finds, FindsGiven, Runs, StepCauses, StepGives, WritesRefusal}
use Rattle.http_service.specs.declared.limits.TheConstants.{MESSAGE_LIMIT}
use Rattle.http_service.proofs.Fronts.{requests_front}
use Rattle.http_service.proofs.Lists.{requests_more, replies_more, kept_more, one_more}

-- no message came yet
pub runs_none : {S : Type 0} (answers : Answering S) (limit : ℕ) (ahead : List ℕ) (tape : Option Tape) (held : Option (List ℕ)) (s : S) → ahead ≡ [] → Runs answers limit 0 ahead tape tape held held s s
runs_none answers limit ahead tape held s is = record {
  ms = [];
  many = refl;
  kept = All-nil (λ (r : Request). is_kept r.head ≡ true);
  served = record { out = []; replies = (refl, refl); took = took_none held };
  fits = subst (λ (l : List ℕ). length l ≤ room_of limit) (sym is) (omega arith);
  brings = told_same tape (λ o n. AreRequests limit o.left [] (ahead ++ n.left)) (λ t. ap (λ (a : List ℕ). a ++ t.left) (sym is));
}

-- what is brought after the messages so far
pub brings_more : (limit : ℕ) (ms : List Request) (m : Request) (ahead ahead_now : List ℕ) (tape mid tape_now : Option Tape) → WhereTold tape mid (λ o n. AreRequests limit o.left ms (ahead ++ n.left)) → BringsOne limit ahead ahead_now mid tape_now m
    → WhereTold tape tape_now (λ o n. AreRequests limit o.left (ms ++ m ∷ []) (ahead_now ++ n.left))
brings_more limit ms m ahead ahead_now tape mid tape_now are one =
    told_then tape mid tape_now (λ o n. AreRequests limit o.left ms (ahead ++ n.left)) (λ o n. IsRequestThen limit (ahead ++ o.left) m (ahead_now ++ n.left)) (λ o n. AreRequests limit o.left (ms ++ m ∷ []) (ahead_now ++ n.left))
    (λ o b n r i. requests_more limit o.left ms (ahead ++ b.left) m (ahead_now ++ n.left) r i) are one.is

brings_found : (limit : ℕ) (ms : List Request) (ahead : List ℕ) (tape mid tape_now : Option Tape) (Rest : List ℕ → Type 0) → WhereTold tape mid (λ o n. AreRequests limit o.left ms (ahead ++ n.left)) → Finds ahead mid tape_now Rest → Brings limit tape tape_now ms Rest
brings_found limit ms ahead tape mid tape_now Rest are found =
    told_then tape mid tape_now (λ o n. AreRequests limit o.left ms (ahead ++ n.left)) (λ o n. (piece : List ℕ) × (o.left ≡ piece ++ n.left) × Rest (ahead ++ o.left)) (λ o n. (beyond : List ℕ) × AreRequests limit o.left ms (beyond ++ n.left) × Rest (beyond ++ n.left))
    (λ o b n r f.
    let e : ahead ++ b.left ≡ (ahead ++ f.0) ++ n.left = ap (λ (l : List ℕ). ahead ++ l) f.1 ∙ sym (append_assoc ahead f.0 n.left) in
    (ahead ++ f.0, subst (λ (l : List ℕ). AreRequests limit o.left ms l) e r, subst Rest e f.2))
    are found

gave_found : (limit : ℕ) (ms : List Request) (ahead : List ℕ) (tape mid tape_now : Option Tape) (Rest : List ℕ → Type 0) → WhereTold tape mid (λ o n. AreRequests limit o.left ms (ahead ++ n.left)) → FindsGiven ahead mid tape_now Rest → Gave limit tape tape_now ms Rest
gave_found limit ms ahead tape mid tape_now Rest are found =
    told_then tape mid tape_now (λ o n. AreRequests limit o.left ms (ahead ++ n.left)) (λ o n. (given : List ℕ) × (o.left ≡ given ++ n.left) × Rest (ahead ++ given))
    (λ o n. (given : List ℕ) × (rest : List ℕ) × (o.left ≡ given ++ n.left) × AreRequests limit given ms rest × Rest rest)
    (λ o b n r f.
    let e : ahead ++ b.left ≡ (ahead ++ f.0) ++ n.left = ap (λ (l : List ℕ). ahead ++ l) f.1 ∙ sym (append_assoc ahead f.0 n.left) in
    let front = requests_front limit o.left (ahead ++ f.0) n.left ms (subst (λ (l : List ℕ). AreRequests limit o.left ms l) e r) in
    (front.0, ahead ++ f.0, front.1, front.2, f.2))
    are found

pub brings_last : (limit : ℕ) (ms : List Request) (ahead : List ℕ) (tape tape_now : Option Tape) → length ahead ≤ room_of limit → WhereTold tape tape_now (λ o n. AreRequests limit o.left ms (ahead ++ n.left)) → BringsLast limit tape tape_now ms
brings_last limit ms ahead tape tape_now fits w =
    told_map tape tape_now (λ o n. AreRequests limit o.left ms (ahead ++ n.left)) (λ o n. (beyond : List ℕ) × (length beyond ≤ room_of limit) × AreRequests limit o.left ms (beyond ++ n.left))
    (λ o n are. (ahead, fits, are)) w

-- one message more, which is the last
pub brings_to : (limit : ℕ) (ms : List Request) (m : Request) (ahead ahead_now : List ℕ) (tape mid tape_now : Option Tape) → WhereTold tape mid (λ o n. AreRequests limit o.left ms (ahead ++ n.left)) → BringsOne limit ahead ahead_now mid tape_now m → BringsLast limit tape tape_now (ms ++ m ∷ [])
brings_to limit ms m ahead ahead_now tape mid tape_now are one = brings_last limit (ms ++ m ∷ []) ahead_now tape tape_now one.fits (brings_more limit ms m ahead ahead_now tape mid tape_now are one)

-- what the sink took after the replies so far
served_more : {S : Type 0} (answers : Answering S) (ms : List Request) (m : Request) (held mid held_now : Option (List ℕ)) (s between now : S) → Served answers ms held mid s between → Answers answers Took mid held_now between now m → Served answers (ms ++ m ∷ []) held held_now s now
served_more answers ms m held mid held_now s between now served one = record {
  out = Served.out served ++ reply_to m (Answers.answer one) (Answers.body one);
  replies = replies_more answers s ms (Served.out served) between m (Answers.answer one) (Answers.body one) now (Served.replies served) (Answers.answered one);
  took = took_both held mid held_now (Served.out served) (reply_to m (Answers.answer one) (Answers.body one)) (Served.took served) (Answers.took one);
}

served_same : {S : Type 0} (answers : Answering S) (ms : List Request) (held mid held_now : Option (List ℕ)) (s between now : S) → Served answers ms held mid s between → now ≡ between → held_now ≡ mid → Served answers ms held held_now s now
served_same {S = S} answers ms held mid held_now s between now served e f =
    subst (λ (h : Option (List ℕ)). Served answers ms held h s now) (sym f) (subst (λ (b : S). Served answers ms held mid s b) (sym e) served)

replies_same : {S : Type 0} (answers : Answering S) (ms : List Request) (out : List ℕ) (s between now : S) → Replies answers s ms out between → now ≡ between → Replies answers s ms out now
replies_same {S = S} answers ms out s between now are e = subst (λ (b : S). Replies answers s ms out b) (sym e) are

front_behind : (held mid held_now : Option (List ℕ)) (out bytes : List ℕ) → Took held mid out → TookFront mid held_now bytes → TookWithFront held held_now out bytes
front_behind held mid held_now out bytes took front = (front.0, front.1, front.2, took_both held mid held_now out front.0 took front.3)

-- a message was served, and the connection goes on
pub runs_more : {S : Type 0} (answers : Answering S) (gives_up : GivingUp S) (limit count : ℕ) (ahead ahead_now : List ℕ) (tape mid tape_now : Option Tape) (held held_mid held_now : Option (List ℕ)) (s between now : S)
    → Runs answers limit count ahead tape mid held held_mid s between → StepGives answers gives_up limit ahead ahead_now mid tape_now held_mid held_now between now None
    → Runs answers limit (count + 1) ahead_now tape tape_now held held_now s now
runs_more answers gives_up limit count ahead ahead_now tape mid tape_now held held_mid held_now s between now r g = record {
  ms = Runs.ms r ++ g.0 ∷ [];
  many = one_more (Runs.ms r) g.0 count (Runs.many r);
  kept = kept_more (Runs.ms r) g.0 (Runs.kept r) g.2.0;
  served = served_more answers (Runs.ms r) g.0 held held_mid held_now s between now (Runs.served r) g.2.1;
  fits = BringsOne.fits g.1;
  brings = brings_more limit (Runs.ms r) g.0 ahead ahead_now tape mid tape_now (Runs.brings r) g.1;
}

goes_on : {S : Type 0} (answers : Answering S) (limit count : ℕ) (ahead : List ℕ) (tape tape_now : Option Tape) (held held_now : Option (List ℕ)) (s now : S) (r : Runs answers limit count ahead tape tape_now held held_now s now) → count < MESSAGE_LIMIT → GoOn (Runs.ms r)
goes_on answers limit count ahead tape tape_now held held_now s now r below = record {
  kept = Runs.kept r;
  few = subst (λ (n : ℕ). n < MESSAGE_LIMIT) (sym (Runs.many r)) below;
}

-- a refusal after the messages so far
refuses : {S : Type 0} (answers : Answering S) (limit count : ℕ) (ahead : List ℕ) (tape mid tape_now : Option Tape) (held held_mid held_now : Option (List ℕ)) (s between now : S) (fault : HttpFault)
    → Runs answers limit count ahead tape mid held held_mid s between → count < MESSAGE_LIMIT → now ≡ between → WritesRefusal Took held_mid held_now fault → Finds ahead mid tape_now (λ rest. RefusesRequest limit rest fault)
    → Refuses answers limit tape tape_now held held_now s now fault
refuses answers limit count ahead tape mid tape_now held held_mid held_now s between now fault r below same w found = record {
  ms = r.ms;
  out = Served.out r.served;
  status = w.status;
  go_on = goes_on answers limit count ahead tape mid held held_mid s between r below;
  replies = replies_same answers r.ms (Served.out r.served) s between now (Served.replies r.served) same;
  answered = w.answered;
  took = took_both held held_mid held_now (Served.out r.served) (refusal_bytes w.status) (Served.took r.served) w.took;
  brings = brings_found limit r.ms ahead tape mid tape_now (λ rest. RefusesRequest limit rest fault) r.brings found;
}

-- or the sink fails within it
fails_refusing : {S : Type 0} (answers : Answering S) (limit count : ℕ) (ahead : List ℕ) (tape mid tape_now : Option Tape) (held held_mid held_now : Option (List ℕ)) (s between now : S) (fault : HttpFault)
    → Runs answers limit count ahead tape mid held held_mid s between → count < MESSAGE_LIMIT → now ≡ between → WritesRefusal TookFront held_mid held_now fault → Finds ahead mid tape_now (λ rest. RefusesRequest limit rest fault)
    → FailsRefusing answers limit tape tape_now held held_now s now fault
fails_refusing answers limit count ahead tape mid tape_now held held_mid held_now s between now fault r below same w found = record {
  ms = r.ms;
  out = Served.out r.served;
  status = w.status;
  go_on = goes_on answers limit count ahead tape mid held held_mid s between r below;
  replies = replies_same answers r.ms (Served.out r.served) s between now (Served.replies r.served) same;
  answered = w.answered;
  took = front_behind held held_mid held_now (Served.out r.served) (refusal_bytes w.status) (Served.took r.served) w.took;
  brings = brings_found limit r.ms ahead tape mid tape_now (λ rest. RefusesRequest limit rest fault) r.brings found;
}

-- the connection ended after the messages so far
pub runs_end : {S : Type 0} (answers : Answering S) (gives_up : GivingUp S) (limit count : ℕ) (ahead ahead_now : List ℕ) (tape mid tape_now : Option Tape) (held held_mid held_now : Option (List ℕ)) (s between now : S) (end : ConnEnd)
    → Runs answers limit count ahead tape mid held held_mid s between → count < MESSAGE_LIMIT → StepGives answers gives_up limit ahead ahead_now mid tape_now held_mid held_now between now (Some end)
    → EndsWith answers gives_up limit tape tape_now held held_now s now end
runs_end answers gives_up limit count ahead ahead_now tape mid tape_now held held_mid held_now s between now ConnEnd.Closed r below (inl g) = (
  Runs.ms r,
  served_same answers (Runs.ms r) held held_mid held_now s between now (Runs.served r) g.0 g.1,
  inl (goes_on answers limit count ahead tape mid held held_mid s between r below, brings_found limit (Runs.ms r) ahead tape mid tape_now (λ rest. rest ≡ []) (Runs.brings r) g.2),
)
runs_end answers gives_up limit count ahead ahead_now tape mid tape_now held held_mid held_now s between now ConnEnd.Closed r below (inr g) = (
  Runs.ms r ++ g.0 ∷ [],
  served_more answers (Runs.ms r) g.0 held held_mid held_now s between now (Runs.served r) g.2.1,
  inr (
    record { before = Runs.ms r; last = g.0; split = refl; go_on = goes_on answers limit count ahead tape mid held held_mid s between r below; closes = g.2.0 },
    brings_to limit (Runs.ms r) g.0 ahead ahead_now tape mid tape_now (Runs.brings r) g.1,
  ),
)
runs_end answers gives_up limit count ahead ahead_now tape mid tape_now held held_mid held_now s between now ConnEnd.Cut r below g = (
  Runs.ms r,
  served_same answers (Runs.ms r) held held_mid held_now s between now (Runs.served r) g.0 g.1,
  goes_on answers limit count ahead tape mid held held_mid s between r below,
  brings_found limit (Runs.ms r) ahead tape mid tape_now (λ rest. RefusesRequest limit rest HttpFault.Cut) (Runs.brings r) g.2,
)
runs_end answers gives_up limit count ahead ahead_now tape mid tape_now held held_mid held_now s between now (ConnEnd.Refused fault) r below g =
    refuses answers limit count ahead tape mid tape_now held held_mid held_now s between now fault r below g.0 g.1 g.2
runs_end answers gives_up limit count ahead ahead_now tape mid tape_now held held_mid held_now s between now ConnEnd.ReadFault r below g = (
  Runs.ms r,
  served_same answers (Runs.ms r) held held_mid held_now s between now (Runs.served r) g.0 g.1,
  goes_on answers limit count ahead tape mid held held_mid s between r below,
  gave_found limit (Runs.ms r) ahead tape mid tape_now (IsUnfinishedRequest limit) (Runs.brings r) g.2,
)
runs_end answers gives_up limit count ahead ahead_now tape mid tape_now held held_mid held_now s between now ConnEnd.WriteFault r below (inl g) =
    inl
    (record {
      before = Runs.ms r;
      last = g.0;
      between = between;
      out = Served.out (Runs.served r);
      answer = Answers.answer g.2;
      body = Answers.body g.2;
      go_on = goes_on answers limit count ahead tape mid held held_mid s between r below;
      replies = Served.replies (Runs.served r);
      answered = Answers.answered g.2;
      took = front_behind held held_mid held_now (Served.out (Runs.served r)) (reply_to g.0 (Answers.answer g.2) (Answers.body g.2)) (Served.took (Runs.served r)) (Answers.took g.2);
      brings = brings_to limit (Runs.ms r) g.0 ahead ahead_now tape mid tape_now (Runs.brings r) g.1;
    })
runs_end answers gives_up limit count ahead ahead_now tape mid tape_now held held_mid held_now s between now ConnEnd.WriteFault r below (inr g) =
    inr (g.0, fails_refusing answers limit count ahead tape mid tape_now held held_mid held_now s between now g.0 r below g.1 g.2 g.3)
runs_end answers gives_up limit count ahead ahead_now tape mid tape_now held held_mid held_now s between now ConnEnd.Spent r below g = absurd g
runs_end answers gives_up limit count ahead ahead_now tape mid tape_now held held_mid held_now s between now ConnEnd.OutOfMemory r below g = (
  Runs.ms r,
  between,
  served_same answers (Runs.ms r) held held_mid held_now s between between (Runs.served r) refl g.2.1,
  goes_on answers limit count ahead tape mid held held_mid s between r below,
  inr (g.0, g.2.0, brings_to limit (Runs.ms r) g.0 ahead ahead_now tape mid tape_now (Runs.brings r) g.1),
)

-- as many messages came as may
pub runs_spent : {S : Type 0} (answers : Answering S) (gives_up : GivingUp S) (limit count : ℕ) (ahead : List ℕ) (tape tape_now : Option Tape) (held held_now : Option (List ℕ)) (s now : S)
    → Runs answers limit count ahead tape tape_now held held_now s now → count ≡ MESSAGE_LIMIT → EndsWith answers gives_up limit tape tape_now held held_now s now ConnEnd.Spent
runs_spent answers gives_up limit count ahead tape tape_now held held_now s now r all =
    (Runs.ms r, Runs.served r, record { kept = Runs.kept r; many = Runs.many r ∙ all }, brings_last limit (Runs.ms r) ahead tape tape_now (Runs.fits r) (Runs.brings r))

-- memory was refused before any message came
pub runs_nothing : {S : Type 0} (answers : Answering S) (gives_up : GivingUp S) (limit : ℕ) (tape : Option Tape) (held : Option (List ℕ)) (s : S) → EndsWith answers gives_up limit tape tape held held s s ConnEnd.OutOfMemory
runs_nothing answers gives_up limit tape held s = (
  [],
  s,
  record { out = []; replies = (refl, refl); took = took_none held },
  record { kept = All-nil (λ (r : Request). is_kept r.head ≡ true); few = lit< tt },
  inl (refl, refl, refl),
)

-- the causes of an end, where nothing failed before
pub causes_behind : (read mid read_now write write_mid write_now : ℕ) (end : ConnEnd) → mid ≡ read → write_mid ≡ write → StepCauses mid read_now write_mid write_now (Some end) → HasCauses read read_now write write_now end
causes_behind read mid read_now write write_mid write_now end e f causes =
    subst (λ (w : ℕ). HasCauses read read_now w write_now end) f (subst (λ (r : ℕ). HasCauses r read_now write_mid write_now end) e causes)

-- no fault where nothing failed
pub no_causes : (read read_now write write_now : ℕ) (end : ConnEnd) → read_now ≡ read → write_now ≡ write → end ≢ ConnEnd.ReadFault → end ≢ ConnEnd.WriteFault → HasCauses read read_now write write_now end
no_causes read read_now write write_now end e f no_read no_write = record {
  read_later = omega arith;
  write_later = omega arith;
  read_fault = λ is. absurd (no_read is);
  write_fault = λ is. absurd (no_write is);
  read_same = λ is. e;
  write_same = λ is. f;
}
