-- The replies to notices that were taken one after another, each by the history at which it was taken.
use Rattle.std.proofs.Common.{◌≡◌, ℕ, List, [], ◌∷◌, ◌++◌, Bool, true, false, not, Option, Some, None, if◌then◌else◌, slice_get, refl, sym, ap, ◌∙◌, subst, append_assoc, append-nil}
use Rattle.std.specs.List.{AllZip}
use Rattle.std.proofs.lemmas.List.Elements.{All-head, All-tail}
use Rattle.adx_http.specs.Targets.{path_of}
use Rattle.answer_lines.specs.Answers.{ask_told}
use Rattle.answer_lines.proofs.OfNoAsk.{notice_of_none}
use Rattle.day_rules.specs.Laws.{Arrival}
use Rattle.day_rules.specs.Books.{awards_of}
use Rattle.day_rules.specs.Replies.{answered, is_of_auction, known_reply, notice, notice_reply, ruled_reply, with_entry, Reply as DayReply}
use Rattle.day_rules.specs.declared.answer.Answer.{Answer}
use Rattle.day_rules.specs.declared.entry.Entry.{Entry}
use Rattle.deal_floor.specs.declared.roster.Roster.{Roster}
use Rattle.adx_desk.specs.Steps.{Step, took}
use Rattle.adx_desk.specs.Together.{AreNoticed, IsOutcome, noticed}
use Rattle.fan_out.specs.declared.lane.Lane.{Lane}
use Rattle.fan_out.specs.Lanes.{Outcome}
use Rattle.http_connection.specs.Messages.{Request}
use Rattle.http_grammar.specs.Requests.{is_kept, verb_of_method}
use Rattle.http_grammar.specs.declared.verb.Verb.{Verb}
use Rattle.http_service.specs.Connections.{Replies}
use Rattle.http_service.specs.Replies.{answer_bytes, is_head, reply_to}
use Rattle.notice_book.specs.declared.award.Award.{Award}
use Rattle.notice_book.specs.declared.kind.NoticeKind.{NoticeKind}
use Rattle.notice_book.specs.declared.ruling.Ruling.{Ruling}
use Rattle.notice_book.specs.Rules.{ruling_of}
use Rattle.exchange_messages.specs.Courses.{AnswersOn, Course}
use Rattle.exchange_messages.specs.Meanings.{MeansBy, ServedMeans, notifies}
use Rattle.exchange_messages.specs.Outcomes.{outcome_reply}
use Rattle.exchange_messages.specs.Paths.{is_served, path_named}
use Rattle.exchange_messages.specs.Turns.{AnswerReplies, CallReplies}
use Rattle.exchange_messages.specs.declared.path.Path.{Path}
use Rattle.exchange_http.specs.Running.{StayTo, Waits, outcome_bytes, outcomes_bytes}

-- the reply to a notice that was done is the one by its outcome
abbrev IsSaid : Roster → DayReply → Type 0
IsSaid r a = AnswerReplies r a.answer None (outcome_reply (Some a.answer))

either : (r : Roster) (b : Bool) (x y : DayReply) → IsSaid r x → IsSaid r y → IsSaid r (if b then x else y)
either r true x y first second = first
either r false x y first second = second

ruled_said : (r : Roster) (history : List Entry) (kind : NoticeKind) (n : ℕ) (ruling : Ruling) → IsSaid r (ruled_reply history kind n ruling)
ruled_said r history kind n Ruling.Counted = refl
ruled_said r history kind n ruling = refl

known_said : (r : Roster) (history : List Entry) (kind : NoticeKind) (auction : List ℕ) (n : ℕ) (o : Option Award) → IsSaid r (known_reply history kind auction n o)
known_said r history kind auction n None = refl
known_said r history kind auction n (Some w) =
    either r (is_of_auction history auction w) (ruled_reply history kind n (ruling_of kind w)) (answered Answer.Unknown) (ruled_said r history kind n (ruling_of kind w)) refl

notice_said : (r : Roster) (history : List Entry) (kind : NoticeKind) (auction : List ℕ) (n : ℕ) → IsSaid r (notice_reply history kind auction n)
notice_said r history kind auction n = known_said r history kind auction n (slice_get (awards_of history) n)

-- a notice with its outcome is replied so
pub outcome_replies : (r : Roster) (at : List Entry) (x : Arrival) (o : Option Answer) → IsOutcome at x o → CallReplies r (noticed at x o) (outcome_reply o)
outcome_replies r at x None is = refl
outcome_replies r at x (Some answer) is =
    let a = notice_reply at x.kind x.auction x.award in
    subst (λ (b : Answer). AnswerReplies r a.answer (ask_told (with_entry at a.entry) a.answer) (outcome_reply (Some b))) (sym is)
    (subst (λ about. AnswerReplies r a.answer about (outcome_reply (Some a.answer))) (sym (notice_of_none at x.kind x.auction x.award)) (notice_said r at x.kind x.auction x.award))

-- a notice isn't asked by HEAD
served_no_head : (path : Path) (v : Verb) (b : Bool) (request : Request) (kind : NoticeKind) (auction : List ℕ) (award : ℕ) → is_served path v ≡ b → ServedMeans b path request (notifies kind auction award) → is_head v ≡ false
served_no_head Path.OpenRtb Verb.Head true request kind auction award is means = absurd (cc is)
served_no_head path Verb.Head true request kind auction award is means = absurd (cc is)
served_no_head path Verb.Head false request kind auction award is means = absurd (cc means)
served_no_head path v b request kind auction award is means = refl

named_no_head : (p : Option Path) (request : Request) (kind : NoticeKind) (auction : List ℕ) (award : ℕ) → MeansBy p request (notifies kind auction award) → is_head (verb_of_method request.head.method) ≡ false
named_no_head None request kind auction award means = absurd (cc means)
named_no_head (Some path) request kind auction award means =
    served_no_head path (verb_of_method request.head.method) (is_served path (verb_of_method request.head.method)) request kind auction award refl means

-- the bytes of the reply to a notice
pub notice_bytes : (m : Request) (x : Arrival) (o : Option Answer) (close : Bool) → Waits m x → is_kept m.head ≡ not close → reply_to m (outcome_reply o).answer (outcome_reply o).body ≡ outcome_bytes close o
notice_bytes m x o close waits kept =
    let no_head = named_no_head (path_named (path_of m.head.target)) m x.kind x.auction x.award waits in
    (λ i. answer_bytes (not (kept i)) (no_head i) (outcome_reply o).answer (outcome_reply o).body) ∙ ap (λ (b : Bool). answer_bytes b false (outcome_reply o).answer (outcome_reply o).body) (twice close)
  where
    twice : (b : Bool) → not (not b) ≡ b
    twice true = refl
    twice false = refl

-- messages of which the first has one after it
first_stays : (close : Bool) (m n : Request) (ms : List Request) → StayTo close (m ∷ n ∷ ms) → (is_kept m.head ≡ true) × StayTo close (n ∷ ms)
first_stays false m n ms all = (All-head (λ (r : Request). is_kept r.head ≡ true) m (n ∷ ms) all, All-tail (λ (r : Request). is_kept r.head ≡ true) m (n ∷ ms) all)
first_stays true m n ms ([], last, is, kept, closes) = absurd (let e : n ∷ ms ≡ [] = cc is in cc e)
first_stays true m n ms (b ∷ before, last, is, kept, closes) =
    let head : m ≡ b = cc is in
    let tail : n ∷ ms ≡ before ++ last ∷ [] = cc is in (
      subst (λ (r : Request). is_kept r.head ≡ true) (sym head) (All-head (λ (r : Request). is_kept r.head ≡ true) b before kept),
      (before, last, tail, All-tail (λ (r : Request). is_kept r.head ≡ true) b before kept, closes),
    )

-- and the last one
last_stays : (close : Bool) (m : Request) → StayTo close (m ∷ []) → is_kept m.head ≡ not close
last_stays false m all = All-head (λ (r : Request). is_kept r.head ≡ true) m [] all
last_stays true m ([], last, is, kept, closes) = let same : m ≡ last = cc is in ap (λ (r : Request). is_kept r.head) same ∙ closes
last_stays true m (b ∷ before, last, is, kept, closes) = absurd (none before last (let tail : [] ≡ before ++ last ∷ [] = cc is in tail))
  where
    none : (before : List Request) (last : Request) → [] ≡ before ++ last ∷ [] → ⊥
    none [] last is = cc is
    none (c ∷ before) last is = cc is

module _ {L : Type 0} (Works : List ℕ → List ℕ → Lane L → Lane L → Outcome → Type 0) (IsMoment : ℕ → Type 0) (r : Roster) (lanes : List (Lane L)) where
  abbrev pub on : List Step → Course L
  on steps = record { steps = steps; lanes = lanes }

  -- one notice
  notice_answers : (steps : List Step) (m : Request) (x : Arrival) (o : Option Answer) (at : List Entry) → Waits m x → IsOutcome at x o
      → AnswersOn Works IsMoment r (on steps) m (outcome_reply o).answer (outcome_reply o).body (on (steps ++ took (noticed at x o) ∷ []))
  notice_answers steps m x o at waits is = (
    took (noticed at x o) ∷ [],
    lanes,
    record {
      meaning = notifies x.kind x.auction x.award;
      means = waits;
      answered = (noticed at x o, call_is o, refl, refl, outcome_replies r at x o is);
    },
    refl,
  )
    where
      call_is : (p : Option Answer) → (noticed at x p).call ≡ notice x.kind x.auction x.award
      call_is None = refl
      call_is (Some a) = refl

  -- notices one after another
  pub notices_replied : (close : Bool) (steps more : List Step) (late : List Request) (notices : List Arrival) (outcomes : List (Option Answer)) → AllZip Waits late notices → StayTo close late → AreNoticed notices outcomes more
      → Replies (AnswersOn Works IsMoment r) (on steps) late (outcomes_bytes close outcomes) (on (steps ++ more))
  notices_replied close steps more [] [] [] waits stay are = (refl, ap (λ (l : List Step). on (steps ++ l)) are ∙ ap on (append-nil steps))
  notices_replied close steps more [] [] (o ∷ outcomes) waits stay are = absurd are
  notices_replied close steps more [] (x ∷ notices) outcomes waits stay are = absurd waits
  notices_replied close steps more (m ∷ late) [] outcomes waits stay are = absurd waits
  notices_replied close steps more (m ∷ late) (x ∷ notices) [] waits stay are = absurd are
  notices_replied close steps more (m ∷ []) (x ∷ []) (o ∷ []) waits stay (at, rest, is, outcome, are) = (
    (outcome_reply o).answer,
    (outcome_reply o).body,
    on (steps ++ took (noticed at x o) ∷ []),
    [],
    notice_answers steps m x o at waits.0 outcome,
    (refl, ap (λ (l : List Step). on (steps ++ l)) (is ∙ ap (λ (l : List Step). took (noticed at x o) ∷ l) are)),
    sym (notice_bytes m x o close waits.0 (last_stays close m stay)) ∙ sym (append-nil (reply_to m (outcome_reply o).answer (outcome_reply o).body)),
  )
  notices_replied close steps more (m ∷ []) (x ∷ []) (o ∷ p ∷ outcomes) waits stay are = absurd are.4
  notices_replied close steps more (m ∷ []) (x ∷ y ∷ notices) (o ∷ outcomes) waits stay are = absurd waits.1
  notices_replied close steps more (m ∷ n ∷ late) (x ∷ []) (o ∷ outcomes) waits stay are = absurd waits.1
  notices_replied close steps more (m ∷ n ∷ late) (x ∷ y ∷ notices) (o ∷ []) waits stay are = absurd are.4
  notices_replied close steps more (m ∷ n ∷ late) (x ∷ y ∷ notices) (o ∷ p ∷ outcomes) waits stay (at, rest, is, outcome, are) =
      let stays = first_stays close m n late stay in
      let one = took (noticed at x o) in
      let behind = notices_replied close (steps ++ one ∷ []) rest (n ∷ late) (y ∷ notices) (p ∷ outcomes) waits.1 stays.1 are in (
        (outcome_reply o).answer,
        (outcome_reply o).body,
        on (steps ++ one ∷ []),
        outcomes_bytes close (p ∷ outcomes),
        notice_answers steps m x o at waits.0 outcome,
        subst (λ (l : List Step). Replies (AnswersOn Works IsMoment r) (on (steps ++ one ∷ [])) (n ∷ late) (outcomes_bytes close (p ∷ outcomes)) (on l)) (append_assoc steps (one ∷ []) rest ∙ ap (λ (l : List Step). steps ++ l) (sym is)) behind,
        ap (λ (b : List ℕ). b ++ outcomes_bytes close (p ∷ outcomes)) (sym (notice_bytes m x o false waits.0 stays.0)),
      )
