-- Messages that made the same steps have the same replies.
use Rattle.std.proofs.Common.{◌≡◌, ℕ, List, [], ◌∷◌, ◌++◌, Bool, true, false, Option, Some, None, refl, sym, ap, ap₂, ◌∙◌, subst, append_assoc, append-nil}
use Rattle.adx_json.specs.Tree.{Tree}
use Rattle.answer_lines.specs.Answers.{ask_told}
use Rattle.answer_lines.specs.declared.faults.Fault.{Fault}
use Rattle.day_rules.specs.Replies.{Call, is_awarded, reply, with_entry}
use Rattle.day_rules.specs.declared.answer.Answer.{Answer}
use Rattle.day_rules.specs.declared.ask.Ask.{Ask}
use Rattle.day_rules.specs.declared.entry.Entry.{Entry}
use Rattle.deal_floor.specs.declared.roster.Roster.{Roster}
use Rattle.fan_out.specs.declared.answer.BidderAnswer.{BidderAnswer}
use Rattle.fan_out.specs.declared.lane.Lane.{Lane}
use Rattle.fan_out.specs.Lanes.{Outcome}
use Rattle.http_connection.specs.Messages.{Request}
use Rattle.http_service.specs.Connections.{Replies}
use Rattle.http_service.specs.Replies.{reply_to}
use Rattle.rtb_request.specs.declared.bid_request.BidRequest.{BidRequest}
use Rattle.answer_lines.specs.Table.{closing_table}
use Rattle.adx_desk.specs.Called.{Called, Ended, wanted_memory, was_done, was_given_up}
use Rattle.adx_desk.specs.Steps.{Step, looked, metered, took}
use Rattle.exchange_messages.specs.Floors.{IsMomentOf}
use Rattle.day_rules.specs.declared.meters.Meters.{Meters}
use Rattle.exchange_messages.specs.Meters.{meters_text}
use Rattle.exchange_messages.specs.Courses.{AnswersOn, Course, begun}
use Rattle.exchange_http.specs.Laws.{AreOne, HasOneReply}
use Rattle.exchange_messages.specs.Meanings.{Meaning, asks, notifies, refused, sets_budget, wants_books, wants_meters}
use Rattle.exchange_messages.specs.Replies.{Reply, with_status}
use Rattle.exchange_messages.specs.Turns.{AnswerReplies, AskReplies, AsksBehind, CallReplies, IsAnswered, IsAnsweredAs, IsAsked, RepliesBy, SoldReplies, sale_reply, terms_by}
use Rattle.exchange_http.proofs.Meant.{one_meaning}
use Rattle.exchange_messages.proofs.OneSale.{one_sale}

-- what begins two equal lists
heads : {X : Type 0} (x y : X) (xs ys : List X) → x ∷ xs ≡ y ∷ ys → x ≡ y
heads x y xs ys is = cc is

tails : {X : Type 0} (x y : X) (xs ys : List X) → x ∷ xs ≡ y ∷ ys → xs ≡ ys
tails x y xs ys is = cc is

behind_same : {X : Type 0} (front xs ys : List X) → front ++ xs ≡ front ++ ys → xs ≡ ys
behind_same [] xs ys is = is
behind_same (a ∷ front) xs ys is = behind_same front xs ys (tails a a (front ++ xs) (front ++ ys) is)

taken_one : (c d : Called) → took c ≡ took d → c ≡ d
taken_one c d is = cc is

looked_one : (h k : List Entry) → looked h ≡ looked k → h ≡ k
looked_one h k is = cc is

metered_one : (h k : List Entry) (m n : Meters) → metered h m ≡ metered k n → m ≡ n
metered_one h k m n is = cc is

module _ (r : Roster) where
  -- a call has one reply
  one_sold : (awarded : Bool) (a : Ask) (said other : Reply) → SoldReplies awarded r a said → SoldReplies awarded r a other → said ≡ other
  one_sold true a said other (body, sale, is) (again, other_sale, also) = is ∙ ap sale_reply (one_sale r a body again sale other_sale) ∙ sym also
  one_sold false a said other is also = is ∙ sym also

  one_ask : (about : Option Ask) (said other : Reply) → AskReplies r about said → AskReplies r about other → said ≡ other
  one_ask None said other is also = is ∙ sym also
  one_ask (Some a) said other is also = one_sold (is_awarded a) a said other is also

  one_answer : (answer : Answer) (about : Option Ask) (said other : Reply) → AnswerReplies r answer about said → AnswerReplies r answer about other → said ≡ other
  one_answer (Answer.Awarded place) about said other is also = one_ask about said other is also
  one_answer (Answer.NoSale place) about said other is also = one_ask about said other is also
  one_answer (Answer.Repeat place) about said other is also = one_ask about said other is also
  one_answer answer about said other is also = is ∙ sym also

  one_reply_by : (at : List Entry) (call : Call) (ended : Ended) (said other : Reply) → RepliesBy r at call ended said → RepliesBy r at call ended other → said ≡ other
  one_reply_by at call was_done said other is also = one_answer (reply (terms_by r) at call).answer (ask_told (with_entry at (reply (terms_by r) at call).entry) (reply (terms_by r) at call).answer) said other is also
  one_reply_by at call (was_given_up fault) said other is also = is ∙ sym also
  one_reply_by at call wanted_memory said other is also = absurd is

  one_call : (c d : Called) (said other : Reply) → c ≡ d → CallReplies r c said → CallReplies r d other → said ≡ other
  one_call c d said other same is also = one_reply_by c.at c.call c.ended said other is (subst (λ (v : Called). CallReplies r v other) (sym same) also)

  -- after one tick
  one_behind : (ticked : Called) (ended : Ended) (asked again : BidRequest) (answers others : List BidderAnswer) (now later : ℕ) (steps steps_too more more_too : List Step) (said other : Reply)
      → AsksBehind r asked answers now ticked ended steps said → AsksBehind r again others later ticked ended steps_too other → steps ++ more ≡ steps_too ++ more_too → (steps ≡ steps_too) × (said ≡ other)
  one_behind ticked was_done asked again answers others now later steps steps_too more more_too said other (c, ask_is, are, replies) (d, ask_too, too, replies_too) same =
      let whole : took ticked ∷ took c ∷ more ≡ took ticked ∷ took d ∷ more_too = ap (λ (l : List Step). l ++ more) (sym are) ∙ same ∙ ap (λ (l : List Step). l ++ more_too) too in
      let one : c ≡ d = taken_one c d (heads (took c) (took d) more more_too (tails (took ticked) (took ticked) (took c ∷ more) (took d ∷ more_too) whole)) in
      (are ∙ ap (λ (v : Called). took ticked ∷ took v ∷ []) one ∙ sym too, one_call c d said other one replies replies_too)
  one_behind ticked (was_given_up Fault.Disk) asked again answers others now later steps steps_too more more_too said other (are, is) (too, also) same = (are ∙ sym too, is ∙ sym also)
  one_behind ticked ended asked again answers others now later steps steps_too more more_too said other never too same = absurd never

  -- the tick of a request begins its calls
  begins_tick : (ticked : Called) (ended : Ended) (asked : BidRequest) (answers : List BidderAnswer) (now : ℕ) (steps : List Step) (said : Reply) → AsksBehind r asked answers now ticked ended steps said
      → (rest : List Step) × (steps ≡ took ticked ∷ rest)
  begins_tick ticked was_done asked answers now steps said (c, ask_is, are, replies) = (took c ∷ [], are)
  begins_tick ticked (was_given_up Fault.Disk) asked answers now steps said (are, is) = ([], are)
  begins_tick ticked ended asked answers now steps said never = absurd never

  module _ {L : Type 0} (Works : List ℕ → List ℕ → Lane L → Lane L → Outcome → Type 0) (clock other_clock : Option ℕ) where
    abbrev Here : List (Lane L) → Request → List Step → List (Lane L) → Reply → Type 0
    Here = IsAnswered Works (IsMomentOf clock) r

    abbrev There : List (Lane L) → Request → List Step → List (Lane L) → Reply → Type 0
    There = IsAnswered Works (IsMomentOf other_clock) r

    module _ (old old_too new new_too : List (Lane L)) (steps steps_too more more_too : List Step) (said other : Reply) (same : steps ++ more ≡ steps_too ++ more_too) where
      abbrev Alike : Type 0
      Alike = (steps ≡ steps_too) × (said ≡ other)

      abbrev ThereAs : Meaning → Type 0
      ThereAs m = IsAnsweredAs Works (IsMomentOf other_clock) r old_too m steps_too new_too other

      one_asked : (t u : Tree) (asked again : BidRequest) → IsAsked Works (IsMomentOf clock) r old t asked steps new said → IsAsked Works (IsMomentOf other_clock) r old_too u again steps_too new_too other → Alike
      one_asked t u asked again x y =
          let whole : looked x.looked_at ∷ (x.later ++ more) ≡ looked y.looked_at ∷ (y.later ++ more_too) = ap (λ (l : List Step). l ++ more) (sym x.are) ∙ same ∙ ap (λ (l : List Step). l ++ more_too) y.are in
          let look : looked x.looked_at ≡ looked y.looked_at = heads (looked x.looked_at) (looked y.looked_at) (x.later ++ more) (y.later ++ more_too) whole in
          let behind : x.later ++ more ≡ y.later ++ more_too = tails (looked x.looked_at) (looked y.looked_at) (x.later ++ more) (y.later ++ more_too) whole in
          let first = begins_tick x.ticked x.ticked.ended asked x.answers x.now x.later said x.behind in
          let second = begins_tick y.ticked y.ticked.ended again y.answers y.now y.later other y.behind in
          let ticks : took x.ticked ∷ (first.0 ++ more) ≡ took y.ticked ∷ (second.0 ++ more_too) = ap (λ (l : List Step). l ++ more) (sym first.1) ∙ behind ∙ ap (λ (l : List Step). l ++ more_too) second.1 in
          let one : x.ticked ≡ y.ticked = taken_one x.ticked y.ticked (heads (took x.ticked) (took y.ticked) (first.0 ++ more) (second.0 ++ more_too) ticks) in
          let both = one_behind x.ticked x.ticked.ended asked again x.answers y.answers x.now y.now x.later y.later more more_too said other x.behind
          (subst (λ (v : Called). AsksBehind r again y.answers y.now v v.ended y.later other) (sym one) y.behind) behind in
          (x.are ∙ ap₂ (λ (s : Step) (l : List Step). s ∷ l) look both.0 ∙ sym y.are, both.1)

      one_taken : (c d : Called) → steps ≡ took c ∷ [] → steps_too ≡ took d ∷ [] → CallReplies r c said → CallReplies r d other → Alike
      one_taken c d are too replies replies_too =
          let whole : took c ∷ more ≡ took d ∷ more_too = ap (λ (l : List Step). l ++ more) (sym are) ∙ same ∙ ap (λ (l : List Step). l ++ more_too) too in
          let one : c ≡ d = taken_one c d (heads (took c) (took d) more more_too whole) in
          (are ∙ ap (λ (v : Called). took v ∷ []) one ∙ sym too, one_call c d said other one replies replies_too)

      alike : (x y : Meaning) → AreOne x y → IsAnsweredAs Works (IsMomentOf clock) r old x steps new said → ThereAs y → Alike
      alike (asks t asked) (asks u again) one is also = one_asked t u asked again is also
      alike (asks t asked) y one is also = absurd one
      alike (notifies kind auction award) y one (c, call, are, stays, replies) also =
          let too = subst ThereAs one also in
          one_taken c too.0 are too.2 replies too.4
      alike (sets_budget seat cid change budget) y one (c, call, are, stays, replies) also =
          let too = subst ThereAs one also in
          one_taken c too.0 are too.2 replies too.4
      alike wants_meters y one (at, m, are, stays, is) also =
          let too = subst ThereAs one also in
          let whole : metered at m ∷ more ≡ metered too.0 too.1 ∷ more_too = ap (λ (l : List Step). l ++ more) (sym are) ∙ same ∙ ap (λ (l : List Step). l ++ more_too) too.2 in
          let step : metered at m ≡ metered too.0 too.1 = heads (metered at m) (metered too.0 too.1) more more_too whole in
          (are ∙ ap (λ (s : Step). s ∷ []) step ∙ sym too.2, is ∙ ap (λ (x : Meters). with_status 200 (meters_text x)) (metered_one at too.0 m too.1 step) ∙ sym too.4)
      alike wants_books y one (at, are, stays, is) also =
          let too = subst ThereAs one also in
          let whole : looked at ∷ more ≡ looked too.0 ∷ more_too = ap (λ (l : List Step). l ++ more) (sym are) ∙ same ∙ ap (λ (l : List Step). l ++ more_too) too.1 in
          let step : looked at ≡ looked too.0 = heads (looked at) (looked too.0) more more_too whole in
          (are ∙ ap (λ (s : Step). s ∷ []) step ∙ sym too.1, is ∙ ap (λ (h : List Entry). with_status 200 (closing_table r.campaigns (terms_by r) h)) (looked_one at too.0 step) ∙ sym too.3)
      alike (refused why) y one (none, stays, is) also =
          let too = subst ThereAs one also in
          (none ∙ sym too.0, is ∙ sym too.2)

      one_answered : (request : Request) → Here old request steps new said → There old_too request steps_too new_too other → Alike
      one_answered request x y = alike x.meaning y.meaning (one_meaning request x.meaning y.meaning x.means y.means) x.answered y.answered

    -- steps only come after those that were
    steps_behind : (s : Course L) (requests : List Request) (out : List ℕ) (now : Course L) → Replies (AnswersOn Works (IsMomentOf other_clock) r) s requests out now → (more : List Step) × (now.steps ≡ s.steps ++ more)
    steps_behind s [] out now are = ([], ap (λ (c : Course L). c.steps) are.1 ∙ sym (append-nil s.steps))
    steps_behind s (m ∷ requests) out now are =
        let rest = steps_behind are.2 requests are.3 now are.5 in
        let here = are.4 in
        (here.0 ++ rest.0, rest.1 ∙ ap (λ (c : Course L). c.steps ++ rest.0) here.3 ∙ append_assoc s.steps here.0 rest.0)

  module _ {L : Type 0} (Works : List ℕ → List ℕ → Lane L → Lane L → Outcome → Type 0) (clock other_clock : Option ℕ) where
    one_run : (s s_too : Course L) (requests : List Request) (out other : List ℕ) (now now_too : Course L) → s.steps ≡ s_too.steps → Replies (AnswersOn Works (IsMomentOf clock) r) s requests out now
        → Replies (AnswersOn Works (IsMomentOf other_clock) r) s_too requests other now_too → now.steps ≡ now_too.steps → out ≡ other
    one_run s s_too [] out other now now_too begin are too same = are.0 ∙ sym too.0
    one_run s s_too (m ∷ requests) out other now now_too begin are too same =
        let here = are.4 in
        let there = too.4 in
        let between : Course L = are.2 in
        let between_too : Course L = too.2 in
        let rest = steps_behind Works other_clock clock are.2 requests are.3 now are.5 in
        let rest_too = steps_behind Works clock other_clock too.2 requests too.3 now_too too.5 in
        let whole : now.steps ≡ s.steps ++ (here.0 ++ rest.0) = rest.1 ∙ ap (λ (c : Course L). c.steps ++ rest.0) here.3 ∙ append_assoc s.steps here.0 rest.0 in
        let whole_too : now_too.steps ≡ s_too.steps ++ (there.0 ++ rest_too.0) = rest_too.1 ∙ ap (λ (c : Course L). c.steps ++ rest_too.0) there.3 ∙ append_assoc s_too.steps there.0 rest_too.0 in
        let both : s.steps ++ (here.0 ++ rest.0) ≡ s.steps ++ (there.0 ++ rest_too.0) = sym whole ∙ same ∙ whole_too ∙ ap (λ (l : List Step). l ++ (there.0 ++ rest_too.0)) (sym begin) in
        let calls : here.0 ++ rest.0 ≡ there.0 ++ rest_too.0 = behind_same s.steps (here.0 ++ rest.0) (there.0 ++ rest_too.0) both in
        let one = one_answered Works clock other_clock s.lanes s_too.lanes here.1 there.1 here.0 there.0 rest.0 rest_too.0 (record { answer = are.0; body = are.1 }) (record { answer = too.0; body = too.1 }) calls m here.2 there.2 in
        let next : between.steps ≡ between_too.steps = ap (λ (c : Course L). c.steps) here.3 ∙ ap₂ (λ (a b : List Step). a ++ b) begin one.0 ∙ sym (ap (λ (c : Course L). c.steps) there.3) in
        are.6 ∙ ap₂ (λ (said : Reply) (l : List ℕ). reply_to m said.answer said.body ++ l) one.1 (one_run are.2 too.2 requests are.3 too.3 now now_too next are.5 too.5 same) ∙ sym too.6

pub one_reply : {L : Type 0} (Works : List ℕ → List ℕ → Lane L → Lane L → Outcome → Type 0) → HasOneReply Works
one_reply Works = λ clock other_clock r lanes other_lanes requests out other now other_now are too same. one_run r Works clock other_clock (begun lanes) (begun other_lanes) requests out other now other_now refl are too same
