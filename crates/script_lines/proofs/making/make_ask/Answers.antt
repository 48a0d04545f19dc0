use Rattle.std.proofs.Common.{◌≡◌, ◌<◌, ◌+◌, ◌^◌, ℕ, List, [], ◌∷◌, ◌++◌, Option, length, ap, sym, subst, arith}
use Rattle.std.proofs.lemmas.List.{length-append}
use Rattle.std.proofs.lemmas.Result.{IfOk-weaker}
use Rattle.day_rules.specs.declared.ask.Ask.{Ask}
use Rattle.rtb_response.specs.declared.bid_answer.BidAnswer.{BidAnswer}
use Rattle.script_lines.proofs.Formed.{well_formed, undecided}
use Rattle.script_lines.proofs.Taking.{few_in_all, few_more, taken_on, taken_within}
use Rattle.script_lines.proofs.Turned.{one_taken}
use Rattle.script_lines.proofs.making.make_ask.Goals as goal

pub answers-preserved : goal.answers-preserved
answers-preserved c =
    let before = c.answers.invariant in
    let taken : List (Option BidAnswer) = before.0 in
    let took = c.in_ok-take_answer.ensures {u = tt} in (
      taken ++ c.in-Some.answer ∷ [],
      one_taken taken c.answers.left.items c.pop.new.self.items c.args.answers.items c.in-Some.answer c.in-Some.ensures.items before.1,
      counted c.answers.bidder taken c.in-Some.answer before.2,
      few_more c.answers.bidder _ _ before.3 took.few,
      taken_on c.args.request.now c.args.roster.now.campaigns taken c.in-Some.answer c.answers.bidder _ _ before.2 (took.taken _ before.4),
    )
  where
    counted : (bidder : ℕ) (taken : List (Option BidAnswer)) (a : Option BidAnswer) → bidder ≡ length taken → bidder + 1 ≡ length (taken ++ a ∷ [])
    counted bidder taken a at = let e = length-append taken (a ∷ []) in omega arith

pub returns-clause-well_formed : goal.returns-clause-well_formed
returns-clause-well_formed c =
    let all = c.answers.invariant in
    IfOk-weaker _ _ _
    (λ a is. well_formed c.args.request.now c.args.roster.now.campaigns _ _ _ all.4 a (ap (λ (x : Ask). x.imps) is) (ap (λ (x : Ask). x.offers) is) (ap (λ (x : Ask). x.kept) is) (subst (λ n. n < 2 ^ 63) (sym (ap (λ (x : Ask). x.now) is)) c.requires.now)
    (few_in_all c.answers.bidder _ _ _ all.3 (taken_within c.answers.bidder all.0 c.answers.left.items c.args.answers.items all.2 all.1) c.requires.answers c.args.roster.now.few_bidders))
    c.ask_with.ensures

pub returns-clause-undecided : goal.returns-clause-undecided
returns-clause-undecided c =
    IfOk-weaker _ _ _
    (λ (a : Ask) is. undecided c.args.request.now c.args.roster.now.campaigns _ _ _ c.answers.invariant.4 a.offers (ap (λ (x : Ask). x.offers) is))
    c.ask_with.ensures
