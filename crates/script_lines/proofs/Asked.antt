-- The ask of a line, from its request and its answers.
use Rattle.std.proofs.Common.{◌≡◌, ℕ, ◌≤◌, List, length, Option, Some, Result, Ok, Err, sym, subst, ◌∙◌}
use Rattle.std.specs.List.{AllZip}
use Rattle.std.proofs.lemmas.List.{length-map}
use Rattle.std.proofs.lemmas.Slice.Zip.{AllZip-long}
use Rattle.adx_json.specs.Tree.{Tree}
use Rattle.adx_json.specs.View.{tree_of, trees_of}
use Rattle.adx_json.specs.declared.tree.Json.{Json}
use Rattle.rtb_request.specs.Requests.{IsRequest}
use Rattle.rtb_request.specs.declared.bid_request.BidRequest.{BidRequest}
use Rattle.rtb_response.specs.declared.bid_answer.BidAnswer.{BidAnswer}
use Rattle.day_rules.specs.declared.ask.Ask.{Ask}
use Rattle.deal_floor.specs.declared.roster.Roster.{Roster}
use Rattle.script_lines.specs.Making.{ask_of}
use Rattle.script_lines.specs.Meanings.{GivesAnswer}
use Rattle.script_lines.specs.Found.{FindsAsk, FindsRequest}
use Rattle.script_lines.specs.declared.refusal.LineFault.{LineFault}

-- there are as many answers as trees
pub answers_few : {B : Type 0} (R : Tree → B → Type 0) (trees : List Json) (ys : List B) (most : ℕ) → AllZip R (trees_of trees) ys
    → length trees ≤ most → length ys ≤ most
answers_few R trees ys most h few = subst (λ n. n ≤ most) (sym (AllZip-long R (trees_of trees) ys h ∙ length-map trees tree_of)) few

-- answers and moment are of their form
ask_with : (r : Roster) (t : Tree) (answers : Option (List Tree)) (now : Option ℕ) (ts : List Tree) (n : ℕ) (result : Result Ask LineFault)
    → Some ts ≡ answers → Some n ≡ now → FindsAsk r t (Some ts) (Some n) result → FindsAsk r t answers now result
ask_with r t answers now ts n result some when h = subst (λ o. FindsAsk r t answers o result) when (subst (λ o. FindsAsk r t o (Some n) result) some h)

-- and the request makes an ask
pub ask_found : (r : Roster) (t : Tree) (answers : Option (List Tree)) (now : Option ℕ) (ts : List Tree) (n : ℕ) (asked : BidRequest) (answered : List (Option BidAnswer)) (a : Ask) → Some ts ≡ answers → Some n ≡ now → IsRequest t asked → AllZip (GivesAnswer asked.id) ts answered → a ≡ ask_of asked r.campaigns answered n → FindsAsk r t answers now (Ok a)
ask_found r t answers now ts n asked answered a some when request zip made =
    ask_with r t answers now ts n (Ok a) some when (record { asked = asked; answered = answered; request = request; answers = zip; made = made })

refused_as : (r : Roster) (t : Tree) (ts : List Tree) (n : ℕ) (e : LineFault) → FindsRequest t (Err e) → FindsAsk r t (Some ts) (Some n) (Err e)
refused_as r t ts n (LineFault.Refused why) h = h
refused_as r t ts n LineFault.OutOfMemory h = tt

-- or is refused
pub ask_refused : (r : Roster) (t : Tree) (answers : Option (List Tree)) (now : Option ℕ) (ts : List Tree) (n : ℕ) (e : LineFault)
    → Some ts ≡ answers → Some n ≡ now → FindsRequest t (Err e) → FindsAsk r t answers now (Err e)
ask_refused r t answers now ts n e some when h = ask_with r t answers now ts n (Err e) some when (refused_as r t ts n e h)
