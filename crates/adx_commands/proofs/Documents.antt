-- A document that begins with a roster, or with a price line, isn't refused.
use Rattle.std.proofs.Common.{◌≡◌, ◌≢◌, ◌∙◌, inl, inr, sym, ap, subst, refl, ℕ, ◌≤◌, List, [], ◌∷◌, ◌++◌, length, Some, None, arith}
use Rattle.adx_io.specs.Lines.{HasNoNewline}
use Rattle.adx_json.specs.Faults.{IsFault}
use Rattle.adx_json.specs.Grammar.{IsJson}
use Rattle.adx_json.specs.Tree.{Tree}
use Rattle.adx_json.specs.declared.fault.JsonFault.{JsonFault}
use Rattle.adx_json.proofs.OneTree.{one_json}
use Rattle.bidder_core.specs.PriceLines.{line_fault}
use Rattle.bidder_core.specs.Seen.{BidderState}
use Rattle.command_runs.specs.declared.first.NoLine.{NoLine}
use Rattle.command_runs.specs.Limits.{line_limit}
use Rattle.deal_floor.specs.declared.roster.Roster.{Roster}
use Rattle.command_runs.specs.FirstLines.{HasNoLine, IsFirstLine, IsShortLine}
use Rattle.command_notices.specs.Rosters.{BeginsWithRoster, LacksRoster}
use Rattle.command_bidder.specs.Documents.{BeginsWithPrices, LacksPrices}
use Rattle.command_bidder.specs.PriceLines.{IsPriceLine, RefusesPriceLine}
use Rattle.history_runs.proofs.FirstLines.{first_same, no_first}
use Rattle.script_lines.specs.Rosters.{IsRosterLine, RefusesRosterLine}
use Rattle.script_lines.specs.declared.refusal.RosterRefusal.{RosterRefusal}
use Rattle.script_lines.proofs.OneMeaning.{one_roster, roster_not_refused}

-- the bytes after a line's are those after its newline
behind : (line rest : List ℕ) → (line ++ 10 ∷ []) ++ rest ≡ line ++ 10 ∷ rest
behind [] rest = refl
behind (b ∷ line) rest = ap (λ bytes. b ∷ bytes) (behind line rest)

-- two first lines of a document are one
one_first : (document line other : List ℕ) → IsFirstLine document line → IsFirstLine document other → line ≡ other
one_first document line other (none, (rest, is)) (none', (rest', is')) =
    first_same line other rest rest' none none' (sym (behind line rest) ∙ sym is ∙ is' ∙ behind other rest')

-- a document without a newline has none
no_line : (document line : List ℕ) → HasNoNewline document → IsFirstLine document line → ⊥
no_line document line none (plain, (rest, is)) = no_first document line rest none (is ∙ behind line rest)

-- so it has one within the limit, or it lacks one
never_lacking : (document line : List ℕ) (none : NoLine) → IsShortLine document line → HasNoLine none document → ⊥
never_lacking document line NoLine.Cut short lacks = no_line document line lacks.0 short.0
never_lacking document line NoLine.Long short (inl (other, first, long)) =
    let at_most : length other ≤ line_limit = subst (λ (l : List ℕ). length l ≤ line_limit) (one_first document line other short.0 first) short.1 in
    omega (arith, at_most, long)
never_lacking document line NoLine.Long short (inr (none, long)) = no_line document line none short.0

-- a roster's document isn't refused
pub roster_taken : (document : List ℕ) (r : Roster) (why : RosterRefusal) → BeginsWithRoster document r → LacksRoster document why → ⊥
roster_taken document r why (line, short, is) (inl (other, short', refuses)) =
    roster_not_refused line r why is (subst (λ (l : List ℕ). RefusesRosterLine l why) (sym (one_first document line other short.0 short'.0)) refuses)
roster_taken document r why (line, short, is) (inr (none, lacks, e)) = never_lacking document line none short lacks

-- a document begins with one roster
pub one_begun : (document : List ℕ) (r s : Roster) → BeginsWithRoster document r → BeginsWithRoster document s → r ≡ s
one_begun document r s (line, short, is) (other, short', is') =
    one_roster line r s is (subst (λ (l : List ℕ). IsRosterLine l s) (sym (one_first document line other short.0 short'.0)) is')

-- bytes that are JSON have no fault
json_no_fault : (line : List ℕ) (t : Tree) (f : JsonFault) → IsJson line t → f ≢ JsonFault.OutOfMemory → IsFault line f → ⊥
json_no_fault line t (JsonFault.Syntax at) is other fault = fault.0.none t is
json_no_fault line t (JsonFault.Utf8 at) is other fault = fault.0.none t is
json_no_fault line t (JsonFault.Depth at) is other fault = fault.0.none t is
json_no_fault line t JsonFault.OutOfMemory is other fault = other refl

-- a price line isn't refused, nor is its document
line_taken : (line : List ℕ) (b : BidderState) (why : RosterRefusal) → IsPriceLine line b → RefusesPriceLine line why → ⊥
line_taken line b why (t, is, prices) (inl (u, is', (f, faulty, e))) =
    let e : None ≡ Some f = sym prices.0.0 ∙ (ap line_fault (one_json line t u is is') ∙ faulty) in cc e
line_taken line b why (t, is, prices) (inr (f, other, fault, e)) = json_no_fault line t f is other fault

pub prices_taken : (document : List ℕ) (b : BidderState) (why : RosterRefusal) → BeginsWithPrices document b → LacksPrices document why → ⊥
prices_taken document b why (line, short, is) (inl (other, short', refuses)) =
    line_taken line b why is (subst (λ (l : List ℕ). RefusesPriceLine l why) (sym (one_first document line other short.0 short'.0)) refuses)
prices_taken document b why (line, short, is) (inr (none, lacks, e)) = never_lacking document line none short lacks
