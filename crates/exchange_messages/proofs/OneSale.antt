-- An awarded ask has one answer of the exchange.
use Rattle.std.proofs.Common.{◌≡◌, ◌≢◌, inl, inr, ℕ, List, [], ◌∷◌, map, refl, sym, ap, ap₂, ◌∙◌}
use Rattle.std.specs.List.{AllZip, enumerate_from}
use Rattle.adx_json.specs.Faults.{IsFault}
use Rattle.adx_json.specs.Grammar.{IsJson}
use Rattle.adx_json.specs.Spelling.{spelling}
use Rattle.adx_json.specs.Tree.{Tree}
use Rattle.adx_json.specs.View.{tree_of}
use Rattle.adx_json.specs.declared.fault.JsonFault.{JsonFault}
use Rattle.adx_json.proofs.OneTree.{one_json}
use Rattle.adx_units.specs.declared.offer.Offer.{Offer}
use Rattle.day_rules.specs.declared.ask.Ask.{Ask}
use Rattle.deal_floor.specs.declared.campaign.Campaign.{Campaign}
use Rattle.deal_floor.specs.declared.roster.Roster.{Roster}
use Rattle.rtb_response.specs.ExchangeAnswer.{answer_tree, seat_tree}
use Rattle.rtb_response.specs.Notices.{notice_url}
use Rattle.rtb_response.specs.declared.sold.Sold.{Sold}
use Rattle.exchange_messages.specs.Sales.{HasTree, IsSale, IsSold, expanded, markup_values, sold_bids, texts_at}

-- what the addresses are of an award's notices, as that crate has it
abbrev FirstOf : {T U : Type 0} → (T → U) → Type 0
FirstOf {T} f = T

abbrev Urls : Type 0
Urls = FirstOf seat_tree

-- what is JSON has no fault
no_fault : (body : List ℕ) (t : Tree) (f : JsonFault) → f ≢ JsonFault.OutOfMemory → IsJson body t → IsFault body f → ⊥
no_fault body t JsonFault.OutOfMemory named json fault = named refl
no_fault body t f named json fault = fault.0.none t json

-- a kept body has one tree
one_kept : (body : List ℕ) (t u : Tree) → HasTree body t → HasTree body u → t ≡ u
one_kept body t u (inl json) (inl other) = one_json body t u json other
one_kept body t u (inl json) (inr (f, named, fault, none)) = absurd (no_fault body t f named json fault)
one_kept body t u (inr (f, named, fault, none)) (inl json) = absurd (no_fault body u f named json fault)
one_kept body t u (inr (f, named, fault, none)) (inr (g, other_named, other_fault, other_none)) = none ∙ sym other_none

-- what the exchange's answer says of an award is a function of what is said of it
same_parts : (url : Urls) (s o : Sold) → s.award ≡ o.award → s.imp ≡ o.imp → s.seat ≡ o.seat → s.charge ≡ o.charge → tree_of s.body ≡ tree_of o.body → seat_tree url s ≡ seat_tree url o
same_parts url s o award imp seat charge body = rw (award, imp, seat, charge, body) refl

one_award : (campaigns : List Campaign) (a : Ask) (award : ℕ × (ℕ × Offer)) (url : Urls) (s o : Sold) → IsSold campaigns a award s → IsSold campaigns a award o → seat_tree url s ≡ seat_tree url o
one_award campaigns a award url s o x y =
    let tree : x.tree ≡ y.tree = one_kept (texts_at a.kept award.1.0).body x.tree y.tree x.kept y.kept in
    same_parts url s o (x.number ∙ sym y.number) (x.imp ∙ sym y.imp) (x.seat ∙ sym y.seat) (x.charge ∙ sym y.charge)
    (x.body ∙ ap (expanded (markup_values a award.1.1 (texts_at a.kept award.1.0))) tree ∙ sym y.body)

one_list : (campaigns : List Campaign) (a : Ask) (url : Urls) (awards : List (ℕ × (ℕ × Offer))) (sold other : List Sold)
    → AllZip (IsSold campaigns a) awards sold → AllZip (IsSold campaigns a) awards other → map (seat_tree url) sold ≡ map (seat_tree url) other
one_list campaigns a url [] [] [] x y = refl
one_list campaigns a url [] [] (o ∷ other) x y = absurd y
one_list campaigns a url [] (s ∷ sold) other x y = absurd x
one_list campaigns a url (w ∷ awards) [] other x y = absurd x
one_list campaigns a url (w ∷ awards) (s ∷ sold) [] x y = absurd y
one_list campaigns a url (w ∷ awards) (s ∷ sold) (o ∷ other) x y =
    ap₂ (λ (t : Tree) (ts : List Tree). t ∷ ts) (one_award campaigns a w url s o x.0 y.0) (one_list campaigns a url awards sold other x.1 y.1)

pub one_sale : (r : Roster) (a : Ask) (body other : List ℕ) → IsSale r a body → IsSale r a other → body ≡ other
one_sale r a body other (sold, are, is) (others, others_are, other_is) =
    let same = one_list r.campaigns a (notice_url r.base a.auction) (enumerate_from a.first (sold_bids a)) sold others are others_are in
    is ∙ by_trees same ∙ sym other_is
  where
    by_trees : map (seat_tree (notice_url r.base a.auction)) sold ≡ map (seat_tree (notice_url r.base a.auction)) others → spelling (answer_tree a.auction r.base sold) ≡ spelling (answer_tree a.auction r.base others)
    by_trees same = rw same refl
