-- What is written part by part is the request with its changes.
use Rattle.std.proofs.Common.{◌≡◌, ℕ, List, [], ◌∷◌, ◌++◌, Bool, true, false, cond, ◌&&◌, not, bytes_eq, codes, Vec, Global, refl, sym, ap, ap₂, ◌∙◌}
use Rattle.std.proofs.lemmas.Bool.{false≢true}
use Rattle.std.proofs.lemmas.List.{append_assoc}
use Rattle.std.proofs.lemmas.Slice.Eq.{bytes_eq-Decides}
use Rattle.adx_json.specs.Named.{with_value}
use Rattle.adx_json.specs.Spelling.{spelling, items_spelling, members_spelling}
use Rattle.adx_json.specs.Tree.{Tree, null, boolean, number, text, list, object, Items, no_items, item, items_of, Members, no_members, member, members_of}
use Rattle.adx_json.specs.View.{tree_of, trees_of, members_view}
use Rattle.adx_json.specs.declared.tree.Json.{Json}
use Rattle.adx_json.specs.declared.tree.Json.TheVariants as json
use Rattle.adx_json.specs.declared.tree.Member.{Member}
use Rattle.adx_json.proofs.Views.{tree_of-List, tree_of-Object}
use Rattle.adx_json.specs.Values.{given, is_number_text}
use Rattle.rtb_request.specs.ForBidders.{changed, each, with_each, one, dollars_alone, deal_for_bidders, pmp_for_bidders, imp_for_bidders, request_for_bidders}
use Rattle.rtb_request.specs.Asked.{item_part, member_part, gets_at, gets_cur, at_after, cur_after, changed_value, coming, asked, items_asked, members_asked}
use Rattle.rtb_request.specs.declared.asked.Part.{Part}
use Rattle.rtb_request.specs.declared.asked.Part.TheVariants as parts
use Rattle.rtb_request.specs.declared.asked.Change.TheVariants as changes

mutual
  pub other_is : (t : Tree) → asked parts.Other t ≡ t
  other_is null = refl
  other_is (boolean b) = refl
  other_is (number n) = refl
  other_is (text t) = refl
  other_is (list ts) = ap list (others_are ts)
  other_is (object ms) = ap object (other_members ms)

  others_are : (ts : Items) → items_asked parts.Other ts ≡ ts
  others_are no_items = refl
  others_are (item t ts) = ap₂ item (other_is t) (others_are ts)

  other_members : (ms : Members) → members_asked parts.Other false false ms ≡ ms
  other_members no_members = refl
  other_members (member n t ms) = ap₂ (member n) (other_is t) (other_members ms)

deal_members_are : (ms : Members) → members_asked parts.Deal false false ms ≡ ms
deal_members_are no_members = refl
deal_members_are (member n t ms) = ap₂ (member n) (other_is t) (deal_members_are ms)

-- a deal's members while `at` is still to come
deal_step : (b : Bool) (n : List ℕ) (t : Tree) (ms ws : Members) → members_asked parts.Deal true false ms ≡ ws
    → member n (changed_value (cond b changes.FirstPrice changes.Stays) (asked parts.Other t)) (members_asked parts.Deal (at_after (cond b changes.FirstPrice changes.Stays) true) (cur_after (cond b changes.FirstPrice changes.Stays) false) ms)
    ≡ cond b (member n one ms) (member n t ws)
deal_step true n t ms ws h = ap (member n one) (deal_members_are ms)
deal_step false n t ms ws h = ap₂ (member n) (other_is t) h

deal_at : (ms : Members) → members_asked parts.Deal true false ms ≡ with_value (codes "at") one ms
deal_at no_members = refl
deal_at (member n t ms) = deal_step (bytes_eq n (codes "at")) n t ms (with_value (codes "at") one ms) (deal_at ms)

deal_object : (fixed : Bool) (ms : Members)
    → object (members_asked parts.Deal (not fixed) false ms) ≡ cond fixed (object ms) (object (with_value (codes "at") one ms))
deal_object true ms = ap object (deal_members_are ms)
deal_object false ms = ap object (deal_at ms)

deal_is : (t : Tree) → asked parts.Deal t ≡ deal_for_bidders t
deal_is null = refl
deal_is (boolean b) = refl
deal_is (number n) = refl
deal_is (text t) = refl
deal_is (list ts) = ap list (others_are ts)
deal_is (object ms) = deal_object (is_number_text (codes "3") (given (codes "at") (object ms))) ms

each_deal : (ts : Items) → items_asked parts.Deal ts ≡ each deal_for_bidders ts
each_deal no_items = refl
each_deal (item t ts) = ap₂ item (deal_is t) (each_deal ts)

deals_members_are : (ms : Members) → members_asked parts.Deals false false ms ≡ ms
deals_members_are no_members = refl
deals_members_are (member n t ms) = ap₂ (member n) (other_is t) (deals_members_are ms)

deals_are : (t : Tree) → asked parts.Deals t ≡ with_each deal_for_bidders t
deals_are null = refl
deals_are (boolean b) = refl
deals_are (number n) = refl
deals_are (text t) = refl
deals_are (list ts) = ap list (each_deal ts)
deals_are (object ms) = ap object (deals_members_are ms)

-- a member that has a change, and one that hasn't
value_is : (b : Bool) (p : Part) (f : Tree → Tree) (t : Tree) → asked p t ≡ f t → asked (cond b p parts.Other) t ≡ cond b (f t) t
value_is true p f t h = h
value_is false p f t h = other_is t

pmp_members_are : (ms : Members) → members_asked parts.Pmp false false ms ≡ changed (codes "deals") (with_each deal_for_bidders) ms
pmp_members_are no_members = refl
pmp_members_are (member n t ms) = ap₂ (member n) (value_is (bytes_eq n (codes "deals")) parts.Deals (with_each deal_for_bidders) t (deals_are t)) (pmp_members_are ms)

pmp_is : (t : Tree) → asked parts.Pmp t ≡ pmp_for_bidders t
pmp_is null = refl
pmp_is (boolean b) = refl
pmp_is (number n) = refl
pmp_is (text t) = refl
pmp_is (list ts) = ap list (others_are ts)
pmp_is (object ms) = ap object (pmp_members_are ms)

imp_members_are : (ms : Members) → members_asked parts.Imp false false ms ≡ changed (codes "pmp") pmp_for_bidders ms
imp_members_are no_members = refl
imp_members_are (member n t ms) = ap₂ (member n) (value_is (bytes_eq n (codes "pmp")) parts.Pmp pmp_for_bidders t (pmp_is t)) (imp_members_are ms)

imp_is : (t : Tree) → asked parts.Imp t ≡ imp_for_bidders t
imp_is null = refl
imp_is (boolean b) = refl
imp_is (number n) = refl
imp_is (text t) = refl
imp_is (list ts) = ap list (others_are ts)
imp_is (object ms) = ap object (imp_members_are ms)

each_imp : (ts : Items) → items_asked parts.Imp ts ≡ each imp_for_bidders ts
each_imp no_items = refl
each_imp (item t ts) = ap₂ item (imp_is t) (each_imp ts)

imps_members_are : (ms : Members) → members_asked parts.Imps false false ms ≡ ms
imps_members_are no_members = refl
imps_members_are (member n t ms) = ap₂ (member n) (other_is t) (imps_members_are ms)

imps_are : (t : Tree) → asked parts.Imps t ≡ with_each imp_for_bidders t
imps_are null = refl
imps_are (boolean b) = refl
imps_are (number n) = refl
imps_are (text t) = refl
imps_are (list ts) = ap list (each_imp ts)
imps_are (object ms) = ap object (imps_members_are ms)

abbrev put_at : Bool → Members → Members
put_at at ms = cond at (with_value (codes "at") one ms) ms

abbrev put_cur : Bool → Members → Members
put_cur cur ms = cond cur (with_value (codes "cur") dollars_alone ms) ms

-- a member where its name is `cur` and where it isn't
cur_put : (c : Bool) (n : List ℕ) (t : Tree) (ms : Members) → bytes_eq n (codes "cur") ≡ c
    → cond c (member n dollars_alone ms) (member n t (with_value (codes "cur") dollars_alone ms)) ≡ with_value (codes "cur") dollars_alone (member n t ms)
cur_put c n t ms e = sym (ap (λ b. cond b (member n dollars_alone ms) (member n t (with_value (codes "cur") dollars_alone ms))) e)

-- a request's member, whose name may be `at` or `cur`, each of which may be still to come
request_step : (a c : Bool) → (a ≡ true → c ≡ false) → (at cur : Bool) (n : List ℕ) (v u : Tree) (ms fs : Members) → bytes_eq n (codes "cur") ≡ c → v ≡ u
    → ((x y : Bool) → members_asked parts.Request x y ms ≡ put_cur y (put_at x fs))
    → member n (changed_value (cond (at && a) changes.FirstPrice (cond (cur && c) changes.Dollars changes.Stays)) v)
    (members_asked parts.Request (at_after (cond (at && a) changes.FirstPrice (cond (cur && c) changes.Dollars changes.Stays)) at) (cur_after (cond (at && a) changes.FirstPrice (cond (cur && c) changes.Dollars changes.Stays)) cur) ms)
    ≡ put_cur cur (cond at (cond a (member n one fs) (member n u (with_value (codes "at") one fs))) (member n u fs))
request_step true true apart at cur n v u ms fs e same rest = absurd (false≢true (sym (apart refl)))
request_step true false apart true true n v u ms fs e same rest = ap (member n one) (rest false true) ∙ cur_put false n one fs e
request_step true false apart true false n v u ms fs e same rest = ap (member n one) (rest false false)
request_step true false apart false true n v u ms fs e same rest = ap₂ (member n) same (rest false true) ∙ cur_put false n u fs e
request_step true false apart false false n v u ms fs e same rest = ap₂ (member n) same (rest false false)
request_step false true apart true true n v u ms fs e same rest = ap (member n dollars_alone) (rest true false) ∙ cur_put true n u (with_value (codes "at") one fs) e
request_step false true apart true false n v u ms fs e same rest = ap₂ (member n) same (rest true false)
request_step false true apart false true n v u ms fs e same rest = ap (member n dollars_alone) (rest false false) ∙ cur_put true n u fs e
request_step false true apart false false n v u ms fs e same rest = ap₂ (member n) same (rest false false)
request_step false false apart true true n v u ms fs e same rest = ap₂ (member n) same (rest true true) ∙ cur_put false n u (with_value (codes "at") one fs) e
request_step false false apart true false n v u ms fs e same rest = ap₂ (member n) same (rest true false)
request_step false false apart false true n v u ms fs e same rest = ap₂ (member n) same (rest false true) ∙ cur_put false n u fs e
request_step false false apart false false n v u ms fs e same rest = ap₂ (member n) same (rest false false)

-- no name is both
names_apart : (n : List ℕ) → bytes_eq n (codes "at") ≡ true → bytes_eq n (codes "cur") ≡ false
names_apart n h = ap (λ m. bytes_eq m (codes "cur")) ((bytes_eq-Decides n (codes "at")).0 h)

none_asked : (at cur : Bool) → coming at cur ≡ put_cur cur (put_at at no_members)
none_asked true true = refl
none_asked true false = refl
none_asked false true = refl
none_asked false false = refl

request_members_are : (at cur : Bool) (ms : Members)
    → members_asked parts.Request at cur ms ≡ put_cur cur (put_at at (changed (codes "imp") (with_each imp_for_bidders) ms))
request_members_are at cur no_members = none_asked at cur
request_members_are at cur (member n t ms) =
    request_step (bytes_eq n (codes "at")) (bytes_eq n (codes "cur")) (names_apart n) at cur n (asked (member_part n parts.Request) t)
    (cond (bytes_eq n (codes "imp")) (with_each imp_for_bidders t) t) ms (changed (codes "imp") (with_each imp_for_bidders) ms) refl
    (value_is (bytes_eq n (codes "imp")) parts.Imps (with_each imp_for_bidders) t (imps_are t)) (λ x y. request_members_are x y ms)

pub request_is : (t : Tree) → asked parts.Request t ≡ request_for_bidders t
request_is null = refl
request_is (boolean b) = refl
request_is (number n) = refl
request_is (text t) = refl
request_is (list ts) = ap list (others_are ts)
request_is (object ms) = ap object (request_members_are true true ms)

-- what no change stands in is written as it is
pub other_put : (p : Part) (t : Tree) → p ≡ parts.Other → t ≡ asked p t
other_put p t is = sym (ap (λ q. asked q t) is ∙ other_is t)

-- what was put between brackets is a list, and between braces an object
pub list_put : (p q : Part) (t : Json) (ts : Vec Json Global) (a b c d : List ℕ) → t ≡ json.List ts → q ≡ item_part p
    → b ≡ a ++ (91 ∷ []) → c ≡ b ++ items_spelling (items_asked q (items_of (trees_of ts.items))) → d ≡ c ++ (93 ∷ []) → d ≡ a ++ spelling (asked p (tree_of t))
list_put p q t ts a b c d is part begun middle close =
    let put = items_spelling (items_asked (item_part p) (items_of (trees_of ts.items))) in
    close
    ∙ ap (λ x. x ++ (93 ∷ [])) (middle ∙ ap₂ (λ x y. x ++ items_spelling (items_asked y (items_of (trees_of ts.items)))) begun part)
    ∙ append_assoc (a ++ (91 ∷ [])) put (93 ∷ [])
    ∙ append_assoc a (91 ∷ []) (put ++ (93 ∷ []))
    ∙ ap (λ x. a ++ spelling (asked p x)) (sym (ap tree_of is ∙ tree_of-List ts))

pub object_put : (p : Part) (at cur : Bool) (t : Json) (ms : Vec Member Global) (a b c d : List ℕ) → t ≡ json.Object ms → at ≡ gets_at p (tree_of t)
    → cur ≡ gets_cur p
    → b ≡ a ++ (123 ∷ []) → c ≡ b ++ members_spelling (members_asked p at cur (members_of (members_view ms.items))) → d ≡ c ++ (125 ∷ []) → d ≡ a ++ spelling (asked p (tree_of t))
object_put p at cur t ms a b c d is ats curs begun middle close =
    let shape = ap tree_of is ∙ tree_of-Object ms in
    let inner = members_of (members_view ms.items) in
    let put = members_spelling (members_asked p (gets_at p (object inner)) (gets_cur p) inner) in
    close
    ∙ ap (λ x. x ++ (125 ∷ []))
    (middle ∙ ap (λ x. x ++ members_spelling (members_asked p at cur inner)) begun
    ∙ ap₂ (λ x y. (a ++ (123 ∷ [])) ++ members_spelling (members_asked p x y inner)) (ats ∙ ap (gets_at p) shape) curs)
    ∙ append_assoc (a ++ (123 ∷ [])) put (125 ∷ [])
    ∙ append_assoc a (123 ∷ []) (put ++ (125 ∷ []))
    ∙ ap (λ x. a ++ spelling (asked p x)) (sym shape)
