-- The members of a bid that are passed on (OpenRTB 2.6, section 4.2.3, Bid): all but those that the exchange writes
-- itself. This project's own.
use Rattle.std.specs.Prelude.{ℕ, List, [], ◌∷◌, Bool, codes, if◌then◌else◌}
use Rattle.std.specs.List.{list_any}
use Rattle.std.specs.Str.{bytes_eq}
use Rattle.adx_json.specs.Tree.{Tree, null, boolean, number, text, list, object, Members, no_members, member}
use Rattle.adx_json.specs.Spelling.{spelling}

-- the members that the exchange writes itself
abbrev pub own_names : List (List ℕ)
own_names = codes "id" ∷ codes "impid" ∷ codes "price" ∷ codes "nurl" ∷ codes "burl" ∷ codes "lurl" ∷ []

-- a member that the exchange writes itself
abbrev pub is_own : List ℕ → Bool
is_own name = list_any (λ own. bytes_eq name own) own_names

-- all other members of a bid
abbrev pub passed_on : Members → Members
passed_on no_members = no_members
passed_on (member n t ms) = if is_own n then passed_on ms else member n t (passed_on ms)

-- a bid's body: the compact spelling of the object of these members; a bid that is no object has an empty body
abbrev pub body : Tree → List ℕ
body null = []
body (boolean b) = []
body (number n) = []
body (text t) = []
body (list ts) = []
body (object ms) = spelling (object (passed_on ms))
