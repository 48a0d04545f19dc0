-- Private, cited by the tests of asks alone: the parts of a well formed ask, and of one that is settled, as tests.
use Rattle.std.specs.Prelude.{ℕ, Bool, true, false, not, ◌&&◌, ◌||◌, ◌==◌, nat_le, nat_lt, if◌then◌else◌, List, [], ◌∷◌, Option}
use Rattle.std.specs.List.{list_all}
use Rattle.std.specs.Option.{option_map_or}
use Rattle.std.specs.Str.{bytes_eq}
use Rattle.adx_units.specs.declared.offer.Offer.{Offer}
use Rattle.adx_units.specs.declared.offer.TheConstants.{ADMITTED}
use Rattle.adx_units.specs.declared.price.TheConstants.{PRICE_LIMIT}
use Rattle.allocator_core.specs.declared.reason.TheConstants.{AWARDED}
use Rattle.day_rules.specs.declared.ask.Kept.{Kept}
use Rattle.day_rules.specs.declared.limits.TheConstants.{MAX_KEPT, MAX_LIFE, NO_IMP}
use Rattle.day_rules.specs.Asks.{is_decided, is_empty, is_winners, may_be_told, texts_of_loss}
use Rattle.day_rules.specs.Books.{text_size}

abbrev pub is_refused_by : ℕ → Bool
is_refused_by r = r == 3 || r == 104 || r == 4 || r == 100 || r == 101 || r == 205 || r == 209

abbrev pub is_of_admitted : ℕ → Bool
is_of_admitted r = is_decided r || r == ADMITTED

abbrev pub is_priced : ℕ → Offer → Bool
is_priced campaigns o = nat_lt o.campaign campaigns && nat_le 1 o.charge.0 && nat_le o.charge.0 PRICE_LIMIT

abbrev pub is_living : Offer → Bool
is_living o = nat_le 1 o.life && nat_le o.life MAX_LIFE

abbrev pub is_admitted : ℕ → ℕ → Offer → Bool
is_admitted campaigns imps o = is_of_admitted o.reason && nat_lt o.imp imps && is_priced campaigns o && is_living o

abbrev pub is_nothing : Offer → Bool
is_nothing o = o.campaign == 0 && o.charge.0 == 0 && o.life == 0

abbrev pub is_refused : ℕ → Offer → Bool
is_refused imps o = is_refused_by o.reason && (nat_lt o.imp imps || o.imp == NO_IMP) && is_nothing o

abbrev pub is_offer : ℕ → ℕ → Offer → Bool
is_offer campaigns imps o = is_admitted campaigns imps o || is_refused imps o

abbrev pub needs_texts : Offer → Bool
needs_texts o = o.reason == AWARDED || o.reason == ADMITTED

-- none of the ids is that one
abbrev pub are_others : List ℕ → List (List ℕ) → Bool
are_others id ids = list_all (λ other. not (bytes_eq id other)) ids

abbrev pub are_distinct : List (List ℕ) → Bool
are_distinct [] = true
are_distinct (id ∷ ids) = are_others id ids && are_distinct ids

-- the texts are those of the bid at a place
abbrev pub are_of : ℕ → Option Kept → Bool
are_of place found = option_map_or (λ k. k.bid == place) found false

abbrev pub are_short_of : ℕ → Option Kept → Bool
are_short_of place found = option_map_or (λ k. k.bid == place && nat_le (text_size k) MAX_KEPT) found false

-- no text of the bid goes
abbrev pub stays_whole : List Offer → Kept → Bool
stays_whole offers k =
    is_winners offers k || (may_be_told k && is_empty k.nurl && is_empty k.burl && is_empty k.body)

-- what stays of the texts of a bid that keeps any
abbrev pub trimmed : List Offer → Kept → Kept
trimmed offers k = if is_winners offers k then k else texts_of_loss k
