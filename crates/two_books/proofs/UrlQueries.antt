-- The query of a notice's URL is the one that was put there.
use Rattle.std.proofs.Common.{◌≡◌, ◌∙◌, ℕ, ◌<◌, List, [], ◌∷◌, ◌++◌, ◌==◌, ◌||◌, All, Bool, true, Some, None, Ok, refl, sym, ap, subst, arith}
use Rattle.std.specs.Prelude.{codes}
use Rattle.std.proofs.lemmas.Bool.Decides.{nat_tests}
use Rattle.std.proofs.lemmas.List.Elements.{All-nil, All-cons, All-head, All-tail, All-append, All-weaker}
use Rattle.percent_encoding.specs.Percent.{IsKept, percent_encode}
use Rattle.percent_encoding.proofs.PercentLemmas.{percent_encode_unchanged}
use Rattle.url.specs.declared.scheme.SchemeType.{SchemeType}
use Rattle.url.specs.declared.scheme.SchemeType.TheVariants.{File, SpecialNotFile, NotSpecial}
use Rattle.url.specs.declared.sets.TheConstants.{QUERY, SPECIAL_QUERY}
use Rattle.url.specs.Parser.{parse_url}
use Rattle.url.specs.Parts.{Parts, kind_of, query_set}
use Rattle.url.proofs.InputLemmas.{IsNot}
use Rattle.url.proofs.SetLemmas.{kept_from_passes}
use Rattle.adx_units.specs.Money.{price_text}
use Rattle.bidder_core.specs.declared.price_line.TheConstants.{MOST_PRICES}
use Rattle.notice_book.specs.declared.kind.NoticeKind.{NoticeKind}
use Rattle.two_books.specs.OwnNotices.{UrlsKeepQueries, escaped, notice_query, price_pair}
use Rattle.two_books.proofs.Escapes.{IsWritten, is_written, written}
use Rattle.two_books.proofs.Queries.{id_byte_written, is_id_byte}
use Rattle.two_books.proofs.ReadBack.{made_id}
use Rattle.two_books.proofs.UrlParts.{IsOfBody, IsSolid, OwnQuery, own_query}

-- a byte of a query: of a value, or a mark between values
abbrev pub is_query_byte : ℕ → Bool
is_query_byte b = is_written b || b == 61 || b == 38

abbrev pub IsQueryByte : ℕ → Type 0
IsQueryByte b = is_query_byte b ≡ true

of_value : (b : ℕ) → IsWritten b → IsQueryByte b
of_value b h = grind (arith, nat_tests)

solid : (b : ℕ) → IsQueryByte b → IsSolid b
solid b h = (grind (arith, nat_tests), grind (arith, nat_tests))

no_hash : (b : ℕ) → IsQueryByte b → IsNot 35 b
no_hash b h e = grind (arith, nat_tests)

small : (b : ℕ) → IsQueryByte b → b < 128
small b h = grind (arith, nat_tests)

kept : (kind : SchemeType) (b : ℕ) → IsQueryByte b → IsKept (query_set kind) b
kept File b h = kept_from_passes is_query_byte SPECIAL_QUERY refl b (small b h) h
kept SpecialNotFile b h = kept_from_passes is_query_byte SPECIAL_QUERY refl b (small b h) h
kept NotSpecial b h = kept_from_passes is_query_byte QUERY refl b (small b h) h

unchanged : (kind : SchemeType) (query : List ℕ) → All IsQueryByte query → percent_encode (query_set kind) query ≡ query
unchanged kind query all = percent_encode_unchanged (query_set kind) query (All-weaker IsQueryByte (IsKept (query_set kind)) (kept kind) query all)

values : (t : List ℕ) → All IsWritten t → All IsQueryByte t
values t all = All-weaker IsWritten IsQueryByte of_value t all

-- a mark, a name and a mark
mark : (a b c : ℕ) → IsQueryByte a → IsQueryByte b → IsQueryByte c → All IsQueryByte (a ∷ b ∷ c ∷ [])
mark a b c one two three = All-cons IsQueryByte a (b ∷ c ∷ []) one (All-cons IsQueryByte b (c ∷ []) two (All-cons IsQueryByte c [] three (All-nil IsQueryByte)))

paid_bytes : (price : ℕ) → All IsQueryByte (codes "&p=" ++ escaped (price_text price))
paid_bytes price = All-append IsQueryByte (codes "&p=") (escaped (price_text price)) (mark 38 112 61 refl refl refl) (values (escaped (price_text price)) (written (price_text price)))

price_bytes : (kind : NoticeKind) (price : ℕ) → All IsQueryByte (price_pair kind price)
price_bytes NoticeKind.Win price = paid_bytes price
price_bytes NoticeKind.Bill price = paid_bytes price
price_bytes NoticeKind.Loss price = All-nil IsQueryByte

query_bytes : (kind : NoticeKind) (auction bid : List ℕ) (price : ℕ) → All IsWritten bid → All IsQueryByte (notice_query kind auction bid price)
query_bytes kind auction bid price made =
    All-append IsQueryByte (codes "a=") (escaped auction ++ (codes "&b=" ++ (bid ++ price_pair kind price))) (All-cons IsQueryByte 97 (61 ∷ []) refl (All-cons IsQueryByte 61 [] refl (All-nil IsQueryByte)))
    (All-append IsQueryByte (escaped auction) (codes "&b=" ++ (bid ++ price_pair kind price)) (values (escaped auction) (written auction))
    (All-append IsQueryByte (codes "&b=") (bid ++ price_pair kind price) (mark 38 98 61 refl refl refl)
    (All-append IsQueryByte bid (price_pair kind price) (values bid made) (price_bytes kind price))))

-- a text that isn't empty has a last byte
pub record LastCut (xs : List ℕ) : Type 0 where
  pub front : List ℕ
  pub last : ℕ
  pub is : xs ≡ front ++ last ∷ []
  pub each : All IsQueryByte front
  pub at_last : IsQueryByte last

last_cut : (x : ℕ) (xs : List ℕ) → All IsQueryByte (x ∷ xs) → LastCut (x ∷ xs)
last_cut x [] all = record { front = []; last = x; is = refl; each = All-nil IsQueryByte; at_last = All-head IsQueryByte x [] all }
last_cut x (y ∷ ys) all =
    let more : LastCut (y ∷ ys) = last_cut y ys (All-tail IsQueryByte x (y ∷ ys) all) in record {
      front = x ∷ more.front;
      last = more.last;
      is = ap (λ (r : List ℕ). x ∷ r) more.is;
      each = All-cons IsQueryByte x more.front (All-head IsQueryByte x (y ∷ ys) all) more.each;
      at_last = more.at_last;
    }

query_stays : (front : List ℕ) (x : ℕ) (xs : List ℕ) (parts : Parts) → All IsOfBody front → All IsQueryByte (x ∷ xs) → parse_url None (front ++ 63 ∷ (x ∷ xs)) ≡ Ok parts
    → parts.query ≡ Some (x ∷ xs)
query_stays front x xs parts each all parsed =
    let c : LastCut (x ∷ xs) = last_cut x xs all in
    let own : OwnQuery (c.front ++ c.last ∷ []) parts =
    own_query front c.front c.last parts each (All-weaker IsQueryByte IsSolid solid c.front c.each) (solid c.last c.at_last)
    (subst (All (IsNot 35)) c.is (All-weaker IsQueryByte (IsNot 35) no_hash (x ∷ xs) all))
    (subst (λ (t : List ℕ). parse_url None (front ++ 63 ∷ t) ≡ Ok parts) c.is parsed) in
    own.has.query_is
    ∙ ap (λ (t : List ℕ). Some (percent_encode (query_set (kind_of own.has.before)) t)) (sym c.is)
    ∙ ap Some (unchanged (kind_of own.has.before) (x ∷ xs) all)

pub queries_stay : UrlsKeepQueries
queries_stay front kind auction bid price parts each made parsed =
    query_stays front 97 (61 ∷ (escaped auction ++ (codes "&b=" ++ (bid ++ price_pair kind price)))) parts each
    (query_bytes kind auction bid price (All-weaker (λ b. is_id_byte b ≡ true) IsWritten id_byte_written bid (made_id MOST_PRICES bid made)))
    parsed
