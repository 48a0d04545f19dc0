-- What the exchange makes of a bidder's template.
use Rattle.std.proofs.Common.{◌≡◌, ◌∙◌, inl, inr, ℕ, ◌≤◌, List, [], ◌∷◌, ◌++◌, All, Bool, false, ◌||◌, Option, Some, refl, sym, ap, ap₂, arith, append_assoc, append-nil, nat_le, leb-true}
use Rattle.std.specs.Prelude.{codes, ◌==◌}
use Rattle.std.specs.List.{list_any}
use Rattle.std.proofs.lemmas.Bool.{and_parts, eqb-true, ne_eqb, or_cases}
use Rattle.std.proofs.lemmas.List.Elements.{All-head, All-tail}
use Rattle.std.proofs.lemmas.List.Folds.{list_any-append}
use Rattle.adx_units.specs.Money.{price_text, units}
use Rattle.adx_units.specs.Number.{is_digit}
use Rattle.adx_units.specs.declared.units.Units.{Units}
use Rattle.bidder_core.specs.Answers.{notice_url}
use Rattle.bidder_core.specs.declared.price_line.TheConstants.{MOST_PRICES}
use Rattle.notice_book.specs.declared.kind.NoticeKind.{NoticeKind}
use Rattle.notice_macros.proofs.Behind.{stays_behind, two_macros}
use Rattle.notice_macros.proofs.Pieces.{macro_replaced, plain_stays}
use Rattle.notice_macros.specs.Escaped.{placed}
use Rattle.notice_macros.specs.Expansion.{expansion, is_closing, is_dollar, url_expansion}
use Rattle.notice_macros.specs.Macros.{charge_text}
use Rattle.notice_macros.specs.declared.values.Values.{Values}
use Rattle.two_books.specs.OwnNotices.{TemplatesBecomeUrls, escaped, notice_query, page_path}
use Rattle.two_books.proofs.NamedTypes.{APlace}
use Rattle.two_books.proofs.ReadBack.{IsIdByte, made_id}

-- an id that a bidder makes has no `$`
no_dollar : (b : ℕ) → IsIdByte b → is_dollar b ≡ false
no_dollar b is = elim (or_cases (is_digit b) (b == 45) is) [
  | inl digit ↦ let low : 48 ≤ b = leb-true 48 b (and_parts (nat_le 48 b) (nat_le b 57) digit).0 in ne_eqb b 36 (λ e. absurd (omega arith))
  | inr dash ↦ let same : b ≡ 45 = eqb-true b 45 dash in ne_eqb b 36 (λ e. absurd (omega arith))
]

none_any : (test : ℕ → Bool) → ((b : ℕ) → IsIdByte b → test b ≡ false) → (bs : List ℕ) → All IsIdByte bs → list_any test bs ≡ false
none_any test fails [] all = refl
none_any test fails (b ∷ bs) all = ap₂ (λ (s t : Bool). s || t) (fails b (All-head IsIdByte b bs all)) (none_any test fails bs (All-tail IsIdByte b bs all))

plain_id : (bid rest : List ℕ) → All IsIdByte bid → list_any is_dollar rest ≡ false → list_any is_dollar (bid ++ rest) ≡ false
plain_id bid rest all plain = list_any-append is_dollar bid rest ∙ ap₂ (λ (s t : Bool). s || t) (none_any is_dollar no_dollar bid all) plain

-- the pieces of a template with two macros, and what they become
two_pieces : (base page id bid told rest : List ℕ) → base ++ (page ++ (id ++ (bid ++ (told ++ rest)))) ≡ (base ++ page) ++ (id ++ ((bid ++ told) ++ rest))
two_pieces base page id bid told rest = simp append_assoc

two_become : (front page auction mark bid told price : List ℕ) → (front ++ page) ++ (auction ++ ((mark ++ (bid ++ told)) ++ (price ++ []))) ≡ front ++ (page ++ (auction ++ (mark ++ (bid ++ (told ++ price)))))
two_become front page auction mark bid told price = simp (append_assoc, append-nil)

one_becomes : (front page auction mark bid : List ℕ) → (front ++ page) ++ (auction ++ (mark ++ (bid ++ []))) ≡ front ++ (page ++ (auction ++ (mark ++ (bid ++ []))))
one_becomes front page auction mark bid = simp append_assoc

-- a template of a base, a page, and macros for the auction and the price
abbrev paid_template : List ℕ → List ℕ → List ℕ → List ℕ
paid_template base page bid = (base ++ page) ++ (36 ∷ (123 ∷ (codes "AUCTION_ID" ++ (125 ∷ ((codes "&b=" ++ (bid ++ codes "&p=")) ++ (36 ∷ (123 ∷ (codes "AUCTION_PRICE" ++ (125 ∷ [])))))))))

abbrev unpaid_template : List ℕ → List ℕ → List ℕ → List ℕ
unpaid_template base page bid = (base ++ page) ++ (36 ∷ (123 ∷ (codes "AUCTION_ID" ++ (125 ∷ (codes "&b=" ++ (bid ++ []))))))

module _ (values : Values) (base bid : List ℕ) (id : All IsIdByte bid) where
  abbrev front : List ℕ
  front = url_expansion values base

  abbrev auction : List ℕ
  auction = values.auction.now

  paid_anywhere : (page : List ℕ) → list_any is_dollar page ≡ false → list_any is_closing page ≡ false → (place : APlace)
      → expansion place values (paid_template base page bid)
      ≡ (expansion place values base ++ page) ++ (placed place auction ++ ((codes "&b=" ++ (bid ++ codes "&p=")) ++ (placed place (charge_text values.price) ++ [])))
  paid_anywhere page plain opened place =
      two_macros place values base page (codes "AUCTION_ID") (codes "&b=" ++ (bid ++ codes "&p=")) (codes "AUCTION_PRICE") _ _
      plain opened refl refl refl (plain_id bid (codes "&p=") id refl) refl refl refl

  unpaid_anywhere : (page : List ℕ) → list_any is_dollar page ≡ false → list_any is_closing page ≡ false → (place : APlace)
      → expansion place values (unpaid_template base page bid) ≡ (expansion place values base ++ page) ++ (placed place auction ++ (codes "&b=" ++ (bid ++ [])))
  unpaid_anywhere page plain opened place =
      macro_replaced place values (base ++ page) (codes "AUCTION_ID") (codes "&b=" ++ (bid ++ [])) _ refl refl refl
      ∙ ap₂ (λ (x y : List ℕ). x ++ (placed place auction ++ y)) (stays_behind place values base page plain opened) (plain_stays place values (codes "&b=" ++ (bid ++ [])) (plain_id bid [] id refl))

  paid_url : (page : List ℕ) → list_any is_dollar page ≡ false → list_any is_closing page ≡ false
      → url_expansion values (paid_template base page bid)
      ≡ (front ++ page) ++ (escaped auction ++ ((codes "&b=" ++ (bid ++ codes "&p=")) ++ (escaped (charge_text values.price) ++ [])))
  paid_url page plain opened =
      let h : (place : APlace) → expansion place values (paid_template base page bid)
      ≡ (expansion place values base ++ page) ++ (placed place auction ++ ((codes "&b=" ++ (bid ++ codes "&p=")) ++ (placed place (charge_text values.price) ++ [])))
      = paid_anywhere page plain opened in
      rw h refl

  unpaid_url : (page : List ℕ) → list_any is_dollar page ≡ false → list_any is_closing page ≡ false
      → url_expansion values (unpaid_template base page bid) ≡ (front ++ page) ++ (escaped auction ++ (codes "&b=" ++ (bid ++ [])))
  unpaid_url page plain opened =
      let h : (place : APlace) → expansion place values (unpaid_template base page bid) ≡ (expansion place values base ++ page) ++ (placed place auction ++ (codes "&b=" ++ (bid ++ [])))
      = unpaid_anywhere page plain opened in
      rw h refl

  -- with the page of a win or a bill
  priced_url : (price : ℕ) → values.price ≡ Some (units price) → (page : List ℕ) → list_any is_dollar page ≡ false → list_any is_closing page ≡ false
      → url_expansion values (paid_template base page bid) ≡ front ++ (page ++ (escaped auction ++ (codes "&b=" ++ (bid ++ (codes "&p=" ++ escaped (price_text price))))))
  priced_url price paid page plain opened =
      paid_url page plain opened
      ∙ ap (λ (p : Option Units). (front ++ page) ++ (escaped auction ++ ((codes "&b=" ++ (bid ++ codes "&p=")) ++ (escaped (charge_text p) ++ [])))) paid
      ∙ two_become front page (escaped auction) (codes "&b=") bid (codes "&p=") (escaped (price_text price))

  pub win_url : (price : ℕ) → values.price ≡ Some (units price) → url_expansion values (notice_url base bid NoticeKind.Win) ≡ front ++ (page_path NoticeKind.Win ++ 63 ∷ notice_query NoticeKind.Win auction bid price)
  win_url price paid =
      ap (url_expansion values) (two_pieces base (codes "/n/win?a=") (codes "${AUCTION_ID}&b=") bid (codes "&p=") (codes "${AUCTION_PRICE}"))
      ∙ priced_url price paid (codes "/n/win?a=") refl refl

  pub bill_url : (price : ℕ) → values.price ≡ Some (units price) → url_expansion values (notice_url base bid NoticeKind.Bill) ≡ front ++ (page_path NoticeKind.Bill ++ 63 ∷ notice_query NoticeKind.Bill auction bid price)
  bill_url price paid =
      ap (url_expansion values) (two_pieces base (codes "/n/bill?a=") (codes "${AUCTION_ID}&b=") bid (codes "&p=") (codes "${AUCTION_PRICE}"))
      ∙ priced_url price paid (codes "/n/bill?a=") refl refl

  pub loss_url : (price : ℕ) → url_expansion values (notice_url base bid NoticeKind.Loss) ≡ front ++ (page_path NoticeKind.Loss ++ 63 ∷ notice_query NoticeKind.Loss auction bid price)
  loss_url price =
      ap (url_expansion values) (sym (append_assoc base (codes "/n/loss?a=") (codes "${AUCTION_ID}&b=" ++ (bid ++ []))))
      ∙ unpaid_url (codes "/n/loss?a=") refl refl
      ∙ one_becomes front (codes "/n/loss?a=") (escaped auction) (codes "&b=") bid

pub templates_become : TemplatesBecomeUrls
templates_become values base bid NoticeKind.Win price paid made = win_url values base bid (made_id MOST_PRICES bid made) price paid
templates_become values base bid NoticeKind.Bill price paid made = bill_url values base bid (made_id MOST_PRICES bid made) price paid
templates_become values base bid NoticeKind.Loss price paid made = loss_url values base bid (made_id MOST_PRICES bid made) price
