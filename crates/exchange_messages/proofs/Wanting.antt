-- What a message means, by what its head says.
use Rattle.std.proofs.Common.{◌≡◌, ℕ, List, Bool, true, false, Option, Some, None, codes, refl, sym, ap, ap₂, ◌∙◌, subst}
use Rattle.std.specs.Cow.{cow_str_bytes}
use Rattle.adx_http.specs.Targets.{path_of, query_of, value_of}
use Rattle.http_connection.specs.Messages.{Request}
use Rattle.http_grammar.specs.Requests.{verb_of_method}
use Rattle.http_grammar.specs.declared.verb.Verb.{Verb}
use Rattle.notice_book.specs.declared.kind.NoticeKind.{NoticeKind}
use Rattle.script_lines.specs.declared.limits.TheConstants.{LAST_AWARD}
use Rattle.adx_json.specs.Values.{whole_by}
use Rattle.exchange_messages.specs.Meanings.{Meaning, Means, MeansBy, ServedMeans, budget_meaning, budget_query_meaning, change_meaning, notice_meaning, notifies, query_meaning, refused, wants_books, wants_meters}
use Rattle.exchange_messages.specs.Paths.{is_served, path_named}
use Rattle.exchange_messages.specs.Wants.{MeansSo, Wants, WantsOther, change_meant, meaning_of, other_meaning}
use Rattle.exchange_messages.specs.declared.path.Path.{Path}
use Rattle.exchange_messages.specs.declared.refusal.Refusal.{Refusal}
use Rattle.exchange_messages.specs.declared.wanted.Other.{Other}
use Rattle.exchange_messages.specs.declared.wanted.Wanted.{Wanted}

-- the path of a message by what was read of its target
pub named_of : (m : Request) (path target : List ℕ) (p : Option Path) → p ≡ path_named path → path ≡ path_of target → target ≡ m.head.target → path_named (path_of m.head.target) ≡ p
named_of m path target p named is shown = sym (named ∙ ap path_named (is ∙ ap path_of shown))

-- whether it is served, by the kind of the message's method
pub served_of : (m : Request) (p : Path) (verb : Verb) (result told : Bool) → result ≡ is_served p verb → verb ≡ verb_of_method m.head.method → result ≡ told → is_served p (verb_of_method m.head.method) ≡ told
served_of m p verb result told is shown same = sym (ap (is_served p) shown) ∙ (sym is ∙ same)

-- a path that isn't served
pub no_path : (m : Request) → path_named (path_of m.head.target) ≡ None → Means m (refused Refusal.Path)
no_path m named = subst (λ p. MeansBy p m (refused Refusal.Path)) (sym named) refl

-- a path that isn't served by the method
pub no_method : (m : Request) (p : Path) → path_named (path_of m.head.target) ≡ Some p → is_served p (verb_of_method m.head.method) ≡ false → Means m (refused (Refusal.Method p))
no_method m p named served =
    subst (λ o. MeansBy o m (refused (Refusal.Method p))) (sym named) (subst (λ b. ServedMeans b p m (refused (Refusal.Method p))) (sym served) refl)

-- a path that is
by_path : (m : Request) (p : Path) (meaning : Meaning) → path_named (path_of m.head.target) ≡ Some p → is_served p (verb_of_method m.head.method) ≡ true → ServedMeans true p m meaning → Means m meaning
by_path m p meaning named served h =
    subst (λ o. MeansBy o m meaning) (sym named) (subst (λ b. ServedMeans b p m meaning) (sym served) h)

-- what is wanted is what is meant, where the head says it
other_told : (m : Request) (o : Other) (meaning : Meaning) → other_meaning o ≡ Some meaning → Means m meaning → WantsOther m o
other_told m Other.Bids meaning told h = absurd (cc told)
other_told m Other.Books meaning told h = let same : meaning ≡ wants_books = cc told in subst (Means m) same h
other_told m Other.Meters meaning told h = let same : meaning ≡ wants_meters = cc told in subst (Means m) same h
other_told m (Other.Budget change) meaning told h = let same : meaning ≡ change_meant change = cc told in subst (Means m) same h
other_told m (Other.Nothing why) meaning told h = let same : meaning ≡ refused why = cc told in subst (Means m) same h

wants_told : (m : Request) (w : Wanted) (meaning : Meaning) → meaning_of w ≡ Some meaning → Means m meaning → Wants m w
wants_told m (Wanted.Notice kind auction award) meaning told h = let same : meaning ≡ notifies kind (cow_str_bytes auction) award = cc told in subst (Means m) same h
wants_told m (Wanted.Other other) meaning told h = other_told m other meaning told h

-- what a notice's query means: it names no auction, no award, or both
pub no_auction : (kind : NoticeKind) (query : List ℕ) → value_of (codes "auction") query ≡ None → Some (refused Refusal.Call) ≡ Some (query_meaning kind query)
no_auction kind query none = ap (λ (o : Option (List ℕ)). Some (notice_meaning kind o (whole_by LAST_AWARD (value_of (codes "bid") query)))) (sym none)

pub no_award : (kind : NoticeKind) (query auction : List ℕ) → value_of (codes "auction") query ≡ Some auction → whole_by LAST_AWARD (value_of (codes "bid") query) ≡ None → Some (refused Refusal.Call) ≡ Some (query_meaning kind query)
no_award kind query auction some none = ap₂ (λ (o : Option (List ℕ)) (n : Option ℕ). Some (notice_meaning kind o n)) (sym some) (sym none)

-- what a budget's query means: it names not all four texts, or it names them
module _ (query : List ℕ) where
  pub no_seat : value_of (codes "seat") query ≡ None → Some (refused Refusal.Call) ≡ Some (budget_query_meaning query)
  no_seat none = λ i. Some (budget_meaning (sym none i) (value_of (codes "cid") query) (value_of (codes "change") query) (value_of (codes "budget") query))

  pub no_cid : (seat : List ℕ) → value_of (codes "seat") query ≡ Some seat → value_of (codes "cid") query ≡ None → Some (refused Refusal.Call) ≡ Some (budget_query_meaning query)
  no_cid seat first none = λ i. Some (budget_meaning (sym first i) (sym none i) (value_of (codes "change") query) (value_of (codes "budget") query))

  pub no_number : (seat cid : List ℕ) → value_of (codes "seat") query ≡ Some seat → value_of (codes "cid") query ≡ Some cid → value_of (codes "change") query ≡ None
      → Some (refused Refusal.Call) ≡ Some (budget_query_meaning query)
  no_number seat cid first second none = λ i. Some (budget_meaning (sym first i) (sym second i) (sym none i) (value_of (codes "budget") query))

  pub no_budget : (seat cid number : List ℕ) → value_of (codes "seat") query ≡ Some seat → value_of (codes "cid") query ≡ Some cid → value_of (codes "change") query ≡ Some number
      → value_of (codes "budget") query ≡ None → Some (refused Refusal.Call) ≡ Some (budget_query_meaning query)
  no_budget seat cid number first second third none = λ i. Some (budget_meaning (sym first i) (sym second i) (sym third i) (sym none i))

  pub names_change : (seat cid number budget : List ℕ) → value_of (codes "seat") query ≡ Some seat → value_of (codes "cid") query ≡ Some cid → value_of (codes "change") query ≡ Some number
      → value_of (codes "budget") query ≡ Some budget → Some (change_meaning seat cid number budget) ≡ Some (budget_query_meaning query)
  names_change seat cid number budget first second third fourth = λ i. Some (budget_meaning (sym first i) (sym second i) (sym third i) (sym fourth i))

pub served : (m : Request) (p : Path) (query : List ℕ) (w : Wanted) → query ≡ query_of m.head.target → path_named (path_of m.head.target) ≡ Some p
    → is_served p (verb_of_method m.head.method) ≡ true → MeansSo p query w → Wants m w
served m Path.OpenRtb query w same named is so = subst (Wants m) (sym so) (λ meaning h. by_path m Path.OpenRtb meaning named is h)
served m (Path.Notice kind) query w same named is so =
    let meaning = query_meaning kind query in
    wants_told m w meaning so (by_path m (Path.Notice kind) meaning named is (ap (query_meaning kind) same))
served m Path.Books query w same named is so = subst (Wants m) (sym so) (by_path m Path.Books wants_books named is refl)
served m Path.Meters query w same named is so = subst (Wants m) (sym so) (by_path m Path.Meters wants_meters named is refl)
served m Path.Budget query w same named is so =
    let meaning = budget_query_meaning query in
    wants_told m w meaning so (by_path m Path.Budget meaning named is (ap budget_query_meaning same))
