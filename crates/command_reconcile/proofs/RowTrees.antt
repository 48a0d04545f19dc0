-- The tree of a line that tells a row.
use Rattle.std.proofs.Common.{◌≡◌, ◌∙◌, ℕ, ◌<◌, ◌≤◌, ◌^◌, List, [], ◌∷◌, Bool, true, false, cond, Option, Some, None, Result, Ok, Err, IfNone, IfOk, IfSome, refl, sym, ap, subst, arith, le-leb}
use Rattle.std.specs.Prelude.{decimal, option_map, slice_get}
use Rattle.std.specs.Str.{bytes_eq}
use Rattle.std.proofs.lemmas.Bool.{true≢false}
use Rattle.std.proofs.lemmas.List.{append_cancel_right}
use Rattle.std.proofs.lemmas.Option.{none-some, same_Some, slice_get-map}
use Rattle.std.proofs.lemmas.Slice.Eq.{bytes_eq-Decides}
use Rattle.adx_io.specs.Talk.{ended}
use Rattle.adx_json.specs.Faults.{IsFault, IsFaultPlace}
use Rattle.adx_json.specs.Grammar.{IsJson}
use Rattle.adx_json.specs.Tree.{Members, Tree, member, members_of, no_members, object}
use Rattle.adx_json.specs.View.{member_of, members_view}
use Rattle.adx_json.specs.declared.fault.JsonFault.{JsonFault}
use Rattle.adx_json.specs.declared.tree.Member.{Member}
use Rattle.adx_units.specs.Ids.{IsSized}
use Rattle.adx_units.specs.Money.{units}
use Rattle.adx_units.specs.Number.{whole_up_to}
use Rattle.adx_units.specs.declared.memory.OutOfMemory.{OutOfMemory}
use Rattle.adx_units.specs.declared.price.TheConstants.{PRICE_LIMIT}
use Rattle.bidder_core.specs.declared.ledger.LedgerRow.{LedgerRow}
use Rattle.bidder_http.specs.Books.{ledger_line}
use Rattle.command_reconcile.specs.Ledgers.{IsRow, IsRowLine, TellsNoRow}
use Rattle.command_reconcile.specs.Rows.{HasTexts, TellsTree, kind_at, kind_name, kind_named, price_at, row_line, row_members, row_with, text_at, value_at, wants_memory}
use Rattle.command_reconcile.proofs.RowLines.{row_ended, row_json}
use Rattle.formats.proofs.Decimals.{decimal_is_whole, decimal_value}
use Rattle.notice_book.specs.declared.kind.NoticeKind.{NoticeKind}
use Rattle.adx_json.specs.Walks.{members_by}

-- the members of a tree as a list
abbrev listed : Members → List (List ℕ × Tree)
listed no_members = []
listed (member n t ms) = (n, t) ∷ listed ms

listed_back : (ms : List (List ℕ × Tree)) → listed (members_of ms) ≡ ms
listed_back [] = refl
listed_back (m ∷ ms) = ap (λ (l : List (List ℕ × Tree)). m ∷ l) (listed_back ms)

kind_back : (k : NoticeKind) → kind_named (kind_name k) ≡ Some k
kind_back NoticeKind.Win = refl
kind_back NoticeKind.Bill = refl
kind_back NoticeKind.Loss = refl

below : (p : ℕ) → p ≤ 1000000000000 → p < 10 ^ 64
below p few = omega arith

price_back : (p : ℕ) → p ≤ PRICE_LIMIT → whole_up_to PRICE_LIMIT (decimal p) ≡ Some p
price_back p few = rw (decimal_is_whole p (below p few), decimal_value p (below p few), le-leb p PRICE_LIMIT few) refl

-- what the members of a row's tree tell
pub record TellParts (ms : List (List ℕ × Tree)) (row : LedgerRow) : Type 0 where
  pub auction : text_at 0 ms ≡ Some row.auction
  pub bid : text_at 1 ms ≡ Some row.bid
  pub kind : kind_at 2 ms ≡ Some row.kind
  pub price : price_at 3 ms ≡ Some row.price.0

row_parts : (t : Tree) (ms : List (List ℕ × Tree)) (row : LedgerRow) → IsRow row → members_of ms ≡ members_by t → t ≡ object (row_members row) → TellParts ms row
row_parts t ms row is view tree =
    let e : ms ≡ listed (row_members row) = sym (listed_back ms) ∙ ap listed (view ∙ ap members_by tree) in record {
      auction = ap (text_at 0) e;
      bid = ap (text_at 1) e;
      kind = ap (kind_at 2) e ∙ kind_back row.kind;
      price = ap (price_at 3) e ∙ price_back row.price.0 is.price;
    }

module _ (t : Tree) (ms : List (List ℕ × Tree)) (view : members_of ms ≡ members_by t) where
  pub no_auction : None ≡ text_at 0 ms → TellsTree t None
  no_auction none row is tree = absurd (none-some row.auction (none ∙ (row_parts t ms row is view tree).auction))

  pub no_bid : None ≡ text_at 1 ms → TellsTree t None
  no_bid none row is tree = absurd (none-some row.bid (none ∙ (row_parts t ms row is view tree).bid))

  pub no_kind : None ≡ kind_at 2 ms → TellsTree t None
  no_kind none row is tree = absurd (none-some row.kind (none ∙ (row_parts t ms row is view tree).kind))

  pub no_price : None ≡ price_at 3 ms → TellsTree t None
  no_price none row is tree = absurd (none-some row.price.0 (none ∙ (row_parts t ms row is view tree).price))

  pub parts_found : (a b : List ℕ) (k : NoticeKind) (p : ℕ) (found : Option LedgerRow) → Some a ≡ text_at 0 ms → Some b ≡ text_at 1 ms → Some k ≡ kind_at 2 ms → Some p ≡ price_at 3 ms
      → IfNone found (IsSized a → ⊥) → IfSome found (λ row. row ≡ row_with a b k p) → TellsTree t found
  parts_found a b k p found ea eb ek ep none some row is tree =
      let parts = row_parts t ms row is view tree in
      let auction : a ≡ row.auction = same_Some a row.auction (ea ∙ parts.auction) in
      let bid : b ≡ row.bid = same_Some b row.bid (eb ∙ parts.bid) in
      let kind : k ≡ row.kind = same_Some k row.kind (ek ∙ parts.kind) in
      let price : p ≡ row.price.0 = same_Some p row.price.0 (ep ∙ parts.price) in
      by found none some auction bid kind price
    where
      same : (row : LedgerRow) → a ≡ row.auction → b ≡ row.bid → k ≡ row.kind → p ≡ row.price.0 → row_with a b k p ≡ row
      same row auction bid kind price = λ i. record { auction = auction i; bid = bid i; kind = kind i; price = units (price i) }

      by : (o : Option LedgerRow) → IfNone o (IsSized a → ⊥) → IfSome o (λ r. r ≡ row_with a b k p) → a ≡ row.auction → b ≡ row.bid → k ≡ row.kind → p ≡ row.price.0 → o ≡ Some row
      by None none some auction bid kind price = absurd (none (subst IsSized (sym auction) is.sized))
      by (Some r) none some auction bid kind price = ap Some (some ∙ same row auction bid kind price)

  pub parts_told : (a b : List ℕ) (k : NoticeKind) (p : ℕ) (result : Result (Option LedgerRow) OutOfMemory) → Some a ≡ text_at 0 ms → Some b ≡ text_at 1 ms → Some k ≡ kind_at 2 ms → Some p ≡ price_at 3 ms
      → IfOk result (λ found. IfNone found (IsSized a → ⊥)) → IfOk result (λ found. IfSome found (λ row. row ≡ row_with a b k p)) → IfOk result (TellsTree t)
  parts_told a b k p (Ok found) ea eb ek ep none some = parts_found a b k p found ea eb ek ep none some
  parts_told a b k p (Err refused) ea eb ek ep none some = tt

-- ---- the members of a tree in memory

pub value_found : (ms : List Member) (place : ℕ) (m : Member) (t : Tree) → Some m ≡ slice_get ms place → t ≡ (member_of m).1 → Some t ≡ value_at place (members_view ms)
value_found ms place m t found is =
    ap Some is ∙ ap (λ (o : Option Member). option_map (λ (x : List ℕ × Tree). x.1) (option_map member_of o)) found ∙ ap (option_map (λ (x : List ℕ × Tree). x.1)) (sym (slice_get-map member_of ms place))

pub value_none : (ms : List Member) (place : ℕ) → None ≡ slice_get ms place → None ≡ value_at place (members_view ms)
value_none ms place none =
    ap (λ (o : Option Member). option_map (λ (x : List ℕ × Tree). x.1) (option_map member_of o)) none ∙ ap (option_map (λ (x : List ℕ × Tree). x.1)) (sym (slice_get-map member_of ms place))

-- ---- a line

-- the line of a row
line_is : (line : List ℕ) (row : LedgerRow) → ended line ≡ ledger_line row → line ≡ row_line row
line_is line row spelled = append_cancel_right line (row_line row) (10 ∷ []) (spelled ∙ sym (row_ended row))

line_json : (line : List ℕ) (row : LedgerRow) → IsRowLine line row → IsJson line (object (row_members row))
line_json line row told = subst (λ (l : List ℕ). IsJson l (object (row_members row))) (sym (line_is line row told.1)) (row_json row told.0)

fault_row : (line : List ℕ) (at : ℕ) → IsFaultPlace line at → TellsNoRow line
fault_row line at fault row told = fault.none (object (row_members row)) (line_json line row told)

fault_tells : (line : List ℕ) (fault : JsonFault) → IsFault line fault → wants_memory fault ≡ false → TellsNoRow line
fault_tells line (JsonFault.Syntax at) is other = fault_row line at is.0
fault_tells line (JsonFault.Utf8 at) is other = fault_row line at is.0
fault_tells line (JsonFault.Depth at) is other = fault_row line at is.0
fault_tells line JsonFault.OutOfMemory is other = absurd (true≢false other)

-- bytes that are no JSON text tell no row
pub fault_some : (line : List ℕ) (fault : JsonFault) (result : Result (Option LedgerRow) OutOfMemory) → IfOk result (λ found. (found ≡ None) × (wants_memory fault ≡ false)) → IfOk result (λ found. IfSome found (IsRowLine line))
fault_some line fault (Ok found) none = subst (λ (o : Option LedgerRow). IfSome o (IsRowLine line)) (sym none.0) tt
fault_some line fault (Err refused) none = tt

pub fault_none : (line : List ℕ) (fault : JsonFault) (result : Result (Option LedgerRow) OutOfMemory) → IsFault line fault → IfOk result (λ found. (found ≡ None) × (wants_memory fault ≡ false)) → IfOk result (λ found. IfNone found (TellsNoRow line))
fault_none line fault (Ok found) is none = subst (λ (o : Option LedgerRow). IfNone o (TellsNoRow line)) (sym none.0) (fault_tells line fault is none.1)
fault_none line fault (Err refused) is none = tt

module _ (line : List ℕ) (t : Tree) (only : (u : Tree) → IsJson line u → u ≡ t) where
  pub no_row : TellsTree t None → TellsNoRow line
  no_row tells row told = none-some row (tells row told.0 (sym (only (object (row_members row)) (line_json line row told))))

  module _ (row : LedgerRow) (tells : TellsTree t (Some row)) where
    -- no other row is told
    one_row : (other : LedgerRow) → IsRowLine line other → row ≡ other
    one_row other told = same_Some row other (tells other told.0 (sym (only (object (row_members other)) (line_json line other told))))

    pub row_kept : (same : Bool) (found : Option LedgerRow) → HasTexts row → row.price.0 ≤ PRICE_LIMIT → same ≡ bytes_eq (row_line row) line → found ≡ cond same (Some row) None → IfSome found (IsRowLine line)
    row_kept true found texts few is kept =
        subst (λ (o : Option LedgerRow). IfSome o (IsRowLine line)) (sym kept)
        (record { sized = texts.sized; auction_utf8 = texts.auction_utf8; bid_utf8 = texts.bid_utf8; price = few }, ap ended (sym ((bytes_eq-Decides (row_line row) line).0 (sym is))) ∙ row_ended row)
    row_kept false found texts few is kept = subst (λ (o : Option LedgerRow). IfSome o (IsRowLine line)) (sym kept) tt

    pub row_dropped : (same : Bool) (found : Option LedgerRow) → same ≡ bytes_eq (row_line row) line → found ≡ cond same (Some row) None → IfNone found (TellsNoRow line)
    row_dropped true found is kept = subst (λ (o : Option LedgerRow). IfNone o (TellsNoRow line)) (sym kept) tt
    row_dropped false found is kept = subst (λ (o : Option LedgerRow). IfNone o (TellsNoRow line)) (sym kept) (λ other told.
        let equal : row_line row ≡ line = ap row_line (one_row other told) ∙ sym (line_is line other told.1) in
        true≢false (sym ((bytes_eq-Decides (row_line row) line).1 equal) ∙ sym is))
