-- An impression's line as the reader takes it apart.
use Rattle.std.proofs.Common.{◌≡◌, ℕ, ◌^◌, ◌<◌, ◌≤◌, List, length, codes, Bool, true, false, ◌&&◌, Option, Some, None, Ok, refl, sym, ap₂, ◌∙◌, subst, arith}
use Rattle.std.proofs.lemmas.Bool.{and_parts, lt-ltb, le-ltb}
use Rattle.formats.specs.Parts.{behind_word}
use Rattle.bid_record.specs.declared.fault.Misfit.{Misfit}
use Rattle.bid_record.specs.declared.fault.Misfit.TheVariants.{Form, Memory}
use Rattle.bid_record.specs.declared.offers.Offers.{Offers}
use Rattle.bid_record.specs.declared.row_lines.ImpLine.{ImpLine}
use Rattle.bid_record.specs.declared.rows.Charge.{Charge}
use Rattle.bid_record.specs.declared.rows.ImpName.{ImpName}
use Rattle.bid_record.specs.declared.rows.ImpRow.{ImpRow}
use Rattle.bid_record.specs.Reading.{number_part_at, imp_name_at, Ending, ending_at, offers_at, imp_row_at, imp_at, is_place, has_places}
use Rattle.bid_record.specs.Taking.{AreKept, IsOffersRead, IsKept, IsImpRow, IsImpLine}
use Rattle.bid_record.specs.Texts.{Fails}

abbrev row_of : Option ImpName → Ending → List Charge → ImpRow
row_of name e os = record { name = name; offers = os; chosen = e.0; end = e.1 }

pub row_unread : (name : Option ImpName) (bytes : List ℕ) → ending_at bytes ≡ None → imp_row_at name bytes ≡ None
unfolding imp_row_at
row_unread name bytes none = rw none refl

pub row_fails : (misfit : Misfit) (name : Option ImpName) (bytes : List ℕ) (e : Ending) → ending_at bytes ≡ Some e → Fails misfit (offers_at (length e.2) e.2) → Fails misfit (imp_row_at name bytes)
unfolding imp_row_at
row_fails Form name bytes e ending none = rw (ending, none) refl
row_fails Memory name bytes e ending none = tt

row_read : (name : Option ImpName) (bytes : List ℕ) (e : Ending) (os : List Charge) → ending_at bytes ≡ Some e → offers_at (length e.2) e.2 ≡ Some os → length os < 2 ^ 32 → imp_row_at name bytes ≡ Some (row_of name e os)
unfolding imp_row_at
row_read name bytes e os ending offers few = let test = lt-ltb (length os) (2 ^ 32) few in rw (ending, offers, test) refl

pub row_too_long : (name : Option ImpName) (bytes : List ℕ) (e : Ending) (campaigns : ℕ) (o : Offers) → ending_at bytes ≡ Some e → IsOffersRead campaigns e.2 (Ok o) → 2 ^ 32 ≤ o.count → imp_row_at name bytes ≡ None
unfolding imp_row_at
row_too_long name bytes e campaigns o ending read many =
    let test = le-ltb (length read.0) (2 ^ 32) (omega (arith, read.2.count, many)) in
    rw (ending, read.1, test) refl

places_by : (campaigns : ℕ) (name : Option ImpName) (e : Ending) (os : List Charge) (o : Offers) → AreKept campaigns os o → has_places campaigns (row_of name e os) ≡ (o.listed && is_place o.count e.0)
places_by campaigns name e os o k = ap₂ (λ (a : Bool) (n : ℕ). a && is_place n e.0) (sym k.listed) (sym k.count)

pub row_misplaced : (name : Option ImpName) (bytes : List ℕ) (e : Ending) (campaigns : ℕ) (o : Offers) → ending_at bytes ≡ Some e → IsOffersRead campaigns e.2 (Ok o) → o.count < 2 ^ 32 → (o.listed && is_place o.count e.0) ≡ false → IsImpRow campaigns name bytes (Ok None)
row_misplaced name bytes e campaigns o ending read few none =
    (row_of name e read.0, row_read name bytes e read.0 ending read.1 (omega (arith, read.2.count, few)), places_by campaigns name e read.0 o read.2 ∙ none)

abbrev row_made : Option ImpName → List Charge → Option ℕ → Ending → ImpRow
row_made name os chosen e = record { name = name; offers = os; chosen = chosen; end = e.1 }

pub row_kept : (name : Option ImpName) (bytes : List ℕ) (e : Ending) (campaigns : ℕ) (o : Offers) (os : List Charge) (chosen : Option ℕ) → ending_at bytes ≡ Some e → IsOffersRead campaigns e.2 (Ok o) → o.count < 2 ^ 32 → (o.listed && is_place o.count e.0) ≡ true → os ≡ o.kept.items → chosen ≡ e.0 → IsImpRow campaigns name bytes (Ok (Some (row_made name os chosen e)))
row_kept name bytes e campaigns o os chosen ending read few all offers_are chosen_is =
    let both = and_parts o.listed (is_place o.count e.0) all in
    let same : row_made name os chosen e ≡ row_of name e read.0 = ap₂ (λ (xs : List Charge) (c : Option ℕ). row_made name xs c e) (offers_are ∙ read.2.kept both.0) chosen_is in
    (row_of name e read.0, row_read name bytes e read.0 ending read.1 (omega (arith, read.2.count, few)), (places_by campaigns name e read.0 o read.2 ∙ all, same))

-- whether the row was kept, by the number of campaigns
pub kept_none : (n m : ℕ) (row : ImpRow) (kept : Option ImpRow) → IsKept n row kept → kept ≡ None → n ≡ m → has_places m row ≡ false
kept_none n m row kept h none same = subst (λ (k : ℕ). has_places k row ≡ false) same (subst (λ (o : Option ImpRow). IsKept n row o) none h)

pub kept_some : (n m : ℕ) (row kept : ImpRow) (o : Option ImpRow) → IsKept n row o → o ≡ Some kept → n ≡ m → (has_places m row ≡ true) × (kept ≡ row)
kept_some n m row kept o h some same = subst (λ (k : ℕ). (has_places k row ≡ true) × (kept ≡ row)) same (subst (λ (x : Option ImpRow). IsKept n row x) some h)

pub line_from_row : (format campaigns : ℕ) (line a b c : List ℕ) (j : ℕ) (name : Option ImpName) (l : ImpLine) → behind_word (codes "imp") line ≡ Some a → number_part_at a ≡ Some (j, b) → imp_name_at format b ≡ Some (name, c) → l.index ≡ j → IsImpRow campaigns name c (Ok l.row) → IsImpLine format campaigns line (Ok l)
unfolding imp_at
line_from_row format campaigns line a b c j name l word number named index read =
    (read.0, rw (word, number, named, read.1, index) refl, read.2)

pub line_fails : (misfit : Misfit) (format : ℕ) (line a b c : List ℕ) (j : ℕ) (name : Option ImpName) → behind_word (codes "imp") line ≡ Some a → number_part_at a ≡ Some (j, b) → imp_name_at format b ≡ Some (name, c) → Fails misfit (imp_row_at name c) → Fails misfit (imp_at format line)
unfolding imp_at
line_fails Form format line a b c j name word number named none = rw (word, number, named, none) refl
line_fails Memory format line a b c j name word number named none = tt

pub line_unnamed : (misfit : Misfit) (format : ℕ) (line a b : List ℕ) (j : ℕ) → behind_word (codes "imp") line ≡ Some a → number_part_at a ≡ Some (j, b) → Fails misfit (imp_name_at format b) → Fails misfit (imp_at format line)
unfolding imp_at
line_unnamed Form format line a b j word number none = rw (word, number, none) refl
line_unnamed Memory format line a b j word number none = tt

pub line_unnumbered : (format : ℕ) (line a : List ℕ) → behind_word (codes "imp") line ≡ Some a → number_part_at a ≡ None → imp_at format line ≡ None
unfolding imp_at
line_unnumbered format line a word none = rw (word, none) refl

pub line_unworded : (format : ℕ) (line : List ℕ) → behind_word (codes "imp") line ≡ None → imp_at format line ≡ None
unfolding imp_at
line_unworded format line none = rw none refl
