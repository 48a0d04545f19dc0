-- What the lines of a certificate tell is determined by its bytes.
use Rattle.std.proofs.Common.{◌≡◌, ℕ, ◌+◌, ◌^◌, ◌<◌, List, [], ◌∷◌, ◌++◌, length, map, codes, Some, None, Result, Ok, Err, refl, sym, ap, ◌∙◌, subst, arith, inl, inr, append_assoc, append-nil, length-append}
use Rattle.std.specs.List.{flat_map, All, enumerate_from}
use Rattle.std.specs.Fmt.{decimal}
use Rattle.std.specs.Prelude.{IfOk, IfErr}
use Rattle.std.proofs.lemmas.Option.{same_Some}
use Rattle.std.proofs.lemmas.List.Elements.{All-nil, All-head, All-tail, All-push}
use Rattle.formats.specs.Parts.{ended, part, IsOneLine}
use Rattle.formats.specs.Following.{Leads, no_line, line_then, FailsAt, IsCut}
use Rattle.formats.proofs.Following.{IsEnd, leads_join, leads_more, no_fault, no_cut, one_document, pushed, cut_there}
use Rattle.formats.proofs.NumberedLines.{numbered_push}
use Rattle.formats.proofs.OneLines.{one_line, one_line_join, one_line_part, one_line_decimal}
use Rattle.dual_cert.specs.declared.cert.Cert.{Cert}
use Rattle.dual_cert.specs.declared.fault.CertFault.{CertFault}
use Rattle.dual_cert.specs.declared.fault.CertFault.TheVariants.{Line, Cut, OutOfMemory}
use Rattle.dual_cert.specs.declared.row.Row.{Row}
use Rattle.dual_cert.specs.Lines.{head_line, alpha_line, beta_line, bound_line, rows_lines, lines, document}
use Rattle.dual_cert.specs.Reading.{row_at, with_row}
use Rattle.dual_cert.specs.Refusals.{Told, nothing, rows, all, Follows, head_first, alpha_next, beta_next, bound_last, DoesNotFollow, IsWhole, HasMore, IsRefusal, IsRanged, GivesCert}
use Rattle.dual_cert.specs.Taking.{AreRead, IsBehindLast, IsTaken}
use Rattle.dual_cert.proofs.Rows.{row_again, row_follows, none_follows}

indexed_one_line : (word : List ℕ) (i n : ℕ) → IsOneLine word → IsOneLine (word ++ (decimal i ++ part (decimal n)))
indexed_one_line word i n h = one_line_join word (decimal i ++ part (decimal n)) h (one_line_join (decimal i) (part (decimal n)) (one_line_decimal i) (one_line_part (decimal n) (one_line_decimal n)))

follows_one_line : (told next : Told) (line : List ℕ) → Follows told line next → IsOneLine line
follows_one_line told next line head_first = one_line head_line refl
follows_one_line told next line (alpha_next alphas a h) = indexed_one_line (codes "alpha ") (length alphas) a (one_line (codes "alpha ") refl)
follows_one_line told next line (beta_next alphas betas b h) = indexed_one_line (codes "beta ") (length betas) b (one_line (codes "beta ") refl)
follows_one_line told next line (bound_last alphas betas n h) = one_line_join (codes "bound ") (decimal n) (one_line (codes "bound ") refl) (one_line_decimal n)

from_nothing : (next : Told) (line : List ℕ) → Follows nothing line next → (next ≡ rows [] []) × (line ≡ head_line)
from_nothing next line head_first = (refl, refl)

none_behind : (alphas betas : List ℕ) (n : ℕ) (next : Told) (line : List ℕ) → Follows (all alphas betas n) line next → ⊥
none_behind alphas betas n next line f = elim f [ ]

follows_same : (told next other : Told) (line : List ℕ) → Follows told line next → Follows told line other → next ≡ other
follows_same nothing next other line f g = (from_nothing next line f).0 ∙ sym (from_nothing other line g).0
follows_same (rows alphas betas) next other line f g =
    let first = row_again alphas betas line next f in
    let second = row_again alphas betas line other g in
    let same : first.0 ≡ second.0 = same_Some first.0 second.0 (sym first.1 ∙ second.1) in
    sym first.2 ∙ ap (λ (r : Row). with_row r alphas betas) same ∙ second.2
follows_same (all alphas betas n) next other line f g = absurd (none_behind alphas betas n next line f)

none_more : (told next : Told) (line : List ℕ) → IsWhole told → Follows told line next → ⊥
none_more nothing next line w f = w
none_more (rows alphas betas) next line w f = w
none_more (all alphas betas n) next line w f = none_behind alphas betas n next line f

pub is_end : IsEnd Follows IsWhole
is_end = record { grammar = record { one_line = follows_one_line; same = follows_same }; last = none_more }

alphas_lead : (acc xs : List ℕ) → All (λ a. a < 2 ^ 64) xs → Leads Follows (rows acc []) (map alpha_line (enumerate_from (length acc) xs)) (rows (acc ++ xs) [])
alphas_lead acc [] h = subst (λ (l : List ℕ). Leads Follows (rows acc []) [] (rows l [])) (sym (append-nil acc)) (no_line (rows acc []))
alphas_lead acc (x ∷ xs) h =
    let next : List ℕ = acc ++ x ∷ [] in
    let rest = alphas_lead next xs (All-tail (λ a. a < 2 ^ 64) x xs h) in
    let len : length next ≡ length acc + 1 = length-append acc (x ∷ []) in
    let whole : next ++ xs ≡ acc ++ x ∷ xs = append_assoc acc (x ∷ []) xs in
    let moved = subst (λ (l : List ℕ). Leads Follows (rows next []) (map alpha_line (enumerate_from (length next) xs)) (rows l [])) whole rest in
    let later = subst (λ (n : ℕ). Leads Follows (rows next []) (map alpha_line (enumerate_from n xs)) (rows (acc ++ x ∷ xs) [])) len moved in
    line_then (rows acc []) (rows next []) (rows (acc ++ x ∷ xs) []) (alpha_line (length acc, x)) (map alpha_line (enumerate_from (length acc + 1) xs)) (alpha_next acc x (All-head (λ a. a < 2 ^ 64) x xs h)) later

betas_lead : (alphas acc xs : List ℕ) → All (λ b. b < 2 ^ 64) xs → Leads Follows (rows alphas acc) (map beta_line (enumerate_from (length acc) xs)) (rows alphas (acc ++ xs))
betas_lead alphas acc [] h = subst (λ (l : List ℕ). Leads Follows (rows alphas acc) [] (rows alphas l)) (sym (append-nil acc)) (no_line (rows alphas acc))
betas_lead alphas acc (x ∷ xs) h =
    let next : List ℕ = acc ++ x ∷ [] in
    let rest = betas_lead alphas next xs (All-tail (λ b. b < 2 ^ 64) x xs h) in
    let len : length next ≡ length acc + 1 = length-append acc (x ∷ []) in
    let whole : next ++ xs ≡ acc ++ x ∷ xs = append_assoc acc (x ∷ []) xs in
    let moved = subst (λ (l : List ℕ). Leads Follows (rows alphas next) (map beta_line (enumerate_from (length next) xs)) (rows alphas l)) whole rest in
    let later = subst (λ (n : ℕ). Leads Follows (rows alphas next) (map beta_line (enumerate_from n xs)) (rows alphas (acc ++ x ∷ xs))) len moved in
    line_then (rows alphas acc) (rows alphas next) (rows alphas (acc ++ x ∷ xs)) (beta_line (length acc, x)) (map beta_line (enumerate_from (length acc + 1) xs)) (beta_next alphas acc x (All-head (λ b. b < 2 ^ 64) x xs h)) later

-- the lines of rows in range tell them
pub rows_lead : (alphas betas : List ℕ) → All (λ a. a < 2 ^ 64) alphas → All (λ b. b < 2 ^ 64) betas → Leads Follows nothing (rows_lines alphas betas) (rows alphas betas)
rows_lead alphas betas ha hb =
    let first : List (List ℕ) = map alpha_line (enumerate_from 0 alphas) in
    let second : List (List ℕ) = map beta_line (enumerate_from 0 betas) in
    line_then nothing (rows [] []) (rows alphas betas) head_line (first ++ second) head_first
    (leads_join Follows (rows [] []) (rows alphas []) (rows alphas betas) first second (alphas_lead [] alphas ha) (betas_lead alphas [] betas hb))

pub cert_leads : (c : Cert) → IsRanged c → Leads Follows nothing (lines c) (all c.alphas c.betas c.bound)
cert_leads c h =
    leads_more Follows nothing (rows c.alphas c.betas) (all c.alphas c.betas c.bound) (rows_lines c.alphas c.betas) (bound_line c.bound) (rows_lead c.alphas c.betas h.alphas h.betas) (bound_last c.alphas c.betas c.bound h.bound)

alphas_pushed : (alphas : List ℕ) (a : ℕ) → rows_lines (alphas ++ a ∷ []) [] ≡ rows_lines alphas [] ++ alpha_line (length alphas, a) ∷ []
alphas_pushed alphas a =
    let before : List (List ℕ) = map alpha_line (enumerate_from 0 alphas) in
    let start : 0 + length alphas ≡ length alphas = omega arith in
    let one = numbered_push alpha_line 0 alphas a ∙ ap (λ (i : ℕ). before ++ alpha_line (i, a) ∷ []) start in
    ap (λ (t : List (List ℕ)). head_line ∷ t) (append-nil (map alpha_line (enumerate_from 0 (alphas ++ a ∷ []))) ∙ one ∙ ap (λ (t : List (List ℕ)). t ++ alpha_line (length alphas, a) ∷ []) (sym (append-nil before)))

betas_pushed : (alphas betas : List ℕ) (b : ℕ) → rows_lines alphas (betas ++ b ∷ []) ≡ rows_lines alphas betas ++ beta_line (length betas, b) ∷ []
betas_pushed alphas betas b =
    let first : List (List ℕ) = map alpha_line (enumerate_from 0 alphas) in
    let before : List (List ℕ) = map beta_line (enumerate_from 0 betas) in
    let start : 0 + length betas ≡ length betas = omega arith in
    let one = numbered_push beta_line 0 betas b ∙ ap (λ (i : ℕ). before ++ beta_line (i, b) ∷ []) start in
    ap (λ (t : List (List ℕ)). head_line ∷ t) (ap (λ (t : List (List ℕ)). first ++ t) one ∙ sym (append_assoc first before (beta_line (length betas, b) ∷ [])))

read_pushed : (bytes alphas betas left : List ℕ) (n : ℕ) (line behind alphas' betas' : List ℕ) → AreRead bytes alphas betas left n → left ≡ line ++ 10 ∷ behind → rows_lines alphas' betas' ≡ rows_lines alphas betas ++ line ∷ [] → All (λ a. a < 2 ^ 64) alphas' → All (λ b. b < 2 ^ 64) betas' → AreRead bytes alphas' betas' behind (n + 1)
read_pushed bytes alphas betas left n line behind alphas' betas' r cut same ha hb =
    let more = pushed bytes left line behind (rows_lines alphas betas) r.document cut in
    let len = ap (λ (t : List (List ℕ)). length t) same ∙ length-append (rows_lines alphas betas) (line ∷ []) in
    let used = ap (λ (t : List ℕ). length t) cut ∙ length-append line (10 ∷ behind) in
    record {
      document = more ∙ ap (λ (t : List (List ℕ)). flat_map ended t ++ behind) (sym same);
      number = omega (arith, r.number, len);
      few = omega (arith, r.few, used);
      alphas_fit = ha;
      betas_fit = hb;
    }

-- one row more
pub read_more : (bytes alphas betas left : List ℕ) (n : ℕ) (line behind alphas' betas' : List ℕ) → AreRead bytes alphas betas left n → left ≡ line ++ 10 ∷ behind → Follows (rows alphas betas) line (rows alphas' betas') → AreRead bytes alphas' betas' behind (n + 1)
read_more bytes alphas [] left n line behind alphas' betas' r cut (alpha_next as0 a h) =
    read_pushed bytes alphas [] left n line behind (alphas ++ a ∷ []) [] r cut (alphas_pushed alphas a) (All-push (λ m. m < 2 ^ 64) alphas a r.alphas_fit h) r.betas_fit
read_more bytes alphas betas left n line behind alphas' betas' r cut (beta_next as0 bs0 b h) =
    read_pushed bytes alphas betas left n line behind alphas (betas ++ b ∷ []) r cut (betas_pushed alphas betas b) r.alphas_fit (All-push (λ m. m < 2 ^ 64) betas b r.betas_fit h)

bound_range : (alphas betas line alphas' betas' : List ℕ) (n : ℕ) → Follows (rows alphas betas) line (all alphas' betas' n) → (line ≡ bound_line n) × (n < 2 ^ 128)
bound_range alphas betas line alphas' betas' n (bound_last as0 bs0 m h) = (refl, h)

-- the last line
pub read_last : (bytes alphas betas left : List ℕ) (n : ℕ) (line behind alphas' betas' : List ℕ) (bound : ℕ) → AreRead bytes alphas betas left n → left ≡ line ++ 10 ∷ behind → Follows (rows alphas betas) line (all alphas betas bound) × (alphas' ≡ alphas) × (betas' ≡ betas) → IsBehindLast bytes alphas' betas' bound behind (n + 1)
read_last bytes alphas betas left n line behind alphas' betas' bound r cut f =
    let is = bound_range alphas betas line alphas betas bound f.0 in
    let more = pushed bytes left line behind (rows_lines alphas betas) r.document cut in
    let len = length-append (rows_lines alphas betas) (bound_line bound ∷ []) in
    let made : IsBehindLast bytes alphas betas bound behind (n + 1) = record {
      document = subst (λ (l : List ℕ). bytes ≡ flat_map ended (rows_lines alphas betas ++ l ∷ []) ++ behind) is.0 more;
      number = omega (arith, r.number, len);
      alphas_fit = r.alphas_fit;
      betas_fit = r.betas_fit;
      bound_fits = is.1;
    } in
    subst (λ (xs : List ℕ). IsBehindLast bytes xs betas' bound behind (n + 1)) (sym f.1)
    (subst (λ (bs : List ℕ). IsBehindLast bytes alphas bs bound behind (n + 1)) (sym f.2) made)

-- no line is whole
pub read_cut : (bytes alphas betas left : List ℕ) (n : ℕ) → AreRead bytes alphas betas left n → IsOneLine left → IsCut Follows nothing IsWhole bytes
read_cut bytes alphas betas left n r one = record {
  lines = rows_lines alphas betas;
  told = rows alphas betas;
  piece = left;
  document = r.document;
  no_newline = one;
  before = rows_lead alphas betas r.alphas_fit r.betas_fit;
  open_ended = λ w. w;
}

-- the next line fails
pub read_fails : (bytes alphas betas left : List ℕ) (n : ℕ) (line behind : List ℕ) (k : ℕ) → AreRead bytes alphas betas left n → left ≡ line ++ 10 ∷ behind → IsOneLine line → (k ≡ n) × DoesNotFollow (rows alphas betas) line → FailsAt Follows nothing IsWhole DoesNotFollow bytes k
read_fails bytes alphas betas left n line behind k r cut one f = record {
  lines = rows_lines alphas betas;
  told = rows alphas betas;
  line = line;
  rest = behind;
  document = cut_there bytes left line behind (rows_lines alphas betas) r.document cut;
  number = f.0 ∙ r.number;
  one_line = one;
  before = rows_lead alphas betas r.alphas_fit r.betas_fit;
  open_ended = λ w. w;
  fails = f.1;
}

pub read_fault : (bytes alphas betas left : List ℕ) (n : ℕ) (line behind alphas' betas' : List ℕ) (fault : CertFault) → AreRead bytes alphas betas left n → left ≡ line ++ 10 ∷ behind → IsOneLine line → IsTaken alphas betas alphas' betas' line n (Err fault) → IsRefusal bytes fault
read_fault bytes alphas betas left n line behind alphas' betas' (Line k) r cut one f = inl (read_fails bytes alphas betas left n line behind k r cut one f)
read_fault bytes alphas betas left n line behind alphas' betas' Cut r cut one f = absurd f
read_fault bytes alphas betas left n line behind alphas' betas' OutOfMemory r cut one f = tt

-- nothing or something behind the last line
last_leads : (bytes alphas betas : List ℕ) (bound : ℕ) (rest : List ℕ) (n : ℕ) → IsBehindLast bytes alphas betas bound rest n → Leads Follows nothing (rows_lines alphas betas ++ bound_line bound ∷ []) (all alphas betas bound)
last_leads bytes alphas betas bound rest n r =
    leads_more Follows nothing (rows alphas betas) (all alphas betas bound) (rows_lines alphas betas) (bound_line bound) (rows_lead alphas betas r.alphas_fit r.betas_fit) (bound_last alphas betas bound r.bound_fits)

pub more_behind : (bytes alphas betas : List ℕ) (bound : ℕ) (rest : List ℕ) (n : ℕ) → IsBehindLast bytes alphas betas bound rest n → (rest ≡ [] → ⊥) → HasMore bytes n
more_behind bytes alphas betas bound [] n r some = absurd (some refl)
more_behind bytes alphas betas bound (b ∷ rest) n r some = record {
  lines = rows_lines alphas betas ++ bound_line bound ∷ [];
  told = all alphas betas bound;
  byte = b;
  rest = rest;
  document = r.document;
  number = r.number;
  before = last_leads bytes alphas betas bound (b ∷ rest) n r;
  whole = tt;
}

-- the first line
pub first_cut : (bytes : List ℕ) → IsOneLine bytes → IsCut Follows nothing IsWhole bytes
first_cut bytes one = record { lines = []; told = nothing; piece = bytes; document = refl; no_newline = one; before = no_line nothing; open_ended = λ w. w }

pub first_fails : (bytes line rest : List ℕ) → bytes ≡ line ++ 10 ∷ rest → IsOneLine line → (line ≡ head_line → ⊥) → FailsAt Follows nothing IsWhole DoesNotFollow bytes 1
first_fails bytes line rest cut one other = record {
  lines = [];
  told = nothing;
  line = line;
  rest = rest;
  document = cut ∙ sym (append_assoc line (10 ∷ []) rest);
  number = refl;
  one_line = one;
  before = no_line nothing;
  open_ended = λ w. w;
  fails = λ next f. other (from_nothing next line f).1;
}

pub first_read : (bytes rest : List ℕ) → bytes ≡ ended head_line ++ rest → AreRead bytes [] [] rest 2
first_read bytes rest e =
    let len = ap (λ (t : List ℕ). length t) e ∙ length-append (ended head_line) rest in
    record {
      document = e;
      number = refl;
      few = omega (arith, len);
      alphas_fit = All-nil (λ a. a < 2 ^ 64);
      betas_fit = All-nil (λ b. b < 2 ^ 64);
    }

-- one certificate
whole_parts : (a b d e : List ℕ) (m n : ℕ) → all a b m ≡ all d e n → (a ≡ d) × (b ≡ e) × (m ≡ n)
whole_parts a b d e m n h = (cc, cc, cc)

abbrev made : List ℕ → List ℕ → ℕ → Cert
made a b m = record { alphas = a; betas = b; bound = m }

same_document : (bytes x y : List ℕ) → bytes ≡ x → bytes ≡ y → x ++ [] ≡ y ++ []
same_document bytes x y e f = ap (λ (t : List ℕ). t ++ []) (sym e ∙ f)

pub only_found : (bytes : List ℕ) (found c : Cert) → (bytes ≡ document found) × IsRanged found → IsRanged c → bytes ≡ document c → found ≡ c
only_found bytes found c is ranged e =
    let one = one_document Follows IsWhole is_end nothing (all found.alphas found.betas found.bound) (all c.alphas c.betas c.bound) (lines found) (lines c) [] [] tt tt (cert_leads found is.1) (cert_leads c ranged) (same_document bytes (document found) (document c) is.0 e) in
    let parts = whole_parts found.alphas found.betas c.alphas c.betas found.bound c.bound one.0 in
    ap (λ (a : List ℕ). made a found.betas found.bound) parts.0 ∙ ap (λ (b : List ℕ). made c.alphas b found.bound) parts.1 ∙ ap (λ (m : ℕ). made c.alphas c.betas m) parts.2

no_more : (bytes : List ℕ) (c : Cert) (n : ℕ) → IsRanged c → bytes ≡ document c → HasMore bytes n → ⊥
no_more bytes c n ranged e f =
    let one = one_document Follows IsWhole is_end nothing f.told (all c.alphas c.betas c.bound) f.lines (lines c) (f.byte ∷ f.rest) [] f.whole tt f.before (cert_leads c ranged) (sym f.document ∙ e ∙ sym (append-nil (document c))) in
    let none : f.byte ∷ f.rest ≡ [] = one.1 in cc

pub only_refused : (bytes : List ℕ) (c : Cert) (fault : CertFault) → IsRefusal bytes fault → IsRanged c → bytes ≡ document c → fault ≡ OutOfMemory
only_refused bytes c (Line n) (inl f) ranged e =
    absurd (no_fault Follows IsWhole is_end DoesNotFollow (λ told next line fails follows. fails next follows) nothing (all c.alphas c.betas c.bound) (lines c) [] bytes n tt (cert_leads c ranged) (e ∙ sym (append-nil (document c))) f)
only_refused bytes c (Line n) (inr f) ranged e = absurd (no_more bytes c n ranged e f)
only_refused bytes c Cut f ranged e =
    absurd (no_cut Follows IsWhole is_end nothing (all c.alphas c.betas c.bound) (lines c) [] bytes tt (cert_leads c ranged) (e ∙ sym (append-nil (document c))) f)
only_refused bytes c OutOfMemory f ranged e = refl

pub only_given : (bytes : List ℕ) (r : Result Cert CertFault) → IfOk r (λ found. (bytes ≡ document found) × IsRanged found) → IfErr r (IsRefusal bytes) → (c : Cert) → IsRanged c → bytes ≡ document c → GivesCert c r
only_given bytes (Ok found) is fault c ranged e = only_found bytes found c is ranged e
only_given bytes (Err fault) is f c ranged e = only_refused bytes c fault f ranged e

-- a line's row, as the reader found it
pub taken_row : (alphas betas line : List ℕ) (na nb : ℕ) (found row : Row) → na ≡ length alphas → nb ≡ length betas → row_at na nb line ≡ Some found → found ≡ row → Follows (rows alphas betas) line (with_row row alphas betas)
taken_row alphas betas line na nb found row ha hb read is =
    row_follows alphas betas line row (ap (λ (n : ℕ). row_at n (length betas) line) (sym ha) ∙ ap (λ (n : ℕ). row_at na n line) (sym hb) ∙ read ∙ ap Some is)

pub taken_none : (alphas betas line : List ℕ) (na nb : ℕ) → na ≡ length alphas → nb ≡ length betas → row_at na nb line ≡ None → DoesNotFollow (rows alphas betas) line
taken_none alphas betas line na nb ha hb read =
    none_follows alphas betas line (ap (λ (n : ℕ). row_at n (length betas) line) (sym ha) ∙ ap (λ (n : ℕ). row_at na n line) (sym hb) ∙ read)
