-- Reading a document line by line: what was read is what its lines say, and they say one thing.
use Rattle.std.proofs.Common.{◌≡◌, ℕ, ◌+◌, List, [], ◌∷◌, ◌++◌, length, map, Option, Some, None, refl, sym, ap, ◌∙◌, subst, arith, append-nil, append_assoc, length-append}
use Rattle.std.specs.List.{flat_map}
use Rattle.std.proofs.lemmas.Option.{none-some, same_Some}
use Rattle.std.proofs.lemmas.List.{map-append}
use Rattle.std.proofs.lemmas.List.Concat.{flat_map-cons}
use Rattle.formats.specs.Parts.{◌>>=◌, ended, IsOneLine}
use Rattle.formats.specs.Following.{Leads, no_line, line_then}
use Rattle.formats.proofs.PartLaws.{bind_some}
use Rattle.formats.proofs.Following.{IsEnd, leads_more, no_fault, no_cut, one_document, pushed, cut_there}
use Rattle.formats.specs.Formats.{IsExact, whole_reads}
use Rattle.formats.specs.Documents.{Document, line_of, document_of, Follows, DoesNotFollow, HasFault, HasEnd, HasMore, next_at, HasRead}
use Rattle.formats.proofs.Laws.{whole_takes, whole_again}
use Rattle.formats.proofs.Plain.{IsPlain}

-- lines are exact and have no newline, and nothing follows the last
pub record IsSound {Row Told : Type 0} (d : Document Row Told) : Type 0 where
  pub exact : IsExact d.row
  pub ends : d.row.Ends []
  pub plain : IsPlain d.row
  pub last : (told : Told) (row : Row) → d.IsWhole told → d.step told row ≡ None

module _ {Row Told : Type 0} (d : Document Row Told) (sound : IsSound d) where
  -- a line that follows is read so
  pub read_again : (told next : Told) (line : List ℕ) → Follows d told line next → next_at d told line ≡ Some next
  read_again told next line f =
      ap (λ (l : List ℕ). next_at d told l) f.spelled ∙ ap (λ (o : Option Row). o >>= d.step told) (whole_again d.row sound.exact sound.ends f.row f.fits) ∙ f.comes

  pub line_follows : (told next : Told) (line : List ℕ) → next_at d told line ≡ Some next → Follows d told line next
  line_follows told next line e =
      let a = bind_some (whole_reads d.row line) (d.step told) next e in
      let t = whole_takes d.row sound.exact line a.0 a.1 in
      record { row = a.0; fits = t.1; spelled = t.0; comes = a.2 }

  pub line_fails : (told : Told) (line : List ℕ) → next_at d told line ≡ None → DoesNotFollow d told line
  line_fails told line none next f = none-some next (sym none ∙ read_again told next line f)

  pub is_end : IsEnd (Follows d) d.IsWhole
  is_end = record {
    grammar = record {
      one_line = λ told next line f. subst IsOneLine (sym f.spelled) (sound.plain f.row f.fits);
      same = λ told next other line f g. same_Some next other (sym (read_again told next line f) ∙ read_again told other line g);
    };
    last = λ told next line w f. none-some next (sym (sound.last told f.row w) ∙ f.comes);
  }

  -- ---- a reader's steps

  pub read_start : (bytes : List ℕ) → HasRead d bytes d.start bytes 1
  read_start bytes = record { lines = []; document = refl; number = refl; few = omega arith; before = no_line d.start }

  pub read_more : (bytes left line behind : List ℕ) (told next : Told) (n : ℕ) → HasRead d bytes told left n → left ≡ line ++ 10 ∷ behind → next_at d told line ≡ Some next → HasRead d bytes next behind (n + 1)
  read_more bytes left line behind told next n r cut e =
      let used = ap (λ (t : List ℕ). length t) cut ∙ length-append line (10 ∷ behind) in
      record {
        lines = r.lines ++ line ∷ [];
        document = pushed bytes left line behind r.lines r.document cut;
        number = omega (arith, r.number, length-append r.lines (line ∷ []));
        few = omega (arith, r.few, used);
        before = leads_more (Follows d) d.start told next r.lines line r.before (line_follows told next line e);
      }

  pub read_cut : (bytes left : List ℕ) (told : Told) (n : ℕ) → HasRead d bytes told left n → (d.IsWhole told → ⊥) → IsOneLine left → HasEnd d bytes
  read_cut bytes left told n r unfinished one = record { lines = r.lines; told = told; piece = left; document = r.document; no_newline = one; before = r.before; open_ended = unfinished }

  pub read_fault : (bytes left line behind : List ℕ) (told : Told) (n : ℕ) → HasRead d bytes told left n → (d.IsWhole told → ⊥) → left ≡ line ++ 10 ∷ behind → IsOneLine line → next_at d told line ≡ None → HasFault d bytes n
  read_fault bytes left line behind told n r unfinished cut one none = record {
    lines = r.lines;
    told = told;
    line = line;
    rest = behind;
    document = cut_there bytes left line behind r.lines r.document cut;
    number = r.number;
    one_line = one;
    before = r.before;
    open_ended = unfinished;
    fails = line_fails told line none;
  }

  pub read_past : (bytes left : List ℕ) (told : Told) (n : ℕ) → HasRead d bytes told left n → d.IsWhole told → (left ≡ [] → ⊥) → HasMore d bytes n
  read_past bytes [] told n r whole some = absurd (some refl)
  read_past bytes (b ∷ left) told n r whole some = record { lines = r.lines; told = told; byte = b; rest = left; document = r.document; number = r.number; before = r.before; whole = whole }

  -- ---- the rows of what is said

  lines_of : (rows : List Row) → document_of d rows ≡ flat_map ended (map d.row.write rows)
  lines_of [] = refl
  lines_of (r ∷ rows) = flat_map-cons (line_of d) r rows ∙ ap (λ (l : List ℕ). line_of d r ++ l) (lines_of rows) ∙ sym (flat_map-cons ended (d.row.write r) (map d.row.write rows))

  -- a row that comes is the last of those that are said
  pub record TellsRows (rows_of : Told → List Row) : Type 0 where
    pub none : rows_of d.start ≡ []
    pub more : (told next : Told) (row : Row) → d.step told row ≡ Some next → rows_of next ≡ rows_of told ++ row ∷ []

  rows_from : (rows_of : Told → List Row) → TellsRows rows_of → (told last : Told) (lines : List (List ℕ)) → Leads (Follows d) told lines last → map d.row.write (rows_of last) ≡ map d.row.write (rows_of told) ++ lines
  rows_from rows_of tells told last [] (no_line t) = sym (append-nil (map d.row.write (rows_of told)))
  rows_from rows_of tells told last (l ∷ lines) (line_then t next u l0 ls f a) =
      let before : List (List ℕ) = map d.row.write (rows_of told) in
      let one : map d.row.write (rows_of next) ≡ before ++ l ∷ [] =
      ap (map d.row.write) (tells.more told next f.row f.comes) ∙ map-append d.row.write (rows_of told) (f.row ∷ []) ∙ ap (λ (w : List ℕ). before ++ w ∷ []) (sym f.spelled) in
      rows_from rows_of tells next last lines a ∙ ap (λ (ls : List (List ℕ)). ls ++ lines) one ∙ append_assoc before (l ∷ []) lines

  -- what was read is spelled so
  pub read_spelled : (rows_of : Told → List Row) → TellsRows rows_of → (bytes left : List ℕ) (told : Told) (n : ℕ) → HasRead d bytes told left n → bytes ≡ document_of d (rows_of told) ++ left
  read_spelled rows_of tells bytes left told n r =
      r.document ∙ ap (λ (ls : List (List ℕ)). flat_map ended ls ++ left) (sym (rows_from rows_of tells d.start told r.lines r.before ∙ ap (λ (rs : List Row). map d.row.write rs ++ r.lines) tells.none)) ∙ ap (λ (l : List ℕ). l ++ left) (sym (lines_of (rows_of told)))

  -- ---- whole documents

  -- rows that come one after the other
  pub data Runs : Told → List Row → Told → Type 0 where
    no_row : (told : Told) → Runs told [] told
    row_then : (told next last : Told) (row : Row) (rows : List Row) → d.row.Fits row → d.step told row ≡ Some next → Runs next rows last → Runs told (row ∷ rows) last

  pub runs_join : (t u v : Told) (rs ss : List Row) → Runs t rs u → Runs u ss v → Runs t (rs ++ ss) v
  runs_join t u v [] ss (no_row told) b = b
  runs_join t u v (r ∷ rs) ss (row_then t0 n u0 r0 rs0 fits f a) b = row_then t n v r (rs ++ ss) fits f (runs_join n u v rs ss a b)

  runs_lead : (t u : Told) (rows : List Row) → Runs t rows u → Leads (Follows d) t (map d.row.write rows) u
  runs_lead t u [] (no_row told) = no_line t
  runs_lead t u (r ∷ rows) (row_then t0 n u0 r0 rs0 fits f a) =
      line_then t n u (d.row.write r) (map d.row.write rows) (record { row = r; fits = fits; spelled = refl; comes = f }) (runs_lead n u rows a)

  -- a whole document is read as itself, and isn't refused
  pub only_told : (bytes left : List ℕ) (told whole : Told) (n : ℕ) (rows : List Row) → HasRead d bytes told left n → d.IsWhole told → left ≡ [] → Runs d.start rows whole → d.IsWhole whole → bytes ≡ document_of d rows → told ≡ whole
  only_told bytes left told whole n rows r w none runs ww e =
      let here : flat_map ended r.lines ++ [] ≡ flat_map ended (map d.row.write rows) ++ [] = ap (λ (l : List ℕ). flat_map ended r.lines ++ l) (sym none) ∙ sym r.document ∙ e ∙ lines_of rows ∙ sym (append-nil (flat_map ended (map d.row.write rows))) in
      (one_document (Follows d) d.IsWhole is_end d.start told whole r.lines (map d.row.write rows) [] [] w ww r.before (runs_lead d.start whole rows runs) here).0

  module _ (bytes : List ℕ) (whole : Told) (rows : List Row) (runs : Runs d.start rows whole) (w : d.IsWhole whole) (e : bytes ≡ document_of d rows) where
    same : bytes ≡ flat_map ended (map d.row.write rows) ++ []
    same = e ∙ lines_of rows ∙ sym (append-nil (flat_map ended (map d.row.write rows)))

    pub no_fault_in : (n : ℕ) → HasFault d bytes n → ⊥
    no_fault_in n f = no_fault (Follows d) d.IsWhole is_end (DoesNotFollow d) (λ told next line fails follows. fails next follows) d.start whole (map d.row.write rows) [] bytes n w (runs_lead d.start whole rows runs) same f

    pub no_end_in : HasEnd d bytes → ⊥
    no_end_in f = no_cut (Follows d) d.IsWhole is_end d.start whole (map d.row.write rows) [] bytes w (runs_lead d.start whole rows runs) same f

    pub no_more_in : (n : ℕ) → HasMore d bytes n → ⊥
    no_more_in n f =
        let one = one_document (Follows d) d.IsWhole is_end d.start f.told whole f.lines (map d.row.write rows) (f.byte ∷ f.rest) [] f.whole w f.before (runs_lead d.start whole rows runs) (sym f.document ∙ same) in
        let none : f.byte ∷ f.rest ≡ [] = one.1 in cc
