-- What bytes lead to, and where and how they stop.
use Rattle.std.proofs.Common.{◌≡◌, ℕ, zero, suc, List, [], ◌∷◌, ◌++◌, length, true, Some, None, refl, sym, ap, ◌∙◌, subst, arith, ◌⊎◌, inl, inr}
use Rattle.std.specs.List.{list_all}
use Rattle.adx_json.specs.Faults.{place_behind}
use Rattle.adx_json.specs.Machine.{Frame, in_list, in_object, Within, characters, escaped, digits, a_name, a_value, Mode, at_value, at_first_item, behind_value, at_first_name, at_name, behind_name, in_word, in_number, in_text, Step, moves, stuck, too_deep, step, stop_of, at_end, fault_at}
use Rattle.adx_json.specs.declared.number.Numeral.{Numeral}
use Rattle.adx_json.specs.declared.number.Numeral.TheVariants.{Start, Minus, Zero, Whole, Point, Fraction, Mark, Sign, Exponent}
use Rattle.adx_json.specs.declared.utf8.Tail.{Tail}
use Rattle.adx_json.specs.declared.utf8.Tail.TheVariants.{One, Two, Three, BehindE0, BehindEd, BehindF0, BehindF4}
use Rattle.adx_json.specs.declared.fault.Stop.{Stop}
use Rattle.adx_json.specs.declared.fault.Stop.TheVariants.{Depth}
use Rattle.adx_json.specs.Tree.{null, no_items, no_members}
use Rattle.adx_units.specs.JsonTexts.{is_bare}
use Rattle.adx_json.specs.Grammar.{short, is_hex}
use Rattle.adx_json.proofs.Utf8Steps.{utf8_run, runs_on}
use Rattle.adx_json.specs.Scan.{accepts}
use Rattle.adx_json.proofs.Completions.{Behind, ColonThen, PiecesThen, CompletesText, BehindText, Completes}
use Rattle.adx_json.proofs.Leads.{Leads, LeadsTo, Stands, place_of, tail_of}
use Rattle.adx_json.proofs.StepLeads.{step_leads}
use Rattle.adx_json.proofs.Stops.{stop_step, stop_end, goes_on}

-- bytes lead from one mode to another
abbrev pub Reaches : ℕ → Mode → List Frame → List ℕ → Mode → List Frame → Type 0
Reaches limit m fs [] last around = (m ≡ last) × (fs ≡ around)
Reaches limit m fs (b ∷ bytes) last around =
    (next : Mode) × (gs : List Frame) × (step limit m fs b ≡ moves next gs) × Reaches limit next gs bytes last around

leads_at : (limit : ℕ) (m : Mode) (fs : List Frame) (b : ℕ) (next : Mode) (gs : List Frame) → Stands limit m fs → step limit m fs b ≡ moves next gs → Leads limit m fs b next gs × (step (suc limit) m fs b ≡ moves next gs)
leads_at limit m fs b next gs stands e = subst (λ s. LeadsTo limit m fs b s (step (suc limit) m fs b)) e (step_leads limit m fs b stands)

pub reach_stop : (limit : ℕ) (m : Mode) (fs : List Frame) (bytes rest : List ℕ) (last : Mode) (around : List Frame) → Reaches limit m fs bytes last around → stop_of limit m fs (bytes ++ rest) ≡ stop_of limit last around rest
reach_stop limit m fs [] rest last around h = ap (λ x. stop_of limit x fs rest) h.0 ∙ ap (λ x. stop_of limit last x rest) h.1
reach_stop limit m fs (b ∷ bytes) rest last around h = stop_step limit m fs b (bytes ++ rest) (moves h.0 h.1) h.2 ∙ reach_stop limit h.0 h.1 bytes rest last around h.3

pub reach_sound : (limit : ℕ) (m : Mode) (fs : List Frame) (bytes rest : List ℕ) (last : Mode) (around : List Frame) → Stands limit m fs → Reaches limit m fs bytes last around → Completes limit last around rest → Completes limit m fs (bytes ++ rest)
reach_sound limit m fs [] rest last around stands h c = subst (λ x. Completes limit x fs rest) (sym h.0) (subst (λ x. Completes limit last x rest) (sym h.1) c)
reach_sound limit m fs (b ∷ bytes) rest last around stands h c =
    let l = leads_at limit m fs b h.0 h.1 stands h.2 in
    l.0.sound (bytes ++ rest) (reach_sound limit h.0 h.1 bytes rest last around l.0.within h.3 c)

pub reach_stands : (limit : ℕ) (m : Mode) (fs : List Frame) (bytes : List ℕ) (last : Mode) (around : List Frame) → Stands limit m fs → Reaches limit m fs bytes last around → Stands limit last around
reach_stands limit m fs [] last around stands h = subst (λ x. Stands limit x around) h.0 (subst (λ x. Stands limit m x) h.1 stands)
reach_stands limit m fs (b ∷ bytes) last around stands h =
    let l = leads_at limit m fs b h.0 h.1 stands h.2 in
    reach_stands limit h.0 h.1 bytes last around l.0.within h.3

pub reach_place : (limit : ℕ) (m : Mode) (fs : List Frame) (bytes : List ℕ) (last : Mode) (around : List Frame) → Stands limit m fs → Reaches limit m fs bytes last around → place_behind (place_of m) bytes ≡ place_of last
reach_place limit m fs [] last around stands h = ap place_of h.0
reach_place limit m fs (b ∷ bytes) last around stands h =
    let l = leads_at limit m fs b h.0 h.1 stands h.2 in
    ap (λ p. place_behind p bytes) l.0.place ∙ reach_place limit h.0 h.1 bytes last around l.0.within h.3

pub reach_utf8 : (limit : ℕ) (m : Mode) (fs : List Frame) (bytes : List ℕ) (last : Mode) (around : List Frame) → Stands limit m fs → Reaches limit m fs bytes last around → utf8_run (tail_of m) bytes ≡ Some (tail_of last)
reach_utf8 limit m fs [] last around stands h = ap (λ x. Some (tail_of x)) h.0
reach_utf8 limit m fs (b ∷ bytes) last around stands h =
    let l = leads_at limit m fs b h.0 h.1 stands h.2 in
    runs_on (tail_of m) (tail_of h.0) b bytes l.0.utf8 ∙ reach_utf8 limit h.0 h.1 bytes last around l.0.within h.3

-- the same where one level more is allowed
pub reach_deeper : (limit : ℕ) (m : Mode) (fs : List Frame) (bytes : List ℕ) (last : Mode) (around : List Frame) → Stands limit m fs → Reaches limit m fs bytes last around → Reaches (suc limit) m fs bytes last around
reach_deeper limit m fs [] last around stands h = h
reach_deeper limit m fs (b ∷ bytes) last around stands h =
    let l = leads_at limit m fs b h.0 h.1 stands h.2 in
    (h.0, h.1, l.1, reach_deeper limit h.0 h.1 bytes last around l.0.within h.3)

pub reach_more : (limit : ℕ) (m : Mode) (fs : List Frame) (bytes : List ℕ) (b : ℕ) (mid : Mode) (gs : List Frame) (last : Mode) (around : List Frame) → Reaches limit m fs bytes mid gs → step limit mid gs b ≡ moves last around → Reaches limit m fs (bytes ++ b ∷ []) last around
reach_more limit m fs [] b mid gs last around h e = (last, around, ap (λ x. step limit x fs b) h.0 ∙ ap (λ x. step limit mid x b) h.1 ∙ e, (refl, refl))
reach_more limit m fs (a ∷ bytes) b mid gs last around h e = (h.0, h.1, h.2, reach_more limit h.0 h.1 bytes b mid gs last around h.3 e)

-- how bytes stop at a mode
abbrev pub Halts : ℕ → Mode → List Frame → List ℕ → Stop → Type 0
Halts limit m fs [] e = at_end m fs ≡ Some e
Halts limit m fs (b ∷ bytes) e =
    ((step limit m fs b ≡ stuck) × (e ≡ fault_at m (suc (length bytes)) b)) ⊎ ((step limit m fs b ≡ too_deep) × (e ≡ Depth (suc (length bytes))))

-- the bytes before the place where the bytes stop, and those from there on
pub record Stopped (limit : ℕ) (m : Mode) (fs : List Frame) (bytes : List ℕ) (e : Stop) : Type 0 where
  pub front : List ℕ
  pub rest : List ℕ
  pub last : Mode
  pub around : List Frame
  pub whole : bytes ≡ front ++ rest
  pub reaches : Reaches limit m fs front last around
  pub halts : Halts limit last around rest e

some_same : (e f : Stop) → Some e ≡ Some f → f ≡ e
some_same e f h = cc

stopped_at : (limit : ℕ) (m : Mode) (fs : List Frame) (b : ℕ) (bytes : List ℕ) (e : Stop) (s : Step) → step limit m fs b ≡ s → ((next : Mode) (gs : List Frame) → stop_of limit next gs bytes ≡ Some e → Stopped limit next gs bytes e) → goes_on limit m b bytes s ≡ Some e → Stopped limit m fs (b ∷ bytes) e
stopped_at limit m fs b bytes e (moves next gs) is later h =
    let k = later next gs h in
    record { front = b ∷ k.front; rest = k.rest; last = k.last; around = k.around; whole = ap (λ x. b ∷ x) k.whole; reaches = (next, gs, is, k.reaches); halts = k.halts }
stopped_at limit m fs b bytes e stuck is later h =
    record { front = []; rest = b ∷ bytes; last = m; around = fs; whole = refl; reaches = (refl, refl); halts = inl (is, some_same _ e h) }
stopped_at limit m fs b bytes e too_deep is later h =
    record { front = []; rest = b ∷ bytes; last = m; around = fs; whole = refl; reaches = (refl, refl); halts = inr (is, some_same _ e h) }

pub stopped : (limit : ℕ) (m : Mode) (fs : List Frame) (bytes : List ℕ) (e : Stop) → stop_of limit m fs bytes ≡ Some e → Stopped limit m fs bytes e
stopped limit m fs [] e h = record { front = []; rest = []; last = m; around = fs; whole = refl; reaches = (refl, refl); halts = sym (stop_end limit m fs) ∙ h }
stopped limit m fs (b ∷ bytes) e h =
    stopped_at limit m fs b bytes e (step limit m fs b) refl (λ next gs k. stopped limit next gs bytes e k) (sym (stop_step limit m fs b bytes (step limit m fs b) refl) ∙ h)

-- from every mode some bytes complete a text
pub behind_completes : (limit : ℕ) (fs : List Frame) → (more : List ℕ) × Behind limit fs more
behind_completes limit [] = ([], refl)
behind_completes limit (in_list ∷ fs) =
    let k = behind_completes limit fs in
    (93 ∷ k.0, record { later = no_items; space = []; items = []; behind = k.0; whole = refl; spaced = refl; are = refl; shallow = omega arith; after = k.1 })
behind_completes limit (in_object ∷ fs) =
    let k = behind_completes limit fs in
    (125 ∷ k.0, record { later = no_members; space = []; members = []; behind = k.0; whole = refl; spaced = refl; are = refl; shallow = omega arith; after = k.1 })

colon_completes : (limit : ℕ) (fs : List Frame) → (more : List ℕ) × ColonThen limit (length fs) (Behind limit fs) more
colon_completes limit fs =
    let k = behind_completes limit fs in (
      58 ∷ 110 ∷ 117 ∷ 108 ∷ 108 ∷ 125 ∷ k.0,
      record {
        tree = null;
        later = no_members;
        space = [];
        value = 110 ∷ 117 ∷ 108 ∷ 108 ∷ [];
        members = [];
        behind = k.0;
        whole = refl;
        spaced = refl;
        is = ([], 110 ∷ 117 ∷ 108 ∷ 108 ∷ [], [], refl, refl, refl, refl);
        are = refl;
        shallow_value = omega arith;
        shallow = omega arith;
        after = k.1;
      },
    )

number_completes : (n : Numeral) → (t : List ℕ) × (accepts n t ≡ true)
number_completes Start = (48 ∷ [], refl)
number_completes Minus = (48 ∷ [], refl)
number_completes Zero = ([], refl)
number_completes Whole = ([], refl)
number_completes Point = (48 ∷ [], refl)
number_completes Fraction = ([], refl)
number_completes Mark = (48 ∷ [], refl)
number_completes Sign = (48 ∷ [], refl)
number_completes Exponent = ([], refl)

tail_completes : (t : Tail) → (bytes : List ℕ) × (utf8_run (Some t) bytes ≡ Some None) × (list_all is_bare bytes ≡ true)
tail_completes One = (128 ∷ [], refl, refl)
tail_completes Two = (128 ∷ 128 ∷ [], refl, refl)
tail_completes Three = (128 ∷ 128 ∷ 128 ∷ [], refl, refl)
tail_completes BehindE0 = (160 ∷ 128 ∷ [], refl, refl)
tail_completes BehindEd = (128 ∷ 128 ∷ [], refl, refl)
tail_completes BehindF0 = (144 ∷ 128 ∷ 128 ∷ [], refl, refl)
tail_completes BehindF4 = (128 ∷ 128 ∷ 128 ∷ [], refl, refl)

digits_complete : (k : ℕ) → (ds : List ℕ) × (length ds ≡ suc k) × (list_all is_hex ds ≡ true)
digits_complete zero = (48 ∷ [], refl, refl)
digits_complete (suc k) =
    let d = digits_complete k in
    (48 ∷ d.0, ap suc d.1, d.2)

pieces_complete : (After : List ℕ → Type 0) (more : List ℕ) → After more → PiecesThen After (34 ∷ more)
pieces_complete After more h = record { pieces = []; behind = more; whole = refl; each = tt; after = h }

text_completes : (w : Within) (After : List ℕ → Type 0) (more : List ℕ) → After more → (bytes : List ℕ) × CompletesText w After bytes
text_completes (characters None) After more h = (34 ∷ more, pieces_complete After more h)
text_completes (characters (Some t)) After more h =
    let k = tail_completes t in
    (k.0 ++ 34 ∷ more, record { rest = k.0; behind = 34 ∷ more; whole = refl; utf8 = k.1; bare = k.2; pieces = pieces_complete After more h })
text_completes escaped After more h =
    (110 ∷ 34 ∷ more, record { piece = short 110; rest = 110 ∷ []; behind = 34 ∷ more; whole = refl; spelled = refl; is = refl; pieces = pieces_complete After more h })
text_completes (digits k) After more h =
    let d = digits_complete k in
    (d.0 ++ 34 ∷ more, record { digits = d.0; behind = 34 ∷ more; whole = refl; many = d.1; hex = d.2; pieces = pieces_complete After more h })

pub completes : (limit : ℕ) (m : Mode) (fs : List Frame) → (more : List ℕ) × Completes limit m fs more
completes limit at_value fs =
    let k = behind_completes limit fs in
    (110 ∷ 117 ∷ 108 ∷ 108 ∷ k.0, record { tree = null; space = []; value = 110 ∷ 117 ∷ 108 ∷ 108 ∷ []; behind = k.0; whole = refl; spaced = refl; is = refl; shallow = omega arith; after = k.1 })
completes limit at_first_item fs =
    let k = behind_completes limit fs in
    (93 ∷ k.0, record { list = no_items; items = []; behind = k.0; whole = refl; are = refl; shallow = omega arith; after = k.1 })
completes limit behind_value fs = behind_completes limit fs
completes limit at_first_name fs =
    let k = behind_completes limit fs in
    (125 ∷ k.0, record { object = no_members; members = []; behind = k.0; whole = refl; are = refl; shallow = omega arith; after = k.1 })
completes limit at_name fs =
    let k = colon_completes limit fs in
    (34 ∷ 34 ∷ k.0, record { text = []; space = []; name = 34 ∷ 34 ∷ []; behind = k.0; whole = refl; spaced = refl; is = record { pieces = []; each = tt; spelled = refl; means = refl }; colon = k.1 })
completes limit behind_name fs = colon_completes limit fs
completes limit (in_word c cs) fs =
    let k = behind_completes limit fs in
    ((c ∷ cs) ++ k.0, record { behind = k.0; whole = refl; after = k.1 })
completes limit (in_number n) fs =
    let k = behind_completes limit fs in
    let t = number_completes n in
    (t.0 ++ k.0, record { number = t.0; behind = k.0; whole = refl; is = t.1; after = k.1 })
completes limit (in_text a_name w) fs =
    let k = colon_completes limit fs in
    text_completes w (BehindText limit a_name fs) k.0 k.1
completes limit (in_text a_value w) fs =
    let k = behind_completes limit fs in
    text_completes w (BehindText limit a_value fs) k.0 k.1
