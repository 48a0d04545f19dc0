-- How the place at which a reader is goes on.
use Rattle.std.proofs.Common.{◌≡◌, ◌⊎◌, inl, inr, ℕ, ◌+◌, ◌-◌, ◌<◌, ◌≤◌, ◌^◌, min, List, [], ◌∷◌, ◌++◌, length, get_or, take, drop, zero, suc, Bool, false, Option, Some, None, All, refl, sym, ◌∙◌, ap, subst, arith, append_assoc, length-append, length-drop}
use Rattle.std.specs.Prelude.{IfSome, slice_get}
use Rattle.std.specs.Int.{w32, to_le_bytes, from_le_bytes}
use Rattle.std.proofs.lemmas.Bool.{cases_eq}
use Rattle.std.proofs.lemmas.List.{take_at, drop_at, take_all, take-take, drop-drop, drop-take, take-append-drop, length-take, length-take-le}
use Rattle.std.proofs.lemmas.List.Elements.{All-push, All-nil}
use Rattle.std.proofs.lemmas.Nat.{from_le_bytes-to_le_bytes_4, le_bytes_4}
use Rattle.day_journal.specs.Disks.{Shows}
use Rattle.adx_io.specs.Frames.{body, longest_payload}
use Rattle.adx_io.specs.Streams.{last_count}
use Rattle.day_journal.specs.Openings.{WindowState, IsWindow, HasPlace, ReadsMore, ReadsOn, StandsBehind, IsPlace, IsSized, IsNoLength}
use Rattle.day_journal.specs.declared.place.Place.{Place}
use Rattle.day_journal.specs.declared.window.TheConstants.{CHUNK}
use Rattle.day_journal.specs.Places.{head, IsFormat, IsPayload, HasBadLength, HasNoHead, IsUnfinished, open_place, opened}
use Rattle.day_journal.proofs.Keeping.{opened_push}
use Rattle.day_journal.proofs.Once.{short}

-- what is said of the file that a read gives
pub some_of : (P : List ℕ → Type 0) (r : Option (List ℕ)) (file : List ℕ) → r ≡ Some file → IfSome r P → P file
some_of P None file is h = absurd (cc is)
some_of P (Some x) file is h = subst P (cc is) h

take_joined : (a b : ℕ) (xs : List ℕ) → take (a + b) xs ≡ take a xs ++ take b (drop a xs)
take_joined a b xs =
    sym (take-append-drop a (take (a + b) xs))
    ∙ ap (λ (l : List ℕ). l ++ drop a (take (a + b) xs)) (take-take a (a + b) xs (omega arith))
    ∙ ap (λ (l : List ℕ). take a xs ++ l) (drop-take a b xs)

take_past : (xs ys : List ℕ) (len n : ℕ) → length xs ≡ len → take (len + n) (xs ++ ys) ≡ xs ++ take n ys
take_past xs ys len n is =
    take_joined len n (xs ++ ys)
    ∙ ap (λ (l : List ℕ). l ++ take n (drop len (xs ++ ys))) (take_at xs ys len is)
    ∙ ap (λ (l : List ℕ). xs ++ take n l) (drop_at xs ys len is)

-- bytes that were read after others
pub reads_more : (file : List ℕ) (at len n place : ℕ) (old new piece : List ℕ) → new ≡ take len old ++ piece → len ≤ length old → place ≡ min (at + len) last_count → Shows file place n piece → ReadsOn file at len old n new
reads_more file at len n place old new piece is le there shows short within front =
    let same : place ≡ at + len = omega (arith, there, short, within) in
    let front_len : length (take len old) ≡ len = length-take-le len old le in
    let piece_len : length new ≡ len + length piece = omega (arith, ap length is, length-append (take len old) piece, front_len) in
    record {
      count = omega (arith, shows.count, piece_len, same);
      shown = ap (take (len + n)) is ∙ take_past (take len old) piece len n front_len ∙ ap (λ (l : List ℕ). l ++ take n piece) front
          ∙ ap (λ (l : List ℕ). take len (drop at file) ++ l) (shows.front ∙ ap (λ (k : ℕ). take n (drop k file)) same ∙ ap (take n) (sym (drop-drop len at file)))
          ∙ sym (take_joined len n (drop at file));
    }

-- how far a window reaches
pub window_end : (file : List ℕ) (at : ℕ) (bytes : List ℕ) → IsWindow file (record { at = at; bytes = bytes }) → at + length bytes ≤ length file
window_end file at bytes w = omega (arith, w.within, ap length w.shown, length-take (length bytes) (drop at file), length-drop at file)

-- a window that was filled
pub filled : (file : List ℕ) (at len n : ℕ) (bytes first second : List ℕ) → IsWindow file (record { at = at; bytes = bytes }) → length bytes ≡ len → take len first ≡ bytes
    → ReadsOn file at len first n second → length second ≡ CHUNK → len < 5 → len + n ≤ length second → HasPlace file (record { at = at; bytes = take (len + n) second })
filled file at len n bytes first second w is front reads size few within =
    let more = reads w.addressed (omega (arith, window_end file at bytes w, is)) (front ∙ w.shown ∙ ap (λ (k : ℕ). take k (drop at file)) is) in
    let new_len : length (take (len + n) second) ≡ len + n = length-take-le (len + n) second within in
    record {
      is_window = record {
        within = w.within;
        addressed = w.addressed;
        shown = more.shown ∙ ap (λ (k : ℕ). take k (drop at file)) (sym new_len);
      };
      enough = elim (cases_eq n (CHUNK - len)) [
        | inl all ↦ inl (omega (arith, all, new_len, few))
        | inr not ↦ inr (more.shown ∙ take_all (len + n) (drop at file) (omega (arith, not, more.count, size, few, length-drop at file)))
      ];
    }

-- the first five bytes of a place are in a window on it
first_five : (bytes place : List ℕ) (n : ℕ) → bytes ≡ take (length bytes) place → 5 ≤ length bytes → bytes ≡ 1 ∷ (to_le_bytes w32 n ++ drop 5 bytes) → place ≡ 1 ∷ (to_le_bytes w32 n ++ drop 5 place)
first_five bytes place n is five opens =
    let front : take 5 place ≡ 1 ∷ to_le_bytes w32 n = sym (take-take 5 (length bytes) place five) ∙ ap (take 5) (sym is) ∙ ap (take 5) opens in
    sym (take-append-drop 5 place) ∙ ap (λ (l : List ℕ). l ++ drop 5 place) front

-- an open place has the length of its payload
same_length : (place p rest x : List ℕ) (n : ℕ) → place ≡ 1 ∷ (to_le_bytes w32 n ++ x) → n < 2 ^ 32 → IsPayload p → place ≡ open_place p ++ rest → length p ≡ n
same_length place p rest x n opens small is_payload is =
    let both : open_place p ++ rest ≡ 1 ∷ (to_le_bytes w32 n ++ x) = sym is ∙ opens in
    let lens : to_le_bytes w32 (length p) ≡ to_le_bytes w32 n = ap (λ (l : List ℕ). take 4 (drop 1 l)) both in
    let small_p : length p < 2 ^ 32 = omega (arith, is_payload.fits) in
    sym (from_le_bytes-to_le_bytes_4 (length p) small_p) ∙ ap (from_le_bytes w32) lens ∙ from_le_bytes-to_le_bytes_4 n small

open_length : (place p rest : List ℕ) → place ≡ open_place p ++ rest → length p + 5 ≤ length place
open_length place p rest is = omega (arith, ap length is, length-append (open_place p) rest, length-append (to_le_bytes w32 (length p)) p)

-- a payload more
pub record IsOneMore (format : ℕ) (file : List ℕ) (at n : ℕ) (payloads : List (List ℕ)) : Type 0 where
  pub each : All IsPayload payloads
  pub place : at + (n + 5) ≡ length (opened format payloads)
  pub split : file ≡ opened format payloads ++ drop (at + (n + 5)) file

pub one_more : (format : ℕ) (file : List ℕ) (at n : ℕ) (ps : List (List ℕ)) (p : List ℕ) → All IsPayload ps → at ≡ length (opened format ps) → file ≡ opened format ps ++ drop at file
    → drop at file ≡ 1 ∷ (to_le_bytes w32 n ++ drop 5 (drop at file)) → p ≡ take n (drop 5 (drop at file)) → n + 5 ≤ length (drop at file) → 0 < n → n ≤ longest_payload → IsOneMore format file at n (ps ++ p ∷ [])
one_more format file at n ps p each there split opens is long some fits =
    let place : List ℕ = drop at file in
    let len : length p ≡ n = omega (arith, ap length is, length-take n (drop 5 place), length-drop 5 place, long) in
    let behind : drop 5 place ≡ p ++ drop (at + (n + 5)) file =
    sym (take-append-drop n (drop 5 place))
    ∙ ap (λ (l : List ℕ). l ++ drop n (drop 5 place)) (sym is)
    ∙ ap (λ (l : List ℕ). p ++ l) (drop-drop n 5 place ∙ drop-drop (5 + n) at file ∙ ap (λ (k : ℕ). drop k file) (omega arith)) in
    let opened_place : place ≡ (1 ∷ body p) ++ drop (at + (n + 5)) file =
    opens ∙ ap (λ (k : ℕ). 1 ∷ (to_le_bytes w32 k ++ drop 5 place)) (sym len) ∙ ap (λ (l : List ℕ). 1 ∷ (to_le_bytes w32 (length p) ++ l)) behind
    ∙ ap (λ (l : List ℕ). 1 ∷ l) (sym (append_assoc (to_le_bytes w32 (length p)) p (drop (at + (n + 5)) file))) in
    let is_payload : IsPayload p = record { some = omega (arith, len, some); fits = omega (arith, len, fits) } in
    record {
      each = All-push IsPayload ps p each is_payload;
      place = omega (arith, there, len, ap length (opened_push format ps p), length-append (opened format ps) (1 ∷ body p), length-append (to_le_bytes w32 (length p)) p);
      split = split ∙ ap (λ (l : List ℕ). opened format ps ++ l) opened_place ∙ sym (append_assoc (opened format ps) (1 ∷ body p) (drop (at + (n + 5)) file))
          ∙ ap (λ (l : List ℕ). l ++ drop (at + (n + 5)) file) (sym (opened_push format ps p));
    }

-- a window that passed some of its bytes
window_passed : (file : List ℕ) (at m : ℕ) (bytes : List ℕ) → m ≤ length bytes → IsWindow file (record { at = at; bytes = bytes }) → IsWindow file (record { at = at + m; bytes = drop m bytes })
window_passed file at m bytes le w = record {
  within = omega (arith, le, window_end file at bytes w);
  addressed = w.addressed;
  shown =
      let rest : ℕ = length bytes - m in
      let whole : m + rest ≡ length bytes = omega (arith, le) in
      ap (drop m) (w.shown ∙ ap (λ (k : ℕ). take k (drop at file)) (sym whole)) ∙ drop-take m rest (drop at file)
      ∙ ap (λ (l : List ℕ). take rest l) (drop-drop m at file) ∙ ap (λ (k : ℕ). take k (drop (at + m) file)) (sym (length-drop m bytes));
}

place_long : (file : List ℕ) (at n : ℕ) → at + (n + 5) ≤ length file → n + 5 ≤ length (drop at file)
place_long file at n le = omega (arith, le, length-drop at file)

-- after a payload whose last byte is in the window
pub near_more : {format : ℕ} (file : List ℕ) (at size n : ℕ) (bytes : List ℕ) (closed : Bool) (ps : List (List ℕ)) (p : List ℕ) → StandsBehind file (record { format = format; window = record { at = at; bytes = bytes }; size = size; closed = closed }) ps
    → IsPlace bytes (Place.Open n) → n + 5 ≤ length bytes → p ≡ take n (drop 5 bytes) → closed ≡ false
    → StandsBehind file (record { format = format; window = record { at = min (at + (n + 5)) last_count; bytes = drop (n + 5) bytes }; size = size; closed = closed }) (ps ++ p ∷ [])
near_more {format} file at size n bytes closed ps p b opens le is off =
    let place : List ℕ = drop at file in
    let end = window_end file at bytes b.window in
    let opened_there = first_five bytes place n b.window.shown opens.1 opens.0 in
    let same : take n (drop 5 bytes) ≡ take n (drop 5 place) =
    ap (λ (l : List ℕ). take n (drop 5 l)) (b.window.shown ∙ ap (λ (k : ℕ). take k place) (omega (arith, le)))
    ∙ ap (take n) (drop-take 5 (length bytes - 5) place) ∙ take-take n (length bytes - 5) (drop 5 place) (omega (arith, le)) in
    let more = one_more format file at n ps p b.each b.place b.split opened_there (is ∙ same) (place_long file at n (omega (arith, le, end))) opens.2 opens.3 in
    let here : min (at + (n + 5)) last_count ≡ at + (n + 5) = omega (arith, end, le, b.window.addressed) in
    let window = window_passed file at (n + 5) bytes le b.window in
    subst (λ (k : ℕ). StandsBehind file (record { format = format; window = record { at = k; bytes = drop (n + 5) bytes }; size = size; closed = closed }) (ps ++ p ∷ [])) (sym here) (record {
      known = b.known;
      each = more.each;
      place = more.place;
      split = more.split;
      window = window;
      size = b.size;
      closed = λ on. absurd (cc (on, off));
    })

-- after a payload whose last byte doesn't
pub far_more : {format : ℕ} (file : List ℕ) (at size n : ℕ) (bytes : List ℕ) (closed : Bool) (ps : List (List ℕ)) (p : List ℕ) → StandsBehind file (record { format = format; window = record { at = at; bytes = bytes }; size = size; closed = closed }) ps
    → IsPlace bytes (Place.Open n) → at + (n + 5) ≤ length file → p ≡ take n (drop 5 (drop at file)) → closed ≡ false
    → StandsBehind file (record { format = format; window = record { at = min (at + (n + 5)) last_count; bytes = [] }; size = size; closed = closed }) (ps ++ p ∷ [])
far_more {format} file at size n bytes closed ps p b opens le is off =
    let place : List ℕ = drop at file in
    let opened_there = first_five bytes place n b.window.shown opens.1 opens.0 in
    let more = one_more format file at n ps p b.each b.place b.split opened_there is (place_long file at n le) opens.2 opens.3 in
    let here : min (at + (n + 5)) last_count ≡ at + (n + 5) = omega (arith, le, b.window.addressed) in
    subst (λ (k : ℕ). StandsBehind file (record { format = format; window = record { at = k; bytes = [] }; size = size; closed = closed }) (ps ++ p ∷ [])) (sym here) (record {
      known = b.known;
      each = more.each;
      place = more.place;
      split = more.split;
      window = record { within = le; addressed = b.window.addressed; shown = refl };
      size = b.size;
      closed = λ on. absurd (cc (on, off));
    })

-- there is no payload where the length is none of a payload, or passes the end
bad_length : (format : ℕ) (file : List ℕ) (at n : ℕ) (x : List ℕ) (ps : List (List ℕ)) → IsFormat format → All IsPayload ps → at ≡ length (opened format ps) → file ≡ opened format ps ++ drop at file
    → drop at file ≡ 1 ∷ (to_le_bytes w32 n ++ x) → n < 2 ^ 32 → (IsNoLength n ⊎ (length (drop at file) < n + 5)) → HasBadLength file at
bad_length format file at n x ps known each there split opens small why = record {
  format = format;
  known = known;
  payloads = ps;
  each = each;
  place = drop at file;
  split = split;
  bad = record {
    gate = λ gate rest is. ap (λ (l : List ℕ). get_or l 0 0) (sym is ∙ opens);
    payload = λ p rest is_payload is. none p rest is_payload is why;
  };
  there = there;
}
  where
    none : (p rest : List ℕ) → IsPayload p → drop at file ≡ open_place p ++ rest → (IsNoLength n ⊎ (length (drop at file) < n + 5)) → ⊥
    none p rest is_payload is (inl (inl zero_long)) = let len = same_length (drop at file) p rest x n opens small is_payload is in omega (arith, len, zero_long, is_payload.some)
    none p rest is_payload is (inl (inr long)) = let len = same_length (drop at file) p rest x n opens small is_payload is in omega (arith, len, long, is_payload.fits)
    none p rest is_payload is (inr past) = let len = same_length (drop at file) p rest x n opens small is_payload is in omega (arith, len, past, open_length (drop at file) p rest is)

pub too_long : {format : ℕ} (file : List ℕ) (at size n : ℕ) (bytes : List ℕ) (closed : Bool) (ps : List (List ℕ)) → StandsBehind file (record { format = format; window = record { at = at; bytes = bytes }; size = size; closed = closed }) ps
    → IsPlace bytes (Place.Open n) → length file < at + (n + 5) → HasBadLength file at
too_long {format} file at size n bytes closed ps b opens past =
    bad_length format file at n (drop 5 (drop at file)) ps b.known b.each b.place b.split (first_five bytes (drop at file) n b.window.shown opens.1 opens.0) (omega (arith, opens.3)) (inr (omega (arith, past, length-drop at file, b.window.within)))

-- a bad place
pub bad_place : {format : ℕ} (file : List ℕ) (at size : ℕ) (bytes : List ℕ) (closed : Bool) (ps : List (List ℕ)) → StandsBehind file (record { format = format; window = record { at = at; bytes = bytes }; size = size; closed = closed }) ps
    → (5 ≤ length bytes) ⊎ (bytes ≡ drop at file) → IsPlace bytes Place.Bad → HasBadLength file at
bad_place {format} file at size bytes closed ps b (inl five) (inl few) = absurd (omega (arith, five, few.0))
bad_place {format} file at size bytes closed ps b (inr all) (inl few) = record {
  format = format;
  known = b.known;
  payloads = ps;
  each = b.each;
  place = drop at file;
  split = b.split;
  bad = record {
    gate = λ gate rest is. few.1 gate rest (all ∙ is);
    payload = λ p rest is_payload is. omega (arith, few.0, ap length all, open_length (drop at file) p rest is);
  };
  there = b.place;
}
bad_place {format} file at size bytes closed ps b enough (inr wrong) =
    let five : 5 ≤ length bytes = omega (arith, ap length wrong.split, length-append (to_le_bytes w32 wrong.length_there) wrong.rest) in
    let opens : bytes ≡ 1 ∷ (to_le_bytes w32 wrong.length_there ++ drop 5 bytes) = wrong.split ∙ ap (λ (l : List ℕ). 1 ∷ (to_le_bytes w32 wrong.length_there ++ l)) (sym (ap (drop 5) wrong.split)) in
    bad_length format file at wrong.length_there (drop 5 (drop at file)) ps b.known b.each b.place b.split (first_five bytes (drop at file) wrong.length_there b.window.shown five opens) wrong.fits (inl wrong.none)

-- the window was filled
pub filled_behind : {format : ℕ} (file : List ℕ) (old new : WindowState) (size : ℕ) (closed now : Bool) (ps : List (List ℕ)) → StandsBehind file (record { format = format; window = old; size = size; closed = closed }) ps → new.at ≡ old.at → IsWindow file new → now ≡ false
    → StandsBehind file (record { format = format; window = new; size = size; closed = now }) ps
filled_behind {format} file old new size closed now ps b same is off = record {
  known = b.known;
  each = b.each;
  place = same ∙ b.place;
  split = b.split ∙ ap (λ (k : ℕ). opened format ps ++ drop k file) (sym same);
  window = is;
  size = b.size;
  closed = λ on. absurd (cc (on, off));
}

-- the front of a file
pub front_get : (xs : List ℕ) (n i : ℕ) → i < n → slice_get (take n xs) i ≡ slice_get xs i
front_get [] zero i lt = refl
front_get [] (suc n) i lt = refl
front_get (x ∷ xs) zero i lt = absurd (omega (arith, lt))
front_get (x ∷ xs) (suc n) zero lt = refl
front_get (x ∷ xs) (suc n) (suc i) lt = front_get xs n i (omega (arith, lt))

pub no_head : (file : List ℕ) (at : ℕ) → HasNoHead (take 11 file) at → HasNoHead file at
no_head file at none =
    let within = none.within 1 (inl refl) in
    record {
      finished = λ un. none.finished (subst IsUnfinished (sym (take_all 11 file (omega (arith, short file un)))) un);
      within = none.within;
      before = λ format known. sym (take-take at 11 file (omega (arith, within))) ∙ none.before format known;
      differs = λ format known same. none.differs format known (front_get file 11 at (omega (arith, within)) ∙ same);
    }

pub small_start : (P : List ℕ → Type 0) (file : List ℕ) → length (take 11 file) ≤ 10 → P (take 11 file) → P file
small_start P file few is = subst P (take_all 11 file (omega (arith, few, length-take 11 file))) is

-- the reader comes after the head
pub behind_head : (format : ℕ) (file : List ℕ) (size : ℕ) → IsFormat format → take 9 (take 11 file) ≡ head format → size ≡ length file → length file < 2 ^ 64
    → StandsBehind file (record { format = format; window = record { at = 9; bytes = [] }; size = size; closed = false }) []
behind_head format file size known front is addressed =
    let start : take 9 file ≡ head format = sym (take-take 9 11 file (omega arith)) ∙ front in
    record {
      known = known;
      each = All-nil IsPayload;
      place = refl;
      split = sym (take-append-drop 9 file) ∙ ap (λ (l : List ℕ). l ++ drop 9 file) start;
      window = record { within = omega (arith, ap length start, length-take 9 file); addressed = addressed; shown = refl };
      size = is;
      closed = λ on. absurd (cc (on));
    }

-- five bytes at the beginning
five_front : (bytes : List ℕ) → 5 ≤ length bytes → bytes ≡ get_or bytes 0 0 ∷ (get_or bytes 1 0 ∷ (get_or bytes 2 0 ∷ (get_or bytes 3 0 ∷ (get_or bytes 4 0 ∷ drop 5 bytes))))
five_front [] le = absurd (omega (arith, le))
five_front (a ∷ []) le = absurd (omega (arith, le))
five_front (a ∷ (b ∷ [])) le = absurd (omega (arith, le))
five_front (a ∷ (b ∷ (c ∷ []))) le = absurd (omega (arith, le))
five_front (a ∷ (b ∷ (c ∷ (d ∷ [])))) le = absurd (omega (arith, le))
five_front (a ∷ (b ∷ (c ∷ (d ∷ (e ∷ rest))))) le = refl

four_fit : (a b c d : ℕ) → a < 256 → b < 256 → c < 256 → d < 256 → (i : ℕ) → get_or (a ∷ (b ∷ (c ∷ (d ∷ [])))) i 0 < 256
four_fit a b c d fa fb fc fd zero = fa
four_fit a b c d fa fb fc fd (suc zero) = fb
four_fit a b c d fa fb fc fd (suc (suc zero)) = fc
four_fit a b c d fa fb fc fd (suc (suc (suc zero))) = fd
four_fit a b c d fa fb fc fd (suc (suc (suc (suc i)))) = omega arith

-- a gate that is open and a length after it
pub opens_place : (bytes : List ℕ) (n : ℕ) → 5 ≤ length bytes → get_or bytes 0 0 ≡ 1 → ((i : ℕ) → get_or bytes i 0 < 256)
    → n ≡ from_le_bytes w32 (get_or bytes 1 0 ∷ (get_or bytes 2 0 ∷ (get_or bytes 3 0 ∷ (get_or bytes 4 0 ∷ [])))) → bytes ≡ 1 ∷ (to_le_bytes w32 n ++ drop 5 bytes)
opens_place bytes n five gate fit is =
    let four : List ℕ = get_or bytes 1 0 ∷ (get_or bytes 2 0 ∷ (get_or bytes 3 0 ∷ (get_or bytes 4 0 ∷ []))) in
    let same : to_le_bytes w32 n ≡ four = le_bytes_4 four n refl (four_fit (get_or bytes 1 0) (get_or bytes 2 0) (get_or bytes 3 0) (get_or bytes 4 0) (fit 1) (fit 2) (fit 3) (fit 4)) is in
    five_front bytes five ∙ ap (λ (g : ℕ). g ∷ (four ++ drop 5 bytes)) gate ∙ ap (λ (l : List ℕ). 1 ∷ (l ++ drop 5 bytes)) (sym same)

pub sized_place : (bytes : List ℕ) (n : ℕ) (r : Place) → IsSized n r → 5 ≤ length bytes → n < 2 ^ 32 → bytes ≡ 1 ∷ (to_le_bytes w32 n ++ drop 5 bytes) → IsPlace bytes r
sized_place bytes n (Place.Open m) s five small opens = (opens ∙ ap (λ (k : ℕ). 1 ∷ (to_le_bytes w32 k ++ drop 5 bytes)) (sym s.0), five, s.1, s.2)
sized_place bytes n Place.Closed s five small opens = absurd s
sized_place bytes n Place.Bad s five small opens = inr (record { length_there = n; rest = drop 5 bytes; split = opens; fits = small; none = s })

-- the rest of a payload, read after what the window had of it
pub far_read : {format : ℕ} (file : List ℕ) (at size more : ℕ) (bytes : List ℕ) (closed : Bool) (ps : List (List ℕ)) (place : ℕ) (first old new : List ℕ) → StandsBehind file (record { format = format; window = record { at = at; bytes = bytes }; size = size; closed = closed }) ps
    → 5 ≤ length bytes → place ≡ min (at + 5) last_count → first ≡ take (length bytes - 5) (drop 5 bytes) → take (length bytes - 5) old ≡ first → ReadsOn file place (length bytes - 5) old more new → ReadsMore file (at + 5) (length bytes - 5) more new
far_read {format} file at size more bytes closed ps place first old new b five there first_is front reads =
    let len : ℕ = length bytes - 5 in
    let end = window_end file at bytes b.window in
    let here : place ≡ at + 5 = omega (arith, there, five, end, b.window.addressed) in
    let rest : drop 5 bytes ≡ take len (drop (at + 5) file) =
    ap (λ (l : List ℕ). drop 5 l) (b.window.shown ∙ ap (λ (k : ℕ). take k (drop at file)) (omega (arith, five)))
    ∙ drop-take 5 len (drop at file) ∙ ap (take len) (drop-drop 5 at file) in
    let known : take len old ≡ take len (drop (at + 5) file) = front ∙ first_is ∙ ap (take len) rest ∙ take-take len len (drop (at + 5) file) (omega arith) in
    subst (λ (k : ℕ). ReadsOn file k len old more new) here reads b.window.addressed (omega (arith, five, end)) known
