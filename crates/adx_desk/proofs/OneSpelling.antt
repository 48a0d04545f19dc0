-- Bytes spell one list of entries, and payloads one list of records.
use Rattle.std.proofs.Common.{◌≡◌, ◌⊎◌, inl, inr, ℕ, ◌<◌, List, [], ◌∷◌, ◌++◌, map, length, drop, get_or, All, refl, sym, ◌∙◌, ap, arith, append_assoc, length-append}
use Rattle.std.proofs.lemmas.List.{drop_at}
use Rattle.std.proofs.lemmas.List.Elements.{All-head, All-tail}
use Rattle.std.proofs.lemmas.Option.{same_Some}
use Rattle.day_entries.specs.Entries.{BeginsWith, Fits, entry_bytes, entries_bytes}
use Rattle.day_entries.proofs.Answers.{read_again}
use Rattle.day_rules.specs.declared.entry.Entry.{Entry}
use Rattle.adx_desk.specs.Histories.{IsRecord}
use Rattle.day_entries.proofs.Lengths.{some_bytes}

module _ (format : ℕ) where
  -- the first entry, and what comes after it
  same_first : (e d : Entry) (x y : List ℕ) → Fits format e → Fits format d → entry_bytes format e ++ x ≡ entry_bytes format d ++ y → (e ≡ d) × (x ≡ y)
  same_first e d x y fits_e fits_d same =
      let one = read_again format (entry_bytes format e ++ x) e (length (entry_bytes format e)) (record { fits = fits_e; count = refl; rest = x; split = refl }) in
      let other = read_again format (entry_bytes format e ++ x) d (length (entry_bytes format d)) (record { fits = fits_d; count = refl; rest = y; split = same }) in
      let entries : e ≡ d = ap (λ (p : Entry × List ℕ). p.0) (same_Some (e, one.0) (d, other.0) (sym one.1 ∙ other.1)) in
      let lens : length (entry_bytes format d) ≡ length (entry_bytes format e) = ap (λ (z : Entry). length (entry_bytes format z)) (sym entries) in
      let rests : x ≡ y =
      sym (drop_at (entry_bytes format e) x (length (entry_bytes format e)) refl) ∙ (ap (drop (length (entry_bytes format e))) same ∙ drop_at (entry_bytes format d) y (length (entry_bytes format e)) lens) in
      (entries, rests)

  no_bytes : (e : Entry) (rest : List ℕ) → [] ≡ entry_bytes format e ++ rest → ⊥
  no_bytes e rest same = omega (arith, ap length same, length-append (entry_bytes format e) rest, some_bytes format e)

  behind_first : (e : Entry) (es : List Entry) (bytes : List ℕ) → entries_bytes format (e ∷ es) ++ bytes ≡ entry_bytes format e ++ (entries_bytes format es ++ bytes)
  behind_first e es bytes = append_assoc (entry_bytes format e) (entries_bytes format es) bytes

  pub same_entries : (es ds : List Entry) → All (Fits format) es → All (Fits format) ds → entries_bytes format es ≡ entries_bytes format ds → es ≡ ds
  same_entries [] [] fits_e fits_d same = refl
  same_entries [] (d ∷ ds) fits_e fits_d same = absurd (no_bytes d (entries_bytes format ds) same)
  same_entries (e ∷ es) [] fits_e fits_d same = absurd (no_bytes e (entries_bytes format es) (sym same))
  same_entries (e ∷ es) (d ∷ ds) fits_e fits_d same =
      let both = same_first e d (entries_bytes format es) (entries_bytes format ds) (All-head (Fits format) e es fits_e) (All-head (Fits format) d ds fits_d) same in
      let rest = same_entries es ds (All-tail (Fits format) e es fits_e) (All-tail (Fits format) d ds fits_d) both.1 in
      (λ i. both.0 i ∷ rest i)

  -- some entries and then bytes: these begin with the next entry
  pub record NextIn (front es : List Entry) (bytes : List ℕ) : Type 0 where
    pub entry : Entry
    pub behind : List Entry
    pub parts : es ≡ front ++ entry ∷ behind
    pub begins : BeginsWith format bytes entry (length (entry_bytes format entry))

  pub next_in : (front es : List Entry) (bytes : List ℕ) → All (Fits format) front → All (Fits format) es → 0 < length bytes → entries_bytes format es ≡ entries_bytes format front ++ bytes → NextIn front es bytes
  next_in [] [] bytes fits_f fits_e some same = absurd (omega (arith, some, ap length same))
  next_in [] (e ∷ es) bytes fits_f fits_e some same = record {
    entry = e;
    behind = es;
    parts = refl;
    begins = record { fits = All-head (Fits format) e es fits_e; count = refl; rest = entries_bytes format es; split = sym same };
  }
  next_in (f ∷ front) [] bytes fits_f fits_e some same = absurd (no_bytes f (entries_bytes format front ++ bytes) (same ∙ behind_first f front bytes))
  next_in (f ∷ front) (e ∷ es) bytes fits_f fits_e some same =
      let both = same_first e f (entries_bytes format es) (entries_bytes format front ++ bytes) (All-head (Fits format) e es fits_e) (All-head (Fits format) f front fits_f) (same ∙ behind_first f front bytes) in
      let next = next_in front es bytes (All-tail (Fits format) f front fits_f) (All-tail (Fits format) e es fits_e) some both.1 in
      record { entry = next.entry; behind = next.behind; parts = (λ i. both.0 i ∷ next.parts i); begins = next.begins }

  -- two lists of entries, each with bytes after it, that spell the same: they are one list, or one goes on where the other ends
  abbrev pub Meet : (front es : List Entry) (bytes others : List ℕ) → Type 0
  Meet front es bytes others = (front ≡ es) ⊎ (NextIn front es bytes ⊎ NextIn es front others)

  meet_more : (f e : Entry) (front es : List Entry) (bytes others : List ℕ) → f ≡ e → Meet front es bytes others → Meet (f ∷ front) (e ∷ es) bytes others
  meet_more f e front es bytes others same (inl is) = inl (λ i. same i ∷ is i)
  meet_more f e front es bytes others same (inr (inl next)) = inr (inl (record { entry = next.entry; behind = next.behind; parts = (λ i. sym same i ∷ next.parts i); begins = next.begins }))
  meet_more f e front es bytes others same (inr (inr next)) = inr (inr (record { entry = next.entry; behind = next.behind; parts = (λ i. same i ∷ next.parts i); begins = next.begins }))

  pub meet : (front es : List Entry) (bytes others : List ℕ) → All (Fits format) front → All (Fits format) es → entries_bytes format front ++ bytes ≡ entries_bytes format es ++ others → Meet front es bytes others
  meet [] [] bytes others fits_f fits_e same = inl refl
  meet [] (e ∷ es) bytes others fits_f fits_e same = inr (inl (record {
    entry = e;
    behind = es;
    parts = refl;
    begins = record { fits = All-head (Fits format) e es fits_e; count = refl; rest = entries_bytes format es ++ others; split = same ∙ behind_first e es others };
  }))
  meet (f ∷ front) [] bytes others fits_f fits_e same = inr (inr (record {
    entry = f;
    behind = front;
    parts = refl;
    begins = record { fits = All-head (Fits format) f front fits_f; count = refl; rest = entries_bytes format front ++ bytes; split = sym same ∙ behind_first f front bytes };
  }))
  meet (f ∷ front) (e ∷ es) bytes others fits_f fits_e same =
      let both = same_first f e (entries_bytes format front ++ bytes) (entries_bytes format es ++ others) (All-head (Fits format) f front fits_f) (All-head (Fits format) e es fits_e)
      (sym (behind_first f front bytes) ∙ (same ∙ behind_first e es others)) in
      meet_more f e front es bytes others both.0 (meet front es bytes others (All-tail (Fits format) f front fits_f) (All-tail (Fits format) e es fits_e) both.1)

  -- the records of payloads
  pub same_records : (rs ss : List (List Entry)) → All (IsRecord format) rs → All (IsRecord format) ss → map (entries_bytes format) rs ≡ map (entries_bytes format) ss → rs ≡ ss
  same_records [] [] each_r each_s same = refl
  same_records [] (s ∷ ss) each_r each_s same = absurd (cc same)
  same_records (r ∷ rs) [] each_r each_s same = absurd (cc same)
  same_records (r ∷ rs) (s ∷ ss) each_r each_s same =
      let first = same_entries r s (All-head (IsRecord format) r rs each_r).spelled (All-head (IsRecord format) s ss each_s).spelled (ap (λ (ps : List (List ℕ)). get_or ps 0 []) same) in
      let rest = same_records rs ss (All-tail (IsRecord format) r rs each_r) (All-tail (IsRecord format) s ss each_s) (ap (drop 1) same) in
      (λ i. first i ∷ rest i)

  -- some records and then a payload: it is the next record's
  pub record RecordAt (front rs : List (List Entry)) (payload : List ℕ) : Type 0 where
    pub entries : List Entry
    pub behind : List (List Entry)
    pub parts : rs ≡ front ++ entries ∷ behind
    pub bytes : entries_bytes format entries ≡ payload
    pub is_record : IsRecord format entries

  pub record_at : (front rs : List (List Entry)) (payload : List ℕ) (more : List (List ℕ)) → All (IsRecord format) front → All (IsRecord format) rs → map (entries_bytes format) rs ≡ (map (entries_bytes format) front ++ payload ∷ []) ++ more → RecordAt front rs payload
  record_at [] [] payload more each_f each_r same = absurd (cc same)
  record_at [] (r ∷ rs) payload more each_f each_r same = record {
    entries = r;
    behind = rs;
    parts = refl;
    bytes = ap (λ (ps : List (List ℕ)). get_or ps 0 []) same;
    is_record = All-head (IsRecord format) r rs each_r;
  }
  record_at (f ∷ front) [] payload more each_f each_r same = absurd (cc same)
  record_at (f ∷ front) (r ∷ rs) payload more each_f each_r same =
      let first = same_entries r f (All-head (IsRecord format) r rs each_r).spelled (All-head (IsRecord format) f front each_f).spelled (ap (λ (ps : List (List ℕ)). get_or ps 0 []) same) in
      let at = record_at front rs payload more (All-tail (IsRecord format) f front each_f) (All-tail (IsRecord format) r rs each_r) (ap (drop 1) same) in
      record { entries = at.entries; behind = at.behind; parts = (λ i. first i ∷ at.parts i); bytes = at.bytes; is_record = at.is_record }
