-- The rows of campaigns, one more, and that they are of one day and of different campaigns.
use Rattle.std.proofs.Common.{◌≡◌, ℕ, ◌+◌, ◌<◌, ◌≤◌, List, [], ◌∷◌, ◌++◌, map, length, take, get_or, AllPairs, refl, sym, ap, ◌∙◌, arith}
use Rattle.std.specs.List.{enumerate_from}
use Rattle.std.proofs.lemmas.List.{take_more, length-map, get_or-map, length-take-le}
use Rattle.std.proofs.lemmas.List.Elements.{All-map}
use Rattle.std.proofs.lemmas.List.FromFn.{get_or-enumerate_from, length-enumerate_from}
use Rattle.bid_record.specs.declared.record.Record.{Record}
use Rattle.bid_record.specs.declared.rows.CampaignRow.{CampaignRow}
use Rattle.bid_record.specs.Records.{Differ as DifferCampaigns}
use Rattle.day_archive.specs.declared.row.DayRow.{DayRow}
use Rattle.day_archive.specs.Kept.{day_of, Differ, AreOfOneDay}
use Rattle.command_archive.specs.Rows.{row_of, rows_of}

pub numbered_push : {X Y : Type 0} (f : ℕ × X → Y) (n : ℕ) (xs : List X) (x : X) → map f (enumerate_from n (xs ++ x ∷ [])) ≡ map f (enumerate_from n xs) ++ f (n + length xs, x) ∷ []
numbered_push {Y = Y} f n [] x = let same : n + 0 ≡ n = omega arith in ap (λ (k : ℕ). f (k, x) ∷ []) (sym same)
numbered_push {Y = Y} f n (y ∷ ys) x =
    let same : n + 1 + length ys ≡ n + length (y ∷ ys) = omega arith in
    ap (λ (zs : List Y). f (n, y) ∷ zs) (numbered_push f (n + 1) ys x ∙ ap (λ (k : ℕ). map f (enumerate_from (n + 1) ys) ++ f (k, x) ∷ []) same)

pub rows_more : (r : Record) (bound : ℕ) (cs : List CampaignRow) (i : ℕ) (c : CampaignRow) → i < length cs → c ≡ get_or cs i c
    → map (row_of r bound) (enumerate_from 0 (take i cs)) ++ row_of r bound (i, c) ∷ [] ≡ map (row_of r bound) (enumerate_from 0 (take (i + 1) cs))
rows_more r bound cs i c below is =
    let more : take (i + 1) cs ≡ take i cs ++ c ∷ [] = take_more cs i c below ∙ ap (λ (x : CampaignRow). take i cs ++ x ∷ []) (sym is) in
    let len = length-take-le i cs (omega (arith, below)) in
    let at : 0 + length (take i cs) ≡ i = omega (arith, len) in
    sym (ap (λ (l : List CampaignRow). map (row_of r bound) (enumerate_from 0 l)) more ∙ numbered_push (row_of r bound) 0 (take i cs) c
    ∙ ap (λ (k : ℕ). map (row_of r bound) (enumerate_from 0 (take i cs)) ++ row_of r bound (k, c) ∷ []) at)

first_day : (r : Record) (bound n : ℕ) (cs : List CampaignRow) → 1 ≤ length cs → day_of (map (row_of r bound) (enumerate_from n cs)) ≡ r.day
first_day r bound n [] some = absurd (omega (arith, some))
first_day r bound n (c ∷ cs) some = refl

row_at : (r : Record) (bound : ℕ) (cs : List CampaignRow) (c : CampaignRow) (i : ℕ) (d : DayRow) → i < length cs → get_or (map (row_of r bound) (enumerate_from 0 cs)) i d ≡ row_of r bound (0 + i, get_or cs i c)
row_at r bound cs c i d below =
    let long = length-enumerate_from 0 cs in
    get_or-map (row_of r bound) (enumerate_from 0 cs) i (0, c) d (omega (arith, long, below)) ∙ ap (row_of r bound) (get_or-enumerate_from 0 cs i (0, c) below)

none_empty : (r : Record) (bound n : ℕ) (cs : List CampaignRow) → 1 ≤ length cs → map (row_of r bound) (enumerate_from n cs) ≡ [] → ⊥
none_empty r bound n [] some e = omega (arith, some)
none_empty r bound n (c ∷ cs) some e = grind (arith, e)

distinct_rows : (r : Record) (bound : ℕ) (cs : List CampaignRow) → AllPairs DifferCampaigns cs → AllPairs Differ (map (row_of r bound) (enumerate_from 0 cs))
distinct_rows r bound [] differ = λ i j d lt below. absurd (omega (arith, below))
distinct_rows r bound (c ∷ cs) differ = λ i j d lt below.
    let long = length-enumerate_from 0 (c ∷ cs) in
    let mapped = length-map (enumerate_from 0 (c ∷ cs)) (row_of r bound) in
    let under : j < length (c ∷ cs) = omega (arith, below, mapped, long) in
    let first = row_at r bound (c ∷ cs) c i d (omega (arith, lt, under)) in
    let second = row_at r bound (c ∷ cs) c j d under in
    λ same. differ i j c lt under (sym (ap (λ (x : DayRow). x.seat) first) ∙ same.0 ∙ ap (λ (x : DayRow). x.seat) second, sym (ap (λ (x : DayRow). x.cid) first) ∙ same.1 ∙ ap (λ (x : DayRow). x.cid) second)

pub one_day : (r : Record) (bound : ℕ) → AreOfOneDay (rows_of r bound)
one_day r bound = record {
  some_row = none_empty r bound 0 r.campaigns r.sound.some_campaign;
  one_day = All-map (λ (row : DayRow). row.day ≡ day_of (rows_of r bound)) (row_of r bound) (enumerate_from 0 r.campaigns)
      (λ i d below. sym (first_day r bound 0 r.campaigns r.sound.some_campaign));
  distinct = distinct_rows r bound r.campaigns r.sound.distinct;
}
