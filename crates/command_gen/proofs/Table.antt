-- A generated day that begins with no entry and isn't stopped by the disk leaves the history of the run over its calls.
use Rattle.std.proofs.Common.{◌≡◌, ℕ, zero, suc, ◌+◌, ◌*◌, ◌%◌, ◌<◌, ◌≤◌, List, [], ◌∷◌, ◌++◌, length, decimal, Bool, true, false, ◌==◌, All, Option, Some, None, if◌then◌else◌, refl, sym, ap, ◌∙◌, subst, arith, length-append}
use Rattle.std.proofs.lemmas.List.{length-map}
use Rattle.std.proofs.lemmas.List.Elements.{All-nil, All-cons, All-head, All-tail, All-append}
use Rattle.adx_desk.specs.Desks.{OnDisk}
use Rattle.adx_desk.specs.Rosters.{desk_terms}
use Rattle.day_rules.specs.declared.entry.Entry.{Entry}
use Rattle.day_rules.specs.Replies.{Call, notice, tick}
use Rattle.day_rules.specs.Runs.{run}
use Rattle.day_rules.specs.Terms.{Terms}
use Rattle.deal_floor.specs.declared.roster.Roster.{Roster}
use Rattle.notice_book.specs.declared.kind.NoticeKind.{NoticeKind}
use Rattle.script_lines.specs.Rosters.{IsRosterLine}
use Rattle.adx_desk.specs.Answering.{DeskRuns}
use Rattle.adx_desk.specs.Courses.{HasNoDiskFault}
use Rattle.adx_desk.specs.Meanings.{Told, turns_of}
use Rattle.adx_desk.specs.OnDisk.{FullEach, history_after}
use Rattle.history_runs.specs.Script.{terms_by}
use Rattle.command_gen.specs.Generated.{AreFrom, AreOfAsk, AreOfDay, generated_history, generated_line, notices_behind, notices_by, ticks_behind, word_at}
use Rattle.command_gen.specs.Taking.{calls_of}
use Rattle.command_gen.specs.declared.generator.TheConstants.{MOST_ASKS}
use Rattle.command_gen.proofs.DayCalls.{all_done}
use Rattle.history_runs.proofs.Rosters.{roster_terms}
use Rattle.command_gen.proofs.Line.{digest_long}
use Rattle.command_gen.proofs.Room.{IsOfDay, all_are_done}

-- so many calls of a generated day
record AreFew (seed most : ℕ) (calls : List Call) : Type 0 where
  each : All (IsOfDay seed) calls
  few : length calls ≤ most

few_none : (seed most : ℕ) → AreFew seed most []
few_none seed most = record { each = All-nil (IsOfDay seed); few = omega arith }

few_more : (seed most : ℕ) (c : Call) (calls : List Call) → IsOfDay seed c → AreFew seed most calls → AreFew seed (suc most) (c ∷ calls)
few_more seed most c calls is rest = record { each = All-cons (IsOfDay seed) c calls is rest.each; few = omega (arith, rest.few) }

few_if : (seed most : ℕ) (b : Bool) (calls others : List Call) → AreFew seed most calls → AreFew seed most others → AreFew seed most (if b then calls else others)
few_if seed most true calls others one two = one
few_if seed most false calls others one two = two

few_append : (seed most more : ℕ) (calls others : List Call) → AreFew seed most calls → AreFew seed more others → AreFew seed (most + more) (calls ++ others)
few_append seed most more calls others one two =
    record { each = All-append (IsOfDay seed) calls others one.each two.each; few = omega (arith, length-append calls others, one.few, two.few) }

few_notices : (seed remainder : ℕ) (auction : List ℕ) (award : ℕ) → AreFew seed 2 (notices_by remainder auction award)
few_notices seed remainder auction award =
    few_if seed 2 (remainder == 1) (notice NoticeKind.Bill auction award ∷ []) _ (few_more seed 1 (notice NoticeKind.Bill auction award) [] tt (few_none seed 1))
    (few_if seed 2 (remainder == 2) (notice NoticeKind.Loss auction award ∷ []) _ (few_more seed 1 (notice NoticeKind.Loss auction award) [] tt (few_none seed 1))
    (few_if seed 2 (remainder == 3) (notice NoticeKind.Bill auction award ∷ notice NoticeKind.Bill auction award ∷ []) []
    (few_more seed 1 (notice NoticeKind.Bill auction award) (notice NoticeKind.Bill auction award ∷ []) tt (few_more seed 0 (notice NoticeKind.Bill auction award) [] tt (few_none seed 0))) (few_none seed 2)))

few_behind : (seed number : ℕ) (award : Option ℕ) → AreFew seed 2 (notices_behind seed number award)
few_behind seed number None = few_none seed 2
few_behind seed number (Some award) = few_notices seed (word_at seed (9 * number + 8) % 4) (decimal number) award

few_ticks : (seed number : ℕ) → AreFew seed 1 (ticks_behind number)
few_ticks seed number = few_if seed 1 (suc number % 100 == 0) (tick number ∷ []) [] (few_more seed 0 (tick number) [] tt (few_none seed 0)) (few_none seed 1)

-- the same of calls that were answered
told_each : (seed : ℕ) (told : List Told) → All (IsOfDay seed) (calls_of told) → All (λ (t : Told). IsOfDay seed t.call) told
told_each seed [] each = All-nil (λ (t : Told). IsOfDay seed t.call)
told_each seed (t ∷ told) each =
    All-cons (λ (u : Told). IsOfDay seed u.call) t told (All-head (IsOfDay seed) t.call (calls_of told) each) (told_each seed told (All-tail (IsOfDay seed) t.call (calls_of told) each))

ask_few : (terms : Terms) (seed number : ℕ) (history : List Entry) (told : List Told) → number < MOST_ASKS → AreOfAsk terms seed number history told
    → All (λ (t : Told). IsOfDay seed t.call) told × (length told ≤ 4)
ask_few terms seed number history told few of =
    let behind = few_append seed 2 1 _ _ (few_behind seed number _) (few_ticks seed number) in
    let calls : AreFew seed 3 (calls_of of.behind) = subst (AreFew seed 3) (sym of.follow) behind in
    let P : Told → Type 0 = λ t. IsOfDay seed t.call in (
      subst (All P) (sym of.all) (All-cons P of.asked of.behind (subst (IsOfDay seed) (sym of.is) (number, few, refl)) (told_each seed of.behind calls.each)),
      omega (arith, ap (λ l. length l) of.all, length-map of.behind (λ (t : Told). t.call), calls.few),
    )

day_few : (terms : Terms) (seed n i : ℕ) (history : List Entry) (told : List Told) → i + n ≤ MOST_ASKS → AreFrom terms seed n i history told
    → All (λ (t : Told). IsOfDay seed t.call) told × (length told ≤ 4 * n)
day_few terms seed zero i history told few none =
    let P : Told → Type 0 = λ t. IsOfDay seed t.call in
    (subst (All P) (sym none) (All-nil P), omega (arith, ap (λ l. length l) none))
day_few terms seed (suc n) i history told few (first, rest, of, from, split) =
    let P : Told → Type 0 = λ t. IsOfDay seed t.call in
    let one = ask_few terms seed i history first (omega (arith, few)) of in
    let others = day_few terms seed n (suc i) (run terms history (turns_of first)) rest (omega (arith, few)) from in
    (subst (All P) (sym split) (All-append P first rest one.0 others.0), omega (arith, ap (λ l. length l) split, length-append first rest, one.1, others.1))

-- the history of a day that began with no entry
pub generated_all : {D : Type 0} (faults : D → ℕ) (reads : D → Option (List ℕ)) (may_leave : D → List ℕ → Type 0) (moment : D → ℕ) (left_since : D → ℕ → List ℕ → Type 0) (r : Roster) (seed asks : ℕ) (disk : D) (start : List Entry) (told : List Told) (now : OnDisk D)
    → IsRosterLine generated_line r → asks ≤ MOST_ASKS → DeskRuns faults reads may_leave moment left_since (desk_terms r) disk start told now → start ≡ [] → AreOfDay (terms_by r) seed asks start told → HasNoDiskFault told
    → history_after (terms_by r) start told ≡ generated_history (terms_by r) seed asks
generated_all faults reads may_leave moment left_since r seed asks disk start told now line most runs begins of none =
    let full : FullEach (desk_terms r) [] told = subst (λ (s : List Entry). FullEach (desk_terms r) s told) begins runs.full in
    let from : AreOfDay (terms_by r) seed asks [] told = subst (λ (s : List Entry). AreOfDay (terms_by r) seed asks s told) begins of in
    let few = day_few (terms_by r) seed asks 0 [] told (omega (arith, most)) from in
    let all = all_are_done (desk_terms r) seed told (roster_terms r) (digest_long r line) (omega (arith, few.1, most)) runs.taken few.0 full none in
    ap (λ (s : List Entry). history_after (terms_by r) s told) begins ∙ ap (run (terms_by r) []) (all_done (terms_by r) seed asks 0 [] told from all)
