-- One write more to a disk in memory.
use Rattle.std.proofs.Common.{◌≡◌, refl, ap, sym, ◌∙◌, arith, ℕ, ◌+◌, ◌≤◌, max, List, [], ◌∷◌, ◌++◌, length}
use Rattle.day_journal.specs.Disks.{written}
use Rattle.day_journal.specs.MemoryDiskLaws.{length-written}
use Rattle.day_journal.specs.ByteDisks.{ByteDiskState}
use Rattle.day_journal.specs.WriteOnlyDisks.{Write, before_each, behind}

pub behind_one : (bytes : List ℕ) (ws : List Write) (w : Write) → behind bytes (ws ++ w ∷ []) ≡ written w.at w.piece (behind bytes ws)
behind_one bytes [] w = refl
behind_one bytes (v ∷ ws) w = behind_one (written v.at v.piece bytes) ws w

pub before_one : (bytes : List ℕ) (ws : List Write) (w : Write) → before_each bytes (ws ++ w ∷ []) ≡ before_each bytes ws ++ behind bytes ws ∷ []
before_one bytes [] w = refl
before_one bytes (v ∷ ws) w = ap (λ l. bytes ∷ l) (before_one (written v.at v.piece bytes) ws w)

-- the length of all bytes, and those of them that are kept where they are few
abbrev pub IsFront : List ℕ → ℕ → List Write → Type 0
IsFront front size ws = (size ≡ length (behind [] ws)) × (size ≤ 4096 → front ≡ behind [] ws)

pub front_put : (front now : List ℕ) (size grown : ℕ) (ws all : List Write) (w : Write) → IsFront front size ws → all ≡ ws ++ w ∷ []
    → grown ≡ max size (w.at + length w.piece) → (grown ≤ 4096 → now ≡ written w.at w.piece front) → IsFront now grown all
front_put front now size grown ws all w is more long kept =
    let one : behind [] all ≡ written w.at w.piece (behind [] ws) = ap (behind []) more ∙ behind_one [] ws w in (
      omega (arith, long, is.0, ap (λ (l : List ℕ). length l) one, length-written w.at w.piece (behind [] ws)),
      λ few. kept few ∙ ap (written w.at w.piece) (is.1 (omega (arith, few, long))) ∙ sym one,
    )

-- what is seen of the writes
abbrev pub state_of : List Write → ℕ → ByteDiskState
state_of ws faults = record { past = before_each [] ws; bytes = behind [] ws; faults = faults }

abbrev pub put_to : ℕ → List ℕ → ByteDiskState → ByteDiskState
put_to at piece d = record d { past = d.past ++ d.bytes ∷ []; bytes = written at piece d.bytes }

pub state_put : (ws all : List Write) (w : Write) (faults : ℕ) → all ≡ ws ++ w ∷ [] → state_of all faults ≡ put_to w.at w.piece (state_of ws faults)
state_put ws all w faults more =
    ap (λ (l : List Write). state_of l faults) more
    ∙ ap (λ (l : List (List ℕ)). record { past = l; bytes = behind [] (ws ++ w ∷ []); faults = faults }) (before_one [] ws w)
    ∙ ap (λ (l : List ℕ). record { past = before_each [] ws ++ behind [] ws ∷ []; bytes = l; faults = faults }) (behind_one [] ws w)
