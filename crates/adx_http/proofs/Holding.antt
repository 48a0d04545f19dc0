-- What is gathered of a reply, once more of it went to the sink.
use Rattle.std.proofs.Common.{◌≡◌, ℕ, ◌≤◌, List, [], ◌++◌, length, take, drop, true, false, Option, Ok, Err, refl, sym, ap, ◌∙◌, subst, arith, append_assoc, append-nil, length-append}
use Rattle.std.proofs.lemmas.Bool.{false≢true}
use Rattle.std.proofs.lemmas.List.{take-append-drop}
use Rattle.std.proofs.Math.Seq.{take-append_seam}
use Rattle.adx_io.specs.Streams.{Took, Rises}
use Rattle.adx_io.proofs.Moved.{took_none, took_both}
use Rattle.adx_http.specs.declared.gathered.Gathered.{Gathered}
use Rattle.adx_http.specs.declared.reply.WriteFault.{WriteFault}
use Rattle.adx_http.specs.Gathering.{Holds}
use Rattle.adx_http.specs.Written.{Writes, WritesBy}

pub rise_on : (before mid now : ℕ) → mid ≡ before → Rises mid now → Rises before now
rise_on before mid now same rises = subst (λ m. Rises m now) same rises

-- all that was gathered was put
pub flushed : (old held held' : Option (List ℕ)) (before faults faults' : ℕ) (g g' : Gathered) (bytes : List ℕ) → g.failed ≡ false → g'.failed ≡ false → g'.len ≡ 0 → Took held held' (take g.len g.bytes) → faults' ≡ faults → Holds old before held faults g bytes → Holds old before held' faults' g' bytes
flushed old held held' before faults faults' g g' bytes sound sound' none took same h =
    let rest = h.gathered sound in record {
      front = h.front ++ h.rest;
      rest = [];
      took = took_both old held held' h.front h.rest h.took (subst (Took held held') (sym rest) took);
      split = append-nil (h.front ++ h.rest) ∙ h.split;
      gathered = λ s. sym (ap (λ n. take n g'.bytes) none);
      same = λ s. same ∙ h.same sound;
      failed = λ f. absurd (false≢true (sym sound' ∙ f));
      later = omega (arith, same, h.later);
    }

-- a front of what was gathered was put, and then the sink failed
pub broken : (old held held' : Option (List ℕ)) (before faults faults' n : ℕ) (g g' : Gathered) (bytes : List ℕ) → g.failed ≡ false → g'.failed ≡ true → Took held held' (take n (take g.len g.bytes)) → Rises faults faults' → faults ≤ faults' → Holds old before held faults g bytes → Holds old before held' faults' g' bytes
broken old held held' before faults faults' n g g' bytes sound failed took rises later h =
    let rest = h.gathered sound in record {
      front = h.front ++ take n h.rest;
      rest = drop n h.rest;
      took = took_both old held held' h.front (take n h.rest) h.took (subst (λ r. Took held held' (take n r)) (sym rest) took);
      split = append_assoc h.front (take n h.rest) (drop n h.rest) ∙ ap (λ r. h.front ++ r) (take-append-drop n h.rest) ∙ h.split;
      gathered = λ s. absurd (false≢true (sym s ∙ failed));
      same = λ s. absurd (false≢true (sym s ∙ failed));
      failed = λ f. rise_on before faults faults' (h.same sound) rises;
      later = omega (arith, later, h.later);
    }

-- a piece was put where nothing was gathered
pub passed : (old held held' : Option (List ℕ)) (before faults faults' : ℕ) (g g' : Gathered) (bytes piece : List ℕ) → g.failed ≡ false → g.len ≡ 0 → g'.failed ≡ false → g'.len ≡ 0 → Took held held' piece → faults' ≡ faults → Holds old before held faults g bytes → Holds old before held' faults' g' (bytes ++ piece)
passed old held held' before faults faults' g g' bytes piece sound none sound' none' took same h =
    let empty : h.rest ≡ [] = h.gathered sound ∙ ap (λ n. take n g.bytes) none in record {
      front = h.front ++ piece;
      rest = [];
      took = took_both old held held' h.front piece h.took took;
      split = append-nil (h.front ++ piece) ∙ ap (λ b. b ++ piece) (sym (append-nil h.front) ∙ ap (λ r. h.front ++ r) (sym empty) ∙ h.split);
      gathered = λ s. sym (ap (λ n. take n g'.bytes) none');
      same = λ s. same ∙ h.same sound;
      failed = λ f. absurd (false≢true (sym sound' ∙ f));
      later = omega (arith, same, h.later);
    }

pub half_passed : (old held held' : Option (List ℕ)) (before faults faults' n : ℕ) (g g' : Gathered) (bytes piece : List ℕ) → g.failed ≡ false → g.len ≡ 0 → g'.failed ≡ true → Took held held' (take n piece) → Rises faults faults' → faults ≤ faults' → Holds old before held faults g bytes → Holds old before held' faults' g' (bytes ++ piece)
half_passed old held held' before faults faults' n g g' bytes piece sound none failed took rises later h =
    let empty : h.rest ≡ [] = h.gathered sound ∙ ap (λ n. take n g.bytes) none in
    let all : h.front ≡ bytes = sym (append-nil h.front) ∙ ap (λ r. h.front ++ r) (sym empty) ∙ h.split in record {
      front = h.front ++ take n piece;
      rest = drop n piece;
      took = took_both old held held' h.front (take n piece) h.took took;
      split = append_assoc h.front (take n piece) (drop n piece) ∙ ap (λ r. h.front ++ r) (take-append-drop n piece) ∙ ap (λ b. b ++ piece) all;
      gathered = λ s. absurd (false≢true (sym s ∙ failed));
      same = λ s. absurd (false≢true (sym s ∙ failed));
      failed = λ f. rise_on before faults faults' (h.same sound) rises;
      later = omega (arith, later, h.later);
    }

-- nothing was gathered yet
pub begun : (held : Option (List ℕ)) (faults : ℕ) (g : Gathered) → g.failed ≡ false → g.len ≡ 0 → Holds held faults held faults g []
begun held faults g sound none = record {
  front = [];
  rest = [];
  took = took_none held;
  split = refl;
  gathered = λ s. sym (ap (λ n. take n g.bytes) none);
  same = λ s. refl;
  failed = λ f. absurd (false≢true (sym sound ∙ f));
  later = omega arith;
}

-- all of it was put, or a front
pub written : (old held : Option (List ℕ)) (before faults : ℕ) (g : Gathered) (bytes : List ℕ) (done : Unit {0}) → g.failed ≡ false → g.len ≡ 0 → Holds old before held faults g bytes → Writes old held bytes (Ok done) × WritesBy before faults (Ok done)
written old held before faults g bytes done sound none h =
    let empty : h.rest ≡ [] = h.gathered sound ∙ ap (λ n. take n g.bytes) none in (
      subst (Took old held) (sym (append-nil h.front) ∙ ap (λ r. h.front ++ r) (sym empty) ∙ h.split) h.took,
      record { later = h.later; failed = tt; passed = h.same sound },
    )

pub half_written : (old held : Option (List ℕ)) (before faults : ℕ) (g : Gathered) (bytes : List ℕ) (fault : WriteFault) → g.failed ≡ true → Holds old before held faults g bytes → Writes old held bytes (Err fault) × WritesBy before faults (Err fault)
half_written old held before faults g bytes fault failed h = (
  (length h.front, omega (arith, ap length (sym h.split), length-append h.front h.rest), subst (Took old held) (sym (ap (take (length h.front)) (sym h.split) ∙ take-append_seam h.front h.rest)) h.took),
  record { later = h.later; failed = h.failed failed; passed = tt },
)

pub joined_five : (x a b c d e : List ℕ) → ((((x ++ a) ++ b) ++ c) ++ d) ++ e ≡ x ++ ((((a ++ b) ++ c) ++ d) ++ e)
joined_five x a b c d e = simp append_assoc
