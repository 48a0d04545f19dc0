-- How the bytes of a disk in memory go with its changes.
use Rattle.std.specs.Prelude.{Result, Ok, Err, OnOk, OnErr}
use Rattle.std.proofs.Common.{◌≡◌, ℕ, ◌+◌, ◌-◌, ◌≤◌, max, take, drop, replicate, inl, inr, arith, length, List, if◌then◌else◌, Some, subst, [], ◌∷◌, ◌++◌, Bool, true, false, sym, ◌∙◌, ap}
use Rattle.std.proofs.lemmas.Bool.{cases_eq}
use Rattle.std.proofs.lemmas.List.{take-replicate, drop_all, nil_from_length, append-nil}
use Rattle.day_journal.specs.declared.memory_disk.Change.{Change}
use Rattle.day_journal.specs.Disks.{written, reaching, reads_written, Torn, Follows, Within, AsRead, Elapses}
use Rattle.day_journal.specs.MemoryDisks.{reading, IsImage, LeftSince}
use Rattle.day_journal.specs.MemoryDiskLaws.{reading_write, reading_sync, synced, synced_within, follows_write, elapses_more, elapses_same, torn_same, take_over, length-reaching, length-zeros}

pub kept_by_sync : {T E : Type 0} (r : Result T E) (bytes start : List ℕ) (old new : List Change) → bytes ≡ reading start old
    → OnOk r (new ≡ old ++ Change.Sync ∷ []) → OnErr r (new ≡ old) → bytes ≡ reading start new
kept_by_sync (Ok x) bytes start old new is ok err = is ∙ sym (reading_sync old start) ∙ ap (reading start) (sym ok)
kept_by_sync (Err e) bytes start old new is ok err = is ∙ ap (reading start) (sym err)

pub kept_by_lost : {T E : Type 0} (r : Result T E) (bytes start : List ℕ) (at : ℕ) (piece : List ℕ) (old new : List Change) → bytes ≡ reading start old
    → OnOk r (new ≡ old ++ Change.Write at piece false ∷ []) → OnErr r (new ≡ old) → bytes ≡ reading start new
kept_by_lost (Ok x) bytes start at piece old new is ok err = is ∙ sym (reading_write old start at piece false) ∙ ap (reading start) (sym ok)
kept_by_lost (Err e) bytes start at piece old new is ok err = is ∙ ap (reading start) (sym err)

pub kept_by_write : (bytes after start : List ℕ) (at : ℕ) (piece kept : List ℕ) (old new : List Change) → bytes ≡ reading start old → after ≡ written at piece bytes → kept ≡ piece
    → new ≡ old ++ Change.Write at kept true ∷ [] → after ≡ reading start new
kept_by_write bytes after start at piece kept old new is wrote same added =
    wrote ∙ ap (written at piece) is ∙ ap (λ (p : List ℕ). written at p (reading start old)) (sym same) ∙ sym (reading_write old start at kept true) ∙ ap (reading start) (sym added)

-- what the trait asks of a sync, a write and a lost write, over states with the same start
pub record AfterSync (s0 : List ℕ) (cs : List Change) (s1 : List ℕ) (ds : List Change) : Type 0 where
  pub durable : AsRead (Some (reading s1 ds)) (IsImage s1 ds)
  pub same : Some (reading s1 ds) ≡ Some (reading s0 cs)
  pub crash : Within (IsImage s0 cs) (IsImage s1 ds)

pub after_sync : (s0 s1 : List ℕ) (cs ds : List Change) → s1 ≡ s0 → ds ≡ cs ++ Change.Sync ∷ [] → AfterSync s0 cs s1 ds
after_sync s0 s1 cs ds start added =
    subst (λ (d : List Change). AfterSync s0 cs s1 d) (sym added) (subst (λ (s : List ℕ). AfterSync s0 cs s (cs ++ Change.Sync ∷ [])) (sym start) (record {
      durable = λ c left. ap Some (reading_sync cs s0) ∙ synced s0 cs c left;
      same = ap Some (reading_sync cs s0);
      crash = synced_within s0 cs;
    }))

pub record AfterWrite (at : ℕ) (piece : List ℕ) (done : Bool) (s0 : List ℕ) (cs : List Change) (s1 : List ℕ) (ds : List Change) : Type 0 where
  pub written : Some (reading s1 ds) ≡ (if done then reads_written at piece (Some (reading s0 cs)) else Some (reading s0 cs))
  pub crash : Follows (Torn at (length piece)) (IsImage s0 cs) (IsImage s1 ds)
  pub time : Elapses (length cs) (length ds) (LeftSince s0 cs) (LeftSince s1 ds) (IsImage s1 ds)

reads_after : (done : Bool) (at : ℕ) (piece start : List ℕ) (cs : List Change) → Some (reading start (cs ++ Change.Write at piece done ∷ [])) ≡ (if done then reads_written at piece (Some (reading start cs)) else Some (reading start cs))
reads_after true at piece start cs = ap Some (reading_write cs start at piece true)
reads_after false at piece start cs = ap Some (reading_write cs start at piece false)

pub after_write : (at : ℕ) (piece : List ℕ) (done : Bool) (s0 s1 : List ℕ) (cs ds : List Change) → s1 ≡ s0 → ds ≡ cs ++ Change.Write at piece done ∷ [] → AfterWrite at piece done s0 cs s1 ds
after_write at piece done s0 s1 cs ds start added =
    subst (λ (d : List Change). AfterWrite at piece done s0 cs s1 d) (sym added) (subst (λ (s : List ℕ). AfterWrite at piece done s0 cs s (cs ++ Change.Write at piece done ∷ [])) (sym start) (record {
      written = reads_after done at piece s0 cs;
      crash = follows_write s0 cs at piece done;
      time = elapses_more s0 cs (Change.Write at piece done);
    }))

-- where nothing changed, a write may have been cut before its first byte
pub follows_none : (at n : ℕ) (s0 s1 : List ℕ) (cs ds : List Change) → s1 ≡ s0 → ds ≡ cs → Follows (Torn at n) (IsImage s0 cs) (IsImage s1 ds)
follows_none at n s0 s1 cs ds start same =
    subst (λ (d : List Change). Follows (Torn at n) (IsImage s0 cs) (IsImage s1 d)) (sym same) (subst (λ (s : List ℕ). Follows (Torn at n) (IsImage s0 cs) (IsImage s cs)) (sym start) (λ c left. (c, left, torn_same at n c)))

pub follows_lost : {T E : Type 0} (r : Result T E) (at : ℕ) (piece s0 s1 : List ℕ) (cs ms ds : List Change) → s1 ≡ s0 → ms ≡ cs
    → OnOk r (ds ≡ ms ++ Change.Write at piece false ∷ []) → OnErr r (ds ≡ ms) → Follows (Torn at (length piece)) (IsImage s0 cs) (IsImage s1 ds)
follows_lost (Ok x) at piece s0 s1 cs ms ds start same ok err = let after = after_write at piece false s0 s1 cs ds start (ok ∙ ap (λ (l : List Change). l ++ Change.Write at piece false ∷ []) same) in after.crash
follows_lost (Err e) at piece s0 s1 cs ms ds start same ok err = follows_none at (length piece) s0 s1 cs ds start (err ∙ same)

pub elapses_none : (s0 s1 : List ℕ) (cs ds : List Change) → s1 ≡ s0 → ds ≡ cs → Elapses (length cs) (length ds) (LeftSince s0 cs) (LeftSince s1 ds) (IsImage s1 ds)
elapses_none s0 s1 cs ds start same =
    subst (λ (d : List Change). Elapses (length cs) (length d) (LeftSince s0 cs) (LeftSince s1 d) (IsImage s1 d)) (sym same) (subst (λ (s : List ℕ). Elapses (length cs) (length cs) (LeftSince s0 cs) (LeftSince s cs) (IsImage s cs)) (sym start) (elapses_same s0 cs))

pub elapses_lost : {T E : Type 0} (r : Result T E) (at : ℕ) (piece s0 s1 : List ℕ) (cs ms ds : List Change) → s1 ≡ s0 → ms ≡ cs
    → OnOk r (ds ≡ ms ++ Change.Write at piece false ∷ []) → OnErr r (ds ≡ ms) → Elapses (length cs) (length ds) (LeftSince s0 cs) (LeftSince s1 ds) (IsImage s1 ds)
elapses_lost (Ok x) at piece s0 s1 cs ms ds start same ok err = let after = after_write at piece false s0 s1 cs ds start (ok ∙ ap (λ (l : List Change). l ++ Change.Write at piece false ∷ []) same) in after.time
elapses_lost (Err e) at piece s0 s1 cs ms ds start same ok err = elapses_none s0 s1 cs ds start (err ∙ same)

-- a longer run of zeros behind a file changes nothing in front
front_grown : (at end : ℕ) (file : List ℕ) → at ≤ end → take at (reaching end file) ≡ take at (reaching at file)
front_grown at end file le =
    let more : take (at - length file) (replicate (end - length file) 0) ≡ replicate (at - length file) 0 = take-replicate (at - length file) (end - length file) 0 (omega (arith, le)) in
    let all : take (at - length file) (replicate (at - length file) 0) ≡ replicate (at - length file) 0 = take-replicate (at - length file) (at - length file) 0 (omega arith) in
    take_over at file (replicate (end - length file) 0) ∙ ap (λ (l : List ℕ). take at file ++ l) (more ∙ sym all) ∙ sym (take_over at file (replicate (at - length file) 0))

back_grown : (end : ℕ) (file : List ℕ) → drop end (reaching end file) ≡ drop end file
back_grown end file = elim (cases_eq (max (length file) end) end) [
  | inl short ↦ drop_all end (reaching end file) (omega (arith, short, length-reaching end file)) ∙ sym (drop_all end file (omega (arith, short)))
  | inr long ↦
      let none : replicate (end - length file) 0 ≡ [] = nil_from_length (replicate (end - length file) 0) (omega (arith, long, length-zeros (end - length file))) in
      ap (λ (l : List ℕ). drop end (file ++ l)) none ∙ ap (drop end) (append-nil file)
]

pub written_grown : (at : ℕ) (piece file : List ℕ) → take at (reaching (at + length piece) file) ++ piece ++ drop (at + length piece) (reaching (at + length piece) file) ≡ written at piece file
written_grown at piece file =
    ap (λ (l : List ℕ). l ++ piece ++ drop (at + length piece) (reaching (at + length piece) file)) (front_grown at (at + length piece) file (omega arith))
    ∙ ap (λ (l : List ℕ). take at (reaching at file) ++ piece ++ l) (back_grown (at + length piece) file)
