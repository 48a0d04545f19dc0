-- The replies to notices, gathered one after another.
use Rattle.std.proofs.Common.{◌≡◌, ◌==◌, ℕ, ◌+◌, ◌≤◌, List, [], ◌∷◌, ◌++◌, length, take, Bool, true, false, ◌&&◌, Option, refl, sym, ap, ◌∙◌, arith, append_assoc, append-nil, length-append}
use Rattle.std.proofs.lemmas.Bool.Decides.{nat_tests}
use Rattle.std.proofs.lemmas.List.{take-append-le}
use Rattle.std.proofs.Math.Seq.{take-append-add}
use Rattle.std.specs.Io.KnownBytes.{append_known}
use Rattle.day_rules.specs.declared.answer.Answer.{Answer}
use Rattle.exchange_http.specs.Running.{outcome_bytes, outcomes_bytes}
use Rattle.exchange_http.proofs.Gathered.{known_more, known_none}

-- some first replies were gathered, and these are left
abbrev pub AreWritten : Bool → Option (List ℕ) → Option (List ℕ) → List (Option Answer) → List (Option Answer) → Type 0
AreWritten close old held outcomes rest =
    (done : List ℕ) × (held ≡ append_known old done) × (done ++ outcomes_bytes close rest ≡ outcomes_bytes close outcomes)

one_more : (close : Bool) (o : Option Answer) (behind : List (Option Answer)) → outcomes_bytes close (o ∷ behind) ≡ outcome_bytes (close && (length behind == 0)) o ++ outcomes_bytes close behind
one_more true o [] = sym (append-nil (outcome_bytes true o))
one_more false o [] = sym (append-nil (outcome_bytes false o))
one_more true o (p ∷ behind) =
    let some : (length (p ∷ behind) == 0) ≡ false = grind (arith, nat_tests) in
    ap (λ (b : Bool). outcome_bytes b o ++ outcomes_bytes true (p ∷ behind)) (sym some)
one_more false o (p ∷ behind) = refl

pub none_written : (close : Bool) (old : Option (List ℕ)) (outcomes : List (Option Answer)) → AreWritten close old old outcomes outcomes
none_written close old outcomes = ([], sym (known_none old), refl)

module _ (close b : Bool) (old held now : Option (List ℕ)) (outcomes rest : List (Option Answer)) (o : Option Answer) (behind : List (Option Answer)) (is : rest ≡ o ∷ behind) (last : b ≡ (close && (length behind == 0))) (w : AreWritten close old held outcomes rest) where
  whole : w.0 ++ (outcome_bytes b o ++ outcomes_bytes close behind) ≡ outcomes_bytes close outcomes
  whole =
      ap (λ (l : List ℕ). w.0 ++ l) (ap (λ (c : Bool). outcome_bytes c o ++ outcomes_bytes close behind) last ∙ sym (one_more close o behind) ∙ ap (outcomes_bytes close) (sym is)) ∙ w.2

  -- one reply more
  pub more_written : now ≡ append_known held (outcome_bytes b o) → AreWritten close old now outcomes behind
  more_written took = (
    w.0 ++ outcome_bytes b o,
    took ∙ ap (λ (h : Option (List ℕ)). append_known h (outcome_bytes b o)) w.1 ∙ known_more old w.0 (outcome_bytes b o),
    append_assoc w.0 (outcome_bytes b o) (outcomes_bytes close behind) ∙ whole,
  )

  -- the sink failed within a reply
  pub front_written : (n : ℕ) → n ≤ length (outcome_bytes b o) → now ≡ append_known held (take n (outcome_bytes b o))
      → (k : ℕ) × (k ≤ length (outcomes_bytes close outcomes)) × (now ≡ append_known old (take k (outcomes_bytes close outcomes)))
  front_written n le took =
      let front : take (length w.0 + n) (outcomes_bytes close outcomes) ≡ w.0 ++ take n (outcome_bytes b o) =
      ap (take (length w.0 + n)) (sym whole) ∙ take-append-add w.0 (outcome_bytes b o ++ outcomes_bytes close behind) n
      ∙ ap (λ (l : List ℕ). w.0 ++ l) (take-append-le n (outcome_bytes b o) (outcomes_bytes close behind) le) in (
        length w.0 + n,
        omega (arith, le, ap length whole, length-append w.0 (outcome_bytes b o ++ outcomes_bytes close behind), length-append (outcome_bytes b o) (outcomes_bytes close behind)),
        took ∙ ap (λ (h : Option (List ℕ)). append_known h (take n (outcome_bytes b o))) w.1 ∙ known_more old w.0 (take n (outcome_bytes b o)) ∙ ap (append_known old) (sym front),
      )

pub all_written : (close : Bool) (old held : Option (List ℕ)) (outcomes rest : List (Option Answer)) → length rest ≡ 0 → AreWritten close old held outcomes rest → held ≡ append_known old (outcomes_bytes close outcomes)
all_written close old held outcomes [] none w = w.1 ∙ ap (append_known old) (sym (append-nil w.0) ∙ w.2)
all_written close old held outcomes (o ∷ rest) none w = absurd (omega (arith, none))
