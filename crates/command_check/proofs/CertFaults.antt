-- The fault of bytes that are no certificate is one.
use Rattle.std.proofs.Common.{◌≡◌, ℕ, ◌+◌, inl, inr, List, ◌∷◌, sym, ap, ◌∙◌}
use Rattle.formats.specs.Following.{FailsAt}
use Rattle.formats.proofs.Following.{no_cut, no_fault}
use Rattle.dual_cert.specs.Refusals.{DoesNotFollow, Follows, HasMore, IsRefusal, IsWhole, Told, nothing}
use Rattle.dual_cert.specs.declared.fault.CertFault.{CertFault}
use Rattle.dual_cert.proofs.Documents.{is_end}
use Rattle.command_check.proofs.Places.{never_cut, one_number, same_whole}

fails_not : (told next : Told) (line : List ℕ) → DoesNotFollow told line → Follows told line next → ⊥
fails_not told next line fails follows = fails next follows

-- nothing fails in front of more bytes than a whole certificate has
no_line_in : (rest : List ℕ) (n m : ℕ) → FailsAt Follows nothing IsWhole DoesNotFollow rest n → HasMore rest m → ⊥
no_line_in rest n m fails more =
    no_fault Follows IsWhole is_end DoesNotFollow fails_not nothing more.told more.lines (more.byte ∷ more.rest) rest n more.whole more.before more.document fails

pub one_cert_line : (rest : List ℕ) (n m : ℕ) → IsRefusal rest (CertFault.Line n) → IsRefusal rest (CertFault.Line m) → n ≡ m
one_cert_line rest n m (inl a) (inl b) = one_number Follows is_end.grammar nothing IsWhole DoesNotFollow DoesNotFollow fails_not fails_not rest n m a b
one_cert_line rest n m (inl a) (inr b) = absurd (no_line_in rest n m a b)
one_cert_line rest n m (inr a) (inl b) = absurd (no_line_in rest m n b a)
one_cert_line rest n m (inr a) (inr b) =
    a.number
    ∙ ap (λ (k : ℕ). k + 1) (same_whole Follows IsWhole is_end nothing a.told b.told a.lines b.lines (a.byte ∷ a.rest) (b.byte ∷ b.rest) a.whole b.whole a.before b.before (sym a.document ∙ b.document))
    ∙ sym b.number

pub line_or_cut : (rest : List ℕ) (n : ℕ) → IsRefusal rest (CertFault.Line n) → IsRefusal rest CertFault.Cut → ⊥
line_or_cut rest n (inl fails) cut = never_cut Follows is_end.grammar nothing IsWhole DoesNotFollow DoesNotFollow fails_not fails_not rest n fails cut
line_or_cut rest n (inr more) cut = no_cut Follows IsWhole is_end nothing more.told more.lines (more.byte ∷ more.rest) rest more.whole more.before more.document cut
