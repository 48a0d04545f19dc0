use Rattle.std.proofs.Common.{ap, sym, ◌∙◌, ◌∷◌, Some}
use Rattle.atomic_table.specs.Table.{rest}
use Rattle.turnstile.proofs.turnstile.Turnstile.run_there.Goals as goal

pub slot_mut-requires : goal.slot_mut-requires
slot_mut-requires g c = let h = c.requires.hand in (c.requires.seat ∙ sym (ap (λ t. t.id) c.self.view_is), (Some h.0, h.1 ∙ ap (λ l. (0, Some h.0) ∷ rest l) (sym h.1)))
