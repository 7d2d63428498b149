use Rattle.std.proofs.Common.{rules, ℕ, List, ◌∷◌, sym, ap, ◌∙◌}
use Rattle.std.specs.Prelude.{Option, Some}
use Rattle.atomic_table.specs.Table.{rest}
use Rattle.tag_lock.proofs.steps.lift.Goals as goal

pub exchange-slot-requires : goal.exchange-slot-requires
exchange-slot-requires g c =
    let out = c.requires.full in
    (search rules, (Some out.0, out.1 ∙ sym (ap (λ (l : List (ℕ × Option g.row.V.Denot)). (0, Some out.0) ∷ rest l) out.1)))
