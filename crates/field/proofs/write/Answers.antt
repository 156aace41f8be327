-- `field::write` meets its contract. Assumes nothing.
use mathlib.Core.Path.{sym, ◌∙◌}
use native.Mathlib.Omega.{arith}
use Rattle.field_refusal.proofs.RefusalLaws.{accepted}
use Rattle.field.proofs.write.Goals as goal

pub write_bits-requires : goal.write_bits-requires
write_bits-requires c =
    let h = accepted _ _ _ (sym c.refusal_of.ensures ∙ c.in_ok-refusal_of.was) in
    (omega arith, omega arith, omega arith)
