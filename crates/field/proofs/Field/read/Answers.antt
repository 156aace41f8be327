-- `field::Field::read` meets its contract. Assumes nothing.
use mathlib.Core.Path.{sym, ◌∙◌}
use native.Mathlib.Omega.{arith}
use Rattle.field.proofs.WindowLaws.{field-read}
use Rattle.field.proofs.Field.read.Goals as goal

pub returns : goal.returns
returns c =
    let x = c.args.self in
    c.taken.ensures ∙ rw c.window.ensures (sym (field-read c.args.memory.now x.at x.count x.s x.size (omega arith)))
