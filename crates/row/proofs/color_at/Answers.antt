-- `color_at` meets its contract: a bit is 0 or 1.
use Rattle.row.proofs.SourceLaws.{bit_at_lt}
use Rattle.row.proofs.color_at.Goals as goal

pub bounds-colors-bit : goal.bounds-colors-bit
bounds-colors-bit c =
    rw c.bit_at-bit.ensures (bit_at_lt _ _)
