-- `field::low` meets its contract. Assumes nothing.
use lib.Bits.{and_mask}
use Rattle.field.proofs.WindowLaws.{one-shifted}
use Rattle.field.proofs.low.Goals as goal

pub returns : goal.returns
returns c =
    rw (one-shifted c.args.n c.requires) (and_mask _ _)
