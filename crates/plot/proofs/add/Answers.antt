-- `add` meets its contract: the sum's lowest P bits.
use Prim.Native.Nat.{◌+◌}
use Rattle.plot.proofs.WordLaws.{and-top}
use Rattle.plot.proofs.add.Goals as goal

pub returns : goal.returns
returns c =
    rw c.requires.0 (and-top c.args.w.psize (c.args.s + c.args.d))
