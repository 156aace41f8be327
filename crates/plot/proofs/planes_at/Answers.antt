-- `planes_at` meets its contract: the complement of the mask's bits.
use Prim.Native.Nat.{min}
use native.Mathlib.Nat.{min-le_right}
use Rattle.plot.proofs.WordLaws.{complement-shifted}
use Rattle.plot.proofs.planes_at.Goals as goal

pub returns : goal.returns
returns c =
    let a = c.args in
    rw (c.shifted.ensures, c.wide.ensures, c.requires)
    (complement-shifted (min a.d.psize 16) a.d.pmask a.address (min-le_right a.d.psize 16))
