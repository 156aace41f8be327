-- `subtract` meets its contract: the difference's lowest P bits.
use mathlib.Core.Path.{◌≡◌}
use Prim.Native.Nat.{suc, ◌+◌, ◌-◌}
use native.Mathlib.Omega.{arith}
use Rattle.pixel.specs.Pixel.{top_of}
use Rattle.plot.proofs.WordLaws.{and-top}
use Rattle.plot.proofs.subtract.Goals as goal

pub returns : goal.returns
returns c =
    let x = c.args in
    let e : x.d + (x.top - x.s) + 1 ≡ x.d + suc x.top - x.s = omega (arith, c.requires.1) in
    rw (e, c.requires.0) (and-top x.w.psize (x.d + suc (top_of x.w.psize) - x.s))
