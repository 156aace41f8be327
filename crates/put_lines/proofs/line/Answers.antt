-- `put_lines::line` meets its contract: each turn puts one number, and the last one ends the line. Assumes nothing.
use mathlib.Core.Path.{◌≡◌}
use Prim.Native.Nat.{◌-◌, ◌<◌}
use native.Mathlib.Omega.{arith}
use lib.ListN.{length}
use Rattle.std.proofs.lemmas.List.{get_or-take, length-take}
use Rattle.listing.proofs.LoopLaws.{lined-step, lined-end}
use Rattle.put_lines.proofs.line.Goals as goal

pub loop-n-preserved : goal.loop-n-preserved
loop-n-preserved c =
    let ns = c.args.ns.now in
    let i = c.loop-n.n-index in
    let below : i < length ns - 1 = omega (arith, length-take (length ns - 1) ns) in
    let e = get_or-take (length ns - 1) ns i 0 below in
    let p = c.number-to.ensures in
    lined-step _ _ _ c.requires.1 _ _ _ c.loop-n.invariant _ _ (omega arith) (rw e at p.value, rw e at p.out_after)

pub returns : goal.returns
returns c =
    let ns = c.args.ns.now in
    let i = c.loop-n.n-index in
    let last : length ns - 1 ≡ i = omega (arith, length-take (length ns - 1) ns, c.loop-n.invariant.inside) in
    let p = c.number.ensures in
    let d = lined-end _ _ _ c.requires.1 _ _ _ c.loop-n.invariant _ _ (omega arith) (rw last at p.value, rw last at p.out_after) in
    record { value = d.0; out_after = d.1 }
