-- `values::block_at` meets its contract. The invariant: the values read and those left are all the values.
use Rattle.std.proofs.Common.{rules}
use Prim.Native.Nat.{◌<◌, ◌≤◌}
use native.Mathlib.Omega.{arith}
use lib.ListN.{length}
use Rattle.values.specs.Block.{block_size}
use Rattle.text.proofs.TextLaws.{part-end-le}
use Rattle.values.proofs.BlockLaws.{nothing-filled, fill-test, filled_next, filled-end}
use Rattle.values.proofs.block_at.Goals as goal

-- there is room, and the place is one of the line
tested-2 : (c : goal.After-part_end-end) → (c.loop-count.count < block_size) × (c.loop-count.p ≤ length c.args.line.now)
tested-2 c =
    let t = fill-test c.loop-count.count _ c.loop-count.p (length c.args.line.now) c.loop-count-test.true in
    (omega (arith, t.0), t.1)

-- there is room, and the place is one of the line
tested : (c : goal.After-is_none-bad) → (c.loop-count.count < block_size) × (c.loop-count.p ≤ length c.args.line.now)
tested c =
    let t = fill-test c.loop-count.count _ c.loop-count.p (length c.args.line.now) c.loop-count-test.true in
    (omega (arith, t.0), t.1)

pub loop-count-init : goal.loop-count-init
loop-count-init c =
    nothing-filled _ _ _

pub slice_bounds-parse-end : goal.slice_bounds-parse-end
slice_bounds-parse-end c =
    part-end-le 9 _ _ _ c.part_end-end.ensures (tested-2 c).1

pub loop-count-preserved : goal.loop-count-preserved
loop-count-preserved c =
    let t = tested c in
    filled_next c.loop-count.invariant _ _ c.parse-number.result _ c.part_end-end.ensures t.1 c.parse-number.ensures
    c.unwrap_or-v.ensures (search rules) t.0

pub returns : goal.returns
returns c =
    filled-end c.loop-count.invariant c.loop-count-test.false
