-- `with_values` meets its contract: at most 64 ^ 8 points. Assumes nothing.
use Prim.Native.Nat.{◌≤◌}
use native.Mathlib.Nat.{mul-le-mul, pow-le-pow_right, le_trans}
use native.Mathlib.Omega.{arith}
use Rattle.plan.proofs.with_values.Goals as goal

pub overflow_mul-plan : goal.overflow_mul-plan
overflow_mul-plan c =
    let (name, few, axes, points) = c.requires in
    let seven : c.args.s.plan.axes ≤ 7 = omega (arith, axes) in
    omega (arith, mul-le-mul (le_trans points (pow-le-pow_right (omega arith) seven)) few)
