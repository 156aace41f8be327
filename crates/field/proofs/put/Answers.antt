-- `field::put` meets its contract. Assumes nothing.
use mathlib.Core.Path.{◌≡◌, ap, ◌∙◌}
use Prim.Native.Nat.{ℕ, ◌+◌, ◌-◌, ◌*◌, ◌/◌, ◌%◌, ◌^◌}
use native.Mathlib.Nat.{lt_of_lt_of_le}
use native.Mathlib.Omega.{arith}
use lib.Pow.{pow_mono}
use Rattle.memory.specs.Bits.{with_bits}
use Rattle.memory.proofs.BitLaws.{with_bits-by-sum, with_bits-lt}
use Rattle.field.proofs.WindowLaws.{shifted}
use Rattle.field.proofs.put.Goals as goal

-- the old bits, and the new ones, shifted to their place
old : (c : goal.After-low) → let x = c.args in c.taken.result * 2 ^ x.s % 2 ^ 64 ≡ x.v / 2 ^ x.s % 2 ^ x.n * 2 ^ x.s
old c =
    let x = c.args in
    ap (λ (t : ℕ). t * 2 ^ x.s % 2 ^ 64) c.taken.ensures ∙ shifted x.s x.n (x.v / 2 ^ x.s) (omega arith) (omega arith)

new : (c : goal.After-low) → let x = c.args in c.low.result * 2 ^ x.s % 2 ^ 64 ≡ x.x % 2 ^ x.n * 2 ^ x.s
new c =
    let x = c.args in
    ap (λ (t : ℕ). t * 2 ^ x.s % 2 ^ 64) c.low.ensures ∙ shifted x.s x.n x.x (omega arith) (omega arith)

sum : (c : goal.After-low) → let x = c.args in
    x.v - c.taken.result * 2 ^ x.s % 2 ^ 64 + c.low.result * 2 ^ x.s % 2 ^ 64 ≡ with_bits x.v x.s x.n x.x
sum c =
    let x = c.args in rw (old c, new c) (with_bits-by-sum x.v x.s x.n x.x)

pub overflow_add-result : goal.overflow_add-result
overflow_add-result c =
    let x = c.args in
    let small = with_bits-lt 48 x.v x.s x.n x.x (omega arith) (omega arith) in
    record { fits = rw (sum c) (lt_of_lt_of_le small (pow_mono {i = 48} {j = 64} (omega arith))) }

pub returns : goal.returns
returns c =
    sum c
