-- `field::Field::register` meets its contract. Assumes nothing.
use Prim.Native.Nat.{◌+◌, ◌*◌}
use native.Mathlib.Omega.{arith}
use lib.Pow.{pow_mono}
use Rattle.field.proofs.WindowLaws.{one-shifted}
use Rattle.field.proofs.RegisterLaws.{register-taken, register-left, number-lt}
use Rattle.field.proofs.Field.register.Goals as goal

pub overflow_add-result : goal.overflow_add-result
overflow_add-result c =
    let x = c.args.self in
    let b = number-lt c.args.memory.now (16 * x.at + x.s) x.size (omega arith) (omega arith) _ _ c.read-bits.ensures c.taken-top.ensures in
    omega (arith, b, one-shifted x.size (omega arith))

pub overflow_cast-result : goal.overflow_cast-result
overflow_cast-result c =
    let x = c.args.self in
    let b = number-lt c.args.memory.now (16 * x.at + x.s) x.size (omega arith) (omega arith) _ _ c.read-bits.ensures c.taken-top.ensures in
    omega (arith, b, one-shifted x.size (omega arith), pow_mono {i = x.size} {j = 32} (omega arith))

pub returns-then-signed-top : goal.returns-then-signed-top
returns-then-signed-top c =
    let x = c.args.self in
    rw (one-shifted x.size (omega arith))
    (register-taken c.args.memory.now (16 * x.at + x.s) x.size (omega arith) (omega arith) _ _ c.read-bits.ensures c.taken-top.ensures
    c.args.signed c.if-signed-top.true)

pub overflow_cast-result-2 : goal.overflow_cast-result-2
overflow_cast-result-2 c =
    let x = c.args.self in
    let b = number-lt c.args.memory.now (16 * x.at + x.s) x.size (omega arith) (omega arith) _ _ c.read-bits.ensures c.taken-top.ensures in
    omega (arith, b, pow_mono {i = x.size} {j = 32} (omega arith))

pub returns : goal.returns
returns c =
    let x = c.args.self in
    register-left c.args.memory.now (16 * x.at + x.s) x.size (omega arith) (omega arith) _ _ c.read-bits.ensures c.taken-top.ensures
    c.args.signed c.if-signed-top.false
