-- `field::Field::write` meets its contract. Assumes nothing.
use mathlib.Core.Path.{ap, ◌∙◌}
use Prim.Native.Nat.{ℕ, ◌*◌}
use native.Mathlib.Omega.{arith}
use Rattle.std.proofs.Common.{rules}
use Rattle.memory.specs.Bits.{with_bits, with_field}
use Rattle.memory.proofs.MemoryLaws.{memory-lent}
use Rattle.field.proofs.WindowLaws.{window-lt, field-written}
use Rattle.field.proofs.Field.write.Goals as goal

pub put-w-requires : goal.put-w-requires
put-w-requires c =
    let x = c.args.self in
    (omega arith, omega arith, rw c.window-v.ensures (window-lt c.args.memory.now x.at x.count (omega arith)))

pub store-requires-clause-words : goal.store-requires-clause-words
store-requires-clause-words c =
    memory-lent _ (λ i. search rules)

pub returns : goal.returns
returns c =
    let x = c.args.self in
    let m = c.args.memory.now in
    c.store.ensures
    ∙ ap (with_field m (16 * x.at) (16 * x.count))
    (c.put-w.ensures ∙ ap (λ (v : ℕ). with_bits v x.s x.size c.args.x) c.window-v.ensures)
    ∙ field-written m x.at x.count x.s x.size (omega arith) c.args.x (memory-lent m (λ i. search rules)) (omega arith)
