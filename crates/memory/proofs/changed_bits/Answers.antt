-- `memory::changed_bits` meets its contract: the count so far is that of the words reached. Assumes nothing.
use mathlib.Core.Path.{◌≡◌, ap, ◌∙◌}
use Prim.Native.Nat.{◌+◌}
use native.Mathlib.Omega.{arith}
use borrow.Author.Rules.{rules}
use Rattle.memory.specs.Changed.{differing_by_word}
use Rattle.memory.proofs.MemoryLaws.{memory-lent}
use Rattle.memory.proofs.ChangedLaws.{by-word-le}
use Rattle.memory.proofs.changed_bits.Goals as goal

pub loop-i-init : goal.loop-i-init
unfolding differing_by_word
loop-i-init c =
    search rules

pub overflow_add-bits : goal.overflow_add-bits
overflow_add-bits c =
    let counted : let x = c.args in c.loop-i.bits + c.changed_piece.result
    ≡ differing_by_word x.before.now x.after.now (c.loop-i.i + c.lesser.result) = ap
    (λ n. n + c.changed_piece.result) c.loop-i.invariant.0 ∙ c.changed_piece.ensures in
    let m = memory-lent c.args.before.now (λ i. (c.type_inv.before i).fits) in
    let m' = memory-lent c.args.after.now (λ i. (c.type_inv.after i).fits) in
    omega (arith, counted, by-word-le m m' (c.loop-i.i + c.lesser.result))
