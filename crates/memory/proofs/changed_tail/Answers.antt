-- `memory::changed_tail` meets its contract: the count so far is that of the words reached. Assumes nothing.
use mathlib.Core.Path.{◌≡◌, sym, ap, ap₂, ◌∙◌}
use Prim.Native.Nat.{◌+◌, max}
use native.Mathlib.Numerals.{add-one}
use native.Mathlib.Omega.{arith}
use borrow.Author.Rules.{rules}
use lib.ListN.{length}
use Rattle.memory.specs.Changed.{word_difference, differing_by_word}
use Rattle.memory.proofs.MemoryLaws.{memory-lent}
use Rattle.memory.proofs.ChangedLaws.{changed_bits-by-word, by-word-le}
use Rattle.memory.proofs.changed_tail.Goals as goal

pub overflow_add-bits : goal.overflow_add-bits
unfolding differing_by_word
overflow_add-bits c =
    let counted : let x = c.args in c.loop-i.bits + c.difference.result
    ≡ differing_by_word x.before.now x.after.now (c.loop-i.i + 1) = let x = c.args in
    let one = c.difference.ensures.0 ∙ ap₂ word_difference c.word_at.ensures c.word_at-in-loop-i.ensures in
    ap₂ ◌+◌ c.loop-i.invariant.0 one ∙ ap (differing_by_word x.before.now x.after.now) (sym (add-one c.loop-i.i)) in
    let m = memory-lent c.args.before.now (λ i. (c.type_inv.before i).fits) in
    let m' = memory-lent c.args.after.now (λ i. (c.type_inv.after i).fits) in
    omega (arith, counted, by-word-le m m' (c.loop-i.i + 1))

pub loop-i-preserved : goal.loop-i-preserved
unfolding differing_by_word
loop-i-preserved c =
    let counted : let x = c.args in c.loop-i.bits + c.difference.result
    ≡ differing_by_word x.before.now x.after.now (c.loop-i.i + 1) = let x = c.args in
    let one = c.difference.ensures.0 ∙ ap₂ word_difference c.word_at.ensures c.word_at-in-loop-i.ensures in
    ap₂ ◌+◌ c.loop-i.invariant.0 one ∙ ap (differing_by_word x.before.now x.after.now) (sym (add-one c.loop-i.i)) in
    (counted, search rules, search rules, search rules)

pub returns : goal.returns
returns c =
    let x = c.args in
    let m = memory-lent x.before.now (λ i. (c.type_inv.before i).fits) in
    let m' = memory-lent x.after.now (λ i. (c.type_inv.after i).fits) in
    let e : c.loop-i.i ≡ max (length x.before.now) (length x.after.now) = omega arith in
    c.loop-i.invariant.0 ∙ ap (differing_by_word x.before.now x.after.now) e ∙ sym (changed_bits-by-word m m')
