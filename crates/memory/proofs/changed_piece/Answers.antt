-- `memory::changed_piece` meets its contract: the count so far is that of the words from `from` to the one reached. Assumes nothing.
use mathlib.Core.Path.{sym, ap, ap₂, ◌∙◌}
use Prim.Native.Nat.{◌+◌}
use native.Mathlib.Nat.{add_assoc}
use native.Mathlib.Numerals.{add-one}
use native.Mathlib.Omega.{arith}
use borrow.Author.Rules.{rules}
use Rattle.memory.specs.Changed.{differing_by_word}
use Rattle.memory.proofs.changed_piece.Goals as goal

pub loop-i-preserved : goal.loop-i-preserved
unfolding differing_by_word
loop-i-preserved c =
    let x = c.args in
    let m = x.before.now in
    let m' = x.after.now in
    let one = ap₂ ◌+◌ c.loop-i.invariant.0 c.difference.ensures.0 in (
      sym (add_assoc (differing_by_word m m' x.from) c.loop-i.bits c.difference.result) ∙ one
          ∙ ap (differing_by_word m m') (sym (add-one c.loop-i.i)),
      search rules,
      omega (arith, c.difference.ensures.1),
    )
