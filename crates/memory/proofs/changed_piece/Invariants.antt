-- `memory::changed_piece` meets its contract: the count so far is that of the words from `from` to the one reached. Assumes nothing.
use mathlib.Core.Path.{◌≡◌}
use Prim.Native.Nat.{◌+◌, ◌-◌, ◌*◌, ◌≤◌}
use Rattle.memory.specs.Bits.{word_bits}
use Rattle.memory.specs.Changed.{differing_by_word}
use Rattle.memory.proofs.changed_piece.Given as goal

abbrev pub invariant-loop-i : goal.invariant-loop-i
invariant-loop-i l =
    (differing_by_word l.before l.after l.from + l.bits ≡ differing_by_word l.before l.after l.i)
    × (l.i ≤ l.to)
    × (l.bits + word_bits * l.from ≤ word_bits * l.i)

abbrev pub decreases-loop-i : goal.decreases-loop-i
decreases-loop-i l =
    l.to - l.i
