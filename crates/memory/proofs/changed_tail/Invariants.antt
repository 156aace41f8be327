-- `memory::changed_tail` meets its contract: the count so far is that of the words reached. Assumes nothing.
use mathlib.Core.Path.{◌≡◌}
use Prim.Native.Nat.{◌-◌, ◌≤◌, max}
use lib.ListN.{length}
use Rattle.memory.specs.Bits.{most_words}
use Rattle.memory.specs.Changed.{differing_by_word}
use Rattle.memory.proofs.changed_tail.Given as goal

abbrev pub invariant-loop-i : goal.invariant-loop-i
invariant-loop-i l =
    (l.bits ≡ differing_by_word l.before l.after l.i)
    × (l.i ≤ l.end)
    × (l.end ≡ max (length l.before) (length l.after))
    × (l.end ≤ most_words)

abbrev pub decreases-loop-i : goal.decreases-loop-i
decreases-loop-i l =
    l.end - l.i
