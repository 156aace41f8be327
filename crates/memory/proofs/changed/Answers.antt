-- `memory::changed` meets its contract. Assumes nothing.
use Rattle.memory.specs.Changed.{counted}
use Rattle.memory.proofs.changed.Goals as goal

pub returns-then-no_memory : goal.returns-then-no_memory
unfolding counted
returns-then-no_memory c =
    rw (← c.no_memory.ensures, ← c.no_memory-2.ensures, c.if-no_memory.true)

pub returns : goal.returns
unfolding counted
returns c =
    rw (← c.no_memory.ensures, ← c.no_memory-2.ensures, c.if-no_memory.false, c.changed_bits.ensures)
