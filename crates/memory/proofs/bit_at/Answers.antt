-- `memory::bit_at` meets its contract. Assumes nothing.
use Rattle.memory.specs.Bits.{bit_of, bit_at}
use Rattle.memory.proofs.bit_at.Goals as goal

pub returns : goal.returns
unfolding bit_of bit_at
returns c =
    rw c.word_at-w.ensures
