-- `memory::difference` meets its contract. Assumes nothing.
use mathlib.Core.Path.{refl}
use lib.Bits.{bit_xor, xor_lt}
use lib.Count.{ones-le}
use Rattle.memory.specs.Bits.{word_bits}
use Rattle.memory.proofs.difference.Goals as goal

pub returns : goal.returns
returns c =
    let x = c.args in
    (refl, ones-le word_bits (bit_xor x.v x.w) (xor_lt word_bits x.v x.w c.ranges.v.fits c.ranges.w.fits))
