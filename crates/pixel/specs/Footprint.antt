-- The bits that a pixel may write (the scope, "Arrays, windows and slices": a drawing may write the
-- unmasked bits of its destination pixels). Assumes nothing.
use Rattle.std.specs.Prelude.{◌≡◌, ℕ, ◌+◌, ◌%◌, ◌≤◌, ◌<◌}
use Rattle.memory.specs.Bits.{word_bits, bit_of}

-- bit address b is that of an unmasked bit of the pixel of P bits at a
pub record Touched (p pmask a b : ℕ) : Type 0 where
  pub from : a ≤ b
  pub to : b < a + p
  pub unmasked : bit_of pmask (b % word_bits) ≡ 0
