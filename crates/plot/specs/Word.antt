-- A word with a result in the place of some bits. The scope knows nothing of it. Assumes nothing.
use Rattle.std.specs.Prelude.{ℕ, ◌+◌, ◌-◌, ◌*◌, ◌%◌, ◌^◌}
use Rattle.std.specs.Int.Bits.{bit_and}

-- the word w with the enabled bits of its pixel at address a taken out, and r in their place
unfoldable pub replaced : ℕ → ℕ → ℕ → ℕ → ℕ
replaced w a planes r = (w - bit_and w (planes * 2 ^ (a % 16)) + r * 2 ^ (a % 16)) % 2 ^ 16
