-- log2 of a pitch, and rotations in 32 bits (003 section 4.3.1, figure 4-11; request Four). Assumes
-- nothing.
use Rattle.std.specs.Prelude.{ℕ, ◌-◌, ◌*◌, ◌/◌, ◌%◌, ◌^◌}
use Rattle.std.specs.Int.Bits.{bit_or}
use Rattle.std.specs.Int.Count.{count_leading_zeros}

-- log2 of a power of two below 2^32; of other numbers, which no pitch is, the place of the highest
-- bit, and of 0 it is 0
abbrev pub log2 : ℕ → ℕ
log2 pitch = 31 - count_leading_zeros 32 pitch

-- a number of 32 bits whose bits past bit 31 come round
abbrev pub come_round : ℕ → ℕ
come_round n = bit_or (n % 2 ^ 32) (n / 2 ^ 32)

-- a number of 32 bits rotated left
abbrev pub rotated_left : ℕ → ℕ → ℕ
rotated_left places n = come_round (n * 2 ^ (places % 32))
