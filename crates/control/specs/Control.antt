-- The layout of CONTROL, which has 16 bits: T bit 5, W bits 6-7, PBH bit 8, PBV bit 9, PP bits
-- 10-14, CD bit 15 (the scope, "Refusal numbers", "One pixel", "Arrays, windows and slices" and
-- "Cache"). Assumes nothing.
use Rattle.std.specs.Prelude.{Bool, ℕ, ◌/◌, ◌%◌, ◌^◌, eqb, ltb}

-- n bits of CONTROL from one on; one bit
abbrev bits : ℕ → ℕ → ℕ → ℕ
bits from n control = control / 2 ^ from % 2 ^ n

abbrev bit : ℕ → ℕ → Bool
bit at control = eqb (bits at 1 control) 1

-- T: bit 5
abbrev pub transparency : ℕ → Bool
transparency control = bit 5 control

-- W: bits 6-7
abbrev pub windowing : ℕ → ℕ
windowing control = bits 6 2 control

-- PBH: bit 8, each row from its right end; PBV: bit 9, rows from the last one up
abbrev pub right_to_left : ℕ → Bool
right_to_left control = bit 8 control

abbrev pub bottom_to_top : ℕ → Bool
bottom_to_top control = bit 9 control

-- PP: bits 10-14, of which 0 to 21 are operations
abbrev pub processing : ℕ → ℕ
processing control = bits 10 5 control

abbrev pub last_operation : ℕ
last_operation = 21

-- CD: bit 15
abbrev pub disabled : ℕ → Bool
disabled control = bit 15 control

-- refusal 12: PP is above 21 (request Eight)
abbrev pub bad_control : ℕ → Bool
bad_control control = ltb last_operation (processing control)
