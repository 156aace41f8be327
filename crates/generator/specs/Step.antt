-- The generator of images (the scope, "Plans and images"). Assumes nothing.
use Rattle.std.specs.Prelude.{ℕ, ◌*◌, ◌/◌, ◌%◌, ◌^◌}
use Rattle.std.specs.Int.Bits.{bit_xor}

-- x xor (x shifted left k, low 64 bits)
abbrev pub xor_left : ℕ → ℕ → ℕ
xor_left k x = bit_xor x (x * 2 ^ k % 2 ^ 64)

-- x xor (x shifted right k)
abbrev pub xor_right : ℕ → ℕ → ℕ
xor_right k x = bit_xor x (x / 2 ^ k)

-- the generator advanced at a draw: xor left 13, then xor right 7, then xor left 17
unfoldable pub stepped : ℕ → ℕ
stepped x =
    let a = xor_left 13 x in
    let b = xor_right 7 a in
    xor_left 17 b
