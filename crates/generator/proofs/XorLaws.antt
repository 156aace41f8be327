-- Laws of `bit_xor` that the kit lacks. Assumes nothing.
use mathlib.Core.Path.{◌≡◌, sym, ap, ◌∙◌}
use Prim.Native.Nat.{ℕ, ◌+◌, ◌/◌, ◌%◌}
use native.Mathlib.Omega.{arith}
use lib.Arith.{bin_ind}
use lib.Bits.{bit_xor, xor_shr, xor_zero_r, xor_add_and}

-- a number is its half and its lowest bit
half-ext : (a b : ℕ) → a / 2 ≡ b / 2 → a % 2 ≡ b % 2 → a ≡ b
half-ext a b h l = omega arith

-- the lowest bit is that of the sum
xor-odd : (a b : ℕ) → bit_xor a b % 2 ≡ (a + b) % 2
xor-odd a b = omega (arith, xor_add_and a b)

-- equal second operands cancel
pub xor-cancel : (c d a b : ℕ) → c ≡ d → bit_xor a c ≡ bit_xor b d → a ≡ b
xor-cancel =
    bin_ind (λ (c : ℕ). (d a b : ℕ) → c ≡ d → bit_xor a c ≡ bit_xor b d → a ≡ b)
    (λ d a b q e. sym (xor_zero_r a) ∙ e ∙ ap (bit_xor b) (sym q) ∙ xor_zero_r b)
    (λ c ih d a b q e. half-ext a b
    (ih (d / 2) (a / 2) (b / 2) (ap (λ (v : ℕ). v / 2) q) (sym (xor_shr a c 1) ∙ ap (λ (v : ℕ). v / 2) e ∙ xor_shr b d 1))
    (omega (arith, xor-odd a c, xor-odd b d, ap (λ (v : ℕ). v % 2) e)))
