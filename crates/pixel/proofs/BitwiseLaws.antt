-- Bitwise operations: a bit masked by 1, masked twice, complements of a pixel. No contract cites this file. Assumes nothing.
use mathlib.Core.Path.{◌≡◌, refl, ap, subst, ◌∙◌}
use Prim.Native.Nat.{ℕ, ◌+◌, ◌-◌, ◌*◌, ◌/◌, ◌%◌, ◌^◌, ◌≤◌, ◌<◌, min}
use native.Mathlib.Nat.{mod-eq_of_lt}
use native.Mathlib.Omega.{arith}
use lib.Arith.{bin_ind}
use lib.Pow.{high, low, ones_split, ones_lt}
use lib.Bits.{bit_and, bit_xor, and_step, and_shr, and_mask, xor_add_and}
use Rattle.memory.specs.Bits.{bit_of}
use Rattle.memory.proofs.BitLaws.{bit-xor}
use Rattle.pixel.specs.PixelOp.{complement}

pub and_one : {x : ℕ} → x < 2 → bit_and x 1 ≡ x
and_one {x} h = and_mask x 1 ∙ mod-eq_of_lt h

-- ---- masked twice is masked
and-and : (x y : ℕ) → bit_and (bit_and x y) y ≡ bit_and x y
and-and x =
    bin_ind (λ (n : ℕ). (y : ℕ) → bit_and (bit_and n y) y ≡ bit_and n y) (λ y. refl)
    (λ n ih y.
    and_step (bit_and n y) y
    ∙ digits (bit_and n y) (bit_and (n / 2) (y / 2)) (n % 2) (y % 2) (and_step n y)
    (ap (λ (z : ℕ). bit_and z (y / 2)) (and_shr n y 1) ∙ ih (y / 2)) (omega arith))
    x
  where
    digits : (a h u v : ℕ) → a ≡ h * 2 + min u v → {k : ℕ} → k ≡ h → u < 2 → k * 2 + min (a % 2) v ≡ a
    digits a h u v e i l = omega arith

-- ---- complements of a pixel
-- a mask that has no bit above top's
pub complement-le : (x top : ℕ) → complement top (bit_and x top) ≤ top
complement-le x top = omega (arith, xor_add_and (bit_and x top) top, and-and x top)

bit-ones : (p j : ℕ) → j < p → bit_of (2 ^ p - 1) j ≡ 1
unfolding bit_of
bit-ones p j h =
    let e : (p - (j + 1) + 1) + j ≡ p = omega arith in
    subst (λ (n : ℕ). (2 ^ n - 1) / 2 ^ j % 2 ≡ 1) e
    (ap (λ (y : ℕ). y / 2 ^ j % 2) (ones_split (p - (j + 1) + 1) j)
    ∙ ap (λ (y : ℕ). y % 2) (high (2 ^ (p - (j + 1) + 1) - 1) j (ones_lt j))
    ∙ ap (λ (y : ℕ). y % 2) (ones_split (p - (j + 1)) 1)
    ∙ low (2 ^ (p - (j + 1)) - 1) 1 (ones_lt 1))

pub bit-complement : (p x j : ℕ) → j < p → bit_of (complement (2 ^ p - 1) x) j ≡ bit_xor (bit_of x j) 1
bit-complement p x j h = bit-xor x (2 ^ p - 1) j ∙ ap (bit_xor (bit_of x j)) (bit-ones p j h)
