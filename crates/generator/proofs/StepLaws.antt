-- Laws of `specs/Step.antt`: each part of a step is injective on 64 bits, and so is a step. Assumes nothing.
use mathlib.Core.Path.{◌≡◌, refl, sym, ap, ◌∙◌}
use Prim.Native.Nat.{ℕ, zero, suc, ◌+◌, ◌*◌, ◌/◌, ◌-◌, ◌%◌, ◌^◌, ◌<◌, ◌≤◌}
use native.Mathlib.Nat.{mod-lt, mod-one, mod-eq_of_lt, sub-add_cancel, mul-add-mod_self_right, pow-suc, mul_assoc, mul_comm, mul_left_comm}
use native.Mathlib.Nat.{add-mul}
use native.Mathlib.Omega.{arith}
use lib.Arith.{bin_ind}
use lib.Pow.{pow_pos, split, mod-mod-pow}
use lib.Bits.{bit_xor, xor_shr, xor_mod, xor_lt, xor_self}
use Rattle.generator.specs.Step.{xor_left, xor_right, stepped}
use Rattle.generator.proofs.XorLaws.{xor-cancel}

-- ---- xor left: equal from the lowest bit upwards

-- the j + 1 low bits of a number shifted left are those of its j low bits shifted left
shl-mod : (x j k : ℕ) → x * 2 ^ suc k % 2 ^ suc j ≡ x % 2 ^ j * 2 ^ suc k % 2 ^ suc j
shl-mod x j k = ap (λ (v : ℕ). v % 2 ^ suc j) parts ∙ mul-add-mod_self_right (x / 2 ^ j * 2 ^ k) (2 ^ suc j) (x % 2 ^ j * 2 ^ suc k)
  where
    parts : x * 2 ^ suc k ≡ x / 2 ^ j * 2 ^ k * 2 ^ suc j + x % 2 ^ j * 2 ^ suc k
    parts = ap (λ (v : ℕ). v * 2 ^ suc k) (sym (split x j)) ∙ simp (add-mul, pow-suc, mul_assoc, mul_comm, mul_left_comm)

shl-low : (x j k : ℕ) → suc j ≤ 64 → x * 2 ^ suc k % 2 ^ 64 % 2 ^ suc j ≡ x % 2 ^ j * 2 ^ suc k % 2 ^ suc j
shl-low x j k h =
    ap (λ (w : ℕ). x * 2 ^ suc k % 2 ^ w % 2 ^ suc j) (sym (sub-add_cancel h))
    ∙ mod-mod-pow (x * 2 ^ suc k) (64 - suc j) (suc j)
    ∙ shl-mod x j k

module _ (k x y : ℕ) (e : xor_left (suc k) x ≡ xor_left (suc k) y) where
  xor_left-low : (j : ℕ) → j ≤ 64 → x % 2 ^ j ≡ y % 2 ^ j
  xor_left-low zero h = mod-one x ∙ sym (mod-one y)
  xor_left-low (suc j) h =
      xor-cancel _ _ _ _
      (shl-low x j k h ∙ ap (λ (v : ℕ). v * 2 ^ suc k % 2 ^ suc j) (xor_left-low j (omega arith)) ∙ sym (shl-low y j k h))
      (sym (xor_mod x _ (suc j)) ∙ ap (λ (v : ℕ). v % 2 ^ suc j) e ∙ xor_mod y _ (suc j))

xor_left-inj : (k x y : ℕ) → x < 2 ^ 64 → y < 2 ^ 64 → xor_left (suc k) x ≡ xor_left (suc k) y → x ≡ y
xor_left-inj k x y hx hy e = sym (mod-eq_of_lt hx) ∙ xor_left-low k x y e 64 (omega arith) ∙ mod-eq_of_lt hy

xor_left-lt : (k x : ℕ) → x < 2 ^ 64 → xor_left k x < 2 ^ 64
xor_left-lt k x h = xor_lt 64 x (x * 2 ^ k % 2 ^ 64) h (mod-lt (x * 2 ^ k) (pow_pos 64))

-- ---- xor right: equal from the highest bit downwards

xor_right-half : (x : ℕ) → xor_right 7 x / 2 ≡ xor_right 7 (x / 2)
xor_right-half x = xor_shr x (x / 2 ^ 7) 1 ∙ ap (bit_xor (x / 2)) (omega arith)

xor_right-inj : (x y : ℕ) → xor_right 7 x ≡ xor_right 7 y → x ≡ y
xor_right-inj =
    bin_ind (λ (x : ℕ). (y : ℕ) → xor_right 7 x ≡ xor_right 7 y → x ≡ y)
    (λ y e. omega (arith, xor-cancel (y / 2 ^ 7) (y / 2 ^ 7) (y / 2 ^ 7) y refl (xor_self (y / 2 ^ 7) ∙ e)))
    (λ x ih y e. let h : x / 2 ≡ y / 2 = ih (y / 2) (sym (xor_right-half x) ∙ ap (λ (v : ℕ). v / 2) e ∙ xor_right-half y) in
    xor-cancel (x / 2 ^ 7) (y / 2 ^ 7) x y (omega arith) e)

xor_right-lt : (x : ℕ) → x < 2 ^ 64 → xor_right 7 x < 2 ^ 64
xor_right-lt x h = xor_lt 64 x (x / 2 ^ 7) h (omega arith)

-- ---- a step

pub stepped-inj : (x y : ℕ) → x < 2 ^ 64 → y < 2 ^ 64 → stepped x ≡ stepped y → x ≡ y
unfolding stepped
stepped-inj x y hx hy e =
    xor_left-inj 12 x y hx hy
    (xor_right-inj _ _ (xor_left-inj 16 _ _ (xor_right-lt _ (xor_left-lt 13 x hx)) (xor_right-lt _ (xor_left-lt 13 y hy)) e))

pub stepped-lt : (x : ℕ) → x < 2 ^ 64 → stepped x < 2 ^ 64
unfolding stepped
stepped-lt x h = xor_left-lt 17 _ (xor_right-lt _ (xor_left-lt 13 x h))
