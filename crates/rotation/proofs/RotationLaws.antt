-- Rotations in 32 bits, by bits that come round and as the library has them. No contract cites this file. Assumes nothing.
use Rattle.std.proofs.Common.{◌≡◌, ℕ, zero, suc, ◌+◌, ◌-◌, ◌*◌, ◌/◌, ◌%◌, ◌^◌, ◌<◌, sym, ap, ◌∙◌, arith, pow_pos, pow-add, bit_or, w32}
use Rattle.std.proofs.Math.Nat.{mul-div_cancel, div-div-eq-div-mul}
use Rattle.std.specs.Int.Bits.{or_self}
use lib.Bits.{or_zero_r}
use Rattle.std.specs.Int.{rotate_left}
use Rattle.rotation.specs.Rotation.{come_round, rotated_left}

-- the bits past bit 31 are those that a shift right leaves
past : (n p : ℕ) → p < 32 → n * 2 ^ p / 2 ^ 32 ≡ n / 2 ^ (32 - p)
past n p h =
    let e : p + (32 - p) ≡ 32 = omega arith in
    ap (λ (k : ℕ). n * 2 ^ p / 2 ^ k) (sym e) ∙ ap (λ (x : ℕ). n * 2 ^ p / x) (pow-add 2 p (32 - p))
    ∙ sym (div-div-eq-div-mul (n * 2 ^ p) (2 ^ p) (2 ^ (32 - p))) ∙ ap (λ (x : ℕ). x / 2 ^ (32 - p)) (mul-div_cancel n (pow_pos p))

pub rotate_left-rotated_left : (places n : ℕ) → n < 2 ^ 32 → rotate_left w32 n places ≡ rotated_left places n
rotate_left-rotated_left places n h = go (places % 32) (omega arith)
  where
    go : (p : ℕ) → p < 32 → bit_or (n * 2 ^ p % 2 ^ 32) (n / 2 ^ ((32 - p) % 32)) ≡ come_round (n * 2 ^ p)
    go zero l =
        let whole : n * 1 % 2 ^ 32 ≡ n = omega arith in
        let all : n / 1 ≡ n = omega arith in
        let none : n * 1 / 2 ^ 32 ≡ 0 = omega arith in
        rw (whole, all, none) (or_self n ∙ sym (or_zero_r n))
    go (suc p) l =
        let e : (32 - suc p) % 32 ≡ 32 - suc p = omega arith in
        rw e (ap (bit_or (n * 2 ^ suc p % 2 ^ 32)) (sym (past n (suc p) l)))
