-- The register after a read: the field's number, with 2^32 - 2^n added where it is asked for and the top bit is 1. No contract cites
-- this file. Assumes nothing.
use mathlib.Core.Path.{◌≡◌, refl, sym, ap, ap₂, ◌∙◌}
use mathlib.Core.Bool.{Bool, true, false, cond, ◌&&◌}
use mathlib.Core.List.{List}
use Prim.Native.Nat.{ℕ, ◌+◌, ◌-◌, ◌*◌, ◌/◌, ◌%◌, ◌^◌, ◌≤◌, ◌<◌}
use native.Mathlib.Nat.{zero-add, add_assoc, mul-add, mul_comm, mul_left_comm}
use native.Mathlib.Omega.{arith}
use borrow.Author.Tests.{lt-ltb, le-ltb, eqb-true, eqb-false}
use lib.Dec.{eqb}
use lib.Pow.{pow-add, pow_mono}
use Rattle.memory.specs.Bits.{bit_of, bit_at, bits_number}
use Rattle.memory.proofs.NumberLaws.{number-add, number-ext, number_same, number_lt, bit-number}
use Rattle.memory.proofs.MemoryLaws.{bit_at_lt}
use Rattle.field.specs.Field.{register_bit, register}

module _ (m : List ℕ) (a n : ℕ) (p : 0 < n) (h : n ≤ 32) where
  -- the upper bits are all t
  filled : (signed : Bool) (t : ℕ) → cond signed (bit_at m (a + n - 1)) 0 ≡ t
      → register m a n signed + t * 2 ^ n ≡ bits_number (bit_at m) a n + t * 2 ^ 32
  unfolding register
  filled signed t e =
      let w : n + (32 - n) ≡ 32 = omega arith in
      let f : ℕ → ℕ = register_bit m a n signed in
      let low : bits_number f 0 n ≡ bits_number (bit_at m) a n = number-ext f (bit_at m) 0 a n (λ j hj. rw (zero-add j, lt-ltb j n hj)) in
      let high : bits_number f (0 + n) (32 - n) + t ≡ t * 2 ^ (32 - n) =
      number_same f t (0 + n) (32 - n) (λ b hb. rw (le-ltb b n (omega arith)) e) in
      ap (λ (k : ℕ). bits_number f 0 k + t * 2 ^ n) (sym w)
      ∙ ap (λ (x : ℕ). x + t * 2 ^ n) (number-add f 0 n (32 - n))
      ∙ joined (bits_number f 0 n) (2 ^ n) (bits_number f (0 + n) (32 - n)) (t * 2 ^ (32 - n)) high
      ∙ ap₂ ◌+◌ low (regroup (2 ^ n) (2 ^ (32 - n)) ∙ ap (λ (x : ℕ). t * x) (sym (pow-add 2 n (32 - n)) ∙ ap (λ (k : ℕ). 2 ^ k) w))
    where
      joined : (x q y z : ℕ) → y + t ≡ z → x + q * y + t * q ≡ x + q * z
      joined x q y z h = rw (sym h, mul-add q y t, mul_comm t q) (add_assoc x (q * y) (q * t))

      regroup : (q r : ℕ) → q * (t * r) ≡ t * (q * r)
      regroup q r = mul_left_comm q t r

  pub register-zero : (signed : Bool) → cond signed (bit_at m (a + n - 1)) 0 ≡ 0 → register m a n signed ≡ bits_number (bit_at m) a n
  register-zero signed e = omega (arith, filled signed 0 e)

  register-sign : bit_at m (a + n - 1) ≡ 1 → register m a n true ≡ bits_number (bit_at m) a n + (2 ^ 32 - 2 ^ n)
  register-sign e = omega (arith, filled true 1 e, pow_mono h)

  -- the top bit of the field's number
  top_bit : bits_number (bit_at m) a n / 2 ^ (n - 1) % 2 ≡ bit_at m (a + n - 1)
  unfolding bit_of
  top_bit =
      let o : a + (n - 1) ≡ a + n - 1 = omega arith in
      bit-number (bit_at m) (bit_at_lt m) a n (n - 1) (omega arith) ∙ ap (bit_at m) o

  -- by the code's test, on the field's number and its top bit as it finds them
  module _ (x t : ℕ) (is : x ≡ bits_number (bit_at m) a n) (top : t ≡ x / 2 ^ (n - 1) % 2) where
    is_top : t ≡ bit_at m (a + n - 1)
    is_top = top ∙ ap (λ (v : ℕ). v / 2 ^ (n - 1) % 2) is ∙ top_bit

    pub number-lt : x < 2 ^ n
    number-lt = rw is (number_lt (bit_at m) (bit_at_lt m) a n)

    pub register-taken : (signed : Bool) → (signed && eqb t 1) ≡ true → x + (2 ^ 32 - 2 ^ n) ≡ register m a n signed
    register-taken true e = rw is (sym (register-sign (sym is_top ∙ eqb-true t 1 e)))
    register-taken false e = cc

    pub register-left : (signed : Bool) → (signed && eqb t 1) ≡ false → x ≡ register m a n signed
    register-left true e =
        let z : t ≡ 1 → ⊥ = eqb-false t 1 e in
        is ∙ sym (register-zero true (omega (arith, is_top, bit_at_lt m (a + n - 1))))
    register-left false e = is ∙ sym (register-zero false refl)
