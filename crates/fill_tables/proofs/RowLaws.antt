-- Exactly `words_of start bits` words hold a pixel of a row, at any pixel size; and only the place of the row in its first word counts.
-- No contract cites this file. Assumes nothing.
use mathlib.Core.Path.{◌≡◌, refl, sym, ap, ap₂, ◌∙◌}
use mathlib.Core.Bool.{Bool, true, false}
use Prim.Native.Nat.{ℕ, zero, suc, ◌+◌, ◌-◌, ◌*◌, ◌/◌, ◌%◌, ◌≤◌, ◌<◌}
use native.Mathlib.Nat.{zero-mul, mul_assoc, mul_comm, mul-sub, mul-lt-mul_of_pos_right, lt_of_mul-lt-mul_right}
use native.Mathlib.Omega.{arith}
use borrow.Author.Tests.{eqb-true, eqb-false}
use lib.Dec.{eqb}
use Rattle.fill_tables.specs.Time.{words_of, alignment_of}

-- ---- a row of pixels of p bits, where p divides a word, from a multiple of p on
module _ (p k start j cols : ℕ) (divides : 16 ≡ p * k) (placed : start ≡ p * j) where
  -- a pixel has a bit
  p-some : 0 < p
  p-some = go p divides
    where
      go : (q : ℕ) → 16 ≡ q * k → 0 < q
      go zero e = absurd (omega (arith, e, zero-mul k))
      go (suc q) e = omega arith

  -- the pixels of the row lie in its words
  pub row_within : (c : ℕ) → c < cols
      → (start / 16 ≤ (start + c * p) / 16) × ((start + c * p) / 16 < start / 16 + words_of start (cols * p))
  row_within c h =
      let z = mul-lt-mul_of_pos_right h p-some in
      (omega arith, omega (arith, z))

  -- the pixel at the start of a word
  offset : (w : ℕ) → (k * w - j) * p ≡ 16 * w - start
  offset w =
      mul_comm (k * w - j) p ∙ mul-sub p (k * w) j
      ∙ ap₂ (λ (a b : ℕ). a - b) (sym (mul_assoc p k w) ∙ ap (λ (a : ℕ). a * w) (sym divides)) (sym placed)

  -- each of its words holds one
  pub row-holds : 0 < cols → (w : ℕ) → start / 16 ≤ w → w < start / 16 + words_of start (cols * p)
      → (c : ℕ) × (c < cols) × ((start + c * p) / 16 ≡ w)
  row-holds some w lo hi = go (eqb w (start / 16)) refl
    where
      go : (t : Bool) → eqb w (start / 16) ≡ t → (c : ℕ) × (c < cols) × ((start + c * p) / 16 ≡ w)
      go true e = (0, some, omega (arith, eqb-true w (start / 16) e, zero-mul p))
      go false e =
          let later : start / 16 < w = omega (arith, eqb-false w (start / 16) e) in
          let z : (k * w - j) * p < cols * p = omega (arith, offset w) in
          (k * w - j, lt_of_mul-lt-mul_right p z, omega (arith, offset w))

-- ---- only the place in the word counts
pub words_of-same : (a b bits : ℕ) → a % 16 ≡ b % 16 → words_of a bits ≡ words_of b bits
words_of-same a b bits h = rw h

pub alignment_of-same : (a b bits : ℕ) → a % 16 ≡ b % 16 → alignment_of a bits ≡ alignment_of b bits
unfolding alignment_of
alignment_of-same a b bits h = rw h
