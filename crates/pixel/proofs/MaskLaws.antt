-- What a mask does to a pixel of P bits, whatever the operation and with or without transparency: masked bits stay, and the others depend
-- on unmasked bits alone. No contract cites this file. Assumes nothing.
use mathlib.Core.Path.{◌≡◌, refl, sym, ap, ap₂, ◌∙◌}
use mathlib.Core.Logic.{⊎_elim}
use mathlib.Core.Bool.{Bool, true, false, cond, ◌&&◌}
use Prim.Native.Nat.{ℕ, ◌-◌, ◌^◌, ◌<◌}
use lib.Bits.{bit_and, bit_or, bit_xor, and_zero_r, or_zero_r}
use lib.Dec.{eqb}
use Rattle.memory.specs.Bits.{bit_of}
use Rattle.memory.proofs.BitLaws.{bit-lt, bits-ext, bit-cases, bit-and, bit-or}
use Rattle.pixel.specs.PixelOp.{complement, processed}
use Rattle.pixel.specs.Pixel.{unmasked, result, pixel_after}
use Rattle.pixel.proofs.BitwiseLaws.{and_one, bit-complement}
use Rattle.pixel.proofs.PixelLaws.{unmasked-lt}

-- ---- bit j of a number with masked bits 0
module _ (p mask j : ℕ) (hj : j < p) (x : ℕ) where
  bit-unmasked : bit_of (unmasked (2 ^ p - 1) mask x) j ≡ bit_and (bit_of x j) (bit_xor (bit_of mask j) 1)
  bit-unmasked = bit-and x (complement (2 ^ p - 1) mask) j ∙ ap (bit_and (bit_of x j)) (bit-complement p mask j hj)

  unmasked-masked : bit_of mask j ≡ 1 → bit_of (unmasked (2 ^ p - 1) mask x) j ≡ 0
  unmasked-masked e = bit-unmasked ∙ ap (λ (b : ℕ). bit_and (bit_of x j) (bit_xor b 1)) e ∙ and_zero_r (bit_of x j)

-- ---- bit j of a pixel after it is drawn
module _ (pp : ℕ) (t : Bool) (p mask s d j : ℕ) where
  r : ℕ
  r = result pp (2 ^ p - 1) mask s d

  bit-pixel_after : bit_of (pixel_after pp t (2 ^ p - 1) mask s d) j
      ≡ cond (t && eqb r 0) (bit_of d j) (bit_or (bit_and (bit_of d j) (bit_of mask j)) (bit_of r j))
  unfolding pixel_after r
  bit-pixel_after = go (t && eqb r 0)
    where
      go : (u : Bool)
          → bit_of (cond u d (bit_or (bit_and d mask) r)) j
          ≡ cond u (bit_of d j) (bit_or (bit_and (bit_of d j) (bit_of mask j)) (bit_of r j))
      go true = refl
      go false = bit-or (bit_and d mask) r j ∙ ap (λ (x : ℕ). bit_or x (bit_of r j)) (bit-and d mask j)

  -- a masked bit stays
  pub bit_masked : j < p → bit_of mask j ≡ 1 → bit_of (pixel_after pp t (2 ^ p - 1) mask s d) j ≡ bit_of d j
  unfolding result r
  bit_masked hj e =
      bit-pixel_after
      ∙ ap₂ (λ (x y : ℕ). cond (t && eqb r 0) (bit_of d j) (bit_or (bit_and (bit_of d j) x) y)) e
      (unmasked-masked p mask j hj (processed pp (2 ^ p - 1) (unmasked (2 ^ p - 1) mask s) (unmasked (2 ^ p - 1) mask d)) e)
      ∙ go (t && eqb r 0)
    where
      go : (u : Bool) → cond u (bit_of d j) (bit_or (bit_and (bit_of d j) 1) 0) ≡ bit_of d j
      go true = refl
      go false = or_zero_r (bit_and (bit_of d j) 1) ∙ and_one (bit-lt d j)

  -- an unmasked bit is the result's, or stays
  pub bit-open : bit_of mask j ≡ 0
      → bit_of (pixel_after pp t (2 ^ p - 1) mask s d) j
      ≡ cond (t && eqb (result pp (2 ^ p - 1) mask s d) 0) (bit_of d j) (bit_of (result pp (2 ^ p - 1) mask s d) j)
  unfolding r
  bit-open e =
      bit-pixel_after
      ∙ ap (λ (x : ℕ). cond (t && eqb r 0) (bit_of d j) (bit_or x (bit_of r j))) (ap (bit_and (bit_of d j)) e ∙ and_zero_r (bit_of d j))

-- ---- pixels that agree on the unmasked bits
pub record Alike (p mask x y : ℕ) : Type 0 where
  pub same : (j : ℕ) → j < p → bit_of mask j ≡ 0 → bit_of x j ≡ bit_of y j

module _ (p mask : ℕ) (hm : mask < 2 ^ p) where
  unmasked-alike : {x y : ℕ} → Alike p mask x y → unmasked (2 ^ p - 1) mask x ≡ unmasked (2 ^ p - 1) mask y
  unmasked-alike {x} {y} h =
      bits-ext p _ _ (unmasked-lt p mask hm x) (unmasked-lt p mask hm y)
      (λ j hj. ⊎_elim (opened j hj)
      (λ e. unmasked-masked p mask j hj x e ∙ sym (unmasked-masked p mask j hj y e)) (bit-cases (bit-lt mask j)))
    where
      opened : (j : ℕ) → j < p → bit_of mask j ≡ 0 → bit_of (unmasked (2 ^ p - 1) mask x) j ≡ bit_of (unmasked (2 ^ p - 1) mask y) j
      opened j hj e =
          bit-unmasked p mask j hj x ∙ ap (λ (z : ℕ). bit_and z (bit_xor (bit_of mask j) 1)) (h.same j hj e)
          ∙ sym (bit-unmasked p mask j hj y)

  result-alike : (pp : ℕ) {s s' d d' : ℕ} → Alike p mask s s' → Alike p mask d d'
      → result pp (2 ^ p - 1) mask s d ≡ result pp (2 ^ p - 1) mask s' d'
  unfolding result
  result-alike pp hs hd =
      ap₂ (λ (x y : ℕ). unmasked (2 ^ p - 1) mask (processed pp (2 ^ p - 1) x y)) (unmasked-alike hs) (unmasked-alike hd)

  -- the unmasked bits of a pixel drawn depend on those of its source and of the pixel before, and on nothing else
  pub pixel_after-alike : (pp : ℕ) (t : Bool) {s s' d d' : ℕ} → Alike p mask s s' → Alike p mask d d'
      → Alike p mask (pixel_after pp t (2 ^ p - 1) mask s d) (pixel_after pp t (2 ^ p - 1) mask s' d')
  pixel_after-alike pp t {s} {s'} {d} {d'} hs hd =
      record {
        same = λ j hj e.
            bit-open pp t p mask s d j e
            ∙ ap₂ (λ (r b : ℕ). cond (t && eqb r 0) b (bit_of r j)) (result-alike pp hs hd) (hd.same j hj e)
            ∙ sym (bit-open pp t p mask s' d' j e);
      }
