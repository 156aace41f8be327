-- The value that each bit of a pixel gets. No contract cites this file. Assumes nothing.
use mathlib.Core.Path.{◌≡◌, sym, ap, ap₂, ◌∙◌}
use mathlib.Core.Bool.{Bool, cond, ◌&&◌, ◌||◌}
use mathlib.Core.List.{List}
use mathlib.Core.Logic.{⊎_elim}
use Prim.Native.Nat.{ℕ, ◌+◌, ◌-◌, ◌*◌, ◌/◌, ◌%◌, ◌^◌, ◌≤◌, ◌<◌}
use native.Mathlib.Omega.{arith}
use lib.Bits.{bit_and, bit_xor}
use lib.Dec.{eqb}
use lib.ListN.{get_or}
use Rattle.memory.specs.Bits.{Memory, bit_of, bit_at}
use Rattle.memory.proofs.Within.{within-inside}
use Rattle.memory.proofs.BitLaws.{bit-lt, bit-cases, bit-and}
use Rattle.pixel.specs.PixelOp.{complement, processed}
use Rattle.pixel.specs.Pixel.{pixel_of, unmasked, result, pixel_after, plotted}
use Rattle.pixel.proofs.BitwiseLaws.{and_one, bit-complement}
use Rattle.pixel.proofs.PixelLaws.{bit-pixel_of-place, bit-pixel_of-bit_at, bit_at-plotted}
use Rattle.pixel.proofs.MaskLaws.{bit_masked, bit-open}

-- an unmasked bit counts as it is
bit-unmasked : (p mask j x : ℕ) → j < p → bit_of mask j ≡ 0 → bit_of (unmasked (2 ^ p - 1) mask x) j ≡ bit_of x j
bit-unmasked p mask j x h e =
    bit-and x (complement (2 ^ p - 1) mask) j
    ∙ ap (bit_and (bit_of x j)) (bit-complement p mask j h ∙ ap (λ (b : ℕ). bit_xor b 1) e)
    ∙ and_one (bit-lt x j)

module _ (pp : ℕ) (t : Bool) (p mask s d j : ℕ) (h : j < p) where
  abbrev top : ℕ
  top = 2 ^ p - 1

  -- the bit that it gets, by the bit b of its mask
  abbrev gets : ℕ → ℕ
  gets b =
      cond (eqb b 1 || (t && eqb (result pp top mask s d) 0)) (bit_of d j)
      (bit_of (processed pp top (unmasked top mask s) (unmasked top mask d)) j)

  bit-result : bit_of mask j ≡ 0
      → bit_of (result pp top mask s d) j ≡ bit_of (processed pp top (unmasked top mask s) (unmasked top mask d)) j
  unfolding result
  bit-result e = bit-unmasked p mask j (processed pp top (unmasked top mask s) (unmasked top mask d)) h e

  bit-after : bit_of (pixel_after pp t top mask s d) j ≡ gets (bit_of mask j)
  bit-after =
      ⊎_elim
      (λ e. bit-open pp t p mask s d j e
      ∙ ap (cond (t && eqb (result pp top mask s d) 0) (bit_of d j)) (bit-result e)
      ∙ ap gets (sym e))
      (λ e. bit_masked pp t p mask s d j h e ∙ ap gets (sym e))
      (bit-cases (bit-lt mask j))

module _ (pp : ℕ) (t : Bool) (p pmask a n : ℕ) (m : List ℕ) (s j : ℕ) (fit : a % 16 + p ≤ 16) (g : Memory n m)
    (l : a < 16 * n) (h : j < p) where
  abbrev mask : ℕ
  mask = pixel_of (2 ^ p - 1) pmask a

  abbrev old : ℕ
  old = pixel_of (2 ^ p - 1) (get_or m (a / 16) 0) a

  pub bit-plotted : bit_at (plotted pp t (2 ^ p - 1) pmask a s m) (a + j)
      ≡ cond (eqb (bit_of pmask ((a + j) % 16)) 1 || (t && eqb (result pp (2 ^ p - 1) mask s old) 0))
      (bit_at m (a + j))
      (bit_of (processed pp (2 ^ p - 1) (unmasked (2 ^ p - 1) mask s) (unmasked (2 ^ p - 1) mask old)) j)
  bit-plotted =
      let o : a + j - a ≡ j = omega arith in
      bit_at-plotted pp t p pmask a fit s g l (a + j)
      ∙ ap (λ (u : Bool). cond u (bit_of (pixel_after pp t (2 ^ p - 1) mask s old) (a + j - a)) (bit_at m (a + j)))
      (within-inside a p (a + j) (omega arith) (omega arith))
      ∙ ap (bit_of (pixel_after pp t (2 ^ p - 1) mask s old)) o
      ∙ bit-after pp t p mask s old j h
      ∙ ap₂ (λ (b d : ℕ).
      cond (eqb b 1 || (t && eqb (result pp (2 ^ p - 1) mask s old) 0)) d
      (bit_of (processed pp (2 ^ p - 1) (unmasked (2 ^ p - 1) mask s) (unmasked (2 ^ p - 1) mask old)) j))
      (bit-pixel_of-place p a fit j h pmask) (bit-pixel_of-bit_at p a fit j h m)
