-- The footprint of a pixel of P bits that lies in one word: which bits of the memory it changes, and on which bits the change depends, for
-- every operation and with or without transparency. No contract cites this file. Assumes nothing.
use mathlib.Core.Path.{◌≡◌, sym, ap, ◌∙◌}
use mathlib.Core.Logic.{◌⊎◌, inl, inr, ⊎_elim}
use mathlib.Core.Bool.{Bool, true, false, cond}
use mathlib.Core.List.{List}
use Prim.Native.Nat.{ℕ, ◌+◌, ◌-◌, ◌*◌, ◌/◌, ◌%◌, ◌^◌, ◌≤◌, ◌<◌}
use native.Mathlib.Omega.{arith}
use lib.ListN.{get_or}
use Rattle.memory.specs.Bits.{Memory, bit_of, bit_at, within}
use Rattle.memory.proofs.Within.{Place, inside, place, within-inside}
use Rattle.memory.proofs.BitLaws.{bit-lt, bit-cases}
use Rattle.pixel.specs.Pixel.{pixel_of, plotted}
use Rattle.pixel.specs.Footprint.{Touched}
use Rattle.pixel.proofs.PixelLaws.{pixel_of-lt, bit-pixel_of-place, bit-pixel_of-bit_at, drawn, bit_at-plotted}
use Rattle.pixel.proofs.MaskLaws.{bit_masked, Alike, pixel_after-alike}

module _ (pp : ℕ) (t : Bool) (p pmask a : ℕ) (fit : a % 16 + p ≤ 16) where
  -- the pixel's mask at bit address b
  mask-bit : (b : ℕ) → a ≤ b → b < a + p → bit_of (pixel_of (2 ^ p - 1) pmask a) (b - a) ≡ bit_of pmask (b % 16)
  mask-bit b h l =
      let o : a + (b - a) ≡ b = omega arith in
      bit-pixel_of-place p a fit (b - a) (omega arith) pmask ∙ ap (λ (k : ℕ). bit_of pmask (k % 16)) o

  -- every bit but the unmasked bits of the pixel stays
  pub plotted-frame : {n : ℕ} {m : List ℕ} → Memory n m → a < 16 * n → (s b : ℕ)
      → (bit_at (plotted pp t (2 ^ p - 1) pmask a s m) b ≡ bit_at m b) ⊎ Touched p pmask a b
  plotted-frame {n} {m} g h s b = go (within a p b) (place a p b) (bit_at-plotted pp t p pmask a fit s g h b)
    where
      new : ℕ
      new = drawn pp t (2 ^ p - 1) pmask a s (get_or m (a / 16) 0)

      go : (u : Bool) → Place a p b u → bit_at (plotted pp t (2 ^ p - 1) pmask a s m) b ≡ cond u (bit_of new (b - a)) (bit_at m b)
          → (bit_at (plotted pp t (2 ^ p - 1) pmask a s m) b ≡ bit_at m b) ⊎ Touched p pmask a b
      go false q e = inl e
      go true (inside q q') e =
          let l : b - a < p = omega arith in
          let o : a + (b - a) ≡ b = omega arith in
          ⊎_elim
          (λ z. inr (record { from = q; to = q'; unmasked = z }))
          (λ z. inl
          (e ∙ bit_masked pp t p _ s _ (b - a) l (mask-bit b q q' ∙ z) ∙ bit-pixel_of-bit_at p a fit (b - a) l m ∙ ap (bit_at m) o))
          (bit-cases (bit-lt pmask (b % 16)))

  -- what the unmasked bits of the pixel become depends on what they were and on the source's unmasked bits, and on nothing else
  pub plotted-depend : {n : ℕ} {m m' : List ℕ} → Memory n m → Memory n m' → a < 16 * n → (s s' : ℕ)
      → ((j : ℕ) → j < p → bit_of pmask ((a + j) % 16) ≡ 0 → bit_of s j ≡ bit_of s' j)
      → ((b : ℕ) → Touched p pmask a b → bit_at m b ≡ bit_at m' b)
      → (b : ℕ) → Touched p pmask a b → bit_at (plotted pp t (2 ^ p - 1) pmask a s m) b ≡ bit_at (plotted pp t (2 ^ p - 1) pmask a s' m') b
  plotted-depend {n} {m} {m'} g g' h s s' hs hm b u =
      at-pixel g s
      ∙ (pixel_after-alike p (pixel_of (2 ^ p - 1) pmask a) (pixel_of-lt p pmask a) pp t sources pixels).same (b - a) (omega arith)
      (mask-bit b u.from u.to ∙ u.unmasked)
      ∙ sym (at-pixel g' s')
    where
      at-pixel : {k : List ℕ} → Memory n k → (x : ℕ)
          → bit_at (plotted pp t (2 ^ p - 1) pmask a x k) b ≡ bit_of (drawn pp t (2 ^ p - 1) pmask a x (get_or k (a / 16) 0)) (b - a)
      at-pixel gk x = bit_at-plotted pp t p pmask a fit x gk h b ∙ rw (within-inside a p b u.from u.to)

      sources : Alike p (pixel_of (2 ^ p - 1) pmask a) s s'
      sources = record { same = λ j hj z. hs j hj (sym (bit-pixel_of-place p a fit j hj pmask) ∙ z) }

      touched : (j : ℕ) → j < p → bit_of (pixel_of (2 ^ p - 1) pmask a) j ≡ 0 → Touched p pmask a (a + j)
      touched j hj z = record { from = omega arith; to = omega arith; unmasked = sym (bit-pixel_of-place p a fit j hj pmask) ∙ z }

      pixels : Alike p (pixel_of (2 ^ p - 1) pmask a) (pixel_of (2 ^ p - 1) (get_or m (a / 16) 0) a)
          (pixel_of (2 ^ p - 1) (get_or m' (a / 16) 0) a)
      pixels =
          record {
            same = λ j hj z. bit-pixel_of-bit_at p a fit j hj m ∙ hm (a + j) (touched j hj z)
                ∙ sym (bit-pixel_of-bit_at p a fit j hj m');
          }
