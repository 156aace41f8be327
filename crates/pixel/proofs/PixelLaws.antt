-- A pixel of P bits, of which top = 2^P - 1 is the greatest: its bits, its place in the word, and every bit of a word and of the memory
-- after it is drawn. No contract cites this file. Assumes nothing.
use mathlib.Core.Path.{◌≡◌, refl, sym, ap, ap₂, ◌∙◌}
use mathlib.Core.Bool.{Bool, true, false, cond, ◌&&◌}
use mathlib.Core.List.{List}
use Prim.Native.Nat.{ℕ, ◌+◌, ◌-◌, ◌*◌, ◌/◌, ◌%◌, ◌^◌, ◌≤◌, ◌<◌}
use native.Mathlib.Nat.{mod-lt, mod-eq_of_lt, mul-le-mul_right}
use native.Mathlib.Omega.{arith}
use borrow.Author.Tests.{eqb-true, eqb-false}
use lib.Bits.{bit_and, bit_or, and_mask, and_le_l, and_le_r, or_lt, xor_lt}
use lib.Dec.{eqb}
use lib.ListN.{length, get_or, length-set}
use lib.Pow.{pow_pos, split, ones_lt}
use Rattle.memory.specs.Bits.{Memory, bit_of, bit_at, within, with_bits}
use Rattle.memory.proofs.Within.{Place, below, inside, above, place, within-inside, within-below, within-above}
use Rattle.memory.proofs.BitLaws.{bit-div, bit-mod, bit-with_bits, with_bits-by-sum, with_bits-lt}
use Rattle.memory.proofs.MemoryLaws.{memory-set, bit_at-set}
use Rattle.pixel.specs.PixelOp.{complement, processed}
use Rattle.pixel.specs.Pixel.{pixel_of, unmasked, result, pixel_after, with_pixel, word_after, plotted}
use Rattle.pixel.proofs.BitwiseLaws.{complement-le}

-- ---- the pixel of a word
-- it may be taken out of the word
pub pixel_of-le : (top w a : ℕ) → pixel_of top w a * 2 ^ (a % 16) ≤ w
unfolding pixel_of
pixel_of-le top w a = omega (arith, split w (a % 16), mul-le-mul_right (2 ^ (a % 16)) (and_le_l (w / 2 ^ (a % 16)) top))

-- as a mask it has no bit above top's
pub complement-pixel_of-le : (top w a : ℕ) → complement top (pixel_of top w a) ≤ top
unfolding pixel_of
complement-pixel_of-le top w a = complement-le (w / 2 ^ (a % 16)) top

module _ (p w a : ℕ) where
  pub pixel_of-mod : pixel_of (2 ^ p - 1) w a ≡ w / 2 ^ (a % 16) % 2 ^ p
  unfolding pixel_of
  pixel_of-mod = and_mask (w / 2 ^ (a % 16)) p

  pub pixel_of-lt : pixel_of (2 ^ p - 1) w a < 2 ^ p
  pixel_of-lt = rw pixel_of-mod (mod-lt (w / 2 ^ (a % 16)) (pow_pos p))

  bit-pixel_of : (j : ℕ) → j < p → bit_of (pixel_of (2 ^ p - 1) w a) j ≡ bit_of w (a % 16 + j)
  bit-pixel_of j h = ap (λ (x : ℕ). bit_of x j) pixel_of-mod ∙ bit-mod (w / 2 ^ (a % 16)) p j h ∙ bit-div w (a % 16) j

-- bit j of a pixel that lies in one word, by its bit address
module _ (p a : ℕ) (fit : a % 16 + p ≤ 16) (j : ℕ) (hj : j < p) where
  pub bit-pixel_of-place : (w : ℕ) → bit_of (pixel_of (2 ^ p - 1) w a) j ≡ bit_of w ((a + j) % 16)
  bit-pixel_of-place w =
      let r : a % 16 + j ≡ (a + j) % 16 = omega arith in
      bit-pixel_of p w a j hj ∙ ap (bit_of w) r

  pub bit-pixel_of-bit_at : (m : List ℕ) → bit_of (pixel_of (2 ^ p - 1) (get_or m (a / 16) 0) a) j ≡ bit_at m (a + j)
  unfolding bit_at
  bit-pixel_of-bit_at m =
      let q : a / 16 ≡ (a + j) / 16 = omega arith in
      bit-pixel_of-place (get_or m (a / 16) 0) ∙ ap (λ (i : ℕ). bit_of (get_or m i 0) ((a + j) % 16)) q

-- a pixel put into a word is P bits put in at its place
with_pixel-with_bits : (p w a v : ℕ) → a % 16 + p ≤ 16 → w < 2 ^ 16 → v < 2 ^ p → with_pixel (2 ^ p - 1) w a v ≡ with_bits w (a % 16) p v
unfolding with_pixel
with_pixel-with_bits p w a v fit hw hv =
    ap₂ (λ (x y : ℕ). (w - x * 2 ^ (a % 16) + y * 2 ^ (a % 16)) % 2 ^ 16) (pixel_of-mod p w a) (sym (mod-eq_of_lt hv))
    ∙ ap (λ (x : ℕ). x % 2 ^ 16) (with_bits-by-sum w (a % 16) p v)
    ∙ mod-eq_of_lt (with_bits-lt 16 w (a % 16) p v (omega arith) hw)

-- ---- bounds
module _ (p mask : ℕ) (hm : mask < 2 ^ p) where
  pub unmasked-lt : (x : ℕ) → unmasked (2 ^ p - 1) mask x < 2 ^ p
  unmasked-lt x = omega (arith, and_le_r x (complement (2 ^ p - 1) mask), xor_lt p mask (2 ^ p - 1) hm (ones_lt p))

  result-lt : (pp s d : ℕ) → result pp (2 ^ p - 1) mask s d < 2 ^ p
  unfolding result
  result-lt pp s d = unmasked-lt (processed pp (2 ^ p - 1) (unmasked (2 ^ p - 1) mask s) (unmasked (2 ^ p - 1) mask d))

  pixel_after-lt : (pp : ℕ) (t : Bool) (s d : ℕ) → d < 2 ^ p → pixel_after pp t (2 ^ p - 1) mask s d < 2 ^ p
  unfolding pixel_after
  pixel_after-lt pp t s d hd = go (t && eqb (result pp (2 ^ p - 1) mask s d) 0)
    where
      go : (b : Bool) → cond b d (bit_or (bit_and d mask) (result pp (2 ^ p - 1) mask s d)) < 2 ^ p
      go true = hd
      go false = or_lt p (bit_and d mask) (result pp (2 ^ p - 1) mask s d) (omega (arith, and_le_l d mask)) (result-lt pp s d)

module _ (pp : ℕ) (t : Bool) (top pmask a s : ℕ) where
  word_after-lt : (w : ℕ) → word_after pp t top pmask a s w < 2 ^ 16
  unfolding word_after with_pixel
  word_after-lt w = mod-lt _ (pow_pos 16)

  pub length-plotted : (m : List ℕ) → length (plotted pp t top pmask a s m) ≡ length m
  unfolding plotted
  length-plotted m = length-set m (a / 16) _

  pub memory-plotted : {n : ℕ} {m : List ℕ} → Memory n m → Memory n (plotted pp t top pmask a s m)
  unfolding plotted
  memory-plotted {m = m} g = memory-set g (a / 16) _ (word_after-lt (get_or m (a / 16) 0))

-- ---- every bit after a pixel is drawn
-- the pixel of a word after it is drawn
abbrev pub drawn : ℕ → Bool → ℕ → ℕ → ℕ → ℕ → ℕ → ℕ
drawn pp t top pmask a s w = pixel_after pp t top (pixel_of top pmask a) s (pixel_of top w a)

module _ (pp : ℕ) (t : Bool) (p pmask a : ℕ) (fit : a % 16 + p ≤ 16) (s : ℕ) where
  bit-word_after : (w j : ℕ) → w < 2 ^ 16
      → bit_of (word_after pp t (2 ^ p - 1) pmask a s w) j
      ≡ cond (within (a % 16) p j) (bit_of (drawn pp t (2 ^ p - 1) pmask a s w) (j - a % 16)) (bit_of w j)
  unfolding word_after
  bit-word_after w j hw =
      ap (λ (x : ℕ). bit_of x j)
      (with_pixel-with_bits p w a _ fit hw (pixel_after-lt p _ (pixel_of-lt p pmask a) pp t s _ (pixel_of-lt p w a)))
      ∙ bit-with_bits w (a % 16) p _ j

  pub bit_at-plotted : {n : ℕ} {m : List ℕ} → Memory n m → a < 16 * n → (b : ℕ)
      → bit_at (plotted pp t (2 ^ p - 1) pmask a s m) b
      ≡ cond (within a p b) (bit_of (drawn pp t (2 ^ p - 1) pmask a s (get_or m (a / 16) 0)) (b - a)) (bit_at m b)
  unfolding plotted bit_at
  bit_at-plotted {n} {m} g h b =
      bit_at-set m (a / 16) (word_after pp t (2 ^ p - 1) pmask a s w) b (omega (arith, g.size))
      ∙ go (within a p b) (place a p b) (eqb (b / 16) (a / 16)) refl
    where
      w : ℕ
      w = get_or m (a / 16) 0

      new : ℕ
      new = drawn pp t (2 ^ p - 1) pmask a s w

      -- a bit of the pixel's word
      word : (u : Bool) → within (a % 16) p (b % 16) ≡ u
          → bit_of (word_after pp t (2 ^ p - 1) pmask a s w) (b % 16) ≡ cond u (bit_of new (b % 16 - a % 16)) (bit_of w (b % 16))
      word u e = rw (sym e) (bit-word_after w (b % 16) (g.words (a / 16)))

      other : b / 16 ≡ a / 16 → within (a % 16) p (b % 16) ≡ false → bit_of (word_after pp t (2 ^ p - 1) pmask a s w) (b % 16) ≡ bit_at m b
      other e f = word false f ∙ ap (λ (i : ℕ). bit_of (get_or m i 0) (b % 16)) (sym e)

      go : (u : Bool) → Place a p b u → (v : Bool) → eqb (b / 16) (a / 16) ≡ v
          → cond v (bit_of (word_after pp t (2 ^ p - 1) pmask a s w) (b % 16)) (bit_at m b) ≡ cond u (bit_of new (b - a)) (bit_at m b)
      go false q false e = refl
      go false (below q) true e =
          let same : b / 16 ≡ a / 16 = eqb-true _ _ e in
          other same (within-below (a % 16) p (b % 16) (omega arith))
      go false (above q) true e =
          let same : b / 16 ≡ a / 16 = eqb-true _ _ e in
          other same (within-above (a % 16) p (b % 16) (omega arith))
      go true (inside q q') false e = absurd (eqb-false (b / 16) (a / 16) e (omega arith))
      go true (inside q q') true e =
          let o : b % 16 - a % 16 ≡ b - a = omega arith in
          word true (within-inside (a % 16) p (b % 16) (omega arith) (omega arith)) ∙ ap (bit_of new) o
