-- The word after a pixel, worked out by the bits that the plane mask lets through: those of the pixel are taken out of the word at its
-- place, and the result's are put in. No contract cites this file. Assumes nothing.
use mathlib.Core.Path.{◌≡◌, sym, ap, ap₂, subst, ◌∙◌}
use mathlib.Core.Bool.{Bool, true, false, cond, ◌&&◌}
use mathlib.Core.Logic.{⊎_elim}
use Prim.Native.Nat.{ℕ, suc, ◌+◌, ◌-◌, ◌*◌, ◌/◌, ◌%◌, ◌^◌, ◌≤◌, ◌<◌, min}
use native.Mathlib.Nat.{mod-lt, mod-eq_of_lt, add-mul, add-zero, zero-div, min-le_right}
use native.Mathlib.Omega.{arith}
use lib.Bits.{bit_and, bit_or, bit_xor, and_zero_r, and_mask, and_le_l, and_le_r, and_mod, and_block}
use lib.Bits.{xor_shr, xor_mod, or_disjoint, or_lt, or_zero_r}
use lib.Dec.{eqb}
use lib.Pow.{pow_pos, pow_mono, split, high, low, ones_split, ones_lt, lt_of_le_ones, suc_ones}
use Rattle.memory.specs.Bits.{bit_of}
use Rattle.memory.proofs.BitLaws.{bit-lt, bits-ext, bit-cases, bit-and, bit-or}
use Rattle.pixel.specs.PixelOp.{complement, processed}
use Rattle.pixel.specs.Pixel.{top_of, pixel_of, result, pixel_after, with_pixel, word_after}
use Rattle.pixel.proofs.BitwiseLaws.{and_one, bit-complement}
use Rattle.pixel.proofs.PixelLaws.{pixel_of-le, pixel_of-lt, complement-pixel_of-le}
use Rattle.plot.specs.Word.{replaced}

-- ---- sums cut to P bits
pub top_of-le : (p : ℕ) → top_of p ≤ 65535
top_of-le p = omega (arith, pow_mono {i = min p 16} {j = 16} (min-le_right p 16))

pub and-top : (p x : ℕ) → bit_and x (top_of p) ≡ x % suc (top_of p)
and-top p x = and_mask x (min p 16) ∙ ap (λ (y : ℕ). x % y) (sym (suc_ones (min p 16)))

-- ---- bits above the mask don't matter
and_low : (p x : ℕ) {y : ℕ} → y < 2 ^ p → bit_and (bit_and x (2 ^ p - 1)) y ≡ bit_and x y
and_low p x {y} h =
    let l : bit_and x y < 2 ^ p = omega (arith, and_le_r x y) in
    ap₂ bit_and (and_mask x p) (sym (mod-eq_of_lt h)) ∙ sym (and_mod x y p) ∙ mod-eq_of_lt l

-- ---- the complement of a plane mask at a place
-- ones stay ones
ones-at : (n k p : ℕ) → k + p ≤ n → (2 ^ n - 1) / 2 ^ k % 2 ^ p ≡ 2 ^ p - 1
ones-at n k p h =
    let e : ((n - (k + p)) + p) + k ≡ n = omega arith in
    subst (λ (i : ℕ). (2 ^ i - 1) / 2 ^ k % 2 ^ p ≡ 2 ^ p - 1) e
    (ap (λ (y : ℕ). y / 2 ^ k % 2 ^ p) (ones_split ((n - (k + p)) + p) k)
    ∙ ap (λ (y : ℕ). y % 2 ^ p) (high (2 ^ ((n - (k + p)) + p) - 1) k (ones_lt k))
    ∙ ap (λ (y : ℕ). y % 2 ^ p) (ones_split (n - (k + p)) p)
    ∙ low (2 ^ (n - (k + p)) - 1) p (ones_lt p))

pub complement-shifted : (p m a : ℕ) → p ≤ 16
    → bit_and (bit_xor m (2 ^ 32 - 1) / 2 ^ (a % 16)) (2 ^ p - 1) ≡ complement (2 ^ p - 1) (pixel_of (2 ^ p - 1) m a)
unfolding pixel_of
complement-shifted p m a h =
    and_mask (bit_xor m (2 ^ 32 - 1) / 2 ^ (a % 16)) p
    ∙ ap (λ (y : ℕ). y % 2 ^ p) (xor_shr m (2 ^ 32 - 1) (a % 16))
    ∙ xor_mod (m / 2 ^ (a % 16)) ((2 ^ 32 - 1) / 2 ^ (a % 16)) p
    ∙ ap₂ bit_xor (sym (and_mask (m / 2 ^ (a % 16)) p)) (ones-at 32 (a % 16) p (omega arith))

-- ---- masked and unmasked bits
bit-none : (j : ℕ) → bit_of 0 j ≡ 0
unfolding bit_of
bit-none j = ap (λ (z : ℕ). z % 2) (zero-div (2 ^ j))

module _ (p mask : ℕ) (hm : mask < 2 ^ p) where
  abbrev others : ℕ
  others = complement (2 ^ p - 1) mask

  -- the masked bits of one number and the unmasked bits of another have none in common
  masked-disjoint : (x y : ℕ) → bit_and (bit_and x mask) (bit_and y others) ≡ 0
  masked-disjoint x y =
      bits-ext p _ 0 (omega (arith, and_le_l (bit_and x mask) (bit_and y others), and_le_r x mask)) (pow_pos p)
      (λ j hj.
      bit-and (bit_and x mask) (bit_and y others) j
      ∙ ap₂ bit_and (bit-and x mask j) (bit-and y others j ∙ ap (bit_and (bit_of y j)) (bit-complement p mask j hj))
      ∙ none (bit_of x j) (bit_of mask j) (bit_of y j) (bit-lt mask j) ∙ sym (bit-none j))
    where
      none : (b m c : ℕ) → m < 2 → bit_and (bit_and b m) (bit_and c (bit_xor m 1)) ≡ 0
      none b m c h =
          ⊎_elim
          (λ (e : m ≡ 0). rw e (ap (λ (z : ℕ). bit_and z (bit_and c 1)) (and_zero_r b)))
          (λ (e : m ≡ 1). rw e (ap (bit_and (bit_and b 1)) (and_zero_r c) ∙ and_zero_r (bit_and b 1)))
          (bit-cases h)

  -- together they are the number
  masked-sum : (x : ℕ) → x < 2 ^ p → bit_and x mask + bit_and x others ≡ x
  masked-sum x hx =
      sym (or_disjoint (bit_and x mask) (bit_and x others) (masked-disjoint x x))
      ∙ bits-ext p _ x (or_lt p (bit_and x mask) (bit_and x others) (omega (arith, and_le_l x mask)) (omega (arith, and_le_l x others))) hx
      (λ j hj.
      bit-or (bit_and x mask) (bit_and x others) j
      ∙ ap₂ bit_or (bit-and x mask j) (bit-and x others j ∙ ap (bit_and (bit_of x j)) (bit-complement p mask j hj))
      ∙ both (bit_of x j) (bit_of mask j) (bit-lt x j) (bit-lt mask j))
    where
      both : (b m : ℕ) → b < 2 → m < 2 → bit_or (bit_and b m) (bit_and b (bit_xor m 1)) ≡ b
      both b m hb h =
          ⊎_elim
          (λ (e : m ≡ 0). rw e (ap (λ (z : ℕ). bit_or z (bit_and b 1)) (and_zero_r b) ∙ and_one hb))
          (λ (e : m ≡ 1). rw e (ap (bit_or (bit_and b 1)) (and_zero_r b) ∙ or_zero_r (bit_and b 1) ∙ and_one hb))
          (bit-cases h)

-- ---- a pixel put into its word
and-place : (w x k : ℕ) → bit_and w (x * 2 ^ k) ≡ bit_and (w / 2 ^ k) x * 2 ^ k
and-place w x k =
    ap₂ bit_and (sym (split w k)) (sym (add-zero (x * 2 ^ k)))
    ∙ and_block k (w / 2 ^ k) x (w % 2 ^ k) 0 (mod-lt w (pow_pos k)) (pow_pos k)
    ∙ ap (λ (z : ℕ). bit_and (w / 2 ^ k) x * 2 ^ k + z) (and_zero_r (w % 2 ^ k)) ∙ add-zero (bit_and (w / 2 ^ k) x * 2 ^ k)

-- the masked part of the old pixel stays: m of it, and n of it goes
exchange : (w u m n r : ℕ) → (m + n) * u ≤ w → w - (m + n) * u + (m + r) * u ≡ w - n * u + r * u
exchange w u m n r h = omega (arith, add-mul m n u, add-mul m r u)

module _ (p pmask a w : ℕ) (hw : w < 2 ^ 16) where
  abbrev mask : ℕ
  mask = pixel_of (2 ^ p - 1) pmask a

  abbrev old : ℕ
  old = pixel_of (2 ^ p - 1) w a

  abbrev planes : ℕ
  planes = complement (2 ^ p - 1) (pixel_of (2 ^ p - 1) pmask a)

  planes-lt : planes < 2 ^ p
  planes-lt = lt_of_le_ones p (complement-pixel_of-le (2 ^ p - 1) pmask a)

  old-open : bit_and old planes ≡ bit_and (w / 2 ^ (a % 16)) planes
  unfolding pixel_of
  old-open = and_low p (w / 2 ^ (a % 16)) planes-lt

  drawn-replaced : (x : ℕ) → with_pixel (2 ^ p - 1) w a (bit_or (bit_and old mask) (bit_and x planes))
      ≡ replaced w a planes (bit_and x planes)
  unfolding with_pixel replaced
  drawn-replaced x =
      let hm : mask < 2 ^ p = mask_lt in
      let e : bit_and old mask + bit_and old planes ≡ old = masked-sum p mask hm old old-lt in
      let r : ℕ = bit_and x planes in
      let l : (bit_and old mask + bit_and old planes) * 2 ^ (a % 16) ≤ w = rw e old-le in
      ap (λ (y : ℕ). y % 2 ^ 16)
      (ap₂ (λ (y v : ℕ). w - y * 2 ^ (a % 16) + v * 2 ^ (a % 16)) (sym e)
      (or_disjoint (bit_and old mask) r (masked-disjoint p mask hm old x))
      ∙ exchange w (2 ^ (a % 16)) (bit_and old mask) (bit_and old planes) r l
      ∙ ap (λ (y : ℕ). w - y + r * 2 ^ (a % 16)) (ap (λ (y : ℕ). y * 2 ^ (a % 16)) old-open ∙ sym (and-place w planes (a % 16))))
    where
      mask_lt : mask < 2 ^ p
      mask_lt = pixel_of-lt p pmask a

      old-lt : old < 2 ^ p
      old-lt = pixel_of-lt p w a

      old-le : old * 2 ^ (a % 16) ≤ w
      old-le = pixel_of-le (2 ^ p - 1) w a

  -- the old pixel put in changes nothing
  kept : with_pixel (2 ^ p - 1) w a old ≡ w
  unfolding with_pixel
  kept = omega (arith, pixel_of-le (2 ^ p - 1) w a)

  -- S may have bits above the pixel
  pub word_after-replaced : (pp : ℕ) (t : Bool) (s : ℕ)
      → (let planes : ℕ = complement (2 ^ p - 1) (pixel_of (2 ^ p - 1) pmask a) in
      let r : ℕ = bit_and (processed pp (2 ^ p - 1) (bit_and s planes) (bit_and (w / 2 ^ (a % 16)) planes)) planes in
      word_after pp t (2 ^ p - 1) pmask a (bit_and s (2 ^ p - 1)) w ≡ cond (t && eqb r 0) w (replaced w a planes r))
  unfolding word_after pixel_after result
  word_after-replaced pp t s =
      let x : ℕ = processed pp (2 ^ p - 1) (bit_and s planes) (bit_and (w / 2 ^ (a % 16)) planes) in
      ap (λ (y : ℕ). with_pixel (2 ^ p - 1) w a (cond (t && eqb (bit_and y planes) 0) old (bit_or (bit_and old mask) (bit_and y planes))))
      (ap₂ (processed pp (2 ^ p - 1)) (and_low p s planes-lt) old-open)
      ∙ go x (t && eqb (bit_and x planes) 0)
    where
      go : (x : ℕ) (u : Bool) → with_pixel (2 ^ p - 1) w a (cond u old (bit_or (bit_and old mask) (bit_and x planes)))
          ≡ cond u w (replaced w a planes (bit_and x planes))
      go x true = kept
      go x false = drawn-replaced x
