-- A plain copy whose source is not spoilt leaves the old source in all it draws. No contract cites this file. Assumes nothing.
use mathlib.Core.Path.{◌≡◌, refl, sym, ap, ◌∙◌}
use mathlib.Core.Bool.{false}
use mathlib.Core.List.{List}
use mathlib.Core.Logic.{◌≢◌, ⊎_elim}
use Prim.Native.Nat.{ℕ, zero, suc, ◌+◌, ◌-◌, ◌*◌, ◌/◌, ◌%◌, ◌^◌, ◌≤◌, ◌<◌}
use native.Mathlib.Nat.{mod-eq_of_lt, zero-div, zero-add}
use native.Mathlib.Omega.{arith}
use lib.Bits.{bit_and, and_mask, and_zero_r}
use lib.ListN.{get_or}
use Rattle.memory.specs.Bits.{Memory, bit_of, bit_at}
use Rattle.memory.proofs.Within.{within-inside}
use Rattle.pixel.specs.PixelOp.{pixel_operations, processed}
use Rattle.pixel.specs.Pixel.{bad_pixel_size, top_of, pixel_of, result, pixel_after, plotted}
use Rattle.pixel.proofs.SizeLaws.{by_size, aligned-fits, top_of-ones}
use Rattle.pixel.proofs.PixelLaws.{pixel_of-lt, bit-pixel_of-bit_at, bit_at-plotted}
use Rattle.plot.specs.declared.Drawing.{Drawing}
use Rattle.plot.specs.Drawing.{pixels}
use Rattle.row.specs.Row.{drawn_at}
use Rattle.row.proofs.SourceLaws.{source-pixels}
use Rattle.engine.specs.Engine.{dest_of, src_of, visit, visits}
use Rattle.engine.proofs.VisitsLaws.{memory-visits, visits-add}
use Rattle.engine.proofs.FootprintLaws.{memory-visit, visit-frame}
use Rattle.overlap.specs.Copy.{PlainCopy, OldSource, Unspoilt}

-- ---- one pixel
-- PMASK 0 masks no bit of it
pixel_of-zero : (top a : ℕ) → pixel_of top 0 a ≡ 0
unfolding pixel_of
pixel_of-zero top a = ap (λ (x : ℕ). bit_and x top) (zero-div (2 ^ (a % 16)))

-- with replace and T=0 it becomes S
pixel_after-plain : (p s d : ℕ) → s < 2 ^ p → pixel_after 0 false (2 ^ p - 1) 0 s d ≡ s
unfolding pixel_after result processed pixel_operations
pixel_after-plain p s d h = rw (and_zero_r d, and_mask s p, mod-eq_of_lt h, and_mask s p, mod-eq_of_lt h)

bit_at-plain : (p a : ℕ) → a % 16 + p ≤ 16 → (s : ℕ) → s < 2 ^ p → {w : ℕ} {m : List ℕ} → Memory w m → a < 16 * w → (j : ℕ) → j < p
    → bit_at (plotted 0 false (2 ^ p - 1) 0 a s m) (a + j) ≡ bit_of s j
bit_at-plain p a fit s h {m = m} g l j hj =
    let o : a + j - a ≡ j = omega arith in
    bit_at-plotted 0 false p 0 a fit s g l (a + j)
    ∙ rw (within-inside a p (a + j) (omega arith) (omega arith), pixel_of-zero, pixel_after-plain p s _ h, o)

module _ (w : ℕ) (d : Drawing) (plain : PlainCopy d) (i : ℕ) (inside : dest_of d i < 16 * w)
    (to-fits : dest_of d i % 16 + d.psize ≤ 16) (from-fits : src_of d i % 16 + d.psize ≤ 16) where
  visit-plain : (m : List ℕ) → visit d i m
      ≡ plotted 0 false (2 ^ d.psize - 1) 0 (dest_of d i) (pixel_of (2 ^ d.psize - 1) (get_or m (src_of d i / 16) 0) (src_of d i)) m
  unfolding drawn_at
  visit-plain m =
      let ones : top_of d.psize ≡ 2 ^ d.psize - 1 = top_of-ones d.psize (omega arith) in
      rw (source-pixels d (src_of d i) (dest_of d i) m plain.source, plain.replace, plain.opaque, plain.planes, ones)

  -- its bits become those of its source
  bit_at-visit : {m : List ℕ} → Memory w m → (j : ℕ) → j < d.psize → bit_at (visit d i m) (dest_of d i + j) ≡ bit_at m (src_of d i + j)
  bit_at-visit {m} g j hj =
      ap (λ (x : List ℕ). bit_at x (dest_of d i + j)) (visit-plain m)
      ∙ bit_at-plain d.psize (dest_of d i) to-fits _ (pixel_of-lt d.psize _ (src_of d i)) g inside j hj
      ∙ bit-pixel_of-bit_at d.psize (src_of d i) from-fits j hj m

-- ---- all pixels
-- two multiples of a pixel size are one where their pixels share a bit
same-of-shared : (p : ℕ) → bad_pixel_size p ≡ false → (a b j : ℕ) → a % p ≡ 0 → b % p ≡ 0 → j < p → a ≤ b + j → b + j < a + p → a ≡ b
same-of-shared =
    by_size (λ p. (a b j : ℕ) → a % p ≡ 0 → b % p ≡ 0 → j < p → a ≤ b + j → b + j < a + p → a ≡ b)
    (λ a b j x y h l u. omega arith) (λ a b j x y h l u. omega arith) (λ a b j x y h l u. omega arith)
    (λ a b j x y h l u. omega arith) (λ a b j x y h l u. omega arith)

-- the pixels before pixel i, then pixel i, then the pixels after it
visits-around : (d : Drawing) (i n : ℕ) → i < n → (m : List ℕ)
    → visits d 0 n m ≡ visits d (suc i) (n - suc i) (visit d i (visits d 0 i m))
unfolding visits
visits-around d i n h m =
    let around : n ≡ suc i + (n - suc i) = omega arith in
    ap (λ (x : ℕ). visits d 0 x m) around ∙ visits-add d 0 (suc i) (n - suc i) m ∙ rw (zero-add (suc i), zero-add i)

module _ (w : ℕ) (d : Drawing) (inside : (i : ℕ) → i < pixels d → dest_of d i < 16 * w) (size : bad_pixel_size d.psize ≡ false)
    (to-multiple : (i : ℕ) → i < pixels d → dest_of d i % d.psize ≡ 0)
    (from-multiple : (i : ℕ) → i < pixels d → src_of d i % d.psize ≡ 0) where
  fits : (a : ℕ) → a % d.psize ≡ 0 → a % 16 + d.psize ≤ 16
  fits a z = aligned-fits d.psize size a z

  -- bit j of the pixel at a stays while pixels at other addresses are drawn
  module _ (a : ℕ) (multiple : a % d.psize ≡ 0) (j : ℕ) (hj : j < d.psize) where
    kept-visit : (i : ℕ) → i < pixels d → dest_of d i ≢ a → {m : List ℕ} → Memory w m → bit_at (visit d i m) (a + j) ≡ bit_at m (a + j)
    kept-visit i h ne g =
        ⊎_elim (λ e. e)
        (λ u. absurd (ne (same-of-shared d.psize size (dest_of d i) a j (to-multiple i h) multiple hj u.from u.to)))
        (visit-frame w d i (inside i h) (fits (dest_of d i) (to-multiple i h)) g (a + j))

    kept-visits : (k n : ℕ) → k + n ≤ pixels d → ((i : ℕ) → k ≤ i → i < k + n → dest_of d i ≢ a) → {m : List ℕ} → Memory w m
        → bit_at (visits d k n m) (a + j) ≡ bit_at m (a + j)
    unfolding visits
    kept-visits k zero l ne g = refl
    kept-visits k (suc n) l ne g =
        kept-visit (k + n) (omega arith) (ne (k + n) (omega arith) (omega arith)) (memory-visits d k n g)
        ∙ kept-visits k n (omega arith) (λ i from to. ne i from (omega arith)) g

  -- pixel i's source is as before when it is read, and pixel i stays once it is drawn
  pub copied : PlainCopy d → Unspoilt d → {m : List ℕ} → Memory w m → OldSource d m (visits d 0 (pixels d) m)
  copied plain clean {m} g i h j hj =
      let to : dest_of d i % d.psize ≡ 0 = to-multiple i h in
      let from : src_of d i % d.psize ≡ 0 = from-multiple i h in
      let before : Memory w (visits d 0 i m) = memory-visits d 0 i g in
      ap (λ (x : List ℕ). bit_at x (dest_of d i + j)) (visits-around d i (pixels d) h m)
      ∙ kept-visits (dest_of d i) to j hj (suc i) (pixels d - suc i) (omega arith) (λ k l u e. clean.once i k l (omega arith) (sym e))
      (memory-visit w d i before)
      ∙ bit_at-visit w d plain i (inside i h) (fits (dest_of d i) to) (fits (src_of d i) from) before j hj
      ∙ kept-visits (src_of d i) from j hj 0 i (omega arith) (λ k l u. clean.source k i (omega arith) h) g
