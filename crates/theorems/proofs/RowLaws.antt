-- The rows of an accepted drawing: where they start in their words, and that each one rises without a wrap. Assumes nothing.
use mathlib.Core.Path.{◌≡◌, refl, sym, ap, ◌∙◌}
use mathlib.Core.Bool.{Bool, false, ◌&&◌}
use Prim.Native.Nat.{ℕ, zero, suc, ◌+◌, ◌-◌, ◌*◌, ◌/◌, ◌%◌, ◌≤◌, ◌<◌}
use native.Mathlib.Nat.{zero-mul, one-mul, mul_comm, add-mul, mul-add, mul-sub, mul_assoc, mul_left_comm, mul-le-mul, div-add-mod}
use native.Mathlib.Numerals.{add-one}
use native.Mathlib.Omega.{arith}
use borrow.Author.Tests.{eqb-true, not-false}
use lib.Arith.{digits_lt}
use Rattle.memory.proofs.Tests.{or-false-left, or-false-right, sized}
use Rattle.pixel.specs.Pixel.{bad_pixel_size}
use Rattle.pixel.proofs.SizeLaws.{by_size, size-le}
use Rattle.fill_tables.specs.Time.{words_of}
use Rattle.fill_tables.proofs.RowLaws.{row_within, row-holds, words_of-same}
use Rattle.walk.specs.Walk.{address_at}
use Rattle.walk.proofs.Arithmetic.{mod-pow-mod}
use Rattle.walk.proofs.WalkLaws.{address_at-across, address_of-at}
use Rattle.extent.proofs.ExtentLaws.{lt-of-leaves_memory}
use Rattle.settings.specs.declared.Settings.{Settings}
use Rattle.plot.specs.Drawing.{pixels}
use Rattle.operation.specs.declared.Operation.{Operation}
use Rattle.operation.specs.Operation.{to_xy}
use Rattle.corner.specs.Corner.{walked}
use Rattle.corner.proofs.CornerLaws.{walked-multiple}
use Rattle.arrays.specs.Array.{clipped_array, from_right, from_bottom, dest_walk, drawing_of, drawing_for}
use Rattle.arrays.proofs.ArrayLaws.{chosen_walk-pitch, chosen_walk-step}
use Rattle.array_refusal.specs.Refusal.{negative_start}
use Rattle.array_refusal.proofs.RefusalLaws.{Passes}
use Rattle.slices.proofs.FootLaws.{multiple-of-bad_pitch, bad_to, bad_from, starts}
use Rattle.theorems.specs.Timing.{pixel_at, word_holding}

-- a pixel size divides a word
divides : (p : ℕ) → bad_pixel_size p ≡ false → (k : ℕ) × (16 ≡ p * k)
divides = by_size (λ p. (k : ℕ) × (16 ≡ p * k)) (16, refl) (8, refl) (4, refl) (2, refl) (1, refl)

-- rows a multiple of 16 bits apart start alike in their words
start-alike : (start row pitch : ℕ) → pitch % 16 ≡ 0 → (start + row * pitch) % 16 ≡ start % 16
start-alike start row pitch h =
    let q : pitch ≡ 16 * (pitch / 16) = omega arith in
    let r : row * pitch ≡ 16 * (row * (pitch / 16)) = ap (λ (x : ℕ). row * x) q ∙ mul_left_comm row 16 (pitch / 16) in
    omega (arith, r)

-- of two addresses alike in their words, one a multiple of p, the other is one too
placed : (p k j a b : ℕ) → 16 ≡ p * k → a ≡ p * j → b % 16 ≡ a % 16 → b ≡ p * (k * (b / 16) + (j - k * (a / 16)))
placed p k j a b d e h =
    let x : p * (k * (b / 16)) ≡ 16 * (b / 16) = sym (mul_assoc p k (b / 16)) ∙ ap (λ (n : ℕ). n * (b / 16)) (sym d) in
    let y : p * (k * (a / 16)) ≡ 16 * (a / 16) = sym (mul_assoc p k (a / 16)) ∙ ap (λ (n : ℕ). n * (a / 16)) (sym d) in
    let z : p * (j - k * (a / 16)) ≡ a - 16 * (a / 16) = mul-sub p j (k * (a / 16)) ∙ rw (sym e, y) in
    omega (arith, mul-add p (k * (b / 16)) (j - k * (a / 16)), x, z)

module _ (op : Operation) (s : Settings) (k w : ℕ) (p : Passes op s k w) where
  abbrev cols : ℕ
  cols = (clipped_array op s).cols

  abbrev rows : ℕ
  rows = (clipped_array op s).rows

  -- every row starts alike in its word
  pub row-alike : (row : ℕ) → pixel_at op s row 0 % 16 ≡ (drawing_for op s).dest.start % 16
  unfolding address_at drawing_of
  row-alike row =
      let w = (drawing_for op s).dest in
      let m = multiple-of-bad_pitch (to_xy op) s.dptch (or-false-left _ _ p.pitch) in
      let t : w.pitch % 16 ≡ 0 =
      rw (chosen_walk-pitch op s (clipped_array op s) (dest_walk op s (clipped_array op s)))
      (walked-multiple (from_bottom op s) 4 s.dptch (omega arith) m)
      in
      mod-pow-mod 4 32 _ (omega arith) ∙ omega (arith, zero-mul w.step, start-alike w.start row w.pitch t)

  module _ (straight : from_right op s ≡ false) (some : 0 < cols) (row : ℕ) (below : row < rows) where
    -- the pixels of the row lie in the memory
    inside : (c : ℕ) → c < cols → pixel_at op s row c < 16 * w
    unfolding drawing_of
    inside c h =
        rw (← address_of-at (drawing_for op s).dest cols row c h)
        (lt-of-leaves_memory w (drawing_for op s).dest cols rows p.memory (or-false-left _ _ p.end) (row * cols + c)
        (rw (mul_comm cols rows) (digits_lt below h)))

    -- its pixels are PSIZE apart
    step-size : (drawing_for op s).dest.step ≡ s.psize
    unfolding drawing_of
    step-size =
        chosen_walk-step op s (clipped_array op s) (dest_walk op s (clipped_array op s)) ∙ ap (λ (t : Bool). walked t s.psize) straight

    -- so that it rises from pixel to pixel
    rises : (c : ℕ) → c < cols → pixel_at op s row c ≡ pixel_at op s row 0 + c * s.psize
    unfolding drawing_of
    rises zero h = omega (arith, zero-mul s.psize)
    rises (suc c) h =
        let small = (sized w p.memory).most in
        let size = size-le s.psize p.size in
        let here = inside c (omega arith) in
        let next = address_at-across (drawing_for op s).dest row c in
        rw (← add-one c) (omega (arith, next, step-size, here, rises c (omega arith), add-mul c 1 s.psize, one-mul s.psize))

    -- the start of the drawing is a multiple of the pixel size, and so is that of the row
    start-placed : (drawing_for op s).dest.start % s.psize ≡ 0
    unfolding drawing_of
    start-placed =
        let filled : 1 ≤ rows = omega arith in
        let at : 0 < pixels (drawing_for op s) = omega (arith, mul-le-mul some filled) in
        eqb-true _ 0
        (not-false _
        (or-false-right (to_xy op && negative_start s.daddr (clipped_array op s)) _
        (or-false-left (bad_to op s k w p 0 at) (bad_from op s k w p 0 at) (starts op s k w p 0 at))))

    abbrev first : ℕ
    first = word_holding op s row 0

    abbrev many : ℕ
    many = words_of (drawing_for op s).dest.start (cols * s.psize)

    same-words : words_of (pixel_at op s row 0) (cols * s.psize) ≡ many
    same-words = words_of-same (pixel_at op s row 0) (drawing_for op s).dest.start (cols * s.psize) (row-alike row)

    abbrev whole : ℕ
    whole = (divides s.psize p.size).0

    -- the row's start as so many pixels
    abbrev pixels_before : ℕ
    pixels_before =
        whole * (pixel_at op s row 0 / 16) + ((drawing_for op s).dest.start / s.psize - whole * ((drawing_for op s).dest.start / 16))

    row-placed : pixel_at op s row 0 ≡ s.psize * pixels_before
    row-placed =
        placed s.psize whole ((drawing_for op s).dest.start / s.psize) (drawing_for op s).dest.start (pixel_at op s row 0)
        (divides s.psize p.size).1
        (omega (arith, div-add-mod (drawing_for op s).dest.start s.psize, start-placed))
        (row-alike row)

    -- each of its pixels lies in one of its words
    pub words-within : (c : ℕ) → c < cols → (first ≤ word_holding op s row c) × (word_holding op s row c < first + many)
    words-within c h =
        rw (rises c h, ← same-words)
        (row_within s.psize whole (pixel_at op s row 0) pixels_before cols (divides s.psize p.size).1 row-placed c h)

    -- and each of its words holds one
    pub words-holding : (v : ℕ) → first ≤ v → v < first + many → (c : ℕ) × (c < cols) × (word_holding op s row c ≡ v)
    words-holding v lo hi =
        let found =
        row-holds s.psize whole (pixel_at op s row 0) pixels_before cols (divides s.psize p.size).1 row-placed some v lo
        (rw same-words hi)
        in
        (found.0, found.1, rw (rises found.0 found.1) found.2)
