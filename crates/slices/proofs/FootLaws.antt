-- The pixels of an accepted drawing lie in the memory, each within one word, and keep to their bits. No contract cites
-- this file. Assumes nothing.
use mathlib.Core.Path.{◌≡◌, refl, ap, ◌∙◌}
use mathlib.Core.Bool.{Bool, true, false, not, ◌&&◌, ◌||◌, false≢true}
use Prim.Native.Nat.{ℕ, ◌+◌, ◌*◌, ◌/◌, ◌%◌, ◌^◌, ◌≤◌, ◌<◌}
use native.Mathlib.Omega.{arith}
use borrow.Author.Tests.{eqb-true, ne_eqb, not-false}
use Rattle.memory.proofs.Tests.{or-false-left, or-false-right}
use Rattle.pixel.specs.Pixel.{bad_pixel_size}
use Rattle.pixel.proofs.SizeLaws.{by_size, aligned-fits}
use Rattle.address.specs.Address.{misaligned}
use Rattle.walk.specs.declared.Walk.{Walk}
use Rattle.walk.specs.Walk.{address_at, address_of}
use Rattle.walk.proofs.Arithmetic.{multiple-of-16}
use Rattle.address.proofs.AddressLaws.{multiple-of-bad_xy_pitch, multiple-of-bad_linear_pitch}
use Rattle.walk.proofs.WalkLaws.{address_at-residue}
use Rattle.corner.specs.Corner.{walked}
use Rattle.corner.proofs.CornerLaws.{walked-multiple}
use Rattle.extent.specs.Extent.{leaves_memory}
use Rattle.extent.proofs.ExtentLaws.{lt-of-leaves_memory}
use Rattle.settings.specs.declared.Settings.{Settings}
use Rattle.plot.specs.declared.Source.{Source}
use Rattle.plot.specs.declared.Source.TheVariants.{Pixels}
use Rattle.plot.specs.Drawing.{pixels}
use Rattle.engine.specs.Engine.{dest_of, src_of, visit}
use Rattle.engine.specs.Footprint.{PixelWrites, PixelReads}
use Rattle.engine.proofs.FootprintLaws.{memory-visit, visit-frame, visit-depend}
use Rattle.operation.specs.declared.Operation.{Operation}
use Rattle.operation.specs.Operation.{to_xy, from_xy, source_of, copies, copies_pixels}
use Rattle.windows.specs.declared.Clipped.{Clipped}
use Rattle.arrays.specs.Array.{clipped_array, step_of, from_right, from_bottom, chosen_walk, dest_walk, src_walk, drawing_of, drawing_for}
use Rattle.arrays.proofs.ArrayLaws.{chosen_walk-pitch, chosen_walk-step}
use Rattle.array_refusal.specs.Refusal.{bad_pitch, bad_dest, bad_source, negative_start}
use Rattle.array_refusal.proofs.RefusalLaws.{Passes, passes}
use Rattle.interleave.proofs.FootprintLaws.{Foot}
use Rattle.slices.specs.Calls.{Job}
use Rattle.slices.specs.Demand3.{walk_of, pixels_of, Accepted}

-- a test that is false, and of which one part is true
pub and-false : (a b : Bool) → a ≡ true → (a && b) ≡ false → b ≡ false
and-false true b e h = h
and-false false b e h = absurd (false≢true e)

-- a pitch that is not refused
pub multiple-of-bad_pitch : (xy : Bool) (pitch : ℕ) → bad_pitch xy pitch ≡ false → pitch % 16 ≡ 0
multiple-of-bad_pitch true pitch e = multiple-of-bad_xy_pitch pitch e
multiple-of-bad_pitch false pitch e = multiple-of-bad_linear_pitch pitch e

-- a pixel size is a multiple of itself, walked the other way too
walked-size : (falls : Bool) (p : ℕ) → bad_pixel_size p ≡ false → walked falls p % p ≡ 0
walked-size falls =
    by_size (λ p. walked falls p % p ≡ 0)
    (walked-multiple falls 0 1 (omega arith) refl) (walked-multiple falls 1 2 (omega arith) refl)
    (walked-multiple falls 2 4 (omega arith) refl) (walked-multiple falls 3 8 (omega arith) refl)
    (walked-multiple falls 4 16 (omega arith) refl)

-- with a step that is a multiple of the pixel size, and a pitch that is one of 16, each address of a walk has its start's residue
pub walk-residue : (p : ℕ) → bad_pixel_size p ≡ false → (w : Walk) (r c : ℕ) → w.pitch % 16 ≡ 0 → w.step % p ≡ 0
    → address_at w r c % p ≡ w.start % p
walk-residue p e w r c hp = sized p e
  where
    at : (k : ℕ) → k ≤ 4 → w.step % 2 ^ k ≡ 0 → address_at w r c % 2 ^ k ≡ w.start % 2 ^ k
    at k hk hw = address_at-residue k w r c hk (multiple-of-16 k w.pitch hk hp) hw

    sized : (p : ℕ) → bad_pixel_size p ≡ false → w.step % p ≡ 0 → address_at w r c % p ≡ w.start % p
    sized =
        by_size (λ p. w.step % p ≡ 0 → address_at w r c % p ≡ w.start % p)
        (at 0 (omega arith)) (at 1 (omega arith)) (at 2 (omega arith)) (at 3 (omega arith)) (at 4 (omega arith))

-- so that the pixels of an array in the chosen order lie at multiples, where its start does
chosen-multiple : (op : Operation) (s : Settings) (c : Clipped) (w : Walk) (cols i : ℕ) → bad_pixel_size s.psize ≡ false
    → misaligned s.psize (chosen_walk op s c w).start ≡ false → w.pitch % 16 ≡ 0 → w.step ≡ s.psize
    → address_of (chosen_walk op s c w) cols i % s.psize ≡ 0
unfolding address_of
chosen-multiple op s c w cols i e h hp hw =
    walk-residue s.psize e (chosen_walk op s c w) (i / cols) (i % cols)
    (rw (chosen_walk-pitch op s c w) (walked-multiple (from_bottom op s) 4 w.pitch (omega arith) hp))
    (rw (chosen_walk-step op s c w, hw) (walked-size (from_right op s) s.psize e))
    ∙ eqb-true ((chosen_walk op s c w).start % s.psize) 0 (not-false _ h)

-- ---- the pixels of a drawing that is not refused
module _ (op : Operation) (s : Settings) (k w : ℕ) (p : Passes op s k w) (i : ℕ) (h : i < pixels (drawing_for op s)) where
  abbrev pub bad_to : Bool
  bad_to = bad_dest op s (clipped_array op s) (drawing_for op s)

  abbrev pub bad_from : Bool
  bad_from = bad_source op s (clipped_array op s) (drawing_for op s)

  -- there are pixels, so that 16 looks at the starts
  pub starts : (bad_to || bad_from) ≡ false
  starts = and-false _ _ (ap not (ne_eqb (pixels (drawing_for op s)) 0 (omega arith))) p.start

  pub dest-inside : dest_of (drawing_for op s) i < 16 * w
  dest-inside = lt-of-leaves_memory w _ _ _ p.memory (or-false-left _ _ p.end) i h

  pub dest-multiple : dest_of (drawing_for op s) i % s.psize ≡ 0
  unfolding drawing_of
  dest-multiple =
      chosen-multiple op s (clipped_array op s) (dest_walk op s (clipped_array op s)) (clipped_array op s).cols i p.size
      (or-false-right (to_xy op && negative_start s.daddr (clipped_array op s)) _ (or-false-left bad_to bad_from starts))
      (multiple-of-bad_pitch (to_xy op) s.dptch (or-false-left _ _ p.pitch)) refl

  dest-fits : dest_of (drawing_for op s) i % 16 + (drawing_for op s).psize ≤ 16
  unfolding drawing_of
  dest-fits = aligned-fits s.psize p.size (dest_of (drawing_for op s) i) dest-multiple

  -- of a source of pixels
  module _ (e : source_of op ≡ Pixels) where
    copied : copies_pixels (source_of op) ≡ true
    copied = ap copies_pixels e

    pub src-inside : src_of (drawing_for op s) i < 16 * w
    src-inside =
        lt-of-leaves_memory w _ _ _ p.memory (and-false _ _ (ap copies e) (or-false-right (leaves_memory w _ _ _) _ p.end)) i h

    pub src-multiple : src_of (drawing_for op s) i % s.psize ≡ 0
    unfolding drawing_of
    src-multiple =
        chosen-multiple op s (clipped_array op s) (src_walk op s (clipped_array op s)) (clipped_array op s).cols i p.size
        (or-false-right (from_xy op && negative_start s.saddr (clipped_array op s)) _
        (and-false _ _ copied (or-false-right bad_to bad_from starts)))
        (multiple-of-bad_pitch (from_xy op) s.sptch
        (and-false _ _ copied (or-false-right (bad_pitch (to_xy op) s.dptch) _ p.pitch)))
        (ap (λ (k : Source). step_of k s.psize) e)

    src-fits : src_of (drawing_for op s) i % 16 + (drawing_for op s).psize ≤ 16
    unfolding drawing_of
    src-fits = aligned-fits s.psize p.size (src_of (drawing_for op s) i) src-multiple

  whole : (drawing_for op s).source ≡ Pixels → src_of (drawing_for op s) i % 16 + (drawing_for op s).psize ≤ 16
  unfolding drawing_of
  whole e = src-fits e

  pixel-foot : Foot w (PixelWrites (drawing_for op s) i) (PixelReads (drawing_for op s) i) (visit (drawing_for op s) i)
  pixel-foot =
      record {
        good = λ m g. memory-visit w (drawing_for op s) i g;
        frame = λ m g a. visit-frame w (drawing_for op s) i dest-inside dest-fits g a;
        depend = λ m m' g g' e. visit-depend w (drawing_for op s) i dest-inside dest-fits whole g g' e;
      }

pub foot : (w : ℕ) (j : Job) (i : ℕ) → Accepted w j → i < pixels_of j
    → Foot w (PixelWrites (walk_of j) i) (PixelReads (walk_of j) i) (visit (walk_of j) i)
foot w j i e = pixel-foot j.operation j.settings 0 w (passes j.operation j.settings 0 w e) i
