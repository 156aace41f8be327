-- An accepted PIXBLT of pixels over itself: by its pixels, in order, and by its settings. No contract cites this file. Assumes
-- nothing.
use mathlib.Core.Path.{◌≡◌, sym, ap, ap₂, subst, ◌∙◌}
use mathlib.Core.Bool.{Bool, true, false, ◌&&◌}
use mathlib.Core.List.{List}
use mathlib.Core.Logic.{◌⊎◌, ⊎_elim}
use Prim.Native.Nat.{ℕ, ◌-◌, ◌≤◌, min}
use native.Mathlib.Omega.{arith}
use Rattle.memory.specs.Bits.{Memory}
use Rattle.memory.proofs.Tests.{sized}
use Rattle.control.specs.Control.{right_to_left, bottom_to_top}
use Rattle.corner.specs.Corner.{walked}
use Rattle.settings.specs.declared.Settings.{Settings}
use Rattle.plot.specs.declared.Source.{Source}
use Rattle.plot.specs.declared.Source.TheVariants.{Pixels}
use Rattle.plot.specs.Drawing.{pixels}
use Rattle.engine.specs.Engine.{visits}
use Rattle.operation.specs.declared.Operation.{Operation}
use Rattle.operation.specs.Operation.{source_of, copies_pixels}
use Rattle.arrays.specs.Array.{clipped_array, step_of, from_right, from_bottom, dest_walk, src_walk, drawing_of, drawing_for}
use Rattle.arrays.proofs.ArrayLaws.{chosen_walk-pitch, chosen_walk-step}
use Rattle.array_refusal.specs.Refusal.{refusal}
use Rattle.array_refusal.proofs.RefusalLaws.{Passes, passes}
use Rattle.drawing.specs.Draw.{drawn}
use Rattle.drawing.proofs.OutcomeLaws.{drawn-accepted}
use Rattle.slices.proofs.FootLaws.{dest-inside, dest-multiple, src-inside, src-multiple}
use Rattle.overlap.specs.Copy.{PlainCopy, OldSource, Unspoilt, RisesBelow, FallsAbove}
use Rattle.overlap.specs.Scroll.{Scroll, ToLower, ToHigher}
use Rattle.overlap.proofs.CopyLaws.{copied}
use Rattle.overlap.proofs.OrderLaws.{unspoilt-of-rises, unspoilt-of-falls}
use Rattle.overlap.proofs.ScrollLaws.{Within, Alike, rises-of, falls_of}

module _ (w : ℕ) (m : List ℕ) (g : Memory w m) (op : Operation) (s : Settings) (e : refusal op s 0 w ≡ 0)
    (plain : PlainCopy (drawing_for op s)) where
  accepted : Passes op s 0 w
  accepted = passes op s 0 w e

  pixel_source : source_of op ≡ Pixels
  unfolding drawing_of
  pixel_source = plain.source

  module _ (b : ℕ) (whole : pixels (drawing_for op s) ≤ b) where
    all-visited : drawn op s 0 b m ≡ visits (drawing_for op s) 0 (pixels (drawing_for op s)) m
    all-visited =
        let n : min b (pixels (drawing_for op s) - 0) ≡ pixels (drawing_for op s) = omega arith in
        drawn-accepted op s 0 b m (ap (refusal op s 0) g.size ∙ e) ∙ ap (λ (c : ℕ). visits (drawing_for op s) 0 c m) n

    pub copy-unspoilt : Unspoilt (drawing_for op s) → OldSource (drawing_for op s) m (drawn op s 0 b m)
    unfolding drawing_of
    copy-unspoilt clean =
        subst (OldSource (drawing_for op s) m) (sym all-visited)
        (copied w (drawing_for op s) (dest-inside op s 0 w accepted) accepted.size (dest-multiple op s 0 w accepted)
        (λ i h. src-multiple op s 0 w accepted i h pixel_source) plain clean g)

    pub copy-in-order : RisesBelow (drawing_for op s) ⊎ FallsAbove (drawing_for op s) → OldSource (drawing_for op s) m (drawn op s 0 b m)
    copy-in-order h = copy-unspoilt (⊎_elim (unspoilt-of-rises (drawing_for op s)) (unspoilt-of-falls (drawing_for op s)) h)

    -- ---- by settings
    module _ (scroll : Scroll op s) where
      chosen : (bit falls : Bool) → bit ≡ falls → (copies_pixels (source_of op) && bit) ≡ falls
      chosen bit falls h = rw (ap copies_pixels pixel_source) h

      abbrev step : Bool → Source → ℕ
      step t k = walked t (step_of k s.psize)

      alike : (falls : Bool) → right_to_left s.control ≡ falls → bottom_to_top s.control ≡ falls
          → Alike (drawing_for op s) s.dptch falls
      unfolding drawing_of
      alike falls h v =
          let c = clipped_array op s in
          let right : from_right op s ≡ falls = chosen (right_to_left s.control) falls h in
          let bottom : from_bottom op s ≡ falls = chosen (bottom_to_top s.control) falls v in
          record {
            to-pitch = chosen_walk-pitch op s c (dest_walk op s c) ∙ ap (λ (t : Bool). walked t s.dptch) bottom;
            from-pitch = chosen_walk-pitch op s c (src_walk op s c) ∙ ap₂ walked bottom scroll.pitches;
            to_step = chosen_walk-step op s c (dest_walk op s c) ∙ ap (λ (t : Bool). walked t s.psize) right;
            from_step = chosen_walk-step op s c (src_walk op s c) ∙ ap₂ step right pixel_source;
          }

      within : Within (drawing_for op s) s.dptch
      unfolding drawing_of
      within =
          let most = (sized w accepted.memory).most in
          record {
            size = accepted.size;
            to = λ i l. omega (arith, most, dest-inside op s 0 w accepted i l);
            from = λ i l. omega (arith, most, src-inside op s 0 w accepted i l pixel_source);
            row = scroll.rows;
            short = scroll.half;
          }

      rises : ToLower op s → RisesBelow (drawing_for op s)
      rises h = rises-of (drawing_for op s) s.dptch within (alike false h.pbh h.pbv) h.first

      falls : ToHigher op s → FallsAbove (drawing_for op s)
      falls h = falls_of (drawing_for op s) s.dptch within (alike true h.pbh h.pbv) h.first

      pub copy-scroll : ToLower op s ⊎ ToHigher op s → OldSource (drawing_for op s) m (drawn op s 0 b m)
      copy-scroll h = copy-unspoilt (⊎_elim (λ l. unspoilt-of-rises _ (rises l)) (λ u. unspoilt-of-falls _ (falls u)) h)
