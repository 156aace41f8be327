-- The loop of a run of points: what holds at its start, what a turn keeps, and what follows at the end. Assumes nothing.
use mathlib.Core.Path.{◌≡◌, refl, ap, ◌∙◌}
use Rattle.std.specs.Prelude.{None, Some}
use mathlib.Core.List.{List}
use Prim.Native.Nat.{ℕ, ◌+◌, ◌*◌, ◌<◌, ◌≤◌}
use native.Mathlib.Nat.{zero-add}
use native.Mathlib.Numerals.{add-one}
use native.Mathlib.Omega.{arith}
use lib.ListN.{length, length-append}
use Rattle.image.specs.Image.{image}
use Rattle.image.proofs.ImageLaws.{length-image}
use Rattle.settings.specs.declared.Settings.{Settings}
use Rattle.operation.specs.declared.Operation.{Operation}
use Rattle.drawing.specs.Draw.{unlimited, drawn}
use Rattle.points.specs.Axes.{Axis}
use Rattle.points.specs.Points.{experiment}
use Rattle.listing.specs.Listing.{put}
use Rattle.listing.proofs.ListingLaws.{put-put, length-put}
use Rattle.running.specs.declared.Progress.{Progress}
use Rattle.run.specs.declared.Ran.{Ran}
use Rattle.settings.specs.Settings.{settings_of}
use Rattle.operation.specs.Operation.{operation_of}
use Rattle.run.specs.Run.{seed_of, ran_over, line_of, image_for, memory_for, point_line}
use Rattle.run.specs.Lines.{point_lines, longest, after_last}
use Rattle.running.specs.Progress.{HoldsImage, progressed}
use Rattle.run.proofs.LinesLaws.{length-point_line, length-point_lines, point_lines-next}

-- One point, as the code goes: the experiment, its image, its drawing, its line
module _ (words draw : ℕ) (axes : List Axis) (point : ℕ) (p : Progress) {s : Settings} {seed : ℕ} {op : Operation} {m : List ℕ} {ran : Ran}
    (es : s ≡ settings_of (experiment axes point)) (ed : seed ≡ seed_of (experiment axes point)) (em : m ≡ image words seed)
    (eo : op ≡ operation_of draw) (er : ran ≡ ran_over op s m) where
  pub image-is : m ≡ image_for words (experiment axes point)
  image-is = em ∙ ap (image words) ed

  line-is : line_of point ran ≡ point_line words draw axes point
  unfolding point_line
  line-is = rw (er, eo, es, image-is)

  pub line-fits : (out : List ℕ) → p.at + longest ≤ length out → p.at + length (line_of point ran) ≤ length out
  line-fits out h = rw line-is (omega (arith, length-point_line words draw axes point))

  pub point-run : (out : List ℕ) {m' out' : List ℕ} {at : ℕ} → m' ≡ drawn op s 0 unlimited m → at ≡ p.at + length (line_of point ran)
      → out' ≡ put p.at (line_of point ran) out
      → (record { seed = Some seed; at = at } ≡ progressed words draw axes point p)
      × ((m ≡ image_for words (experiment axes point))
      × ((m' ≡ memory_for words draw (experiment axes point)) × (out' ≡ put p.at (point_line words draw axes point) out)))
  point-run out ew ea eu = (
    rw (ed, ea, line-is),
    (image-is, (ew ∙ rw (eo, es, image-is), eu ∙ rw line-is)),
  )

-- k points one after another
module _ (draw : ℕ) (axes : List Axis) (first k : ℕ) (image₀ memory₀ out₀ : List ℕ) where
  abbrev lines : ℕ → List ℕ
  lines i = point_lines (length image₀) draw axes first i

  -- i of them are run
  pub record RunTo (p : Progress) (image memory out : List ℕ) (i : ℕ) : Type 0 where
    pub few : i ≤ k
    pub held : HoldsImage p.seed image
    pub image_size : length image ≡ length image₀
    pub memory_size : length memory ≡ length memory₀
    pub out_size : length out ≡ length out₀
    pub image_is : image ≡ after_last (image_for (length image₀)) image₀ axes first i
    pub memory_is : memory ≡ after_last (memory_for (length image₀) draw) memory₀ axes first i
    pub at : p.at ≡ length (lines i)
    pub out_is : out ≡ put 0 (lines i) out₀

  pub start : RunTo (record { seed = None; at = 0 }) image₀ memory₀ out₀ 0
  unfolding after_last point_lines put
  start =
      record {
        few = omega arith;
        held = tt;
        image_size = refl;
        memory_size = refl;
        out_size = refl;
        image_is = refl;
        memory_is = refl;
        at = refl;
        out_is = refl;
      }

  module _ (room : longest * k ≤ length out₀) {p : Progress} {image memory out : List ℕ} {i : ℕ} (below : i < k)
      (h : RunTo p image memory out i) where
    -- there is room for one more line
    pub line-room : p.at + longest ≤ length out
    line-room = omega (arith, h.out_size, h.at, length-point_lines (length image₀) draw axes first i)

    -- a turn
    pub turn : {r : Progress} {image' memory' out' : List ℕ}
        → r ≡ progressed (length image) draw axes (first + i) p
        → image' ≡ image_for (length image) (experiment axes (first + i))
        → memory' ≡ memory_for (length image) draw (experiment axes (first + i))
        → out' ≡ put p.at (point_line (length image) draw axes (first + i)) out
        → length memory' ≡ length memory
        → RunTo r image' memory' out' (i + 1)
    unfolding after_last
    turn {r} {image'} {memory'} {out'} er ei em eo l =
        let vs = experiment axes (first + i) in
        let w = h.image_size in
        let n = point_lines-next (length image₀) draw axes first i in
        let size : length image' ≡ length image = ap length ei ∙ length-image (length image) (seed_of vs) in
        let seed : r.seed ≡ Some (seed_of vs) = ap (λ (q : Progress). q.seed) er in
        let at' : r.at ≡ p.at + length (point_line (length image) draw axes (first + i)) = ap (λ (q : Progress). q.at) er in
        record {
          few = omega arith;
          held = rw (seed, size) (ei);
          image_size = size ∙ w;
          memory_size = l ∙ h.memory_size;
          out_size =
              ap length eo
              ∙ length-put p.at _ out (omega (arith, line-room, length-point_line (length image) draw axes (first + i)))
              ∙ h.out_size;
          image_is = rw (add-one, ← w) ei;
          memory_is = rw (add-one, ← w) em;
          at = at' ∙ rw (n, length-append, h.at, w);
          out_is =
              eo
              ∙ rw (h.at, h.out_is, w, n, ← zero-add (length (lines i)))
              (put-put 0 (lines i) (point_line (length image₀) draw axes (first + i)) out₀
              (omega (arith, length-point_lines (length image₀) draw axes first i)));
        }

  pub finish : {p : Progress} {image memory out : List ℕ} {i : ℕ} → k ≤ i → RunTo p image memory out i
      → (p.at ≡ length (lines k))
      × ((image ≡ after_last (image_for (length image₀)) image₀ axes first k)
      × ((memory ≡ after_last (memory_for (length image₀) draw) memory₀ axes first k) × (out ≡ put 0 (lines k) out₀)))
  finish {i = i} l h =
      let e : k ≡ i = omega (arith, h.few) in
      rw e (h.at, (h.image_is, (h.memory_is, h.out_is)))
