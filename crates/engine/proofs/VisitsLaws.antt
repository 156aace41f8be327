-- Visits one after the other: none, a slice and then another; the memory keeps its length and its words their 16 bits. What
-- the first visit of a drawing in a colour draws.
-- No contract cites this file. Assumes nothing.
use Rattle.std.proofs.Common.{◌≡◌, ℕ, zero, suc, ◌+◌, ◌*◌, ◌^◌, ◌<◌, ◌≤◌, List, length, refl, ap, ◌∙◌, add-zero, add_assoc, add-suc, pos_of_ne-zero, zero-mul, arith}
use Rattle.memory.specs.Bits.{Memory}
use Rattle.pixel.specs.Pixel.{top_of, plotted}
use Rattle.walk.proofs.WalkLaws.{address_of-first}
use Rattle.plot.specs.declared.Source.TheVariants.{Color}
use Rattle.plot.specs.declared.Drawing.{Drawing}
use Rattle.plot.specs.Drawing.{pixels}
use Rattle.engine.specs.Engine.{visited_from, src_of, dest_of, visit, visits}
use Rattle.row.specs.Row.{color_at, drawn_at}
use Rattle.row.proofs.SourceLaws.{source-color}
use Rattle.row.proofs.DrawnLaws.{length-drawn_at, memory-drawn_at}

module _ (d : Drawing) (k : ℕ) where
  pub visits-none : (m : List ℕ) → visits d k 0 m ≡ m
  unfolding visits
  visits-none m = refl

  pub length-visits : (n : ℕ) (m : List ℕ) → length (visits d k n m) ≡ length m
  unfolding visits
  length-visits zero m = refl
  length-visits (suc n) m = length-drawn_at d _ _ (visits d k n m) ∙ length-visits n m

  pub memory-visits : (n : ℕ) {w : ℕ} {m : List ℕ} → Memory w m → Memory w (visits d k n m)
  unfolding visits
  memory-visits zero g = g
  memory-visits (suc n) g = memory-drawn_at d _ _ (memory-visits n g)

  -- a slice and then another
  pub visits-add : (a b : ℕ) (m : List ℕ) → visits d k (a + b) m ≡ visits d (k + a) b (visits d k a m)
  unfolding visits
  visits-add a zero m = rw add-zero
  visits-add a (suc b) m = rw (add-suc, ← add_assoc k a b) (ap (visit d (k + a + b)) (visits-add a b m))

-- ---- the first pixel of a drawing in a colour
pub visits-first : (d : Drawing) → d.source ≡ Color → d.dest.start < 2 ^ 32 → (m : List ℕ)
    → visits d 0 1 m ≡ plotted d.pp d.t (top_of d.psize) d.pmask d.dest.start (color_at d d.color1 d.dest.start) m
unfolding visits drawn_at
visits-first d e h m =
    ap (λ (s : ℕ). plotted d.pp d.t (top_of d.psize) d.pmask (dest_of d 0) s m) (source-color d (src_of d 0) (dest_of d 0) m e)
    ∙ ap (λ (a : ℕ). plotted d.pp d.t (top_of d.psize) d.pmask a (color_at d d.color1 a) m)
    (address_of-first d.dest d.cols h)
