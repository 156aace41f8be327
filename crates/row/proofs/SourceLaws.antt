-- S by the source of the drawing. No contract cites this file. Assumes nothing.
use Rattle.std.proofs.Common.{◌≡◌, ℕ, ◌/◌, ◌<◌, cond, eqb, List, get_or, ap, ◌∙◌, ⊎_elim}
use Rattle.memory.specs.Bits.{bit_at}
use Rattle.memory.proofs.BitLaws.{bit-lt, bit-cases}
use Rattle.pixel.specs.Pixel.{top_of, pixel_of}
use Rattle.plot.specs.declared.Source.{Source}
use Rattle.plot.specs.declared.Source.TheVariants.{Color, Pixels, Bits}
use Rattle.plot.specs.declared.Drawing.{Drawing}
use Rattle.row.specs.Colors.{colors_of}
use Rattle.row.specs.Row.{color_at, source_by, source_at}

pub bit_at_lt : (m : List ℕ) (a : ℕ) → bit_at m a < 2
unfolding bit_at
bit_at_lt m a = bit-lt _ _

module _ (d : Drawing) (from to : ℕ) (m : List ℕ) where
  by-source : {k : Source} → d.source ≡ k → source_at d from to m ≡ source_by k d from to m
  unfolding source_at
  by-source e = ap (λ (k : Source). source_by k d from to m) e

  pub source-color : d.source ≡ Color → source_at d from to m ≡ color_at d d.color1 to
  source-color e = by-source e

  pub source-pixels : d.source ≡ Pixels → source_at d from to m ≡ pixel_of (top_of d.psize) (get_or m (from / 16) 0) from
  source-pixels e = by-source e

  pub source-bits : d.source ≡ Bits
      → source_at d from to m ≡ cond (eqb (bit_at m from) 1) (color_at d d.color1 to) (color_at d d.color0 to)
  source-bits e = by-source e

  -- the colour is chosen by the bit as a place in the list of the two
  pub source-chosen : d.source ≡ Bits → source_at d from to m ≡ color_at d (get_or (colors_of d) (bit_at m from) 0) to
  source-chosen e = by-source e ∙ ⊎_elim (λ (z : bit_at m from ≡ 0). rw z) (λ (z : bit_at m from ≡ 1). rw z) (bit-cases (bit_at_lt m from))
