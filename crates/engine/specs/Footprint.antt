-- The bits of a drawing (the scope, "This serial rule decides"): a drawing may write the unmasked
-- bits of its destination pixels; it reads these, the source pixel bits that the destination's mask
-- lets through, and every bit of a B source that it visits. Assumes nothing.
use Rattle.std.specs.Prelude.{◌≡◌, ℕ, ◌+◌, ◌-◌, ◌%◌, ◌<◌, ◌≤◌}
use Rattle.memory.specs.Bits.{bit_of}
use Rattle.pixel.specs.Footprint.{Touched}
use Rattle.plot.specs.declared.Source.TheVariants.{Pixels, Bits}
use Rattle.plot.specs.declared.Drawing.{Drawing}
use Rattle.engine.specs.Engine.{dest_of, src_of}

-- pixel i may write bit b
abbrev pub PixelWrites : Drawing → ℕ → ℕ → Type 0
PixelWrites d i b = Touched d.psize d.pmask (dest_of d i) b

-- bit b is a bit of pixel i's source pixel, and the destination's mask lets it through
pub record LetThrough (d : Drawing) (i b : ℕ) : Type 0 where
  pub pixel : d.source ≡ Pixels
  pub from : src_of d i ≤ b
  pub to : b < src_of d i + d.psize
  pub unmasked : bit_of d.pmask ((dest_of d i + (b - src_of d i)) % 16) ≡ 0

-- bit b is the bit of a B source that pixel i visits
pub record SourceBit (d : Drawing) (i b : ℕ) : Type 0 where
  pub bits : d.source ≡ Bits
  pub is : b ≡ src_of d i

-- beside what it may write, pixel i reads bit b
pub data PixelReads (d : Drawing) (i b : ℕ) : Type 0 where
  pixel-bit : LetThrough d i b → PixelReads d i b
  source-bit : SourceBit d i b → PixelReads d i b
