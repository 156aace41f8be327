-- The proofs of specs/Pixels.antt. Assumes nothing.
use Rattle.pixel.proofs.Footprint as pixel
use Rattle.pixel.proofs.PixelLaws.{bit-pixel_of-place, bit-pixel_of-bit_at}
use Rattle.theorems.specs.Pixels.{PixelFrame, PixelDepends, PixelIsBits, PixelBits, OfPixels}
use Rattle.theorems.proofs.PixelBitLaws as bits

pub pixel-frame : PixelFrame
pixel-frame pp t p pmask a n m s b h g l = pixel.plotted-frame pp t p pmask a h g l s b

pub pixel-depends : PixelDepends
pixel-depends pp t p pmask a n m m' s s' h g g' l e f = pixel.plotted-depend pp t p pmask a h g g' l s s' e f

pub pixel-is-bits : PixelIsBits
pixel-is-bits p pmask a j m fit h = (bit-pixel_of-bit_at p a fit j h m, bit-pixel_of-place p a fit j h pmask)

pub pixel-bits : PixelBits
pixel-bits = bits.bit-plotted

pub of-pixels : OfPixels
of-pixels =
    record {
      pixel-frame = pixel-frame;
      pixel-depends = pixel-depends;
      pixel-is-bits = pixel-is-bits;
      pixel-bits = pixel-bits;
    }
