-- `source_at` meets its contract, by the source of the drawing.
use Rattle.std.proofs.Common.{sym}
use Rattle.pixel.specs.Pixel.{pixel_of}
use Rattle.row.proofs.SourceLaws.{source-color, source-pixels, source-chosen}
use Rattle.row.proofs.source_at.Goals as goal

pub returns-in-Color : goal.returns-in-Color
unfolding pixel_of
returns-in-Color c =
    rw (c.shifted.ensures, c.wide.ensures) (sym (source-color _ _ _ _ c.in-Color.is))

pub returns-in-Pixels : goal.returns-in-Pixels
unfolding pixel_of
returns-in-Pixels c =
    rw (c.shifted-in-Pixels.ensures, c.wide-in-Pixels.ensures, c.word_at-word.ensures)
    (sym (source-pixels _ _ _ _ c.in-Pixels.is))

pub returns-in-Bits : goal.returns-in-Bits
unfolding pixel_of
returns-in-Bits c =
    rw (c.shifted-in-Bits.ensures, c.color_at.ensures, c.requires) (sym (source-chosen _ _ _ _ c.in-Bits.is))
