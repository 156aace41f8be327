-- The proofs of specs/Copies.antt. Assumes nothing.
use mathlib.Core.Path.{refl}
use Rattle.pixel.specs.PixelOp.{pixel_operations, processed}
use Rattle.pixel.specs.Pixel.{pixel_of, result, pixel_after, with_pixel, word_after, plotted}
use Rattle.walk.specs.Walk.{address_at, address_of}
use Rattle.extent.specs.Extent.{reaches, leaves_memory}
use Rattle.row.specs.Row.{source_at, drawn_at}
use Rattle.engine.specs.Engine.{visits}
use Rattle.arrays.specs.Array.{clipped_array, dest_start, src_start, chosen_walk, drawing_of}
use Rattle.refusal.specs.Refusal.{lowest}
use Rattle.array_refusal.specs.Refusal.{refusal_of, refusal}
use Rattle.drawing.specs.Draw.{drawn}
use Rattle.overlap.proofs.AcceptedLaws as accepted
use Rattle.theorems.specs.Copies.{CopyUnspoilt, CopyInOrder, CopyScroll, ScrollRight, OfCopies}

pub copy-unspoilt : CopyUnspoilt
copy-unspoilt w m g op s e plain clean b whole = accepted.copy-unspoilt w m g op s e plain b whole clean

pub copy-in-order : CopyInOrder
copy-in-order w m g op s e plain order b whole = accepted.copy-in-order w m g op s e plain b whole order

pub copy-scroll : CopyScroll
copy-scroll w m g op s e plain (scroll, way) b whole = accepted.copy-scroll w m g op s e plain b whole scroll way

pub scroll-right : ScrollRight
unfolding drawn refusal refusal_of lowest drawing_of chosen_walk clipped_array dest_start src_start leaves_memory reaches address_at
    address_of
    visits drawn_at source_at plotted word_after with_pixel pixel_after result processed pixel_operations pixel_of
scroll-right = (refl, refl, refl)

pub of-copies : OfCopies
of-copies =
    record {
      copy-unspoilt = copy-unspoilt;
      copy-in-order = copy-in-order;
      copy-scroll = copy-scroll;
      scroll-right = scroll-right;
    }
