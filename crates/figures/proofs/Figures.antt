-- The figures, by computing. Assumes nothing.
use mathlib.Core.Path.{refl}
use Rattle.memory.specs.Bits.{bit_of, bit_at, bits_number}
use Rattle.field_refusal.specs.Size.{meant}
use Rattle.field.specs.Field.{field_refusal, register, field_read}
use Rattle.timing.specs.Cycles.{case_of}
use Rattle.image.specs.Image.{stepped}
use Rattle.lists.specs.Search.{any, first, any_pair}
use Rattle.cache.specs.Cache.{bad_state, latest, lookup, fetched}
use Rattle.pixel.specs.PixelOp.{pixel_operations, processed}
use Rattle.pixel.specs.Pixel.{pixel_of, result, pixel_after, with_pixel, word_after}
use Rattle.address.specs.Address.{xy_address, bad_xy_pitch}
use Rattle.windows.specs.Window.{common, clipped, v_under}
use Rattle.walk.specs.Walk.{address_at, address_of}
use Rattle.extent.specs.Extent.{reaches, leaves_memory}
use Rattle.refusal.specs.Refusal.{lowest}
use Rattle.lone.specs.Lone.{xy_destination}
use Rattle.arrays.specs.Array.{clipped_array, v_after, dest_start, src_start, chosen_walk, drawing_of}
use Rattle.array_refusal.specs.Refusal.{refusal_of}
use Rattle.array_refusal.specs.Refusal as drawing
use Rattle.drawing.specs.Draw.{outcome_at, outcome}
use Rattle.points.specs.Axes.{axis_length, count}
use Rattle.points.specs.Points.{indices}
use Rattle.figures.specs.Figures.{Figures}

pub figures : Figures
unfolding bit_of bit_at bits_number meant field_refusal register field_read case_of stepped any first any_pair bad_state latest lookup
    fetched
    pixel_operations processed pixel_of result pixel_after with_pixel word_after xy_address bad_xy_pitch common clipped address_at
    address_of
    reaches leaves_memory lowest xy_destination clipped_array v_after v_under dest_start src_start chosen_walk drawing_of refusal_of
    drawing.refusal outcome_at outcome axis_length count indices
figures =
    record {
      field = refl;
      field-signed = refl;
      field-case = refl;
      add = refl;
      add-saturate = refl;
      subtract = refl;
      subtract-wraps = refl;
      subtract-saturate = refl;
      masked = refl;
      masked-transparent = refl;
      start = refl;
      clip = refl;
      clip-v = λ v. refl;
      clip-start = refl;
      clip-enough = refl;
      clip-short = refl;
      fill = refl;
      fill-short = refl;
      seed = refl;
      point = refl;
      point-past = refl;
      drav = refl;
      drav-memory = λ source m. refl;
      fetches = refl;
    }
