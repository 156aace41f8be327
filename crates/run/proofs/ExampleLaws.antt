-- The listing lines of the scope's plan, by computing. Assumes nothing.
use mathlib.Core.Path.{refl}
use Rattle.memory.specs.Bits.{bit_of, bit_at}
use Rattle.memory.specs.Changed.{differing, changed_bits}
use Rattle.image.specs.Image.{stepped}
use Rattle.pixel.specs.PixelOp.{pixel_operations, processed}
use Rattle.pixel.specs.Pixel.{pixel_of, result, pixel_after, with_pixel, word_after, plotted}
use Rattle.address.specs.Address.{xy_address, bad_xy_pitch}
use Rattle.windows.specs.Window.{common, clipped, v_under}
use Rattle.walk.specs.Walk.{address_at, address_of}
use Rattle.extent.specs.Extent.{reaches, leaves_memory}
use Rattle.settings.specs.Settings.{settings_of}
use Rattle.row.specs.Row.{source_at, drawn_at}
use Rattle.engine.specs.Engine.{visits}
use Rattle.arrays.specs.Array.{clipped_array, v_after, dest_start, src_start, chosen_walk, drawing_of}
use Rattle.refusal.specs.Refusal.{lowest}
use Rattle.array_refusal.specs.Refusal.{refusal_of, refusal}
use Rattle.drawing.specs.Draw.{outcome_at, outcome, drawn}
use Rattle.fill_tables.specs.Time.{alignment_of, time_of}
use Rattle.fill_timing.specs.FillTiming.{adjust_of, fill_of, fill_time}
use Rattle.points.specs.Axes.{axis_length, value_at, count}
use Rattle.points.specs.Points.{indices, assigned, experiment}
use Rattle.listing.specs.Listing.{digits, numbers_line}
use Rattle.run.specs.Run.{ran_over, point_line}
use Rattle.run.specs.Lines.{point_lines}
use Rattle.run.specs.Example.{Example}

pub example : Example
unfolding bit_of bit_at differing changed_bits stepped pixel_operations processed pixel_of result pixel_after with_pixel word_after plotted
    xy_address bad_xy_pitch common clipped address_at address_of reaches leaves_memory settings_of source_at drawn_at visits clipped_array
    v_after
    v_under dest_start src_start chosen_walk drawing_of lowest refusal_of refusal outcome_at outcome drawn
    alignment_of time_of adjust_of fill_of fill_time axis_length value_at count indices assigned
    experiment digits numbers_line ran_over point_line point_lines
example = refl
