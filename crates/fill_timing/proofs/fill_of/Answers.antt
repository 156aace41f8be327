-- `fill_of` meets its contract. Assumes nothing.
use Rattle.arrays.specs.Array.{drawing_of}
use Rattle.fill_timing.specs.FillTiming.{fill_of}
use Rattle.fill_timing.proofs.fill_of.Goals as goal

pub returns : goal.returns
unfolding fill_of drawing_of
returns c =
    rw (
      c.row_bits-bits.ensures,
      c.is_masked-masked.ensures,
      c.processing-pp.ensures,
      c.disabled-disabled.ensures,
      c.adjust_of-adjust.ensures,
      c.rectangle_of.ensures,
      c.windowing.ensures,
      c.to_xy-xy.ensures,
      c.dest_of-dest.ensures,
      c.clipped_array-c.ensures,
    )
