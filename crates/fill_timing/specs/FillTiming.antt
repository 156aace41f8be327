-- The time of FILL L and FILL XY for the clipped array (request One; 000 section 13.3). Assumes
-- nothing.
use Rattle.std.specs.Prelude.{Bool, false, cond, not, ◌||◌, ℕ, ◌+◌, ◌*◌, eqb, ltb}
use Rattle.control.specs.Control.{transparency, windowing, processing, disabled}
use Rattle.fill_tables.specs.declared.Adjust.{Adjust}
use Rattle.fill_tables.specs.declared.Adjust.TheVariants.{Off, Fits, Start, Dimension, Both}
use Rattle.fill_tables.specs.declared.Fill.{Fill}
use Rattle.fill_tables.specs.declared.Time.{Time}
use Rattle.fill_tables.specs.Time.{time_of}
use Rattle.windows.specs.declared.Rectangle.{Rectangle}
use Rattle.windows.specs.declared.Clipped.{Clipped}
use Rattle.settings.specs.declared.Settings.{Settings}
use Rattle.operation.specs.declared.Operation.{Operation}
use Rattle.operation.specs.Operation.{to_xy, source_of, copies}
use Rattle.arrays.specs.Array.{rectangle_of, clipped_array, drawing_for}
use Rattle.drawing.specs.Draw.{unlimited, outcome}
use Rattle.fill_timing.specs.declared.FillStates.{FillStates}

-- 13.3.1: the window clip affects the starting corner: columns or rows are skipped before it
abbrev pub start_moved : Clipped → Bool
start_moved c = not (eqb c.left 0) || not (eqb c.above 0)

-- it affects the ending corner: columns or rows are cut off after it
abbrev pub end_moved : Rectangle → Clipped → Bool
end_moved r c = ltb (c.left + c.cols) r.cols || ltb (c.above + c.rows) r.rows

-- no window clipping (W=0); a window clip that requires no change; start adjust; dimension adjust;
-- adjust both
unfoldable pub adjust_of : ℕ → Rectangle → Clipped → Adjust
adjust_of w r c =
    cond (eqb w 0) Off
    (cond (start_moved c)
    (cond (end_moved r c) Both Start)
    (cond (end_moved r c) Dimension Fits))

-- 13.3.2: plane masking or transparency are enabled
abbrev pub is_masked : Settings → Bool
is_masked s = transparency s.control || not (eqb s.pmask 0)

-- the adjusted array: L rows of M pixels from its start on
unfoldable pub fill_of : Operation → Settings → Fill
fill_of op s =
    record {
      xy = to_xy op;
      adjust = adjust_of (windowing s.control) (rectangle_of s) (clipped_array op s);
      disabled = disabled s.control;
      pp = processing s.control;
      masked = is_masked s;
      start = (drawing_for op s).dest.start;
      bits = (drawing_for op s).cols * s.psize;
      rows = (drawing_for op s).rows;
    }

abbrev pub no_time : Time
no_time = record { setup = 0; transfer = 0; adjustment = 0; states = 0 }

-- the time of a drawing that visits so many pixels: 0 for other drawings than FILL, and for one
-- that visits none, as a refused one does
unfoldable pub fill_time : Operation → Settings → ℕ → Time
fill_time op s visited =
    cond (copies (source_of op) || eqb visited 0) no_time (time_of (fill_of op s))

-- the whole drawing over so many words of memory: its answer, and its time
unfoldable pub fill_states : Operation → Settings → ℕ → FillStates
fill_states op s words =
    let o = outcome op s 0 false unlimited words in
    record { answer = o.answer; time = fill_time op s o.visited }
