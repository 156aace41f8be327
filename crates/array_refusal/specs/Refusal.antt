-- What the refusals 13 to 17 test of a FILL or PIXBLT call, in the table's order (the scope,
-- "Refusal numbers"), and the refusal of a call. Assumes nothing.
use Rattle.std.specs.Prelude.{Bool, cond, not, ◌&&◌, ◌||◌, ℕ, eqb, ltb, Result, ⊤}
use Rattle.answers.specs.declared.Refused.{Refused}
use Rattle.answers.specs.Answer.{answer}
use Rattle.address.specs.Coordinate.{outside_xy}
use Rattle.address.specs.Address.{bad_xy_pitch, bad_linear_pitch, misaligned}
use Rattle.extent.specs.Extent.{leaves_memory}
use Rattle.windows.specs.declared.Clipped.{Clipped}
use Rattle.settings.specs.declared.Settings.{Settings}
use Rattle.refusal.specs.declared.Tests.{Tests}
use Rattle.refusal.specs.Refusal.{bad_window_of, lowest}
use Rattle.plot.specs.Drawing.{pixels}
use Rattle.plot.specs.declared.Drawing.{Drawing}
use Rattle.operation.specs.declared.Operation.{Operation}
use Rattle.operation.specs.Operation.{to_xy, from_xy, source_of, copies, copies_pixels}
use Rattle.arrays.specs.Array.{clipped_array, start_x, start_y, drawing_for}

-- 13: a pitch that is used is bad. DPTCH is used; SPTCH too by a source of pixels (for B sources
-- any value)
abbrev pub bad_pitch : Bool → ℕ → Bool
bad_pitch xy pitch = cond xy (bad_xy_pitch pitch) (bad_linear_pitch pitch)

abbrev pub bad_pitches : Operation → Settings → Bool
bad_pitches op s =
    bad_pitch (to_xy op) s.dptch
    || (copies_pixels (source_of op) && bad_pitch (from_xy op) s.sptch)

-- 16: an XY start after clipping has a negative X or Y, or the linear address at which a pixel
-- array starts isn't a multiple of PSIZE
abbrev pub negative_start : ℕ → Clipped → Bool
negative_start xy c = outside_xy (start_x xy c) (start_y xy c)

abbrev pub bad_dest : Operation → Settings → Clipped → Drawing → Bool
bad_dest op s c d = (to_xy op && negative_start s.daddr c) || misaligned s.psize d.dest.start

abbrev pub bad_source : Operation → Settings → Clipped → Drawing → Bool
bad_source op s c d =
    copies_pixels (source_of op)
    && ((from_xy op && negative_start s.saddr c) || misaligned s.psize d.src.start)

-- 17: some pixel or source bit that would be visited over the whole operation lies past the
-- memory's end
abbrev pub leaves : ℕ → Operation → Drawing → Bool
leaves words op d =
    leaves_memory words d.dest d.cols d.rows
    || (copies (source_of op) && leaves_memory words d.src d.cols d.rows)

-- 16 where there are pixels to draw
abbrev pub bad_start : Operation → Settings → Clipped → Drawing → Bool
bad_start op s c d = not (eqb (pixels d) 0) && (bad_dest op s c d || bad_source op s c d)

-- the tests of a call
abbrev pub tests_of : Operation → Settings → Clipped → Drawing → ℕ → ℕ → Tests
tests_of op s c d place words =
    record {
      pitch = bad_pitches op s;
      window = bad_window_of (to_xy op) s;
      place = ltb (pixels d) place;
      start = bad_start op s c d;
      end = leaves words op d;
    }

unfoldable pub refusal_of : Operation → Settings → Clipped → Drawing → ℕ → ℕ
    → Result ⊤ Refused
refusal_of op s c d place words = lowest words s (tests_of op s c d place words)

-- the number of a call's refusal: the lowest that applies, or 0
unfoldable pub refusal : Operation → Settings → ℕ → ℕ → ℕ
refusal op s place words =
    answer (refusal_of op s (clipped_array op s) (drawing_for op s) place words)
