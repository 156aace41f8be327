-- A lone pixel (the scope, "Refusal numbers" and "Arrays, windows and slices"): whether PIXT or
-- DRAV is refused, and else whether there is a pixel to draw or read, where it is, and the flags.
-- Assumes nothing.
use Rattle.std.specs.Prelude.{Bool, true, false, not, ◌&&◌, ◌||◌, ℕ, ◌*◌, eqb, leb, ⊤}
use Rattle.std.specs.Prelude.{Some, Result, Ok}
use Rattle.std.specs.Bool.{then_some}
use Rattle.std.specs.Result.{result_and}
use Rattle.answers.specs.declared.Refused.{Refused}
use Rattle.control.specs.Control.{windowing}
use Rattle.address.specs.Coordinate.{x_of, y_of, outside_xy}
use Rattle.address.specs.Address.{xy_address, bad_xy_pitch, misaligned}
use Rattle.windows.specs.Window.{window_of, clipped, v_under}
use Rattle.windows.specs.declared.Rectangle.{Rectangle}
use Rattle.windows.specs.declared.Clipped.{Clipped}
use Rattle.settings.specs.declared.Settings.{Settings}
use Rattle.refusal.specs.declared.Tests.{Tests}
use Rattle.refusal.specs.Refusal.{bad_window_of, lowest}
use Rattle.lone.specs.declared.Lone.{Lone}

-- 17: an address lies past the memory's end
abbrev pub past_end : ℕ → ℕ → Bool
past_end words a = leb (16 * words) a

-- the tests of a call: 13 is for XY pixels, 14 for XY destinations; 16 and 17 are given where there
-- is a pixel to draw or read; there is no place
abbrev pub lone_tests : ℕ → Bool → Bool → Bool → Bool → ℕ → Tests
lone_tests words pitch window some start a =
    record {
      pitch = pitch;
      window = window;
      place = false;
      start = some && start;
      end = some && past_end words a;
    }

-- the refusal of the lowest number that applies, where one does
abbrev pub lone_refusal : ℕ → Settings → Bool → Bool → Bool → Bool → ℕ → Result ⊤ Refused
lone_refusal words s pitch window some start a =
    lowest words s (lone_tests words pitch window some start a)

-- a pixel at a linear address: no pitch, no window, V is kept
unfoldable pub linear_pixel : ℕ → Settings → ℕ → Bool → Result Lone Refused
linear_pixel words s a v =
    result_and
    (lone_refusal words s false false true (misaligned s.psize a) a)
    (Ok record { pixel = Some a; v = v; request = false })

-- the linear address of an XY pixel, with DPTCH
abbrev pub pixel_address : Settings → ℕ → ℕ
pixel_address s xy = xy_address s.offset s.dptch s.psize (x_of xy) (y_of xy)

-- an XY start has a negative X or Y, or its linear address isn't a multiple of PSIZE
abbrev pub bad_lone_start : Settings → ℕ → Bool
bad_lone_start s xy =
    outside_xy (x_of xy) (y_of xy) || misaligned s.psize (pixel_address s xy)

-- an XY pixel that is read: no window, V is kept
unfoldable pub xy_source : ℕ → Settings → ℕ → Bool → Result Lone Refused
xy_source words s xy v =
    result_and
    (lone_refusal words s (bad_xy_pitch s.dptch) false true
    (bad_lone_start s xy) (pixel_address s xy))
    (Ok record { pixel = Some (pixel_address s xy); v = v; request = false })

-- for the window one pixel is a 1 by 1 rectangle
abbrev pub rectangle_at : ℕ → Rectangle
rectangle_at xy = record { x = x_of xy; y = y_of xy; cols = 1; rows = 1 }

abbrev pub lone_clip : Settings → ℕ → Clipped
lone_clip s xy =
    clipped (windowing s.control) (rectangle_at xy) (window_of s.wstart s.wend)

abbrev pub lone_v : Settings → ℕ → Bool → Bool
lone_v s xy v =
    v_under (windowing s.control) (rectangle_at xy) (window_of s.wstart s.wend) v

-- the window lets the pixel be drawn
abbrev pub shown : Clipped → Bool
shown c = not (eqb c.cols 0 || eqb c.rows 0)

-- an XY pixel that is drawn
unfoldable pub xy_destination : ℕ → Settings → ℕ → Bool → Result Lone Refused
xy_destination words s xy v =
    result_and
    (lone_refusal words s (bad_xy_pitch s.dptch) (bad_window_of true s)
    (shown (lone_clip s xy))
    (bad_lone_start s xy) (pixel_address s xy))
    (Ok record {
      pixel = then_some (shown (lone_clip s xy)) (pixel_address s xy);
      v = lone_v s xy v;
      request = (lone_clip s xy).request;
    })
