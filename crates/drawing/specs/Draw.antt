-- A FILL or PIXBLT call (the scope, "Arrays, windows and slices"): what it hands back, and the
-- memory that it leaves. Assumes nothing.
use Rattle.std.specs.Prelude.{Bool, false, cond, not, ◌&&◌, List, ℕ, ◌+◌, ◌-◌, ◌*◌, ◌^◌, eqb, length}
use Rattle.control.specs.Control.{windowing}
use Rattle.walk.specs.declared.Walk.{Walk}
use Rattle.walk.specs.Walk.{address_at}
use Rattle.address.specs.Coordinate.{register_of}
use Rattle.windows.specs.Window.{window_of, common}
use Rattle.windows.specs.declared.Rectangle.{Rectangle}
use Rattle.windows.specs.declared.Clipped.{Clipped}
use Rattle.settings.specs.declared.Settings.{Settings}
use Rattle.plot.specs.Drawing.{pixels}
use Rattle.engine.specs.Engine.{visits, visited_from}
use Rattle.plot.specs.declared.Drawing.{Drawing}
use Rattle.operation.specs.declared.Operation.{Operation}
use Rattle.drawing.specs.declared.Outcome.{Outcome}
use Rattle.operation.specs.Operation.{source_of, copies}
use Rattle.arrays.specs.Array.{rectangle_of, clipped_array, v_after, drawing_for}
use Rattle.array_refusal.specs.Refusal.{refusal}

-- a refused call returns its number, no request, zero for visited, and settings, place, V and
-- registers as given
abbrev pub refused_call : Settings → ℕ → Bool → ℕ → Outcome
refused_call s place v answer =
    record {
      answer = answer;
      place = place;
      visited = 0;
      v = v;
      request = false;
      saddr = s.saddr;
      daddr = s.daddr;
      dydx = s.dydx;
      settings = s;
    }

-- W=1 and the rectangles meet: DADDR and DYDX become the common rectangle (XY)
abbrev pub found : Settings → Clipped → Bool
found s c = eqb (windowing s.control) 1 && c.request

abbrev pub common_of : Settings → Rectangle
common_of s = common (rectangle_of s) (window_of s.wstart s.wend)

-- done with n > 0
abbrev pub done_some : Drawing → ℕ → Bool
done_some d place = eqb place (pixels d) && not (eqb (pixels d) 0)

-- the row after the last one walked, in the chosen corner's column: the walk's start plus its rows
-- times the pitch as it is walked, modulo 2^32 (request Eight: the row above if PBV=1)
abbrev pub row_after : Walk → ℕ → ℕ
row_after w rows = address_at w rows 0

-- a call that is not refused, at its new place: done if that is n, else stopped, and the registers
-- stay
unfoldable pub outcome_at : Operation → Settings → Clipped → Drawing → Bool → ℕ → ℕ → Outcome
outcome_at op s c d v place visited =
    record {
      answer = cond (eqb place (pixels d)) 0 1;
      place = place;
      visited = visited;
      v = v;
      request = c.request;
      saddr =
          cond (done_some d place && copies (source_of op)) (row_after d.src d.rows) s.saddr;
      daddr =
          cond (found s c) (register_of (common_of s).x (common_of s).y)
          (cond (done_some d place) (row_after d.dest d.rows) s.daddr);
      dydx = cond (found s c) ((common_of s).rows * 2 ^ 16 + (common_of s).cols) s.dydx;
      settings = s;
    }

-- how many pixels a call visits: the lesser of the budget and n less the place
abbrev pub visited_by : Operation → Settings → ℕ → ℕ → ℕ
visited_by op s place budget = visited_from (drawing_for op s) place budget

-- a whole drawing is one call with a budget that no drawing's pixels exceed
abbrev pub unlimited : ℕ
unlimited = 2 ^ 64 - 1

-- what a call hands back
unfoldable pub outcome : Operation → Settings → ℕ → Bool → ℕ → ℕ → Outcome
outcome op s place v budget words =
    cond (eqb (refusal op s place words) 0)
    (outcome_at op s (clipped_array op s) (drawing_for op s) (v_after op s v)
    (place + visited_by op s place budget) (visited_by op s place budget))
    (refused_call s place v (refusal op s place words))

-- the memory after a call
unfoldable pub drawn : Operation → Settings → ℕ → ℕ → List ℕ → List ℕ
drawn op s place budget m =
    cond (eqb (refusal op s place (length m)) 0)
    (visits (drawing_for op s) place (visited_by op s place budget) m)
    m
