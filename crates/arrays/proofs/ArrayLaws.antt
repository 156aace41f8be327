-- An array's columns and rows are at most DX and DY; walks in the chosen order: pitch, step, and where each pixel lies. No contract
-- cites this file. Assumes nothing.
use mathlib.Core.Path.{◌≡◌, refl, ap}
use mathlib.Core.Logic.{◌≢◌}
use mathlib.Core.Bool.{Bool, true, false, cond, and-false}
use Prim.Native.Nat.{ℕ, ◌*◌, ◌/◌, ◌%◌, ◌^◌, ◌≤◌, ◌<◌}
use native.Mathlib.Omega.{arith}
use Rattle.control.specs.Control.{windowing, right_to_left, bottom_to_top}
use Rattle.windows.specs.Window.{window_of, unclipped}
use Rattle.windows.specs.declared.Clipped.{Clipped}
use Rattle.windows.proofs.WindowLaws.{Fits, clipped-fits}
use Rattle.settings.specs.declared.Settings.{Settings}
use Rattle.operation.specs.declared.Operation.{Operation}
use Rattle.walk.specs.declared.Walk.{Walk}
use Rattle.walk.specs.Walk.{address_at, address_of, start_at}
use Rattle.walk.proofs.WalkLaws.{address_at-start, column-lt, row_lt}
use Rattle.corner.specs.Corner.{walked, turned, from_corner, chosen_index}
use Rattle.corner.proofs.CornerLaws.{from_corner-chosen_index}
use Rattle.operation.specs.declared.Operation.TheVariants.{FillL, FillXY, PixbltLL, PixbltLXY, PixbltXYL, PixbltXYXY, PixbltBL, PixbltBXY}
use Rattle.operation.specs.Operation.{to_xy, walks_to_corner, source_of, copies_pixels}
use Rattle.arrays.specs.Array.{rectangle_of, clipped_array, from_right, from_bottom, chosen_walk}

pub cols-rows-le : (op : Operation) (s : Settings)
    → ((clipped_array op s).cols ≤ s.dydx % 2 ^ 16) × ((clipped_array op s).rows ≤ s.dydx / 2 ^ 16)
unfolding clipped_array
cols-rows-le op s = go (to_xy op) _ (clipped-fits (windowing s.control) (rectangle_of s) (window_of s.wstart s.wend))
  where
    go : (t : Bool) (c : Clipped) → Fits (rectangle_of s) c
        → let d = cond t c (unclipped (rectangle_of s)) in (d.cols ≤ s.dydx % 2 ^ 16) × (d.rows ≤ s.dydx / 2 ^ 16)
    go true c f = (f.cols, f.rows)
    go false c f = (omega arith, omega arith)

-- ---- in the chosen order, rows are the pitch apart, and pixels the step, as they are walked
of_either : (f : Walk → ℕ) (t : Bool) (a b : Walk) (n : ℕ) → f a ≡ n → f b ≡ n → f (cond t a b) ≡ n
of_either f true a b n h k = h
of_either f false a b n h k = k

module _ (op : Operation) (s : Settings) (c : Clipped) (w : Walk) where
  pub chosen_walk-pitch : (chosen_walk op s c w).pitch ≡ walked (from_bottom op s) w.pitch
  unfolding chosen_walk from_corner
  chosen_walk-pitch = of_either (λ (a : Walk). a.pitch) (walks_to_corner op) _ _ _ refl refl

  pub chosen_walk-step : (chosen_walk op s c w).step ≡ walked (from_right op s) w.step
  unfolding chosen_walk from_corner
  chosen_walk-step = of_either (λ (a : Walk). a.step) (walks_to_corner op) _ _ _ refl refl

-- where neither bit is 1, a walk is the one from the upper left
pub chosen_walk-straight : (op : Operation) (s : Settings) (c : Clipped) (w : Walk)
    → right_to_left s.control ≡ false → bottom_to_top s.control ≡ false → w.start < 2 ^ 32 → chosen_walk op s c w ≡ w
unfolding chosen_walk from_corner
chosen_walk-straight op s c w h v l = rw (h, v, and-false (copies_pixels (source_of op))) (go (walks_to_corner op))
  where
    go : (t : Bool) → cond t (start_at w (address_at w 0 0)) w ≡ w
    go true = ap (start_at w) (address_at-start w l)
    go false = refl

-- but for L,L, pixel i lies at its column and row, counted from the upper left, of the walk from there
pub chosen_walk-place : (op : Operation) (s : Settings) (c : Clipped) (w : Walk) → op ≢ PixbltLL → (i : ℕ) → i < c.cols * c.rows
    → address_of (chosen_walk op s c w) c.cols i
    ≡ address_at w (chosen_index (from_bottom op s) c.rows (i / c.cols)) (chosen_index (from_right op s) c.cols (i % c.cols))
unfolding chosen_walk address_of
chosen_walk-place op s c w ne i h = go op ne
  where
    from : (pbh pbv : Bool)
        → address_at (from_corner pbh pbv c.cols c.rows w) (i / c.cols) (i % c.cols)
        ≡ address_at w (chosen_index pbv c.rows (i / c.cols)) (chosen_index pbh c.cols (i % c.cols))
    from pbh pbv =
        from_corner-chosen_index pbh pbv c.cols c.rows w (i / c.cols) (i % c.cols) (row_lt c.cols c.rows i h)
        (column-lt c.cols c.rows i h)

    go : (op : Operation) → op ≢ PixbltLL
        → address_at
        (cond (walks_to_corner op) (from_corner (from_right op s) (from_bottom op s) c.cols c.rows w)
        (turned (from_right op s) (from_bottom op s) w))
        (i / c.cols) (i % c.cols)
        ≡ address_at w (chosen_index (from_bottom op s) c.rows (i / c.cols)) (chosen_index (from_right op s) c.cols (i % c.cols))
    go FillL ne = refl
    go FillXY ne = refl
    go PixbltLL ne = absurd (ne refl)
    go PixbltLXY ne = from (from_right PixbltLXY s) (from_bottom PixbltLXY s)
    go PixbltXYL ne = from (from_right PixbltXYL s) (from_bottom PixbltXYL s)
    go PixbltXYXY ne = from (from_right PixbltXYXY s) (from_bottom PixbltXYXY s)
    go PixbltBL ne = refl
    go PixbltBXY ne = refl
