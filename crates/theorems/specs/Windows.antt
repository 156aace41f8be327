-- Windows: what W keeps of a rectangle, and V and request, by its pixels. The proofs are in
-- proofs/Windows.antt. Assumes nothing.
use Rattle.std.specs.Prelude.{◌≡◌, Bool, true, false, cond, ◌↔◌, ℕ}
use Rattle.control.specs.Control.{windowing}
use Rattle.windows.specs.Window.{window_of, empty, meet, inside, clipped, v_under}
use Rattle.windows.specs.Kept.{InRectangle, Seen, kept}
use Rattle.windows.specs.declared.Rectangle.{Rectangle}
use Rattle.windows.specs.declared.Window.{Window}
use Rattle.settings.specs.declared.Settings.{Settings}
use Rattle.operation.specs.declared.Operation.{Operation}
use Rattle.operation.specs.Operation.{to_xy}
use Rattle.arrays.specs.Array.{rectangle_of}
use Rattle.array_refusal.specs.Refusal.{refusal}
use Rattle.drawing.specs.Draw.{outcome}

-- Whatever W but 0 keeps of a rectangle are pixels of it that lie in the window.
abbrev pub KeptIsSeen : Type 0
KeptIsSeen =
    (w : ℕ) (r : Rectangle) (win : Window) → (w ≡ 0 → ⊥)
    → (a b : ℕ) → InRectangle (kept r (clipped w r win)) a b
    → InRectangle r a b × Seen win a b

-- W 3 keeps every pixel of the rectangle that lies in the window.
abbrev pub SeenIsKept : Type 0
SeenIsKept =
    (r : Rectangle) (win : Window) (a b : ℕ) → InRectangle r a b → Seen win a b
    → InRectangle (kept r (clipped 3 r win)) a b

-- ---- "meet", "wholly inside" and V, by the pixels of rectangle and window

-- a pixel of the rectangle lies in the window; one lies outside it
abbrev pub SomeInside : Rectangle → Window → Type 0
SomeInside r win = (a : ℕ) × (b : ℕ) × InRectangle r a b × Seen win a b

abbrev pub SomeOutside : Rectangle → Window → Type 0
SomeOutside r win = (a : ℕ) × (b : ℕ) × InRectangle r a b × (Seen win a b → ⊥)

-- The rectangles meet exactly where a pixel of the one lies in the other.
abbrev pub MeetByPixels : Type 0
MeetByPixels = (r : Rectangle) (win : Window) → (meet r win ≡ true) ↔ SomeInside r win

-- An array that is not empty lies wholly inside the window exactly where each of its pixels does.
abbrev pub InsideByPixels : Type 0
InsideByPixels =
    (r : Rectangle) (win : Window) → empty r ≡ false
    → (inside r win ≡ true) ↔ ((a b : ℕ) → InRectangle r a b → Seen win a b)

-- V: W 0 leaves it as given; under W 1 it is 1 exactly where some pixel of the array lies in the
-- window, under W 2 and 3 exactly where some pixel lies outside it (so that an empty array gives
-- 0). W 1 and 2 raise a request with it, W 0 and 3 raise none.
pub record ByPixels (r : Rectangle) (win : Window) (v : Bool) : Type 0 where
  pub v-0 : v_under 0 r win v ≡ v
  pub v-1 : (v_under 1 r win v ≡ true) ↔ SomeInside r win
  pub v-2 : (v_under 2 r win v ≡ true) ↔ SomeOutside r win
  pub v-3 : (v_under 3 r win v ≡ true) ↔ SomeOutside r win
  pub request-0 : (clipped 0 r win).request ≡ false
  pub request-1 : (clipped 1 r win).request ≡ v_under 1 r win v
  pub request-2 : (clipped 2 r win).request ≡ v_under 2 r win v
  pub request-3 : (clipped 3 r win).request ≡ false

abbrev pub VByPixels : Type 0
VByPixels = (r : Rectangle) (win : Window) (v : Bool) → ByPixels r win v

-- These are V and request of a call that is not refused, where its destination is XY; a linear one
-- keeps V and raises no request.
abbrev pub WindowDecides : Type 0
WindowDecides =
    (op : Operation) (s : Settings) (place : ℕ) (v : Bool) (budget words : ℕ)
    → refusal op s place words ≡ 0
    → ((outcome op s place v budget words).v
    ≡ cond (to_xy op)
    (v_under (windowing s.control) (rectangle_of s) (window_of s.wstart s.wend) v)
    v)
    × ((outcome op s place v budget words).request
    ≡ cond (to_xy op)
    (clipped (windowing s.control) (rectangle_of s) (window_of s.wstart s.wend)).request
    false)

-- every statement of this file
pub record OfWindows : Type 0 where
  pub kept-is-seen : KeptIsSeen
  pub seen-is-kept : SeenIsKept
  pub meet-by-pixels : MeetByPixels
  pub inside-by-pixels : InsideByPixels
  pub v-by-pixels : VByPixels
  pub window-decides : WindowDecides
