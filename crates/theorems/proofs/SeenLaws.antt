-- V and request of a window, by the pixels of rectangle and window. No contract cites this file. Assumes nothing.
use mathlib.Core.Path.{◌≡◌, refl, sym, ap, ◌∙◌}
use mathlib.Core.Bool.{Bool, true, false, cond, not, ◌&&◌, and-eq-true_iff, false≢true}
use mathlib.Core.Logic.{◌↔◌}
use Prim.Native.Nat.{ℕ, suc, ◌+◌, ◌-◌, ◌<◌}
use native.Mathlib.Decide.{dec_lt}
use native.Mathlib.Omega.{arith}
use borrow.Author.Tests.{not-true}
use Rattle.control.specs.Control.{windowing}
use Rattle.windows.specs.Kept.{InRectangle, Seen}
use Rattle.windows.specs.Window.{window_of, empty, inside, common, meet, nothing, unclipped, clipped, v_under}
use Rattle.windows.specs.Window as window
use Rattle.windows.specs.declared.Rectangle.{Rectangle}
use Rattle.windows.specs.declared.Window.{Window}
use Rattle.walk.proofs.Arithmetic.{positive-left, positive-right}
use Rattle.windows.proofs.WindowLaws.{filled-of-pixel, seen-of-inside, inside-of-seen, meet-of-pixel, pixel-of-meet}
use Rattle.windows.proofs.WindowLaws.{pixel-of-common, seen-of-common}
use Rattle.settings.specs.declared.Settings.{Settings}
use Rattle.operation.specs.declared.Operation.{Operation}
use Rattle.drawing.specs.declared.Outcome.{Outcome}
use Rattle.operation.specs.Operation.{to_xy}
use Rattle.arrays.specs.Array.{rectangle_of, clipped_array, v_after}
use Rattle.array_refusal.specs.Refusal.{refusal}
use Rattle.drawing.specs.Draw.{outcome_at, outcome}
use Rattle.drawing.proofs.OutcomeLaws.{outcome-accepted}
use Rattle.theorems.specs.Windows.{SomeInside, SomeOutside, ByPixels}

module _ (r : Rectangle) (win : Window) where
  pub meet-iff : (meet r win ≡ true) ↔ SomeInside r win
  meet-iff = (
    λ e. let p = pixel-of-meet r win e in ((common r win).x, (common r win).y, pixel-of-common r win _ _ p, seen-of-common r win _ _ p),
    λ (a, b, p, q). meet-of-pixel r win a b p q,
  )

  pub inside-iff : empty r ≡ false → (inside r win ≡ true) ↔ ((a b : ℕ) → InRectangle r a b → Seen win a b)
  inside-iff e = (seen-of-inside r win, inside-of-seen r win e)

  -- a pixel lies outside: the first of its row or column, or the last
  outside-of-filled : empty r ≡ false → inside r win ≡ false → SomeOutside r win
  outside-of-filled e i =
      let cols-pos : 0 < r.cols = positive-left r.cols r.rows e in
      let rows-pos : 0 < r.rows = positive-right r.cols r.rows e in
      elim (dec_lt r.x win.left) [
        | yes h ↦ (r.x, r.y, omega arith, λ q. omega arith)
        | no left ↦ elim (dec_lt (suc win.right) (r.x + r.cols)) [
          | yes h ↦ (r.x + (r.cols - 1), r.y, omega arith, λ q. omega arith)
          | no right ↦ elim (dec_lt r.y win.top) [
            | yes h ↦ (r.x, r.y, omega arith, λ q. omega arith)
            | no top ↦ elim (dec_lt (suc win.bottom) (r.y + r.rows)) [
              | yes h ↦ (r.x, r.y + (r.rows - 1), omega arith, λ q. omega arith)
              | no bottom ↦ absurd (false≢true (sym i ∙ inside-of-seen r win e (λ a b p. omega arith)))
            ]
          ]
        ]
      ]

  not-inside : (a b : ℕ) → InRectangle r a b → (Seen win a b → ⊥) → inside r win ≡ false
  not-inside a b p n = go (inside r win) refl
    where
      go : (t : Bool) → inside r win ≡ t → t ≡ false
      go true e = absurd (n (seen-of-inside r win e a b p))
      go false e = refl

  -- ---- V, of an array that may be empty
  meets-iff : ((not (empty r) && meet r win) ≡ true) ↔ SomeInside r win
  meets-iff = (
    λ e. meet-iff.0 ((and-eq-true_iff (not (empty r)) (meet r win)).0 e).1,
    λ (a, b, p, q). rw (filled-of-pixel r a b p) (meet-of-pixel r win a b p q),
  )

  outside-iff : ((not (empty r) && not (inside r win)) ≡ true) ↔ SomeOutside r win
  outside-iff = (
    λ e.
        let p = (and-eq-true_iff (not (empty r)) (not (inside r win))).0 e in
        outside-of-filled (not-true (empty r) p.0) (not-true (inside r win) p.1),
    λ (a, b, p, n). rw (filled-of-pixel r a b p, not-inside a b p n),
  )

  module _ (v : Bool) where
    v-one : v_under 1 r win v ≡ (not (empty r) && meet r win)
    unfolding v_under
    v-one = go (empty r)
      where
        go : (e : Bool) → cond e false (meet r win) ≡ (not e && meet r win)
        go true = refl
        go false = refl

    v-two : v_under 2 r win v ≡ (not (empty r) && not (inside r win))
    unfolding v_under
    v-two = go (empty r)
      where
        go : (e : Bool) → cond e false (not (inside r win)) ≡ (not e && not (inside r win))
        go true = refl
        go false = refl

    v-three : v_under 3 r win v ≡ v_under 2 r win v
    unfolding v_under
    v-three = refl

    request-one : (clipped 1 r win).request ≡ v_under 1 r win v
    unfolding clipped v_under
    request-one = go (empty r)
      where
        go : (e : Bool) → (cond e (nothing false) (nothing (meet r win))).request ≡ cond e false (meet r win)
        go true = refl
        go false = refl

    request-two : (clipped 2 r win).request ≡ v_under 2 r win v
    unfolding clipped v_under
    request-two = go (empty r) (inside r win)
      where
        go : (e i : Bool) → (cond e (nothing false) (cond i (unclipped r) (nothing true))).request ≡ cond e false (not i)
        go true i = refl
        go false true = refl
        go false false = refl

    request-three : (clipped 3 r win).request ≡ false
    unfolding clipped
    request-three = go (empty r)
      where
        go : (e : Bool) → (cond e (nothing false) (window.common_part r win)).request ≡ false
        go true = refl
        go false = refl

    pub by-pixels : ByPixels r win v
    unfolding clipped v_under
    by-pixels =
        record {
          v-0 = refl;
          v-1 = rw v-one meets-iff;
          v-2 = rw v-two outside-iff;
          v-3 = rw (v-three, v-two) outside-iff;
          request-0 = refl;
          request-1 = request-one;
          request-2 = request-two;
          request-3 = request-three;
        }

-- ---- of a call
module _ (op : Operation) (s : Settings) (v : Bool) where
  abbrev w : ℕ
  w = windowing s.control

  abbrev win : Window
  win = window_of s.wstart s.wend

  request-of : (clipped_array op s).request ≡ cond (to_xy op) (clipped w (rectangle_of s) win).request false
  unfolding clipped_array
  request-of = go (to_xy op)
    where
      go : (t : Bool) → (cond t (clipped w (rectangle_of s) win) (unclipped (rectangle_of s))).request
          ≡ cond t (clipped w (rectangle_of s) win).request false
      go true = refl
      go false = refl

  module _ (place budget words : ℕ) (e : refusal op s place words ≡ 0) where
    pub call-v : (outcome op s place v budget words).v ≡ cond (to_xy op) (v_under w (rectangle_of s) win v) v
    unfolding outcome_at v_after
    call-v = ap (λ (o : Outcome). o.v) (outcome-accepted op s place v budget words e)

    pub call-request : (outcome op s place v budget words).request ≡ cond (to_xy op) (clipped w (rectangle_of s) win).request false
    unfolding outcome_at
    call-request = ap (λ (o : Outcome). o.request) (outcome-accepted op s place v budget words e) ∙ request-of
