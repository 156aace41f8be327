-- Windows: what W means; what is kept; the common rectangle is the intersection. No contract cites this file.
-- Assumes nothing.
use mathlib.Core.Path.{◌≡◌, refl, sym, ap, subst, ◌∙◌}
use mathlib.Core.Bool.{Bool, true, false, cond, not, and-eq-true_iff}
use mathlib.Core.Logic.{◌⊎◌, inl, inr, ⊎_elim}
use Prim.Native.Nat.{ℕ, suc, ◌+◌, ◌-◌, ◌≤◌, ◌<◌, max}
use native.Mathlib.Omega.{arith}
use borrow.Author.Tests.{ne_eqb, eqb-true, leb-true, le-leb, not-true}
use lib.Dec.{eqb, leb}
use Rattle.walk.proofs.Arithmetic.{positive-left, positive-right}
use Rattle.windows.specs.declared.Rectangle.{Rectangle}
use Rattle.windows.specs.declared.Window.{Window}
use Rattle.windows.specs.declared.Clipped.{Clipped}
use Rattle.windows.specs.Window.{leading, shared, all_in, empty, inside, common, meet, nothing, unclipped, common_part, clipped, v_under}
use Rattle.windows.specs.Kept.{InRectangle, Seen, kept}

-- ---- what W 1 to 3 mean for a rectangle that is not empty
module _ (r : Rectangle) (win : Window) (filled : empty r ≡ false) where
  pub clipped-one : clipped 1 r win ≡ nothing (meet r win)
  unfolding clipped
  clipped-one = rw filled

  pub clipped-two-outside : inside r win ≡ false → clipped 2 r win ≡ nothing true
  unfolding clipped
  clipped-two-outside i = rw (filled, i)

  clipped-three : clipped 3 r win ≡ common_part r win
  unfolding clipped
  clipped-three = rw filled

-- ---- V: worked out anew, or as given
pub v_under-twice : (w : ℕ) (r : Rectangle) (win : Window) (v : Bool) → v_under w r win (v_under w r win v) ≡ v_under w r win v
unfolding v_under
v_under-twice w r win v = go (eqb w 0) _
  where
    go : (z u : Bool) → cond z (cond z v u) u ≡ cond z v u
    go true u = refl
    go false u = refl

-- ---- on one axis: n coordinates from c on, and a window from lo to hi
module _ (c n lo hi : ℕ) where
  shared-le : shared c n lo hi ≤ n
  shared-le = omega arith

  before-shared-le : 0 < shared c n lo hi → leading c lo + shared c n lo hi ≤ n
  before-shared-le h = omega arith

  all_in-true : all_in c n lo hi ≡ true → (lo ≤ c) × (c + n ≤ suc hi)
  all_in-true e = (
    leb-true lo c ((and-eq-true_iff (leb lo c) (leb (c + n) (suc hi))).0 e).0,
    leb-true (c + n) (suc hi) ((and-eq-true_iff (leb lo c) (leb (c + n) (suc hi))).0 e).1,
  )

-- ---- what is drawn, under any W

-- the whole, where W is 0 or the rectangle lies inside; nothing; or the common part
module _ (w : ℕ) (r : Rectangle) (win : Window) (P : Clipped → Type 0) where
  clipped-cases : ((w ≡ 0) ⊎ (inside r win ≡ true) → P (unclipped r))
      → ((q : Bool) → P (nothing q)) → P (common_part r win) → P (clipped w r win)
  unfolding clipped
  clipped-cases all none some = go (eqb w 0) (empty r) (eqb w 1) (meet r win) (eqb w 2) (inside r win) refl refl
    where
      go : (z e o m t i : Bool) → eqb w 0 ≡ z → inside r win ≡ i
          → P
          (cond z (unclipped r)
          (cond e (nothing false)
          (cond o (nothing m)
          (cond t (cond i (unclipped r) (nothing true)) (common_part r win)))))
      go true e o m t i p q = all (inl (eqb-true w 0 p))
      go false true o m t i p q = none false
      go false false true m t i p q = none m
      go false false false m true true p q = all (inr q)
      go false false false m true false p q = none true
      go false false false m false i p q = some

-- what is kept of a rectangle has no more columns and rows, and where it has some, those skipped and kept are inside it
pub record Fits (r : Rectangle) (k : Clipped) : Type 0 where
  pub cols : k.cols ≤ r.cols
  pub rows : k.rows ≤ r.rows
  pub left : 0 < k.cols → k.left + k.cols ≤ r.cols
  pub above : 0 < k.rows → k.above + k.rows ≤ r.rows

pub clipped-fits : (w : ℕ) (r : Rectangle) (win : Window) → Fits r (clipped w r win)
unfolding common
clipped-fits w r win =
    clipped-cases w r win (Fits r)
    (λ why. record { cols = omega arith; rows = omega arith; left = λ h. omega arith; above = λ h. omega arith })
    (λ q. record { cols = omega arith; rows = omega arith; left = λ h. omega arith; above = λ h. omega arith })
    (record {
      cols = shared-le r.x r.cols win.left win.right;
      rows = shared-le r.y r.rows win.top win.bottom;
      left = before-shared-le r.x r.cols win.left win.right;
      above = before-shared-le r.y r.rows win.top win.bottom;
    })

-- ---- the common rectangle is the intersection

module _ (r : Rectangle) (win : Window) (a b : ℕ) where
  pub common-pixel : InRectangle r a b → Seen win a b → InRectangle (common r win) a b
  unfolding common
  common-pixel p s = omega arith

  pub pixel-of-common : InRectangle (common r win) a b → InRectangle r a b
  unfolding common
  pixel-of-common p = omega arith

  pub seen-of-common : InRectangle (common r win) a b → Seen win a b
  unfolding common
  seen-of-common p = omega arith

-- the common part is the common rectangle
kept-part : (r : Rectangle) (win : Window) → kept r (common_part r win) ≡ common r win
unfolding common
kept-part r win =
    λ i. record {
      x = across i;
      y = down i;
      cols = shared r.x r.cols win.left win.right;
      rows = shared r.y r.rows win.top win.bottom;
    }
  where
    across : r.x + (win.left - r.x) ≡ max r.x win.left
    across = omega arith

    down : r.y + (win.top - r.y) ≡ max r.y win.top
    down = omega arith

-- a rectangle with a pixel is not empty
pub filled-of-pixel : (r : Rectangle) (a b : ℕ) → InRectangle r a b → empty r ≡ false
filled-of-pixel r a b p = rw (ne_eqb r.cols 0 (λ z. omega arith), ne_eqb r.rows 0 (λ z. omega arith))

-- a rectangle that is not empty lies wholly inside the window exactly where all its pixels do
module _ (r : Rectangle) (win : Window) where
  across : Bool
  across = all_in r.x r.cols win.left win.right

  down : Bool
  down = all_in r.y r.rows win.top win.bottom

  pub seen-of-inside : inside r win ≡ true → (a b : ℕ) → InRectangle r a b → Seen win a b
  unfolding across down
  seen-of-inside i a b p =
      let x = all_in-true r.x r.cols win.left win.right ((and-eq-true_iff across down).0 i).0 in
      let y = all_in-true r.y r.rows win.top win.bottom ((and-eq-true_iff across down).0 i).1 in
      omega (arith, x, y)

  pub inside-of-seen : empty r ≡ false → ((a b : ℕ) → InRectangle r a b → Seen win a b) → inside r win ≡ true
  inside-of-seen e h =
      let cols-pos : 0 < r.cols = positive-left r.cols r.rows e in
      let rows-pos : 0 < r.rows = positive-right r.cols r.rows e in
      let first : Seen win r.x r.y = h r.x r.y (omega arith) in
      let last : Seen win (r.x + (r.cols - 1)) (r.y + (r.rows - 1)) = h (r.x + (r.cols - 1)) (r.y + (r.rows - 1)) (omega arith) in
      rw (
        le-leb win.left r.x first.0,
        le-leb (r.x + r.cols) (suc win.right) (omega arith),
        le-leb win.top r.y first.2,
        le-leb (r.y + r.rows) (suc win.bottom) (omega arith),
      )

-- what is kept are pixels of the rectangle
pub pixel-of-kept : (w : ℕ) (r : Rectangle) (win : Window) (a b : ℕ) → InRectangle (kept r (clipped w r win)) a b → InRectangle r a b
unfolding common
pixel-of-kept w r win a b =
    clipped-cases w r win (λ (k : Clipped). InRectangle (kept r k) a b → InRectangle r a b)
    (λ why p. omega arith)
    (λ q p. absurd (omega arith))
    (λ p. omega arith)

-- under W 1 to 3 they lie in the window
pub seen-of-kept : (w : ℕ) (r : Rectangle) (win : Window) → (w ≡ 0 → ⊥)
    → (a b : ℕ) → InRectangle (kept r (clipped w r win)) a b → Seen win a b
unfolding common
seen-of-kept w r win nonzero a b =
    clipped-cases w r win (λ (k : Clipped). InRectangle (kept r k) a b → Seen win a b)
    (λ why p. ⊎_elim (λ z. absurd (nonzero z)) (λ i. seen-of-inside r win i a b (omega arith)) why)
    (λ q p. absurd (omega arith))
    (λ p. omega arith)

-- under W 3 all pixels of the rectangle that lie in the window are kept
pub kept-pixel : (r : Rectangle) (win : Window) (a b : ℕ) → InRectangle r a b → Seen win a b → InRectangle (kept r (clipped 3 r win)) a b
kept-pixel r win a b p s =
    let three = clipped-three r win (filled-of-pixel r a b p) in
    subst (λ (k : Rectangle). InRectangle k a b) (sym (ap (kept r) three ∙ kept-part r win)) (common-pixel r win a b p s)

-- ---- the rectangles meet exactly where they have a pixel in common
module _ (r : Rectangle) (win : Window) where
  pub meet-of-pixel : (a b : ℕ) → InRectangle r a b → Seen win a b → meet r win ≡ true
  meet-of-pixel a b p s = ap not (filled-of-pixel (common r win) a b (common-pixel r win a b p s))

  -- the upper left one
  pub pixel-of-meet : meet r win ≡ true → InRectangle (common r win) (common r win).x (common r win).y
  pixel-of-meet m =
      let e : empty (common r win) ≡ false = not-true (empty (common r win)) m in
      let cols-pos : 0 < (common r win).cols = positive-left (common r win).cols (common r win).rows e in
      let rows-pos : 0 < (common r win).rows = positive-right (common r win).cols (common r win).rows e in
      omega arith
