-- The four starting corners: the order, the first pixel, the end. No contract cites this file. Assumes nothing.
use mathlib.Core.Path.{◌≡◌, refl, sym, ap, ap₂, subst, ◌∙◌}
use mathlib.Core.Bool.{Bool, true, false, cond, not, ◌&&◌}
use Prim.Native.Nat.{ℕ, suc, ◌+◌, ◌-◌, ◌*◌, ◌%◌, ◌^◌, ◌<◌}
use native.Mathlib.Nat.{zero-mul, mul_comm, zero-div, zero-mod, mod_self}
use native.Mathlib.Omega.{arith}
use borrow.Author.Tests.{eqb-true, eq-eqb, ne_eqb}
use lib.Dec.{eqb}
use Rattle.memory.proofs.Tests.{or-false-left, or-false-right}
use Rattle.control.specs.Control.{windowing, right_to_left, bottom_to_top}
use Rattle.pixel.specs.Pixel.{bad_pixel_size}
use Rattle.walk.specs.declared.Walk.{Walk}
use Rattle.walk.specs.Walk.{address_at, address_of}
use Rattle.walk.proofs.WalkLaws.{cols-some, row_lt, address_at-down, address_of-at, address_of-across, address_of-down}
use Rattle.corner.specs.Corner.{walked, corner_of, from_corner}
use Rattle.address.specs.Address.{misaligned}
use Rattle.windows.specs.declared.Rectangle.{Rectangle}
use Rattle.windows.specs.declared.Window.{Window}
use Rattle.windows.specs.declared.Clipped.{Clipped}
use Rattle.windows.specs.Window.{empty, meet, nothing, window_of, clipped}
use Rattle.settings.specs.declared.Settings.{Settings}
use Rattle.plot.specs.Drawing.{pixels}
use Rattle.operation.specs.declared.Operation.{Operation}
use Rattle.operation.specs.Operation.{to_xy, from_xy, walks_to_corner, source_of, copies, copies_pixels}
use Rattle.arrays.specs.Array.{rectangle_of, clipped_array, dest_start, src_start, from_right, from_bottom}
use Rattle.arrays.specs.Array.{step_of, chosen_walk, dest_walk, src_walk, drawing_of, drawing_for}
use Rattle.arrays.proofs.ArrayLaws.{chosen_walk-pitch, chosen_walk-step}
use Rattle.array_refusal.specs.Refusal.{bad_pitch, refusal}
use Rattle.slices.proofs.FootLaws.{and-false, multiple-of-bad_pitch, walk-residue}
use Rattle.drawing.proofs.OutcomeLaws.{outcome-accepted}
use Rattle.drawing.specs.declared.Outcome.{Outcome}
use Rattle.drawing.specs.Draw.{found, done_some, outcome_at, visited_by, outcome}
use Rattle.operation.specs.declared.Operation.TheVariants.{PixbltLL}
use Rattle.plot.specs.declared.Source.{Source}
use Rattle.plot.specs.declared.Source.TheVariants.{Pixels}
use Rattle.theorems.proofs.PlaceLaws.{source-pixels}
use Rattle.theorems.specs.Corners.{Goes, ChosenOrder, StartGiven, StartWalked, StartsAlike, EndRegisters}

-- ---- one walk in the chosen order
goes : (falls : Bool) (distance a b : ℕ) → a < 2 ^ 32 → b ≡ (a + walked falls distance) % 2 ^ 32 → Goes falls distance a b
goes false distance a b h e = e
goes true distance a b h e = omega arith

address-lt : (w : Walk) (cols i : ℕ) → address_of w cols i < 2 ^ 32
unfolding address_of address_at
address-lt w cols i = omega arith

module _ (op : Operation) (s : Settings) (c : Clipped) (w : Walk) (cols : ℕ) (some : 0 < cols) where
  abbrev order : Walk
  order = chosen_walk op s c w

  pub goes-across : (i : ℕ) → suc (i % cols) < cols
      → Goes (from_right op s) w.step (address_of order cols i) (address_of order cols (i + 1))
  goes-across i h =
      goes (from_right op s) w.step (address_of order cols i) (address_of order cols (i + 1)) (address-lt order cols i)
      (address_of-across order cols i h ∙ rw (chosen_walk-step op s c w))

  pub goes_down : (i : ℕ) → Goes (from_bottom op s) w.pitch (address_of order cols i) (address_of order cols (i + cols))
  goes_down i =
      goes (from_bottom op s) w.pitch (address_of order cols i) (address_of order cols (i + cols)) (address-lt order cols i)
      (address_of-down order cols i some ∙ rw (chosen_walk-pitch op s c w))

  -- the row after the last one, from its first pixel
  pub goes_end : (rows : ℕ) → 0 < rows
      → Goes (from_bottom op s) w.pitch (address_of order cols (cols * (rows - 1))) (address_at order rows 0)
  goes_end rows h =
      let at : address_of order cols (cols * (rows - 1)) ≡ address_at order (rows - 1) 0 =
      ap (address_of order cols) (omega (arith, mul_comm cols (rows - 1))) ∙ address_of-at order cols (rows - 1) 0 some
      in
      let next : rows - 1 + 1 ≡ rows = omega arith in
      goes (from_bottom op s) w.pitch (address_of order cols (cols * (rows - 1))) (address_at order rows 0)
      (address-lt order cols (cols * (rows - 1)))
      (ap (λ (r : ℕ). address_at order r 0) (sym next) ∙ sym (address_at-down order (rows - 1) 0)
      ∙ ap₂ (λ (a p : ℕ). (a + p) % 2 ^ 32) (sym at) (chosen_walk-pitch op s c w))

-- ---- where there are pixels, no common rectangle is handed back
one_none : (r : Rectangle) (win : Window) → (clipped 1 r win).cols ≡ 0
unfolding clipped
one_none r win = go (empty r)
  where
    go : (t : Bool) → (cond t (nothing false) (nothing (meet r win))).cols ≡ 0
    go true = refl
    go false = refl

pub found_none : (op : Operation) (s : Settings) → 0 < pixels (drawing_for op s) → found s (clipped_array op s) ≡ false
unfolding drawing_of clipped_array
found_none op s h = go (eqb (windowing s.control) 1) refl (to_xy op) refl
  where
    go : (t : Bool) → eqb (windowing s.control) 1 ≡ t → (xy : Bool) → to_xy op ≡ xy → (t && (clipped_array op s).request) ≡ false
    go false e xy q = refl
    go true e false q = rw q
    go true e true q =
        let none : (clipped_array op s).cols ≡ 0 =
        rw q (ap (λ (w : ℕ). (clipped w (rectangle_of s) (window_of s.wstart s.wend)).cols) (eqb-true _ 1 e) ∙ one_none _ _)
        in
        absurd (omega (arith, h, ap (λ (n : ℕ). n * (clipped_array op s).rows) none, zero-mul (clipped_array op s).rows))

-- ---- the first pixel, and 16
address-first : (w : Walk) (cols : ℕ) → address_of w cols 0 ≡ w.start % 2 ^ 32
unfolding address_of address_at
address-first w cols = rw (zero-div cols, zero-mod cols) (omega (arith, zero-mul w.pitch, zero-mul w.step))

pub start-given : StartGiven
unfolding drawing_of chosen_walk dest_start src_start clipped_array address_at
start-given s = (
  address-first (drawing_for PixbltLL s).dest (drawing_for PixbltLL s).cols,
  address-first (drawing_for PixbltLL s).src (drawing_for PixbltLL s).cols
      ∙ omega (arith, zero-mul s.sptch, zero-mul s.psize),
)

-- what walks to its corner copies pixels
walks-pixels : (op : Operation) → walks_to_corner op ≡ true → source_of op ≡ Pixels
walks-pixels = source-pixels walks_to_corner refl refl refl refl

module _ (op : Operation) (s : Settings) (e : walks_to_corner op ≡ true) (w : Walk) where
  abbrev c : Clipped
  c = clipped_array op s

  corner-start : (chosen_walk op s c w).start
      ≡ address_at w (corner_of (bottom_to_top s.control) c.rows) (corner_of (right_to_left s.control) c.cols)
  unfolding chosen_walk from_corner
  corner-start = rw (e, ap copies_pixels (walks-pixels op e))

  pub corner-first : (cols : ℕ) → address_of (chosen_walk op s c w) cols 0
      ≡ (w.start + corner_of (bottom_to_top s.control) c.rows * w.pitch + corner_of (right_to_left s.control) c.cols * w.step)
      % 2 ^ 32
  unfolding address_at
  corner-first cols = address-first (chosen_walk op s c w) cols ∙ ap (λ (a : ℕ). a % 2 ^ 32) corner-start ∙ omega arith

  pub corner-aligned : bad_pixel_size s.psize ≡ false → w.pitch % 16 ≡ 0 → w.step ≡ s.psize
      → misaligned s.psize (chosen_walk op s c w).start ≡ misaligned s.psize w.start
  corner-aligned size hp hs =
      ap (λ (r : ℕ). not (eqb r 0))
      (ap (λ (a : ℕ). a % s.psize) corner-start
      ∙ walk-residue s.psize size w _ _ hp (ap (λ (x : ℕ). x % s.psize) hs ∙ mod_self s.psize))

-- ---- the order and the end of a drawing
pub chosen-order : ChosenOrder
unfolding drawing_of
chosen-order op s some i =
    let c = clipped_array op s in
    let to = dest_walk op s c in
    let from = src_walk op s c in (
      (λ h. (goes-across op s c to c.cols some i h, goes-across op s c from c.cols some i h)),
      goes_down op s c to c.cols some i,
      goes_down op s c from c.cols some i,
    )

pub start-walked : StartWalked
unfolding drawing_of
start-walked op s e =
    let c = clipped_array op s in (
      corner-first op s e (dest_walk op s c) c.cols,
      corner-first op s e (src_walk op s c) c.cols ∙ rw (walks-pixels op e),
    )

pub starts-alike : StartsAlike
unfolding drawing_of
starts-alike op s e size pitches =
    let c = clipped_array op s in
    let from = ap copies_pixels (walks-pixels op e) in (
      corner-aligned op s e (dest_walk op s c) size (multiple-of-bad_pitch (to_xy op) s.dptch (or-false-left _ _ pitches)) refl,
      corner-aligned op s e (src_walk op s c) size
          (multiple-of-bad_pitch (from_xy op) s.sptch
          (and-false _ _ from (or-false-right (bad_pitch (to_xy op) s.dptch) _ pitches)))
          (ap (λ (k : Source). step_of k s.psize) (walks-pixels op e)),
    )

module _ (op : Operation) (s : Settings) (k : ℕ) (v : Bool) (b w : ℕ) (e : refusal op s k w ≡ 0) (some : 0 < pixels (drawing_for op s))
    (end : (outcome op s k v b w).place ≡ pixels (drawing_for op s)) where
  done : done_some (drawing_for op s) (k + visited_by op s k b) ≡ true
  unfolding outcome_at
  done =
      let at : k + visited_by op s k b ≡ pixels (drawing_for op s) =
      sym (ap (λ (o : Outcome). o.place) (outcome-accepted op s k v b w e)) ∙ end
      in
      rw (eq-eqb _ _ at, ne_eqb (pixels (drawing_for op s)) 0 (λ z. omega arith))

  end-daddr : (outcome op s k v b w).daddr ≡ address_at (drawing_for op s).dest (drawing_for op s).rows 0
  unfolding outcome_at
  end-daddr = ap (λ (o : Outcome). o.daddr) (outcome-accepted op s k v b w e) ∙ rw (found_none op s some, done)

  end-saddr : copies (source_of op) ≡ true → (outcome op s k v b w).saddr ≡ address_at (drawing_for op s).src (drawing_for op s).rows 0
  unfolding outcome_at
  end-saddr h = ap (λ (o : Outcome). o.saddr) (outcome-accepted op s k v b w e) ∙ rw (done, h)

pub end-registers : EndRegisters
unfolding drawing_of
end-registers op s k v b w e some end =
    let c = clipped_array op s in
    let cols : 0 < c.cols = cols-some c.cols c.rows 0 some in
    let rows : 0 < c.rows = omega (arith, row_lt c.cols c.rows 0 some) in (
      subst (Goes (from_bottom op s) s.dptch _) (sym (end-daddr op s k v b w e some end))
          (goes_end op s c (dest_walk op s c) c.cols cols c.rows rows),
      (λ h. subst (Goes (from_bottom op s) s.sptch _) (sym (end-saddr op s k v b w e some end h))
          (goes_end op s c (src_walk op s c) c.cols cols c.rows rows)),
    )
