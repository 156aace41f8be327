-- A scroll: two walks of one pitch and step inside the memory, with rows that are no longer than the pitch. They rise, or they fall, and
-- the one that starts below the other stays below it. No contract cites this file. Assumes nothing.
use mathlib.Core.Path.{◌≡◌, refl, sym, ap, ap₂, ◌∙◌}
use mathlib.Core.Bool.{Bool, true, false}
use mathlib.Core.Logic.{⊎_elim}
use Prim.Native.Nat.{ℕ, suc, ◌+◌, ◌*◌, ◌/◌, ◌%◌, ◌^◌, ◌≤◌, ◌<◌}
use native.Mathlib.Nat.{eq-or-lt_of_le, mul-le-mul_right}
use native.Mathlib.Nat.{zero-div, zero-mod, mod-lt, div-add-mod'}
use native.Mathlib.Omega.{arith}
use lib.Arith.{digits_div, digits_mod}
use Rattle.pixel.specs.Pixel.{bad_pixel_size}
use Rattle.pixel.proofs.SizeLaws.{size-pos}
use Rattle.walk.specs.declared.Walk.{Walk}
use Rattle.walk.specs.Walk.{address_at, address_of}
use Rattle.walk.proofs.WalkLaws.{cols-some}
use Rattle.corner.specs.Corner.{walked}
use Rattle.corner.proofs.CornerLaws.{walked-turns}
use Rattle.plot.specs.declared.Drawing.{Drawing}
use Rattle.plot.specs.Drawing.{pixels}
use Rattle.engine.specs.Engine.{dest_of, src_of}
use Rattle.overlap.specs.Copy.{RisesBelow, FallsAbove}

-- ---- the distance of pixel i from the first
abbrev distance : ℕ → ℕ → ℕ → ℕ → ℕ
distance pitch step cols i = i / cols * pitch + i % cols * step

module _ (pitch step cols : ℕ) (pos : 0 < cols) (row : cols * step ≤ pitch) where
  distance-at : (q r : ℕ) → r < cols → (i : ℕ) → i ≡ q * cols + r → distance pitch step cols i ≡ q * pitch + r * step
  distance-at q r h i e = rw e (ap₂ (λ (x y : ℕ). x * pitch + y * step) (digits_div q h) (digits_mod q h))

  -- from a pixel to the next it grows, by a row at most
  distance_next : (i : ℕ) → (distance pitch step cols i + step ≤ distance pitch step cols (suc i))
      × (distance pitch step cols (suc i) ≤ distance pitch step cols i + pitch)
  distance_next i =
      let parts : i / cols * cols + i % cols ≡ i = div-add-mod' i cols in
      ⊎_elim
      (λ e. omega (arith, distance-at (suc (i / cols)) 0 pos (suc i) (omega arith), ap (λ (x : ℕ). x * step) e))
      (λ l. omega (arith, distance-at (i / cols) (suc (i % cols)) l (suc i) (omega arith), mul-le-mul_right step pos))
      (eq-or-lt_of_le (mod-lt i pos))

-- the same distances there and back make whole turns of 2^32
distance_back : (pitch step cols i : ℕ)
    → (distance pitch step cols i + distance (walked true pitch) (walked true step) cols i) % 2 ^ 32 ≡ 0
distance_back pitch step cols i = sum _ _ _ _ _ _ (walked-turns (i / cols) pitch) (walked-turns (i % cols) step)
  where
    sum : (a b c e t u : ℕ) → a + b ≡ t * 2 ^ 32 → c + e ≡ u * 2 ^ 32 → (a + c + (b + e)) % 2 ^ 32 ≡ 0
    sum a b c e t u h k = omega arith

-- ---- walks
-- pixel i lies its distance on from pixel 0
address_of-distance : (w : Walk) (pitch step : ℕ) → w.pitch ≡ pitch → w.step ≡ step → (cols i : ℕ)
    → address_of w cols i ≡ (address_of w cols 0 + distance pitch step cols i) % 2 ^ 32
unfolding address_of address_at
address_of-distance w pitch step hp hs cols i = rw (zero-div cols, zero-mod cols, hp, hs) (omega arith)

-- of two walks of one pitch and step, the one that starts below stays below
address_of-mono : (w w' : Walk) → w.pitch ≡ w'.pitch → w.step ≡ w'.step → (cols i : ℕ) → address_of w cols 0 ≤ address_of w' cols 0
    → address_of w' cols 0 < 2 ^ 24 → address_of w cols i < 2 ^ 24 → address_of w' cols i < 2 ^ 24
    → address_of w cols i ≤ address_of w' cols i
address_of-mono w w' hp hs cols i =
    go _ _ (distance w'.pitch w'.step cols i) _ _ (address_of-distance w w'.pitch w'.step hp hs cols i)
    (address_of-distance w' w'.pitch w'.step refl refl cols i)
  where
    go : (s s' o x y : ℕ) → x ≡ (s + o) % 2 ^ 32 → y ≡ (s' + o) % 2 ^ 32 → s ≤ s' → s' < 2 ^ 24 → x < 2 ^ 24 → y < 2 ^ 24 → x ≤ y
    go s s' o x y hx hy h b b' b'' = omega arith

-- from a pixel to the next a walk rises, or falls
module _ (w : Walk) (pitch step cols i : ℕ) (row : cols * step ≤ pitch) (short : pitch ≤ 2 ^ 31) (pos : 0 < cols) (some : 0 < step)
    (here : address_of w cols i < 2 ^ 24) (there : address_of w cols (suc i) < 2 ^ 24) where
  address_of-rises : w.pitch ≡ pitch → w.step ≡ step → address_of w cols i < address_of w cols (suc i)
  address_of-rises hp hs =
      go _ _ _ _ _ (address_of-distance w pitch step hp hs cols i) (address_of-distance w pitch step hp hs cols (suc i)) here
      (distance_next pitch step cols pos row i)
    where
      go : (s o o' x y : ℕ) → x ≡ (s + o) % 2 ^ 32 → y ≡ (s + o') % 2 ^ 32 → x < 2 ^ 24 → (o + step ≤ o') × (o' ≤ o + pitch) → x < y
      go s o o' x y hx hy b h = omega arith

  address_of-falls : w.pitch ≡ walked true pitch → w.step ≡ walked true step → address_of w cols (suc i) < address_of w cols i
  address_of-falls hp hs =
      go _ _ _ _ _ _ _ (address_of-distance w (walked true pitch) (walked true step) hp hs cols i)
      (address_of-distance w (walked true pitch) (walked true step) hp hs cols (suc i))
      (distance_back pitch step cols i) (distance_back pitch step cols (suc i)) here there (distance_next pitch step cols pos row i)
    where
      go : (s o o' f f' x y : ℕ) → x ≡ (s + f) % 2 ^ 32 → y ≡ (s + f') % 2 ^ 32 → (o + f) % 2 ^ 32 ≡ 0 → (o' + f') % 2 ^ 32 ≡ 0
          → x < 2 ^ 24 → y < 2 ^ 24 → (o + step ≤ o') × (o' ≤ o + pitch) → y < x
      go s o o' f f' x y hx hy ho ho' b b' h = omega arith

-- ---- drawings
-- the pixels lie in the memory, in rows that are no longer than the pitch
pub record Within (d : Drawing) (pitch : ℕ) : Type 0 where
  pub size : bad_pixel_size d.psize ≡ false
  pub to : (i : ℕ) → i < pixels d → dest_of d i < 2 ^ 24
  pub from : (i : ℕ) → i < pixels d → src_of d i < 2 ^ 24
  pub row : d.cols * d.psize ≤ pitch
  pub short : pitch ≤ 2 ^ 31

-- both walks have one pitch, and one step of a pixel, as they are walked
pub record Alike (d : Drawing) (pitch : ℕ) (falls : Bool) : Type 0 where
  pub to-pitch : d.dest.pitch ≡ walked falls pitch
  pub from-pitch : d.src.pitch ≡ walked falls pitch
  pub to_step : d.dest.step ≡ walked falls d.psize
  pub from_step : d.src.step ≡ walked falls d.psize

module _ (d : Drawing) (pitch : ℕ) (w : Within d pitch) where
  some : {i : ℕ} → i < pixels d → 0 < d.cols
  some {i} l = cols-some d.cols d.rows i l

  pub rises-of : Alike d pitch false → dest_of d 0 ≤ src_of d 0 → RisesBelow d
  rises-of a h =
      record {
        rises = λ i l. address_of-rises d.dest pitch d.psize d.cols i w.row w.short (some l) (size-pos d.psize w.size)
            (w.to i (omega arith)) (w.to (suc i) l) a.to-pitch a.to_step;
        below = λ i l. address_of-mono d.dest d.src (a.to-pitch ∙ sym a.from-pitch) (a.to_step ∙ sym a.from_step) d.cols i h
            (w.from 0 (omega arith)) (w.to i l) (w.from i l);
      }

  pub falls_of : Alike d pitch true → src_of d 0 ≤ dest_of d 0 → FallsAbove d
  falls_of a h =
      record {
        falls = λ i l. address_of-falls d.dest pitch d.psize d.cols i w.row w.short (some l) (size-pos d.psize w.size)
            (w.to i (omega arith)) (w.to (suc i) l) a.to-pitch a.to_step;
        above = λ i l. address_of-mono d.src d.dest (a.from-pitch ∙ sym a.to-pitch) (a.from_step ∙ sym a.to_step) d.cols i h
            (w.to 0 (omega arith)) (w.from i l) (w.to i l);
      }
