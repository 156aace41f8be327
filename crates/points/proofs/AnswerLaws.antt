-- Laws of a call's answer and of its lent list (`specs/Table.antt`), one for each way out. No contract cites this file. Assumes nothing.
use mathlib.Core.Path.{◌≡◌, refl, ◌∙◌}
use mathlib.Core.Bool.{Bool, true, false, cond, ◌&&◌, and-eq-true_iff}
use mathlib.Core.List.{List, [], ◌∷◌, ◌++◌}
use Prim.Native.Nat.{ℕ, zero, suc, ◌<◌, ◌≤◌}
use native.Mathlib.Omega.{arith}
use borrow.Author.Tests.{leb-false, lt-ltb, le-ltb, lt-leb}
use lib.Dec.{ltb, leb}
use lib.ListN.{length, get_or, set, drop, length-set}
use lib.Seq.{set-append_left}
use Rattle.lists.specs.Search.{any}
use Rattle.lists.proofs.TestLaws.{or-eq-false}
use Rattle.names.specs.Names.{defaults}
use Rattle.points.specs.Axes.{Axis, value_at, most_axes, count}
use Rattle.points.specs.Points.{indices, assigned, experiment, point_refusal}
use Rattle.points.specs.Table.{axes_in, later_in, holds, points_in, refusal_in, answer_for, out_after, with_defaults}
use Rattle.points.specs.OneToOne.{unknown, too_large}
use Rattle.points.proofs.StepLaws.{held}

-- what is known of a table that has a point
pub record Holding (k : ℕ) (t : List ℕ) : Type 0 where
  pub held : holds k t ≡ true
  pub counted : points_in k t ≡ count (axes_in k t)

pub holding : (k n : ℕ) (t : List ℕ) → n < points_in k t → Holding k t
holding k n t h = go (leb k most_axes && holds k t) refl h
  where
    go : (b : Bool) → (leb k most_axes && holds k t) ≡ b → n < cond b (count (axes_in k t)) 0 → Holding k t
    go true e h = record { held = ((and-eq-true_iff (leb k most_axes) (holds k t)).0 e).1; counted = rw e }
    go false e h = absurd (omega arith)

-- the test of 24 is that of the count of points
refusal_in-test : (k n : ℕ) (t : List ℕ) → refusal_in k t n ≡ cond (ltb n (points_in k t)) 0 24
refusal_in-test k n t = go (leb k most_axes && holds k t)
  where
    go : (b : Bool) → cond b (point_refusal (axes_in k t) n) 24 ≡ cond (ltb n (cond b (count (axes_in k t)) 0)) 0 24
    go true = refl
    go false = rw (le-ltb n 0 (omega arith))

-- what stands after the fourteen values stays
assigned-append : (axes : List Axis) (is vs rest : List ℕ) → any unknown axes ≡ false → length vs ≡ 14
    → assigned axes is (vs ++ rest) ≡ assigned axes is vs ++ rest
unfolding any assigned
assigned-append [] is vs rest u e = refl
assigned-append (a ∷ later) [] vs rest u e = refl
assigned-append (a ∷ later) (i ∷ is) vs rest u e =
    let p = or-eq-false (unknown a) _ u in
    rw (set-append_left vs rest a.name (value_at a i) (omega (arith, leb-false 14 a.name p.0, e)))
    (assigned-append later is (set vs a.name (value_at a i)) rest p.1 (length-set vs _ _ ∙ e))

unknown-axes_in : (k : ℕ) (t : List ℕ) → holds k t ≡ true → any unknown (axes_in k t) ≡ false
unfolding any holds axes_in
unknown-axes_in zero t e = refl
unknown-axes_in (suc k) t e =
    let p = (and-eq-true_iff _ _).0 e in
    rw (lt-leb 14 (get_or t 0 0) (held t p.0).named) (unknown-axes_in k (later_in t) p.1)

-- the values of a table that has a point are below the limits of their names
too_large-axes_in : (k : ℕ) (t : List ℕ) → holds k t ≡ true → any too_large (axes_in k t) ≡ false
unfolding any holds axes_in
too_large-axes_in zero t e = refl
too_large-axes_in (suc k) t e =
    let p = (and-eq-true_iff _ _).0 e in
    rw (held t p.0).small (too_large-axes_in k (later_in t) p.1)

pub small-axes_in : (k n : ℕ) (t : List ℕ) → n < points_in k t → any too_large (axes_in k t) ≡ false
small-axes_in k n t h = too_large-axes_in k t (holding k n t h).held

module _ (k n : ℕ) (t out : List ℕ) where
  pub answer-refused : 14 ≤ length out → points_in k t ≤ n → (24 ≡ answer_for k t n out) × (out ≡ out_after k t n out)
  answer-refused l h = rw (le-ltb (length out) 14 l, refusal_in-test k n t, le-ltb n (points_in k t) h) (refl, refl)

  pub answer-done : 14 ≤ length out → n < points_in k t
      → (0 ≡ answer_for k t n out) × (assigned (axes_in k t) (indices (axes_in k t) n) (with_defaults out) ≡ out_after k t n out)
  unfolding experiment
  answer-done l h =
      rw (le-ltb (length out) 14 l, refusal_in-test k n t, lt-ltb n (points_in k t) h) (
        refl,
        assigned-append (axes_in k t) (indices (axes_in k t) n) defaults (drop 14 out)
            (unknown-axes_in k t (holding k n t h).held) refl,
      )
