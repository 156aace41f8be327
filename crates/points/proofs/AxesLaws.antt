-- Laws of an axis's values (`specs/Axes.antt`). Only these look into an axis. No contract cites this file. Assumes nothing.
use mathlib.Core.Path.{◌≡◌, refl, sym}
use mathlib.Core.Bool.{false}
use Prim.Native.Nat.{ℕ, ◌<◌, ◌≤◌}
use native.Mathlib.Nat.{pos_of_ne-zero}
use borrow.Author.Tests.{eqb-false, ltb-false}
use lib.Dec.{eqb, ltb}
use lib.ListN.{length, get_or, get_or-eq_default}
use Rattle.lists.proofs.TestLaws.{or-eq-false}
use Rattle.lists.proofs.SearchLaws.{tabulate-get_or, length-tabulate, get_d_tabulate}
use Rattle.points.specs.Axes.{Axis, axis_length, value_at, axis_values, most_values}
use Rattle.points.specs.OneToOne.{bad_length}

-- By their kind

value_at-past : (a : Axis) (i : ℕ) → axis_length a ≤ i → value_at a i ≡ 0
unfolding axis_length value_at
value_at-past a i h = get_or-eq_default a.values 0 h

-- listed values
pub axis_length-listed : (a : Axis) → axis_length a ≡ length a.values
unfolding axis_length
axis_length-listed a = refl

pub axis_values-listed : (a : Axis) → axis_values a ≡ a.values
unfolding axis_length value_at axis_values
axis_values-listed a = sym (tabulate-get_or (length a.values) 0 a.values refl)

-- Of every kind

pub length-axis_values : (a : Axis) → length (axis_values a) ≡ axis_length a
unfolding axis_values
length-axis_values a = length-tabulate (axis_length a) (value_at a)

pub get_or-axis_values : (a : Axis) (i : ℕ) → get_or (axis_values a) i 0 ≡ value_at a i
unfolding axis_values
get_or-axis_values a = get_d_tabulate (axis_length a) (value_at a) 0 (value_at-past a)

pub good_length : (a : Axis) → bad_length a ≡ false → (0 < axis_length a) × (axis_length a ≤ most_values)
good_length a e =
    let (none, many) = or-eq-false (eqb (axis_length a) 0) (ltb most_values (axis_length a)) e in
    (pos_of_ne-zero (eqb-false (axis_length a) 0 none), ltb-false most_values (axis_length a) many)
