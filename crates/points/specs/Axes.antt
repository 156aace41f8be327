-- The axes of a plan and the values of an experiment (the scope, "Plans and images"). Assumes
-- nothing.
use Rattle.std.specs.Prelude.{List, [], ◌∷◌, ℕ, ◌*◌, length, get_or}
use Rattle.lists.specs.Tabulate.{tabulate}

-- An experiment is a list of the values of the fourteen names, in the order of
-- `Rattle.names.specs.Names`, which also has the values of unnamed ones (`defaults`) and what each
-- name's values are below (`limit`).

-- an axis: the number of its name, and its values
pub record Axis : Type 0 where
  pub name : ℕ
  pub values : List ℕ

-- All that is asked of an axis's values: how many there are, and which one stands at an index

unfoldable pub axis_length : Axis → ℕ
axis_length a = length a.values

-- 0 from the length on
unfoldable pub value_at : Axis → ℕ → ℕ
value_at a i = get_or a.values i 0

-- so these are all of them, in their order
unfoldable pub axis_values : Axis → List ℕ
axis_values a = tabulate (axis_length a) (value_at a)

-- a plan has at most 8 axes, and an axis at most 64 values (23)
abbrev pub most_axes : ℕ
most_axes = 8

abbrev pub most_values : ℕ
most_values = 64

-- the count is the product of the axis lengths, 1 with no axis
unfoldable pub count : List Axis → ℕ
count [] = 1
count (a ∷ later) = axis_length a * count later
