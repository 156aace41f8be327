-- Axes as a table of numbers, which a plan's reader fills and the points are read from. The scope
-- knows nothing of it. Assumes nothing.
use Rattle.std.specs.Prelude.{Bool, true, cond, not, ◌&&◌, List, [], ◌∷◌, ◌++◌, ℕ, zero, suc, ◌+◌, ltb, leb, eqb, length, get_or, take, drop}
use Rattle.names.specs.Names.{name_count, defaults}
use Rattle.points.specs.Axes.{Axis, axis_length, axis_values, most_axes, most_values, count}
use Rattle.points.specs.Points.{experiment, point_refusal}
use Rattle.points.specs.OneToOne.{too_large}

-- an axis's own numbers: its name, its length and its values
abbrev pub entry_of : Axis → List ℕ
entry_of a = a.name ∷ axis_length a ∷ axis_values a

-- the table of some axes
unfoldable pub table_of : List Axis → List ℕ
table_of [] = []
table_of (a ∷ later) = entry_of a ++ table_of later

-- Of the first axis of a table: its length, its value at an index, and how many numbers it takes

abbrev pub length_in : List ℕ → ℕ
length_in t = get_or t 1 0

abbrev pub value_in : List ℕ → ℕ → ℕ
value_in t i = get_or t (2 + i) 0

abbrev pub size_in : List ℕ → ℕ
size_in t = 2 + length_in t

-- what follows it
abbrev pub later_in : List ℕ → List ℕ
later_in t = drop (size_in t) t

-- the axis itself
abbrev pub axis_in : List ℕ → Axis
axis_in t = record { name = get_or t 0 0; values = take (length_in t) (drop 2 t) }

-- the first k axes of a table
unfoldable pub axes_in : ℕ → List ℕ → List Axis
axes_in zero t = []
axes_in (suc k) t = axis_in t ∷ axes_in k (later_in t)

-- does a table start with an axis: a name, and 1 to 64 values, none of which is too large for it?
unfoldable pub holds_axis : List ℕ → Bool
holds_axis t =
    ltb (get_or t 0 0) name_count
    && leb 1 (length_in t)
    && leb (length_in t) most_values
    && leb (size_in t) (length t)
    && not (too_large (axis_in t))

-- are the first k axes there?
unfoldable pub holds : ℕ → List ℕ → Bool
holds zero t = true
holds (suc k) t = holds_axis t && holds k (later_in t)

-- Of the first k axes of a table, at most 8

-- the count of points; 0 where they are not there
abbrev pub points_in : ℕ → List ℕ → ℕ
points_in k t = cond (leb k most_axes && holds k t) (count (axes_in k t)) 0

-- 24 also where the table holds no such axes, or more than 8 are asked for
abbrev pub refusal_in : ℕ → List ℕ → ℕ → ℕ
refusal_in k t n = cond (leb k most_axes && holds k t) (point_refusal (axes_in k t) n) 24

-- A point's experiment in a lent list, which may be longer than fourteen values

-- 9: the list is too short
abbrev pub answer_for : ℕ → List ℕ → ℕ → List ℕ → ℕ
answer_for k t n out = cond (ltb (length out) name_count) 9 (refusal_in k t n)

-- the first fourteen elements are the experiment and the others stay; with a number other than 0
-- all stay
abbrev pub out_after : ℕ → List ℕ → ℕ → List ℕ → List ℕ
out_after k t n out =
    cond (eqb (answer_for k t n out) 0) (experiment (axes_in k t) n ++ drop name_count out) out

-- before the axes are assigned
abbrev pub with_defaults : List ℕ → List ℕ
with_defaults out = defaults ++ drop name_count out
