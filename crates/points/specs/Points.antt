-- The experiment of a point (the scope, "Plans and images"). Assumes nothing.
use Rattle.std.specs.Prelude.{cond, List, [], ◌∷◌, ℕ, ◌/◌, ◌%◌, ltb, set}
use Rattle.names.specs.Names.{defaults}
use Rattle.points.specs.Axes.{Axis, value_at, count}

-- the first axis is slowest: its index is the point number divided by the product of the later
-- lengths, and the rest of the number is decoded by the same rule over the later axes
unfoldable pub indices : List Axis → ℕ → List ℕ
indices [] n = []
indices (a ∷ later) n = n / count later ∷ indices later (n % count later)

-- each axis gives its name the value at its index
unfoldable pub assigned : List Axis → List ℕ → List ℕ → List ℕ
assigned [] is vs = vs
assigned (a ∷ later) [] vs = vs
assigned (a ∷ later) (i ∷ is) vs = assigned later is (set vs a.name (value_at a i))

-- the fourteen values of point n
unfoldable pub experiment : List Axis → ℕ → List ℕ
experiment axes n = assigned axes (indices axes n) defaults

-- 24: a point number isn't below the plan's count
abbrev pub point_refusal : List Axis → ℕ → ℕ
point_refusal axes n = cond (ltb n (count axes)) 0 24
