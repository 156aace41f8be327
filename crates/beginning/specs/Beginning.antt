-- Whether a line can be the listing's line of a point, seen without drawing: of a point's numbers
-- only `changed` depends on the memory's contents. The scope knows nothing of it. Assumes nothing.
use Rattle.std.specs.Prelude.{Bool, not, ◌&&◌, ◌||◌, List, [], ◌∷◌, ◌++◌, ℕ, leb, get_or}
use Rattle.ascii.specs.Ascii.{line_end}
use Rattle.memory.specs.Bits.{no_memory}
use Rattle.names.specs.Drawings.{drawing_count}
use Rattle.text.specs.Text.{fields_of, same}
use Rattle.tabs.specs.Fields.{field_value}
use Rattle.points.specs.Axes.{Axis}
use Rattle.points.specs.Points.{experiment}
use Rattle.points.specs.Table.{axes_in, points_in}
use Rattle.run.specs.declared.Ran.{Ran}
use Rattle.run.specs.Run.{ran_for, line_of}

-- what a point gives, with another number in the place of `changed`
abbrev pub with_changed : ℕ → Ran → Ran
with_changed n r =
    record {
      answer = r.answer;
      visited = r.visited;
      v = r.v;
      changed = n;
      states = r.states;
    }

-- the listing line of a point with that number
unfoldable pub line_with : ℕ → ℕ → ℕ → List Axis → ℕ → List ℕ
line_with n words draw axes point =
    line_of point (with_changed n (ran_for words draw (experiment axes point)))

-- the number that a line has there: that of its fifth field, 0 where there is none
unfoldable pub changed_in : List ℕ → ℕ
changed_in line = field_value (get_or (fields_of line) 4 [])

-- a line and the byte that ends it
abbrev pub ended : List ℕ → List ℕ
ended line = line ++ (line_end ∷ [])

-- no point: the memory is none, the drawing is none of the eight, or the number is not below the
-- count of the table's axes
abbrev pub no_point : ℕ → ℕ → ℕ → List ℕ → ℕ → Bool
no_point words draw axes t point =
    no_memory words || leb drawing_count draw || leb (points_in axes t) point

-- can a line be that of a point?
unfoldable pub could_be : ℕ → ℕ → ℕ → List ℕ → ℕ → List ℕ → Bool
could_be words draw axes t point line =
    not (no_point words draw axes t point)
    && same (ended line) (line_with (changed_in line) words draw (axes_in axes t) point)
