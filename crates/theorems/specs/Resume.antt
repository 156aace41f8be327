-- A listing that is gone on with (`sweep --resume`): which lines are taken for those of points that
-- are not run again, and that the whole lines of a file with the rest behind them are one listing.
-- The proofs are in proofs/Resume.antt. Assumes nothing.
use Rattle.std.specs.Prelude.{◌≡◌, Bool, true, false, cond, Result, Ok, Err, IsOk, List, [], ◌∷◌, ◌++◌, ℕ, ◌+◌, ◌-◌, ◌≤◌, ◌<◌, min, eqb, length}
use Rattle.ascii.specs.Ascii.{line_end}
use Rattle.lists.specs.Search.{any}
use Rattle.text.specs.Text.{up_to}
use Rattle.points.specs.Axes.{count}
use Rattle.points.specs.Points.{experiment}
use Rattle.plan.specs.declared.BadPlan.{BadPlan}
use Rattle.plan.specs.Reading.{Reading, reading, plan_in}
use Rattle.plan.specs.Table.{room, table_after}
use Rattle.run.specs.Run.{ran_for, point_line}
use Rattle.beginning.specs.Beginning.{line_with, changed_in, ended, could_be}
use Rattle.theorems.specs.Plans.{plan_lines}
use Rattle.theorems.specs.Runs.{listing_part}

-- the listing line of a point of a plan
abbrev pub own_line : List ℕ → ℕ → List ℕ
own_line text point =
    point_line (plan_in text).words (plan_in text).draw (plan_in text).axes point

-- the same without its line end
abbrev pub own_bytes : List ℕ → ℕ → List ℕ
own_bytes text point = up_to line_end (own_line text point)

-- Is a line taken for that of a point, by the table that `plan::read` makes of the plan in t?
abbrev pub taken : List ℕ → List ℕ → ℕ → List ℕ → Bool
taken text t point line =
    could_be (plan_in text).words (plan_in text).draw (length (plan_in text).axes)
    (table_after text t) point line

-- A line has one line end, its last byte.
abbrev pub LineEndsOnce : Type 0
LineEndsOnce = (text : List ℕ) (point : ℕ) → ended (own_bytes text point) ≡ own_line text point

-- Of every point of an accepted plan the listing's own line is taken, whatever stood in the table.
abbrev pub OwnLineTaken : Type 0
OwnLineTaken =
    (text t : List ℕ) (point : ℕ) → room ≤ length t → IsOk (reading text)
    → point < count (plan_in text).axes
    → taken text t point (own_bytes text point) ≡ true

-- A line that is taken is of a point that there is, and is the point's own but for `changed`; it
-- is the point's own where that number is the point's.
pub record TakenLine (text : List ℕ) (point : ℕ) (line : List ℕ) : Type 0 where
  pub below : point < count (plan_in text).axes
  pub but-changed : ended line
      ≡ line_with (changed_in line) (plan_in text).words (plan_in text).draw (plan_in text).axes
      point
  pub own : changed_in line
      ≡ (ran_for (plan_in text).words (plan_in text).draw
      (experiment (plan_in text).axes point)).changed
      → ended line ≡ own_line text point

abbrev pub TakenDiffersInChanged : Type 0
TakenDiffersInChanged =
    (text t : List ℕ) (point : ℕ) (line : List ℕ) → room ≤ length t → IsOk (reading text)
    → taken text t point line ≡ true → TakenLine text point line

-- the bytes up to and with the last line end
unfoldable pub whole_lines : List ℕ → List ℕ
whole_lines [] = []
whole_lines (c ∷ cs) = cond (any (eqb line_end) (c ∷ cs)) (c ∷ whole_lines cs) []

-- What is put behind the lines of the points before one: the lines of k points from it on, or of as
-- many as there are, and never a heading. From a point after the first on that is the part itself.
abbrev pub reading_rest : Result Reading BadPlan → ℕ → ℕ → List ℕ
reading_rest (Ok r) from k = plan_lines r from (min k (count r.axes - from))
reading_rest (Err bad) from k = []

abbrev pub lines_after : List ℕ → ℕ → ℕ → List ℕ
lines_after text from k = reading_rest (reading text) from k

abbrev pub LinesArePart : Type 0
LinesArePart =
    (text : List ℕ) (from k : ℕ) → 0 < from → lines_after text from k ≡ listing_part text from k

-- A file with a part of a listing, if only the heading, and with bytes of a line that isn't whole:
-- cut off behind its last line end, and with the lines after its points put behind it, it is the
-- part of both.
abbrev pub Resumed : Type 0
Resumed =
    (text torn : List ℕ) (first j k : ℕ) → any (eqb line_end) torn ≡ false
    → whole_lines (listing_part text first j ++ torn) ++ lines_after text (first + j) k
    ≡ listing_part text first (j + k)

-- every statement of this file
pub record OfResume : Type 0 where
  pub line-ends-once : LineEndsOnce
  pub own-line-taken : OwnLineTaken
  pub taken-differs-in-changed : TakenDiffersInChanged
  pub lines-are-part : LinesArePart
  pub resumed : Resumed
