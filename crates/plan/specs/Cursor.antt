-- Lines of a text by the place where they start. The scope knows nothing of it. Assumes nothing.
use Rattle.std.specs.Prelude.{◌≡◌, Bool, false, ◌&&◌, Result, List, ℕ, ◌+◌, ◌≤◌, ltb, length, drop}
use Rattle.ascii.specs.Ascii.{line_end}
use Rattle.text.specs.Text.{up_to, lines_of}
use Rattle.points.specs.Axes.{Axis}
use Rattle.plan.specs.declared.BadPlan.{BadPlan}
use Rattle.plan.specs.declared.Cursor.{Cursor}
use Rattle.plan.specs.Reading.{Line, skipped, kept_lines, Reading, or_nothing, read_memory}

-- the line at a place, without its byte 10
abbrev pub line_at : List ℕ → ℕ → List ℕ
line_at text at = up_to line_end (drop at text)

-- the lines from a place on, numbered from here
abbrev pub lines_from : List ℕ → ℕ → ℕ → List Line
lines_from text at number = kept_lines number (lines_of (drop at text))

-- the reading of all the lines
abbrev pub reading_of : List ℕ → Result Reading BadPlan
reading_of text = read_memory (lines_from text 0 1)

-- and its axes
abbrev pub axes_read : List ℕ → List Axis
axes_read text = (or_nothing (reading_of text)).axes

-- is the line at a place, which ends at `end`, one to skip? What follows the last byte 10 is not.
abbrev pub skipped_at : List ℕ → ℕ → ℕ → Bool
skipped_at text at end = ltb end (length text) && skipped (line_at text at)

-- a place in a text; each line before it has at least one byte
pub record PositionIn (text : List ℕ) (at number : ℕ) : Type 0 where
  pub within : at ≤ length text
  pub numbered : number ≤ at + 1

-- a line that is reached from a place by passing skipped ones only
pub record FoundLine (text : List ℕ) (from number : ℕ) (c : Cursor) : Type 0 where
  pub place : PositionIn text c.at c.line
  pub onwards : from ≤ c.at
  pub ends : c.end ≡ c.at + length (line_at text c.at)
  pub lines : lines_from text from number ≡ lines_from text c.at c.line

-- and that is not skipped itself: the next line, or what follows the last one
pub record NextLine (text : List ℕ) (from number : ℕ) (c : Cursor) : Type 0 where
  pub reached : FoundLine text from number c
  pub stays : skipped_at text c.at c.end ≡ false
