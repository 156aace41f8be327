-- The columns of `sweep --fields`: that they tell a point's values, how many there are, and how
-- long a line can be. The proofs are in proofs/Columns.antt. Assumes nothing.
use Rattle.std.specs.Prelude.{◌≡◌, List, [], ◌∷◌, ◌≢◌, ℕ, ◌/◌, ◌^◌, ◌≤◌, ◌<◌, length, get_or}
use Rattle.ascii.specs.Ascii.{joined}
use Rattle.names.specs.Names.{name_count, control_at, limit}
use Rattle.text.specs.Text.{lines_of, fields_of}
use Rattle.columns.specs.Columns.{column_count, column_names, columns_heading, columns_of, columns_line}
use Rattle.columns.specs.Columns.{longest_columns}

-- Each value is below its name's limit.
abbrev pub BelowLimits : List ℕ → Type 0
BelowLimits vs = (i : ℕ) → get_or vs i 0 < limit i

-- Two points have one number and the same fourteen values, but for bits 0 to 4 of CONTROL, which
-- mean nothing.
pub record SamePoint (p q : ℕ) (vs ws : List ℕ) : Type 0 where
  pub number : p ≡ q
  pub values : (i : ℕ) → i < name_count → i ≢ control_at → get_or vs i 0 ≡ get_or ws i 0
  pub control : get_or vs control_at 0 / 2 ^ 5 ≡ get_or ws control_at 0 / 2 ^ 5

-- The columns tell a point: two with one line are the same so.
abbrev pub ColumnsTellValues : Type 0
ColumnsTellValues =
    (p q : ℕ) (vs ws : List ℕ) → p < 2 ^ 64 → q < 2 ^ 64 → BelowLimits vs → BelowLimits ws
    → columns_line p vs ≡ columns_line q ws → SamePoint p q vs ws

-- A text is one line, whose fields are these, as many as there are columns.
pub record LineOfColumns (text : List ℕ) (fields : List (List ℕ)) : Type 0 where
  pub line : lines_of text ≡ joined fields ∷ [] ∷ []
  pub cut : fields_of (joined fields) ≡ fields
  pub count : length fields ≡ column_count

-- So are the heading and every line of a point, whatever its values.
abbrev pub ColumnsAsMany : Type 0
ColumnsAsMany =
    LineOfColumns columns_heading column_names
    × ((p : ℕ) (vs : List ℕ) → LineOfColumns (columns_line p vs) (columns_of p vs))

-- No line is longer than the code holds.
abbrev pub ColumnsFit : Type 0
ColumnsFit =
    (length columns_heading ≤ longest_columns)
    × ((p : ℕ) (vs : List ℕ) → length (columns_line p vs) ≤ longest_columns)

-- every statement of this file
pub record OfColumns : Type 0 where
  pub columns-tell-values : ColumnsTellValues
  pub columns-as-many : ColumnsAsMany
  pub columns-fit : ColumnsFit
