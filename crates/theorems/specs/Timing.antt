-- The time of a FILL (request One). The proofs are in proofs/Timing.antt. Assumes nothing.
use Rattle.std.specs.Prelude.{◌≡◌, true, false, List, ◌≢◌, ℕ, ◌+◌, ◌*◌, ◌/◌, ◌≤◌, ◌<◌, length}
use Rattle.fill_tables.specs.declared.Fill.{Fill}
use Rattle.fill_tables.specs.Time.{words_of, alignment_of, time_of, most_states}
use Rattle.walk.specs.Walk.{address_at}
use Rattle.settings.specs.declared.Settings.{Settings}
use Rattle.settings.specs.Settings.{settings_of}
use Rattle.operation.specs.declared.Operation.{Operation}
use Rattle.operation.specs.Operation.{operation_of, source_of, copies}
use Rattle.arrays.specs.Array.{from_right, drawing_for}
use Rattle.array_refusal.specs.Refusal.{refusal}
use Rattle.fill_timing.specs.FillTiming.{fill_of, fill_states}
use Rattle.points.specs.Axes.{Axis}
use Rattle.points.specs.Points.{experiment}
use Rattle.run.specs.Run.{ran_over, ran_for}

-- where a pixel of a drawing lies, by its row and its column in what is drawn; the word that
-- holds it
abbrev pub pixel_at : Operation → Settings → ℕ → ℕ → ℕ
pixel_at op s row column = address_at (drawing_for op s).dest row column

abbrev pub word_holding : Operation → Settings → ℕ → ℕ → ℕ
word_holding op s row column = pixel_at op s row column / 16

-- N, the words per row that the time of a FILL goes by
abbrev pub words_per_row : Operation → Settings → ℕ
words_per_row op s = words_of (fill_of op s).start (fill_of op s).bits

-- Every row of an accepted FILL, at any pixel size, has the alignment that its time goes by. (Of a
-- PIXBLT too, at the end that its rows are walked from.)
abbrev pub RowsAlike : Type 0
RowsAlike =
    (op : Operation) (s : Settings) (place words : ℕ) → refusal op s place words ≡ 0 → (row : ℕ)
    → alignment_of (pixel_at op s row 0) ((drawing_for op s).cols * s.psize)
    ≡ alignment_of (fill_of op s).start (fill_of op s).bits

-- Exactly N words hold a pixel of a row of it, at any pixel size: each of its pixels lies in one of
-- the N words from the row's first one on, and each of these holds one. (No FILL is walked from the
-- right: B sources and FILL ignore PBH.)
abbrev pub RowWords : Type 0
RowWords =
    (op : Operation) (s : Settings) (place words : ℕ) → refusal op s place words ≡ 0
    → from_right op s ≡ false → 0 < (drawing_for op s).cols → (row : ℕ)
    → row < (drawing_for op s).rows
    → let first = word_holding op s row 0 in
    ((column : ℕ) → column < (drawing_for op s).cols
    → (first ≤ word_holding op s row column)
    × (word_holding op s row column < first + words_per_row op s))
    × ((w : ℕ) → first ≤ w → w < first + words_per_row op s
    → (column : ℕ) × (column < (drawing_for op s).cols) × (word_holding op s row column ≡ w))

-- FILL time = setup time + transfer time - adjustment, and nothing is cut off.
abbrev pub TimeAddsUp : Type 0
TimeAddsUp =
    (f : Fill)
    → (time_of f).states + (time_of f).adjustment ≡ (time_of f).setup + (time_of f).transfer

-- The column `states` of a plan's point is what `fill_states` gives for its drawing.
abbrev pub StatesAreTime : Type 0
StatesAreTime =
    (words draw : ℕ) (axes : List Axis) (n : ℕ)
    → let vs = experiment axes n in
    (ran_for words draw vs).states
    ≡ (fill_states (operation_of draw) (settings_of vs) words).time.states

-- For other drawings than FILL, refused points and points that visit no pixel it is 0.
abbrev pub StatesNone : Type 0
StatesNone =
    (op : Operation) (s : Settings) (m : List ℕ)
    → (copies (source_of op) ≡ true → (ran_over op s m).states ≡ 0)
    × (refusal op s 0 (length m) ≢ 0 → (ran_over op s m).states ≡ 0)
    × ((ran_over op s m).visited ≡ 0 → (ran_over op s m).states ≡ 0)

-- For every other point it is the time of the FILL, of the clipped array, and isn't 0.
abbrev pub StatesSome : Type 0
StatesSome =
    (op : Operation) (s : Settings) (m : List ℕ)
    → copies (source_of op) ≡ false → (ran_over op s m).visited ≢ 0
    → ((ran_over op s m).states ≡ (time_of (fill_of op s)).states) × (0 < (ran_over op s m).states)

-- It has at most eleven digits: no FILL takes more states than 65,535 rows of 65,536 words would.
abbrev pub StatesFit : Type 0
StatesFit =
    (words draw : ℕ) (axes : List Axis) (n : ℕ)
    → (ran_for words draw (experiment axes n)).states ≤ most_states

-- every statement of this file
pub record OfTiming : Type 0 where
  pub rows_alike : RowsAlike
  pub row_words : RowWords
  pub time-adds-up : TimeAddsUp
  pub states-are-time : StatesAreTime
  pub states-none : StatesNone
  pub states-some : StatesSome
  pub states-fit : StatesFit
