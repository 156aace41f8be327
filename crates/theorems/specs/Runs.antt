-- Runs of plans: the points of a listing, its parts, its numbers, and the answers of a run. The
-- proofs are in proofs/Runs.antt. Assumes nothing.
use Rattle.std.specs.Prelude.{◌≡◌, true, false, cond, List, [], ◌++◌, ◌⊎◌, Result, Ok, Err, ℕ, ◌+◌, ◌-◌, ◌^◌, ◌≤◌, ◌<◌, min, eqb, Some}
use Rattle.answers.specs.Answer.{refusal_number}
use Rattle.memory.specs.Bits.{no_memory}
use Rattle.settings.specs.Settings.{settings_of}
use Rattle.plot.specs.Drawing.{pixels}
use Rattle.operation.specs.Operation.{operation_of}
use Rattle.arrays.specs.Array.{drawing_for}
use Rattle.text.specs.Number.{number_of}
use Rattle.points.specs.Axes.{Axis, count}
use Rattle.points.specs.Points.{experiment}
use Rattle.points.specs.Table.{axes_in, points_in}
use Rattle.plan.specs.declared.BadPlan.{BadPlan}
use Rattle.plan.specs.Reading.{Reading, reading, plan_in}
use Rattle.listing.specs.Listing.{decimal, heading, refused_line}
use Rattle.run.specs.declared.Ran.{Ran}
use Rattle.run.specs.Run.{ran_for}
use Rattle.run.specs.Values.{as_given}
use Rattle.run.specs.Lines.{bad_shape, answer_of}
use Rattle.theorems.specs.Plans.{plan_lines, listing}

-- A refused point has its number, 10 to 17, and zeros.
pub record RefusedPoint (r : Ran) : Type 0 where
  pub least : 10 ≤ r.answer
  pub most : r.answer ≤ 17
  pub visited : r.visited ≡ 0
  pub v : r.v ≡ false
  pub changed : r.changed ≡ 0
  pub states : r.states ≡ 0

-- Every point is whole, with answer 0 and all its pixels visited, or refused. So no
-- line of a listing has answer 1.
abbrev pub PointsAreWhole : Type 0
PointsAreWhole =
    (words draw : ℕ) (axes : List Axis) (n : ℕ)
    → let r = ran_for words draw (experiment axes n) in
    ((r.answer ≡ 0)
    × (r.visited ≡ pixels (drawing_for (operation_of draw) (settings_of (experiment axes n)))))
    ⊎ RefusedPoint r

-- What is written of k points from a first one on, or as many as there are: the heading, or the
-- line of a refused plan, stands before point 0.
abbrev pub reading_part : Result Reading BadPlan → ℕ → ℕ → List ℕ
reading_part (Ok r) first k =
    cond (eqb first 0) heading [] ++ plan_lines r first (min k (count r.axes - first))
reading_part (Err bad) first k =
    cond (eqb first 0) (refused_line (refusal_number bad.refused) bad.line) []

abbrev pub listing_part : List ℕ → ℕ → ℕ → List ℕ
listing_part text first k = reading_part (reading text) first k

-- A part with all points is the listing.
abbrev pub PartIsListing : Type 0
PartIsListing =
    (text : List ℕ) (k : ℕ) → count (plan_in text).axes ≤ k → listing_part text 0 k ≡ listing text

-- Two parts that follow one another are one part, the heading and a refused plan's line included.
abbrev pub PartsAreOne : Type 0
PartsAreOne =
    (text : List ℕ) (first j k : ℕ) → 0 < first + j
    → listing_part text first j ++ listing_part text (first + j) k ≡ listing_part text first (j + k)

-- Each number of 64 bits has one writing: what a listing writes, a plan's reader reads back; two
-- numbers are not written as one, and two fields are not read as one number.
abbrev pub NumbersReadBack : Type 0
NumbersReadBack = (n : ℕ) → n < 2 ^ 64 → number_of (decimal n) ≡ Some n

abbrev pub OneWriting : Type 0
OneWriting = (m n : ℕ) → m < 2 ^ 64 → n < 2 ^ 64 → decimal m ≡ decimal n → m ≡ n

abbrev pub OneField : Type 0
OneField = (a b : List ℕ) (v : ℕ) → number_of a ≡ Some v → number_of b ≡ Some v → a ≡ b

-- No plan has more than 64^8 points, so that their numbers fit into 64 bits.
abbrev pub CountFits : Type 0
CountFits = (text : List ℕ) → count (plan_in text).axes ≤ 64 ^ 8

-- The answer of a run of k points: 9 first, then 10, then 24, which is given exactly where a point
-- that is asked for isn't below the count.
pub record AnswerOfRun (words words' size draw axes : ℕ) (t : List ℕ) (first k : ℕ) : Type 0 where
  pub nine : bad_shape words words' draw k size ≡ true
      → answer_of words words' size draw axes t first k ≡ 9
  pub ten : bad_shape words words' draw k size ≡ false → no_memory words ≡ true
      → answer_of words words' size draw axes t first k ≡ 10
  pub past : bad_shape words words' draw k size ≡ false → no_memory words ≡ false
      → (i : ℕ) → i < k → points_in axes t ≤ first + i
      → answer_of words words' size draw axes t first k ≡ 24
  pub done : bad_shape words words' draw k size ≡ false → no_memory words ≡ false
      → ((i : ℕ) → i < k → first + i < points_in axes t)
      → answer_of words words' size draw axes t first k ≡ 0

abbrev pub AnswersInOrder : Type 0
AnswersInOrder =
    (words words' size draw axes : ℕ) (t : List ℕ) (first k : ℕ)
    → AnswerOfRun words words' size draw axes t first k

-- What is shown of a point is what is run: of any table, a plan's or not, the drawing takes the
-- settings of an experiment as they are.
abbrev pub ShownIsRun : Type 0
ShownIsRun =
    (k n : ℕ) (t : List ℕ) → n < points_in k t
    → settings_of (experiment (axes_in k t) n) ≡ as_given (experiment (axes_in k t) n)

-- every statement of this file
pub record OfRuns : Type 0 where
  pub points-are-whole : PointsAreWhole
  pub part-is-listing : PartIsListing
  pub parts-are-one : PartsAreOne
  pub numbers-read-back : NumbersReadBack
  pub one-writing : OneWriting
  pub one_field : OneField
  pub count_fits : CountFits
  pub answers-in-order : AnswersInOrder
  pub shown-is-run : ShownIsRun
