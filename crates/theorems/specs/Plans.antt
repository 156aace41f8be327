-- Plans and their runs (demand 2): every statement that a reader must believe. The proofs are in
-- proofs/Plans.antt. Assumes nothing.
use Rattle.std.specs.Prelude.{◌≡◌, false, Result, Ok, Err, IsOk, List, ◌++◌, ℕ, ◌+◌, ◌*◌, ◌≤◌, ◌<◌, length, get_or}
use Rattle.answers.specs.Answer.{refusal_number}
use Rattle.lists.specs.Search.{any}
use Rattle.settings.specs.Settings.{settings_of}
use Rattle.names.specs.Names.{defaults}
use Rattle.points.specs.Axes.{Axis, value_at, count}
use Rattle.points.specs.Points.{indices, experiment}
use Rattle.points.specs.Table.{axes_in, points_in}
use Rattle.points.specs.OneToOne.{is_named, OneToOne}
use Rattle.plan.specs.declared.BadPlan.{BadPlan}
use Rattle.plan.specs.Reading.{Reading, reading, plan_in}
use Rattle.plan.specs.Table.{room, table_after}
use Rattle.listing.specs.Listing.{heading, refused_line}
use Rattle.run.specs.Run.{seed_of, image_for}
use Rattle.run.specs.Values.{as_given}
use Rattle.run.specs.Lines.{point_lines, longest, written}

-- the lines of some points of a plan
abbrev pub plan_lines : Reading → ℕ → ℕ → List ℕ
plan_lines r first k = point_lines r.words r.draw r.axes first k

-- What a run of a plan writes: the heading and a line for each point; of a refused plan
-- only `refused`, number, line.
abbrev pub reading_listing : Result Reading BadPlan → List ℕ
reading_listing (Ok r) = heading ++ plan_lines r 0 (count r.axes)
reading_listing (Err bad) = refused_line (refusal_number bad.refused) bad.line

abbrev pub listing : List ℕ → List ℕ
listing text = reading_listing (reading text)

-- Of every accepted plan the numbers below the count and the experiments correspond one to one:
-- each number has an experiment of the plan, each experiment of the plan has a number, and no
-- two numbers have the same one.
abbrev pub NumbersAreExperiments : Type 0
NumbersAreExperiments = (text : List ℕ) → IsOk (reading text) → OneToOne (plan_in text).axes

-- The table that `plan::read` fills has the plan's axes and its points, whatever stood in it.
abbrev pub TableIsPlan : Type 0
TableIsPlan =
    (text t : List ℕ) → room ≤ length t → IsOk (reading text)
    → (axes_in (length (plan_in text).axes) (table_after text t) ≡ (plan_in text).axes)
    × (points_in (length (plan_in text).axes) (table_after text t) ≡ count (plan_in text).axes)

-- What `run::lines` writes over that table are the plan's own lines: for any part of the points,
-- any table, and any output with room.
abbrev pub RunIsListing : Type 0
RunIsListing =
    (text t : List ℕ) (first k size : ℕ) → room ≤ length t → IsOk (reading text)
    → first + k ≤ count (plan_in text).axes → longest * k ≤ size
    → written (plan_in text).words (plan_in text).words size (plan_in text).draw
    (length (plan_in text).axes) (table_after text t) first k
    ≡ plan_lines (plan_in text) first k

-- Parts joined in order are the whole: a listing can be cut anywhere.
abbrev pub PartsJoin : Type 0
PartsJoin =
    (r : Reading) (first j k : ℕ)
    → plan_lines r first (j + k) ≡ plan_lines r first j ++ plan_lines r (first + j) k

-- At every point the name of each axis has the axis's value at its index, and a
-- name of no axis has its default.
abbrev pub NamesHaveValues : Type 0
NamesHaveValues =
    (text : List ℕ) (n : ℕ)
    → ((none : Axis) (j : ℕ) → j < length (plan_in text).axes
    → get_or (experiment (plan_in text).axes n) (get_or (plan_in text).axes j none).name 0
    ≡ value_at (get_or (plan_in text).axes j none) (get_or (indices (plan_in text).axes n) j 0))
    × ((name : ℕ) → any (is_named name) (plan_in text).axes ≡ false
    → get_or (experiment (plan_in text).axes n) name 0 ≡ get_or defaults name 0)

-- Every value arrives whole: the drawing takes the settings of an experiment as they are.
abbrev pub SettingsArrive : Type 0
SettingsArrive =
    (text : List ℕ) (n : ℕ)
    → settings_of (experiment (plan_in text).axes n) ≡ as_given (experiment (plan_in text).axes n)

-- All 64 bits of a seed arrive: over a memory of four or more words, points with the
-- same image have the same SEED.
abbrev pub SeedsArrive : Type 0
SeedsArrive =
    (text : List ℕ) (m n words : ℕ) → 4 ≤ words
    → image_for words (experiment (plan_in text).axes m)
    ≡ image_for words (experiment (plan_in text).axes n)
    → seed_of (experiment (plan_in text).axes m) ≡ seed_of (experiment (plan_in text).axes n)

-- every statement of this file
pub record OfPlans : Type 0 where
  pub numbers-are-experiments : NumbersAreExperiments
  pub table-is-plan : TableIsPlan
  pub run-is-listing : RunIsListing
  pub parts_join : PartsJoin
  pub names-have-values : NamesHaveValues
  pub settings-arrive : SettingsArrive
  pub seeds-arrive : SeedsArrive
