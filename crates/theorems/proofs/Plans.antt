-- The proofs of `specs/Plans.antt`. Assumes nothing.
use mathlib.Core.Path.{◌≡◌, refl, ap, ◌∙◌}
use mathlib.Core.Bool.{false, and-false}
use mathlib.Core.List.{List}
use Prim.Native.Nat.{ℕ, ◌+◌, ◌*◌, ◌<◌, ◌≤◌}
use native.Mathlib.Omega.{arith}
use borrow.Author.Tests.{le-ltb, lt-leb, ne_eqb, eq-eqb}
use lib.Dec.{ltb}
use lib.ListN.{length}
use Rattle.memory.specs.Bits.{most_words, no_memory}
use Rattle.names.specs.Drawings.{drawing_count}
use Rattle.names.specs.Limits.{plan_words}
use Rattle.points.specs.Axes.{Axis, count}
use Rattle.points.specs.Table.{axes_in}
use Rattle.points.proofs.TableLaws.{axes_in-table_of, points_in-table_of}
use Rattle.points.proofs.ExperimentLaws.{experiment-named, experiment-other}
use Rattle.points.proofs.OneToOne.{points_one_to_one}
use Rattle.std.specs.Prelude.{IsOk}
use Rattle.plan.specs.Reading.{reading, plan_in}
use Rattle.plan.specs.Table.{room, stored_axes, table_after}
use Rattle.plan.proofs.SoundLaws.{reading-sound}
use Rattle.plan.proofs.AcceptedLaws.{reading-accepted}
use Rattle.plan.proofs.PlanLaws.{plan_of-accepted, table_after-accepted}
use Rattle.run.proofs.LinesLaws.{point_lines-add}
use Rattle.run.proofs.ValuesLaws.{settings-kept, seeds-told}
use Rattle.run.specs.Lines.{point_lines, longest, bad_shape, bad_points, written}
use Rattle.theorems.specs.Plans.{NumbersAreExperiments, TableIsPlan, RunIsListing, PartsJoin, NamesHaveValues, SettingsArrive}
use Rattle.theorems.specs.Plans.{SeedsArrive, OfPlans}

pub numbers-are-experiments : NumbersAreExperiments
numbers-are-experiments text e = points_one_to_one (plan_in text).axes (reading-sound text)

-- the table of a plan that is accepted
table_is : (text t : List ℕ) → room ≤ length t → IsOk (reading text) → table_after text t ≡ stored_axes (plan_in text).axes t
table_is text t h e =
    table_after-accepted text t (plan_of-accepted text t h e)

pub table-is-plan : TableIsPlan
table-is-plan text t h e =
    let axes = (plan_in text).axes in
    rw (table_is text t h e)
    (axes_in-table_of axes _, points_in-table_of axes _ (reading-sound text))

written_of : (words size draw axes first k : ℕ) (t : List ℕ) → bad_shape words words draw k size ≡ false → no_memory words ≡ false
    → bad_points axes t first k ≡ false
    → written words words size draw axes t first k ≡ point_lines words draw (axes_in axes t) first k
written_of words size draw axes first k t b n p = rw (b, n, p)

shape_of : (words draw k size : ℕ) → words ≤ plan_words → draw < drawing_count → longest * k ≤ size
    → bad_shape words words draw k size ≡ false
shape_of words draw k size h d r =
    rw (le-ltb plan_words words h, eq-eqb words words refl, lt-leb drawing_count draw d, le-ltb size (longest * k) r)

some_of : (words : ℕ) → 1 ≤ words → words ≤ plan_words → no_memory words ≡ false
some_of words l h = rw (ne_eqb words 0 (omega arith), le-ltb most_words words (omega arith))

pub run-is-listing : RunIsListing
run-is-listing text t first k size h e l r =
    let a = reading-accepted text e in
    let p = table-is-plan text t h e in
    written_of _ size _ _ first k _ (shape_of _ _ k size a.words-le a.draw-lt r) (some_of _ a.some_words a.words-le)
    (rw (p.1, le-ltb (count (plan_in text).axes) (first + k) l) (and-false (ltb 0 k)))
    ∙ ap (λ (axes : List Axis). point_lines (plan_in text).words (plan_in text).draw axes first k) p.0

pub parts_join : PartsJoin
parts_join r = point_lines-add r.words r.draw r.axes

pub names-have-values : NamesHaveValues
names-have-values text n =
    (experiment-named (plan_in text).axes n (reading-sound text), experiment-other (plan_in text).axes n)

pub settings-arrive : SettingsArrive
settings-arrive text = settings-kept (plan_in text).axes (reading-sound text)

pub seeds-arrive : SeedsArrive
seeds-arrive text m n words l = seeds-told (plan_in text).axes (reading-sound text) words l m n

pub of-plans : OfPlans
of-plans =
    record {
      numbers-are-experiments = numbers-are-experiments;
      table-is-plan = table-is-plan;
      run-is-listing = run-is-listing;
      parts_join = parts_join;
      names-have-values = names-have-values;
      settings-arrive = settings-arrive;
      seeds-arrive = seeds-arrive;
    }
