-- The proofs of `specs/Runs.antt`. Assumes nothing.
use mathlib.Core.Path.{◌≡◌, refl, sym, ap, ◌∙◌}
use mathlib.Core.Bool.{Bool, true, false, cond}
use mathlib.Core.List.{List, [], ◌++◌, append_assoc, append-nil}
use mathlib.Core.Logic.{◌⊎◌, inl, inr, ◌≢◌}
use Prim.Native.Nat.{ℕ, ◌+◌, ◌-◌, ◌^◌, ◌≤◌, ◌<◌, min}
use native.Mathlib.Omega.{arith}
use borrow.Author.Tests.{eqb-true, eqb-false, ne_eqb, leb-true, leb-false}
use lib.Dec.{eqb, leb}
use lib.ListN.{length}
use Rattle.settings.specs.declared.Settings.{Settings}
use Rattle.settings.specs.Settings.{settings_of}
use Rattle.operation.specs.declared.Operation.{Operation}
use Rattle.operation.specs.Operation.{operation_of}
use Rattle.arrays.specs.Array.{drawing_for}
use Rattle.array_refusal.specs.Refusal.{refusal}
use Rattle.array_refusal.proofs.RefusalLaws.{refusal-number}
use Rattle.plot.specs.Drawing.{pixels}
use Rattle.std.specs.Prelude.{Option, unwrap_or, Result, Ok, Err}
use Rattle.text.specs.Number.{number_of}
use Rattle.text.proofs.NumberLaws.{number_of-inj}
use Rattle.points.specs.Axes.{count}
use Rattle.points.specs.Points.{experiment}
use Rattle.points.specs.Table.{points_in}
use Rattle.points.proofs.PointsLaws.{count-le-eight}
use Rattle.points.proofs.AnswerLaws.{small-axes_in}
use Rattle.plan.specs.declared.BadPlan.{BadPlan}
use Rattle.plan.specs.Reading.{Reading, reading, or_nothing, plan_in}
use Rattle.plan.proofs.SoundLaws.{reading-sound}
use Rattle.listing.specs.Listing.{heading}
use Rattle.run.specs.Run.{ran_over, image_for}
use Rattle.run.specs.Lines.{point_lines}
use Rattle.run.proofs.RunLaws.{ran_over-refused, ran_over-done}
use Rattle.run.proofs.LinesLaws.{dydx-lt, point_lines-add}
use Rattle.run.proofs.AnswerLaws.{ends_past-of-point, ends_past-of-none}
use Rattle.run.proofs.ValuesLaws.{settings-kept-small}
use Rattle.theorems.specs.Plans.{plan_lines, reading_listing}
use Rattle.theorems.specs.Runs.{reading_part, RefusedPoint, PointsAreWhole, PartIsListing, PartsAreOne, NumbersReadBack, OneWriting}
use Rattle.theorems.specs.Runs.{OneField, CountFits, AnswersInOrder, ShownIsRun, OfRuns}
use Rattle.theorems.proofs.WritingLaws.{number_of-decimal}

-- Points

refused-point : (op : Operation) (s : Settings) (m : List ℕ) → refusal op s 0 (length m) ≢ 0 → RefusedPoint (ran_over op s m)
refused-point op s m h =
    rw (ran_over-refused op s m h) (record {
      least = (refusal-number op s 0 (length m)).least h;
      most = (refusal-number op s 0 (length m)).most;
      visited = refl;
      v = refl;
      changed = refl;
      states = refl;
    })

whole-or-refused : (op : Operation) (s : Settings) (m : List ℕ) → s.dydx < 2 ^ 32
    → (((ran_over op s m).answer ≡ 0) × ((ran_over op s m).visited ≡ pixels (drawing_for op s))) ⊎ RefusedPoint (ran_over op s m)
whole-or-refused op s m h = go (eqb (refusal op s 0 (length m)) 0) refl
  where
    go : (b : Bool) → eqb (refusal op s 0 (length m)) 0 ≡ b
        → (((ran_over op s m).answer ≡ 0) × ((ran_over op s m).visited ≡ pixels (drawing_for op s))) ⊎ RefusedPoint (ran_over op s m)
    go true e = inl (ran_over-done op s m h (eqb-true _ _ e))
    go false e = inr (refused-point op s m (eqb-false _ _ e))

pub points-are-whole : PointsAreWhole
points-are-whole words draw axes n =
    whole-or-refused (operation_of draw) (settings_of (experiment axes n)) (image_for words (experiment axes n))
    (dydx-lt (experiment axes n))

-- Parts

min-all : (c k : ℕ) → c ≤ k → min k (c - 0) ≡ c
min-all c k h = omega arith

pub part-is-listing : PartIsListing
part-is-listing text k h = go (reading text) h
  where
    go : (r : Result Reading BadPlan) → count (or_nothing r).axes ≤ k → reading_part r 0 k ≡ reading_listing r
    go (Ok r) h = rw (min-all (count r.axes) k h)
    go (Err bad) h = refl

-- the lines of two parts that follow one another, of so many points in all
module _ (r : Reading) (c first j k : ℕ) where
  lines-within : j ≤ c - first
      → plan_lines r first (min j (c - first)) ++ plan_lines r (first + j) (min k (c - (first + j)))
      ≡ plan_lines r first (min (j + k) (c - first))
  lines-within h =
      let one : min j (c - first) ≡ j = omega arith in
      let both : min (j + k) (c - first) ≡ j + min k (c - (first + j)) = omega arith in
      rw (one, both) (sym (point_lines-add r.words r.draw r.axes first j (min k (c - (first + j)))))

  lines-past : c - first < j
      → plan_lines r first (min j (c - first)) ++ plan_lines r (first + j) (min k (c - (first + j)))
      ≡ plan_lines r first (min (j + k) (c - first))
  unfolding point_lines
  lines-past h =
      let one : min j (c - first) ≡ c - first = omega arith in
      let none : min k (c - (first + j)) ≡ 0 = omega arith in
      let both : min (j + k) (c - first) ≡ c - first = omega arith in
      rw (one, none, both) (append-nil _)

  lines_join : plan_lines r first (min j (c - first)) ++ plan_lines r (first + j) (min k (c - (first + j)))
      ≡ plan_lines r first (min (j + k) (c - first))
  lines_join = go (leb j (c - first)) refl
    where
      go : (b : Bool) → leb j (c - first) ≡ b
          → plan_lines r first (min j (c - first)) ++ plan_lines r (first + j) (min k (c - (first + j)))
          ≡ plan_lines r first (min (j + k) (c - first))
      go true e = lines-within (leb-true _ _ e)
      go false e = lines-past (leb-false _ _ e)

pub parts-are-one : PartsAreOne
parts-are-one text first j k h = go (reading text)
  where
    front : List ℕ
    front = cond (eqb first 0) heading []

    go : (r : Result Reading BadPlan) → reading_part r first j ++ reading_part r (first + j) k ≡ reading_part r first (j + k)
    go (Ok r) =
        let lines = λ (from n : ℕ). plan_lines r from (min n (count r.axes - from)) in
        rw (ne_eqb (first + j) 0 (omega arith))
        (append_assoc front (lines first j) (lines (first + j) k)
        ∙ ap (λ (l : List ℕ). front ++ l) (lines_join r (count r.axes) first j k))
    go (Err bad) = rw (ne_eqb (first + j) 0 (omega arith)) (append-nil _)

-- Numbers

pub numbers-read-back : NumbersReadBack
numbers-read-back = number_of-decimal

pub one-writing : OneWriting
one-writing m n hm hn e = ap (λ (o : Option ℕ). unwrap_or o 0) (sym (number_of-decimal m hm) ∙ ap number_of e ∙ number_of-decimal n hn)

pub one_field : OneField
one_field = number_of-inj

-- Counts and answers

pub count_fits : CountFits
count_fits text = let s = reading-sound text in count-le-eight (plan_in text).axes s.few s.lengths

pub answers-in-order : AnswersInOrder
answers-in-order words words' size draw axes t first k =
    record {
      nine = λ b. rw b;
      ten = λ b n. rw (b, n);
      past = λ b n i h l. rw (b, n, ends_past-of-point (points_in axes t) first k i h l);
      done = λ b n f. rw (b, n, ends_past-of-none (points_in axes t) first k f);
    }

pub shown-is-run : ShownIsRun
shown-is-run k n t h = settings-kept-small _ n (small-axes_in k n t h)

pub of-runs : OfRuns
of-runs =
    record {
      points-are-whole = points-are-whole;
      part-is-listing = part-is-listing;
      parts-are-one = parts-are-one;
      numbers-read-back = numbers-read-back;
      one-writing = one-writing;
      one_field = one_field;
      count_fits = count_fits;
      answers-in-order = answers-in-order;
      shown-is-run = shown-is-run;
    }
