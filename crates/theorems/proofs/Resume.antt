-- The proofs of `specs/Resume.antt`. Assumes nothing.
use mathlib.Core.Path.{◌≡◌, refl, sym, ap, ◌∙◌}
use mathlib.Core.Bool.{Bool, true, false, cond, not, ◌||◌, and-eq-true_iff}
use mathlib.Core.Logic.{by_cases}
use mathlib.Core.List.{List, [], ◌∷◌, ◌++◌, append-nil}
use Prim.Native.Nat.{ℕ, zero, suc, ◌+◌, ◌-◌, ◌*◌, ◌^◌, ◌≤◌, ◌<◌, min, max}
use native.Mathlib.Decide.{ℕ_discrete}
use native.Mathlib.Nat.{zero-add}
use native.Mathlib.Omega.{arith}
use borrow.Author.Tests.{ne_eqb, le-ltb, lt-leb, leb-false, not-true}
use lib.Dec.{eqb, leb}
use lib.ListN.{length}
use Rattle.ascii.specs.Ascii.{ascii, line_end}
use Rattle.lists.proofs.TestLaws.{or-false-right}
use Rattle.memory.specs.Bits.{word_bits, most_words, bit_at, no_memory}
use Rattle.memory.specs.Changed.{differs, differing, changed_bits}
use Rattle.image.proofs.ImageLaws.{length-image}
use Rattle.settings.specs.declared.Settings.{Settings}
use Rattle.settings.specs.Settings.{settings_of}
use Rattle.engine.proofs.VisitsLaws.{length-visits}
use Rattle.operation.specs.declared.Operation.{Operation}
use Rattle.operation.specs.Operation.{operation_of}
use Rattle.arrays.specs.Array.{drawing_for}
use Rattle.array_refusal.specs.Refusal.{refusal}
use Rattle.drawing.specs.Draw.{unlimited, visited_by, drawn}
use Rattle.drawing.proofs.OutcomeLaws.{drawn-accepted, drawn-refused}
use Rattle.names.specs.Drawings.{drawing_count}
use Rattle.names.specs.Limits.{plan_words}
use Rattle.text.specs.Text.{up_to}
use Rattle.points.specs.Axes.{Axis, count}
use Rattle.points.specs.Points.{experiment}
use Rattle.points.specs.Table.{axes_in, points_in}
use Rattle.std.specs.Prelude.{Result, Ok, Err}
use Rattle.answers.specs.Answer.{refusal_number}
use Rattle.plan.specs.declared.BadPlan.{BadPlan}
use Rattle.plan.specs.Reading.{Reading, reading, plan_in}
use Rattle.plan.specs.Table.{table_after}
use Rattle.plan.proofs.AcceptedLaws.{reading-accepted}
use Rattle.listing.specs.Listing.{heading, refused_line}
use Rattle.run.specs.declared.Ran.{Ran}
use Rattle.run.specs.Run.{seed_of, image_for, ran_over, ran_for, point_line}
use Rattle.run.specs.Lines.{point_lines}
use Rattle.beginning.specs.Beginning.{line_with, changed_in, ended, no_point, could_be}
use Rattle.beginning.proofs.LineLaws.{unended, numbers_line-ended}
use Rattle.beginning.proofs.BeginningLaws.{numbers_of}
use Rattle.theorems.specs.Plans.{plan_lines}
use Rattle.theorems.specs.Runs.{reading_part, listing_part}
use Rattle.theorems.specs.Resume.{LineEndsOnce, OwnLineTaken, TakenDiffersInChanged}
use Rattle.theorems.specs.Resume.{reading_rest, lines_after, LinesArePart, Resumed, OfResume}
use Rattle.theorems.proofs.ResumeLaws.{same_self, same-is, up_to-numbers_line, changed_in-unended}
use Rattle.theorems.proofs.ResumeLaws.{Whole, whole-none, whole-ended, whole_append, whole_lines-torn}
use Rattle.theorems.proofs.Plans.{table-is-plan}
use Rattle.theorems.proofs.Runs.{parts-are-one}

-- The number of changed bits

differs-le : (b c : ℕ) → differs b c ≤ 1
differs-le b c = go (eqb b c)
  where
    go : (t : Bool) → ◌≤◌ (cond t 0 1) 1
    go true = omega arith
    go false = omega arith

differing-le : (m m' : List ℕ) (n : ℕ) → differing m m' n ≤ n
unfolding differing
differing-le m m' zero = omega arith
differing-le m m' (suc n) = omega (arith, differing-le m m' n, differs-le (bit_at m n) (bit_at m' n))

length-drawn : (op : Operation) (s : Settings) (m : List ℕ) → length (drawn op s 0 unlimited m) ≡ length m
length-drawn op s m =
    by_cases (ℕ_discrete (refusal op s 0 (length m)) 0)
    (λ e. ap length (drawn-accepted op s 0 unlimited m e) ∙ length-visits (drawing_for op s) 0 (visited_by op s 0 unlimited) m)
    (λ n. ap length (drawn-refused op s 0 unlimited m n))

changed-lt : (words draw : ℕ) (vs : List ℕ) → words ≤ plan_words → (ran_for words draw vs).changed < 2 ^ 64
unfolding ran_over changed_bits
changed-lt words draw vs h =
    let m = image_for words vs in
    let m' = drawn (operation_of draw) (settings_of vs) 0 unlimited m in
    omega (
      arith,
      differing-le m m' (word_bits * max (length m) (length m')),
      length-image words (seed_of vs),
      length-drawn (operation_of draw) (settings_of vs) m,
    )

-- Lines of points

module _ (words draw : ℕ) (axes : List Axis) (point : ℕ) where
  abbrev r : Ran
  r = ran_for words draw (experiment axes point)

  own-bytes : up_to line_end (point_line words draw axes point) ≡ unended (numbers_of point r)
  unfolding point_line
  own-bytes = up_to-numbers_line (numbers_of point r)

  own-ended : ended (unended (numbers_of point r)) ≡ point_line words draw axes point
  unfolding point_line
  own-ended = sym (numbers_line-ended (numbers_of point r))

  own-with : line_with r.changed words draw axes point ≡ point_line words draw axes point
  unfolding line_with point_line
  own-with = refl

  own-changed : words ≤ plan_words → changed_in (unended (numbers_of point r)) ≡ r.changed
  own-changed h = changed_in-unended point _ _ _ _ _ (changed-lt words draw (experiment axes point) h)

  whole-own : Whole (point_line words draw axes point)
  whole-own = rw (sym own-ended) (whole-ended (unended (numbers_of point r)))

pub line-ends-once : LineEndsOnce
line-ends-once text point =
    let p = plan_in text in
    ap ended (own-bytes p.words p.draw p.axes point) ∙ own-ended p.words p.draw p.axes point

-- What is taken

no-point-of : (words draw axes : ℕ) (t : List ℕ) (point : ℕ) → 1 ≤ words → words ≤ plan_words → draw < drawing_count
    → point < points_in axes t → no_point words draw axes t point ≡ false
no-point-of words draw axes t point s w d h =
    rw (
      ne_eqb words 0 (omega arith),
      le-ltb most_words words (omega arith),
      lt-leb drawing_count draw d,
      lt-leb (points_in axes t) point h,
    )

module _ (words draw axes : ℕ) (t : List ℕ) (point : ℕ) (line : List ℕ) where
  could-of : no_point words draw axes t point ≡ false
      → ended line ≡ line_with (changed_in line) words draw (axes_in axes t) point → could_be words draw axes t point line ≡ true
  unfolding could_be
  could-of e s = rw (e, s) (same_self (line_with (changed_in line) words draw (axes_in axes t) point))

  of-could : could_be words draw axes t point line ≡ true
      → (point < points_in axes t) × (ended line ≡ line_with (changed_in line) words draw (axes_in axes t) point)
  unfolding could_be
  of-could e =
      let p = (and-eq-true_iff (not (no_point words draw axes t point)) _).0 e in
      let none : no_point words draw axes t point ≡ false = not-true _ p.0 in (
        leb-false (points_in axes t) point (or-false-right (no_memory words || leb drawing_count draw) _ none),
        same-is _ _ p.1,
      )

pub own-line-taken : OwnLineTaken
own-line-taken text t point h e l =
    let p = plan_in text in
    let a = reading-accepted text e in
    let i = table-is-plan text t h e in
    let line = own-bytes p.words p.draw p.axes point in
    could-of p.words p.draw (length p.axes) (table_after text t) point _
    (no-point-of p.words p.draw (length p.axes) _ point a.some_words a.words-le a.draw-lt (rw i.1 l))
    (rw (i.0, line, own-changed p.words p.draw p.axes point a.words-le)
    (own-ended p.words p.draw p.axes point ∙ sym (own-with p.words p.draw p.axes point)))

pub taken-differs-in-changed : TakenDiffersInChanged
taken-differs-in-changed text t point line h e c =
    let p = plan_in text in
    let i = table-is-plan text t h e in
    let q = of-could p.words p.draw (length p.axes) (table_after text t) point line c in
    let is : ended line ≡ line_with (changed_in line) p.words p.draw p.axes point = rw i.0 at q.1 in
    record {
      below = rw i.1 at q.0;
      but-changed = is;
      own = λ n. is ∙ rw n (own-with p.words p.draw p.axes point);
    }

-- The rest of a listing

whole-lines : (r : Reading) (first k : ℕ) → Whole (plan_lines r first k)
unfolding point_lines
whole-lines r first zero = whole-none
whole-lines r first (suc k) =
    whole_append (point_line r.words r.draw r.axes first) _ (whole-own r.words r.draw r.axes first)
    (whole-lines r (suc first) k)

whole-heading : Whole heading
whole-heading = whole-ended (ascii "point\tanswer\tvisited\tV\tchanged\tstates")

whole-refused : (number line : ℕ) → Whole (refused_line number line)
whole-refused number line =
    rw (numbers_line-ended (number ∷ line ∷ [])) (whole-ended (ascii "refused\t" ++ unended (number ∷ line ∷ [])))

whole-cond : (b : Bool) {l m : List ℕ} → Whole l → Whole m → Whole (cond b l m)
whole-cond true h k = h
whole-cond false h k = k

whole_part : (text : List ℕ) (first k : ℕ) → Whole (listing_part text first k)
whole_part text first k = go (reading text)
  where
    go : (r : Result Reading BadPlan) → Whole (reading_part r first k)
    go (Ok r) =
        whole_append (cond (eqb first 0) heading []) _ (whole-cond (eqb first 0) whole-heading whole-none) (whole-lines r first _)
    go (Err bad) = whole-cond (eqb first 0) (whole-refused (refusal_number bad.refused) bad.line) whole-none

pub lines-are-part : LinesArePart
lines-are-part text from k h = go (reading text)
  where
    go : (r : Result Reading BadPlan) → reading_rest r from k ≡ reading_part r from k
    go (Ok r) = rw (ne_eqb from 0 (omega arith))
    go (Err bad) = rw (ne_eqb from 0 (omega arith))

-- behind the heading, or a refused plan's line, as behind other parts
after-heading : (text : List ℕ) (k : ℕ) → listing_part text 0 0 ++ lines_after text 0 k ≡ listing_part text 0 k
unfolding point_lines
after-heading text k = go (reading text)
  where
    go : (r : Result Reading BadPlan) → reading_part r 0 0 ++ reading_rest r 0 k ≡ reading_part r 0 k
    go (Ok r) = let none : min 0 (count r.axes - 0) ≡ 0 = omega arith in rw none
    go (Err bad) = append-nil _

after-part : (text : List ℕ) (first j k : ℕ) → listing_part text first j ++ lines_after text (first + j) k ≡ listing_part text first (j + k)
after-part text first j k =
    by_cases (ℕ_discrete (first + j) 0)
    (λ z. let f : first ≡ 0 = omega arith in
    let g : j ≡ 0 = omega arith in rw (f, g, zero-add k) (after-heading text k))
    (λ n. ap (λ (l : List ℕ). listing_part text first j ++ l) (lines-are-part text (first + j) k (omega arith))
    ∙ parts-are-one text first j k (omega arith))

pub resumed : Resumed
resumed text torn first j k e =
    let part = listing_part text first j in
    ap (λ (l : List ℕ). l ++ lines_after text (first + j) k)
    ((whole_part text first j).kept torn ∙ ap (λ (l : List ℕ). part ++ l) (whole_lines-torn torn e) ∙ append-nil part)
    ∙ after-part text first j k

pub of-resume : OfResume
of-resume =
    record {
      line-ends-once = line-ends-once;
      own-line-taken = own-line-taken;
      taken-differs-in-changed = taken-differs-in-changed;
      lines-are-part = lines-are-part;
      resumed = resumed;
    }
