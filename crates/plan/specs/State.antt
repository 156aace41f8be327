-- What is held of the lines read so far. The scope knows nothing of it. Assumes nothing.
use Rattle.std.specs.Prelude.{◌≡◌, Bool, true, false, cond, ◌||◌, List, [], map, ℕ, ◌+◌, ◌*◌, ◌≤◌, eqb, ltb, length, get_or, set, take, replicate}
use Rattle.std.specs.Prelude.{Result, Ok, Err}
use Rattle.answers.specs.declared.Refused.{Refused}
use Rattle.answers.specs.declared.Refused.TheVariants.{Form}
use Rattle.lists.specs.Search.{any}
use Rattle.names.specs.Names.{name_count}
use Rattle.names.specs.Drawings.{drawing_count}
use Rattle.points.specs.Axes.{Axis, axis_length, most_axes, count}
use Rattle.points.specs.OneToOne.{Sound}
use Rattle.text.specs.Text.{fields_of}
use Rattle.line.specs.Line.{name_of}
use Rattle.axis.specs.Axis.{axis_of, axis_line}
use Rattle.axis.specs.declared.AxisLine.{AxisLine}
use Rattle.plan.specs.declared.Plan.{Plan}
use Rattle.plan.specs.declared.BadPlan.{BadPlan}
use Rattle.plan.specs.declared.Cursor.{Cursor}
use Rattle.plan.specs.declared.State.{State}
use Rattle.plan.specs.Reading.{Line, refused_at, unless_refused, read_draw, read_memory, read_axes}
use Rattle.plan.specs.Table.{accepted_plan, summary}
use Rattle.plan.specs.Cursor.{line_at, lines_from, reading_of, axes_read}

-- Before the first line, and with another plan

abbrev pub nothing_read : State
nothing_read =
    record {
      plan = accepted_plan 0 drawing_count 0 1;
      seen = replicate name_count false;
      starts = replicate most_axes 0;
    }

abbrev pub with_plan : State → Plan → State
with_plan s plan = record { plan = plan; seen = s.seen; starts = s.starts }

-- A memory line of these words, a draw line of this drawing, and the end of the text

abbrev pub after_memory : State → ℕ → ℕ → Result State BadPlan
after_memory s words line =
    cond (eqb words 0)
    (refused_at Form line)
    (Ok (with_plan s (accepted_plan words drawing_count 0 1)))

abbrev pub after_draw : State → ℕ → ℕ → Result State BadPlan
after_draw s draw line =
    cond (ltb draw drawing_count)
    (Ok (with_plan s (accepted_plan s.plan.words draw 0 1)))
    (refused_at Form line)

abbrev pub after_end : State → Bool → ℕ → Result State BadPlan
after_end s left line =
    cond (left || eqb s.plan.draw drawing_count) (refused_at Form line) (Ok s)

-- An axis line of these fields: its refusal, or an axis more, whose line starts at a place

abbrev pub held_axis : State → List (List ℕ) → Result AxisLine Refused
held_axis s fields = axis_line (λ name. get_or s.seen name false) s.plan.axes fields

abbrev pub held_after : State → ℕ → ℕ → ℕ → State
held_after s name n at =
    record {
      plan = accepted_plan s.plan.words s.plan.draw (s.plan.axes + 1)
          (s.plan.points * n);
      seen = set s.seen name true;
      starts = set s.starts s.plan.axes at;
    }

abbrev pub after_axis : State → List (List ℕ) → Cursor → Result State BadPlan
after_axis s fields c =
    unless_refused (held_axis s fields) c.line
    (Ok (held_after s (name_of fields) (axis_length (axis_of fields)) c.at))

-- The axes whose lines start at the first of some places
abbrev pub axes_from : List ℕ → List ℕ → ℕ → List Axis
axes_from text starts n = map (λ at. axis_of (fields_of (line_at text at))) (take n starts)

-- These are the axes of a plan
pub record StartsAt (text : List ℕ) (starts : List ℕ) (n : ℕ) : Type 0 where
  pub few : n ≤ most_axes
  pub size : length starts ≡ most_axes
  pub axes-are : axes_read text ≡ axes_from text starts n

-- What is held is that of some axes
pub record HoldsAxes (text : List ℕ) (axes : List Axis) (s : State) : Type 0 where
  pub sound : Sound axes
  pub size : length s.seen ≡ name_count
  pub seen-is : (name : ℕ) → get_or s.seen name false ≡ any (λ (a : Axis). eqb a.name name) axes
  pub axes-is : s.plan.axes ≡ length axes
  pub points-is : s.plan.points ≡ count axes
  pub places : length s.starts ≡ most_axes
  pub starts-are : axes ≡ axes_from text s.starts s.plan.axes

-- Some axis lines are read
pub record AxesRead (text : List ℕ) (s : State) (lines : List Line) : Type 0 where
  pub axes : List Axis
  pub holds : HoldsAxes text axes s
  pub ahead : reading_of text ≡ read_axes s.plan.words s.plan.draw axes lines

-- The lines before a place are read, and another one is wanted there: the memory line, the draw
-- line or an axis line
pub record LinesRead (text : List ℕ) (s : State) (at number : ℕ) : Type 0 where
  pub memory : s.plan.words ≡ 0
      → (s.plan.draw ≡ drawing_count) × (reading_of text ≡ read_memory (lines_from text at number))
  pub draw : (s.plan.words ≡ 0 → ⊥) → s.plan.draw ≡ drawing_count
      → reading_of text ≡ read_draw s.plan.words (lines_from text at number)
  pub none : s.plan.draw ≡ drawing_count → HoldsAxes text [] s
  pub axes : (s.plan.words ≡ 0 → ⊥) → (s.plan.draw ≡ drawing_count → ⊥)
      → AxesRead text s (lines_from text at number)

-- All lines are read: the plan of the text, and where its axis lines start
pub record AllRead (text : List ℕ) (s : State) : Type 0 where
  pub plan-is : Ok s.plan ≡ summary (reading_of text)
  pub starts-at : StartsAt text s.starts s.plan.axes

-- or the first bad line decides
abbrev pub PlanRead : List ℕ → Result State BadPlan → Type 0
PlanRead text (Ok s) = AllRead text s
PlanRead text (Err bad) = reading_of text ≡ Err bad

-- A line is read: another one is wanted behind it, or it is a bad one
abbrev pub LineRead : List ℕ → Cursor → Result State BadPlan → Type 0
LineRead text c (Ok s) = LinesRead text s (c.end + 1) (c.line + 1)
LineRead text c (Err bad) = reading_of text ≡ Err bad
