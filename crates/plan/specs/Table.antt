-- What `read` hands back, and the lent table after it. Assumes nothing.
use Rattle.std.specs.Prelude.{cond, Result, Ok, Err, is_ok, List, ◌++◌, ℕ, ◌+◌, ◌*◌, ltb, length, drop}
use Rattle.answers.specs.Answer.{refusal_number}
use Rattle.answers.specs.declared.Refused.TheVariants.{Arguments}
use Rattle.points.specs.Axes.{Axis, most_axes, most_values, count}
use Rattle.points.specs.Table.{table_of}
use Rattle.plan.specs.declared.Plan.{Plan}
use Rattle.plan.specs.declared.BadPlan.{BadPlan}
use Rattle.plan.specs.Reading.{Reading, refused_at, reading, plan_in}

-- a table has room for 8 axes of 64 values, each with its name and its length
abbrev pub room : ℕ
room = most_axes * (2 + most_values)

-- how many axes and points there are stands in the place of the axes
abbrev pub accepted_plan : ℕ → ℕ → ℕ → ℕ → Plan
accepted_plan words draw axes points =
    record { words = words; draw = draw; axes = axes; points = points }

abbrev pub summary : Result Reading BadPlan → Result Plan BadPlan
summary (Ok r) = Ok (accepted_plan r.words r.draw (length r.axes) (count r.axes))
summary (Err bad) = Err bad

-- 9 where the table is too short
unfoldable pub plan_of : List ℕ → ℕ → Result Plan BadPlan
plan_of text size = cond (ltb size room) (refused_at Arguments 0) (summary (reading text))

-- what it answers: 0, or the number of the refusal
abbrev pub plan_answer : Result Plan BadPlan → ℕ
plan_answer (Ok p) = 0
plan_answer (Err bad) = refusal_number bad.refused

-- the axes at the table's start, and the rest as it was
abbrev pub stored_axes : List Axis → List ℕ → List ℕ
stored_axes axes t = table_of axes ++ drop (length (table_of axes)) t

-- a refused call leaves the table as lent
unfoldable pub table_after : List ℕ → List ℕ → List ℕ
table_after text t =
    cond (is_ok (plan_of text (length t))) (stored_axes (plan_in text).axes t) t
