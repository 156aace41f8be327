-- `running::lines` meets its contract: one law for each way out. Assumes nothing.
use mathlib.Core.Path.{◌≡◌, sym, ap, ◌∙◌}
use mathlib.Core.Bool.{Bool}
use mathlib.Core.List.{List}
use Prim.Native.Nat.{ℕ}
use Rattle.points.specs.Table.{points_in}
use Rattle.run.specs.Lines.{ends_past, bad_points}
use Rattle.run.proofs.AnswerLaws.{ends-nine, ends-ten, ends-twenty-four, ends-done}
use Rattle.running.proofs.lines.Goals as goal

-- the test of the points is the definition's
points-is : (axes first k : ℕ) (t : List ℕ) {n : ℕ} {b c : Bool} → n ≡ points_in axes t → b ≡ ends_past n first k → b ≡ c
    → bad_points axes t first k ≡ c
points-is axes first k t e is h = sym (ap (λ (n : ℕ). ends_past n first k) e) ∙ sym is ∙ h

pub returns-then-bad_shape : goal.returns-then-bad_shape
returns-then-bad_shape c =
    let x = c.args in
    let e = ends-nine x.draw x.axes x.table.now x.first x.count x.image.now x.memory.now x.out.now
    (sym c.bad_shape.ensures ∙ c.if-bad_shape.true) in
    record { result_value = e.0; image_after = e.1.0; memory_after = e.1.1.0; out_after = e.1.1.1 }

pub returns-then-no_memory : goal.returns-then-no_memory
returns-then-no_memory c =
    let x = c.args in
    let e = ends-ten x.draw x.axes x.table.now x.first x.count x.image.now x.memory.now x.out.now
    (sym c.bad_shape.ensures ∙ c.if-bad_shape.false) (sym c.no_memory.ensures ∙ c.if-no_memory.true) in
    record { result_value = e.0; image_after = e.1.0; memory_after = e.1.1.0; out_after = e.1.1.1 }

pub returns-then-ends_past : goal.returns-then-ends_past
returns-then-ends_past c =
    let x = c.args in
    let e = ends-twenty-four x.draw x.axes x.table.now x.first x.count x.image.now x.memory.now x.out.now
    (sym c.bad_shape.ensures ∙ c.if-bad_shape.false) (sym c.no_memory.ensures ∙ c.if-no_memory.false)
    (points-is x.axes x.first x.count x.table.now c.points.ensures c.ends_past.ensures c.if-ends_past.true) in
    record { result_value = e.0; image_after = e.1.0; memory_after = e.1.1.0; out_after = e.1.1.1 }

pub returns : goal.returns
returns c =
    let x = c.args in
    let r = c.run_points.ensures in
    let e = ends-done x.draw x.axes x.table.now x.first x.count x.image.now x.memory.now x.out.now
    (sym c.bad_shape.ensures ∙ c.if-bad_shape.false) (sym c.no_memory.ensures ∙ c.if-no_memory.false)
    (points-is x.axes x.first x.count x.table.now c.points.ensures c.ends_past.ensures c.if-ends_past.false)
    r.result_value r.image_after r.memory_after r.out_after in
    record { result_value = e.0; image_after = e.1.0; memory_after = e.1.1.0; out_after = e.1.1.1 }
