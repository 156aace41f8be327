-- `beginning::could_be` meets its contract. Assumes nothing.
use mathlib.Core.Path.{refl, sym, ◌∙◌}
use lib.ListN.{replicate}
use Rattle.decoding.proofs.RefusedLaws.{answer-refused, answer-done}
use Rattle.beginning.proofs.BeginningLaws.{could-unasked, could-refused, could-done}
use Rattle.beginning.proofs.could_be.Goals as goal

pub returns-then-no_memory-draw : goal.returns-then-no_memory-draw
returns-then-no_memory-draw c =
    let x = c.args in
    could-unasked x.words x.draw x.axes x.point x.table.now x.line.now
    (rw c.no_memory.ensures at c.if-no_memory-draw.true)

pub returns-then-is_err : goal.returns-then-is_err
returns-then-is_err c =
    let x = c.args in
    could-refused x.words x.draw x.axes x.point x.table.now x.line.now (replicate 14 0) refl
    (rw c.no_memory.ensures at c.if-no_memory-draw.false)
    (rw c.experiment.ensures.0 at (answer-refused c.experiment.result (sym c.is_err.ensures.value ∙ c.if-is_err.true)))

pub returns : goal.returns
returns c =
    let x = c.args in
    could-done x.words x.draw x.axes x.point x.table.now x.line.now (replicate 14 0) refl
    (rw c.no_memory.ensures at c.if-no_memory-draw.false)
    (rw c.experiment.ensures.0 at (answer-done c.experiment.result (sym c.is_err.ensures.value ∙ c.if-is_err.false)))
    c.experiment.ensures.1 c.like.ensures
