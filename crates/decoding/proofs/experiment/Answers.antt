-- `decoding::experiment` meets its contract. Assumes nothing.
use Rattle.points.proofs.AnswerLaws.{answer-done}
use Rattle.decoding.proofs.experiment.Goals as goal

pub returns : goal.returns
returns c =
    let a = c.args in
    let h = rw c.points-count.ensures at c.if-number-count.false in
    let done = answer-done a.axes a.number a.table.now a.out.now c.if-out-lt-COUNT.false h in
    (done.0, rw (c.decode.ensures, c.set_defaults.ensures) done.1)
