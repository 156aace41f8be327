-- `lines` meets its contract. Assumes nothing.
use mathlib.Core.Path.{sym, ◌∙◌}
use borrow.Author.Tests.{le-ltb}
use Rattle.c_plan.proofs.LinesLaws.{ends-nine, ends-run}
use Rattle.c_plan.proofs.lines.Goals as goal

pub returns-then-answer-eq-BAD_CALL : goal.returns-then-answer-eq-BAD_CALL
returns-then-answer-eq-BAD_CALL c =
    let p = c.lines-listed.ensures in
    ends-nine _ _ _ _ _ _ _ _ _ (le-ltb _ _ c.if-bytes-lt1.false)
    (p.result_value, (p.image_after, (p.memory_after, p.out_after))) (sym c.answer-answer.ensures ∙ c.if-answer-eq-BAD_CALL.true)

pub returns : goal.returns
returns c =
    let p = c.lines-listed.ensures in
    rw (c.answer-answer.ensures, c.unwrap_or.ensures)
    (ends-run _ _ _ _ _ _ _ _ _ (le-ltb _ _ c.if-bytes-lt1.false)
    (p.result_value, (p.image_after, (p.memory_after, p.out_after))) (λ e. c.if-answer-eq-BAD_CALL.false (c.answer-answer.ensures ∙ e)))
