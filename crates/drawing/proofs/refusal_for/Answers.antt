-- `refusal_for` meets its contract. Assumes nothing.
use mathlib.Core.Path.{ap, ◌∙◌}
use mathlib.Core.Bool.{false}
use Rattle.drawing.specs.declared.Outcome.{Outcome}
use Rattle.drawing.proofs.OutcomeLaws.{refusal-of-large, refusal-of-small}
use Rattle.drawing.proofs.refusal_for.Goals as goal

pub returns-then-o-gt1 : goal.returns-then-o-gt1
returns-then-o-gt1 c =
    let x = c.args in
    let is = ap (λ (o : Outcome). o.answer) c.outcome_for-o.ensures in
    is ∙ refusal-of-large x.op x.s x.place false 0 x.words (rw is at c.if-o-gt1.true)

pub returns-else-o-gt1 : goal.returns-else-o-gt1
returns-else-o-gt1 c =
    let x = c.args in
    let is = ap (λ (o : Outcome). o.answer) c.outcome_for-o.ensures in
    refusal-of-small x.op x.s x.place false 0 x.words (rw is at c.if-o-gt1.false)
