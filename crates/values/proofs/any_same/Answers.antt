-- `values::any_same` meets its contract: the first number left stands behind it too, or it is passed.
use mathlib.Core.Path.{sym, ◌∙◌}
use Rattle.values.proofs.BlockLaws.{any_pair-first, any_pair-none}
use Rattle.values.proofs.any_same.Goals as goal

pub returns-then-is_among : goal.returns-then-is_among
returns-then-is_among c =
    sym (c.loop-v.invariant ∙ any_pair-first _ _ _ c.in-Some.ensures.cases.0 ∙ rw (sym c.is_among.ensures ∙ c.if-is_among.true))

pub loop-v-preserved : goal.loop-v-preserved
loop-v-preserved c =
    c.loop-v.invariant ∙ any_pair-first _ _ _ c.in-Some.ensures.cases.0 ∙ rw (sym c.is_among.ensures ∙ c.if-is_among.false)

pub returns : goal.returns
returns c =
    sym (c.loop-v.invariant ∙ any_pair-none _ c.in_default.ensures.cases)
