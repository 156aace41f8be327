-- `adjust_of` meets its contract. Assumes nothing.
use Rattle.std.proofs.Common.{arith}
use Rattle.std.proofs.lemmas.Grind.{common_steps}
use Rattle.fill_timing.specs.FillTiming.{adjust_of}
use Rattle.fill_timing.proofs.adjust_of.Goals as goal

pub returns-then-w-eq0 : goal.returns-then-w-eq0
unfolding adjust_of
returns-then-w-eq0 c = grind (arith, common_steps)

pub returns-in-true-true : goal.returns-in-true-true
unfolding adjust_of
returns-in-true-true c = grind (arith, common_steps)

pub returns-in-true-false : goal.returns-in-true-false
unfolding adjust_of
returns-in-true-false c = grind (arith, common_steps)

pub returns-in-false-true : goal.returns-in-false-true
unfolding adjust_of
returns-in-false-true c = grind (arith, common_steps)

pub returns-in-false-false : goal.returns-in-false-false
unfolding adjust_of
returns-in-false-false c = grind (arith, common_steps)
