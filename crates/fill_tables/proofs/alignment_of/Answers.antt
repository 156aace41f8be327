-- `fill_tables::alignment_of` meets its contract. Assumes nothing.
use Rattle.std.proofs.Common.{arith}
use Rattle.std.proofs.lemmas.Grind.{common_steps}
use Rattle.fill_tables.specs.Time.{alignment_of}
use Rattle.fill_tables.proofs.alignment_of.Goals as goal

pub returns-in-true-true : goal.returns-in-true-true
unfolding alignment_of
returns-in-true-true c = grind (arith, common_steps)

pub returns-in-true-false : goal.returns-in-true-false
unfolding alignment_of
returns-in-true-false c = grind (arith, common_steps)

pub returns-in-false-true : goal.returns-in-false-true
unfolding alignment_of
returns-in-false-true c = grind (arith, common_steps)

pub returns-in-false-false : goal.returns-in-false-false
unfolding alignment_of
returns-in-false-false c = grind (arith, common_steps)
