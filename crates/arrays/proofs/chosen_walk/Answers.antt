-- `chosen_walk` meets its contract. Assumes nothing.
use mathlib.Core.Path.{sym, ◌∙◌}
use borrow.Author.Rules.{rules}
use Rattle.memory.proofs.Tests.{or-false-left, or-false-right}
use Rattle.arrays.proofs.ArrayLaws.{chosen_walk-straight}
use Rattle.arrays.proofs.chosen_walk.Goals as goal

pub returns : goal.returns
returns c =
    let h = c.right_to_left-right.result in
    let v = c.bottom_to_top-bottom.result in
    sym
    (chosen_walk-straight _ _ _ _
    (sym c.right_to_left-right.ensures ∙ or-false-left h v c.if-right-bottom.false)
    (sym c.bottom_to_top-bottom.ensures ∙ or-false-right h v c.if-right-bottom.false)
    (search rules))
