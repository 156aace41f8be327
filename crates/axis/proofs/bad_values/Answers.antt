-- `axis::bad_values` meets its contract: in the block, then behind it. Assumes nothing.
use mathlib.Core.Path.{sym, ◌∙◌}
use Rattle.values.proofs.BlockLaws.{held_of, bad_from-in, bad_from-behind, bad_from-next}
use Rattle.axis.proofs.bad_values.Goals as goal

pub returns-then-b-any_same : goal.returns-then-b-any_same
returns-then-b-any_same c =
    sym (bad_from-in (held_of c.requires) (rw c.any_same.ensures at c.if-b-any_same.true))

pub returns-then-above-any_among : goal.returns-then-above-any_among
returns-then-above-any_among c =
    sym (bad_from-behind (held_of c.requires) (rw c.any_same.ensures at c.if-b-any_same.false)
    (rw (c.any_above-above.ensures, c.any_among.ensures) at c.if-above-any_among.true))

pub returns : goal.returns
returns c =
    c.any_twice.ensures
    ∙ sym (bad_from-next (held_of c.requires) (rw c.any_same.ensures at c.if-b-any_same.false)
    (rw (c.any_above-above.ensures, c.any_among.ensures) at c.if-above-any_among.false))
