-- `counting::holds_axis` meets its contract. Assumes nothing.
use Rattle.std.proofs.Common.{ap, not}
use Rattle.points.proofs.StepLaws.{holds_axis-short, not-shaped, shaped-small}
use Rattle.counting.proofs.holds_axis.Goals as goal

pub returns-then-len-lt2 : goal.returns-then-len-lt2
returns-then-len-lt2 c =
    holds_axis-short c.args.table.now c.if-len-lt2.true

pub returns-then-not-name-values : goal.returns-then-not-name-values
returns-then-not-name-values c =
    not-shaped c.args.table.now c.if-len-lt2.false (ap not (rw c.length-values.ensures at c.if-not-name-values.true))

pub returns : goal.returns
returns c =
    let left = ap not (rw c.length-values.ensures at c.if-not-name-values.false) in
    shaped-small c.args.table.now c.if-len-lt2.false left (rw c.length-values.ensures at c.too_large.ensures)
