-- `columns::column` meets its contract: a number, or a coordinate with its sign. Assumes nothing.
use Rattle.columns.proofs.TextLaws.{placed-negative, placed-positive}
use Rattle.columns.proofs.column.Goals as goal

pub returns-then-n-lt-ZERO : goal.returns-then-n-lt-ZERO
returns-then-n-lt-ZERO c =
    let x = c.args in
    let next = c.bytes-next.ensures in
    let n = c.number-then-n-lt-ZERO.ensures in
    let p = placed-negative x.at x.n x.end x.out.now
    (rw c.if-not-coordinate.false at c.requires) _ _ c.if-n-lt-ZERO.true _ _ (next.value, next.out_after) (n.value, n.out_after) in
    rw c.if-not-coordinate.false record { value = p.0; out_after = p.1 }

pub returns : goal.returns
returns c =
    let x = c.args in
    let n = c.number-2.ensures in
    let p = placed-positive x.at x.n x.end x.out.now
    (rw c.if-not-coordinate.false at c.requires) _ _ c.if-n-lt-ZERO.false (n.value, n.out_after) in
    rw c.if-not-coordinate.false record { value = p.0; out_after = p.1 }
