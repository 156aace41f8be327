-- `put_lines::line_within` meets its contract. The loop keeps whether the numbers left fit into what is left. Assumes nothing.
use mathlib.Core.Path.{sym, ◌∙◌}
use Rattle.listing.proofs.LoopLaws.{within_step, within-stop, within-done}
use Rattle.put_lines.proofs.line_within.Goals as goal

pub returns-then-left-k : goal.returns-then-left-k
returns-then-left-k c =
    let p = c.places-k in
    sym (c.loop-n.invariant ∙ within-stop _ _ _ p.result c.loop-n-test.true p.ensures c.if-left-k.true)

pub loop-n-preserved : goal.loop-n-preserved
loop-n-preserved c =
    c.loop-n.invariant ∙ within_step _ _ _ _ c.loop-n-test.true c.places-k.ensures c.if-left-k.false

pub returns : goal.returns
returns c =
    sym (c.loop-n.invariant ∙ within-done _ _ _ c.loop-n-test.false)
