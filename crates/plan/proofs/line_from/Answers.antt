-- `line_from` meets its contract: the lines that the loop passes are skipped ones. Assumes nothing.
use mathlib.Core.Path.{sym, ◌∙◌}
use Rattle.plan.proofs.CursorLaws.{reached-next}
use Rattle.plan.proofs.line_from.Goals as goal

pub loop-at-preserved : goal.loop-at-preserved
loop-at-preserved c =
    (reached-next c.loop-at.invariant (sym c.is_skipped.ensures ∙ c.loop-at-test.true) c.part_end-end-in-loop-at.ensures).1
