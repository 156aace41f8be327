-- `is_skipped` meets its contract: no ended line, an empty one, or its first byte. Assumes nothing.
use Rattle.plan.proofs.CursorLaws.{skipped_at-first}
use Rattle.plan.proofs.is_skipped.Goals as goal

pub returns : goal.returns
returns c =
    skipped_at-first _ _ _ c.requires.1 c.if-text-end.false c.if-at-end.false
