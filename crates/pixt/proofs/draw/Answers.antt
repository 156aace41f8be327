-- `draw` meets its contract. Assumes nothing.
use mathlib.Core.Path.{refl, ◌∙◌}
use borrow.Author.Rules.{rules}
use Rattle.engine.proofs.VisitsLaws.{visits-first}
use Rattle.pixt.proofs.draw.Goals as goal

pub returns : goal.returns
returns c =
    c.run.ensures.1 ∙ visits-first _ refl (search rules) _ ∙ rw (c.transparency-t.ensures, c.processing-pp.ensures)
