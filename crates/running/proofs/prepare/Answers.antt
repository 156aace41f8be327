-- `running::prepare` meets its contract. Assumes nothing.
use mathlib.Core.Path.{◌∙◌}
use Rattle.image.specs.Image.{imaged}
use Rattle.running.proofs.prepare.Goals as goal

pub returns : goal.returns
unfolding imaged
returns c =
    c.fill_image.ensures.1 ∙ rw c.requires.0
