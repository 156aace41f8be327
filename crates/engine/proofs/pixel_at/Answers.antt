-- `pixel_at` meets its contract: the row and the column of a pixel.
use Rattle.walk.specs.Walk.{address_of}
use Rattle.engine.proofs.pixel_at.Goals as goal

pub returns : goal.returns
unfolding address_of
returns c =
    c.address_at.ensures
