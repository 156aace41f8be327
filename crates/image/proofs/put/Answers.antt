-- `image::put` stores the four words of a number.
use Rattle.image.proofs.FillLaws.{stored_words-four}
use Rattle.image.proofs.put.Goals as goal

pub returns : goal.returns
returns c =
    stored_words-four c.args.memory.now c.args.at c.args.x c.ranges.x.fits
