-- `image::fill` fills the memory with the image: of each draw of the lent generator four words.
use Rattle.std.proofs.Common.{arith}
use Rattle.image.proofs.FillLaws.{start, turn, finish}
use Rattle.image.proofs.fill.Goals as goal

pub loop-at-init : goal.loop-at-init
loop-at-init c = start c.args.memory.now c.args.seed (omega arith)

pub loop-at-preserved : goal.loop-at-preserved
loop-at-preserved c = rw (c.put.ensures, c.draw-x.ensures.0, c.draw-x.ensures.1) (turn c.loop-at.invariant (omega arith))

pub returns : goal.returns
returns c = finish c.loop-at.invariant (omega arith)
