-- `image::fill` fills the memory with the image: of each draw of the lent generator four words.
use Rattle.std.proofs.Common.{◌-◌, length}
use Rattle.image.proofs.FillLaws.{Filled}
use Rattle.image.proofs.fill.Given as goal

abbrev pub invariant-loop-at : goal.invariant-loop-at
invariant-loop-at l = Filled (length l.initial.memory) l.seed l.at l.g.state l.memory

abbrev pub decreases-loop-at : goal.decreases-loop-at
decreases-loop-at l = length l.initial.memory - l.at
