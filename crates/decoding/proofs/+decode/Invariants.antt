-- `decoding::decode` falls by the number of axes left. Assumes nothing.
use Rattle.decoding.proofs.+decode.Given as goal

abbrev pub decreases-decode : goal.decreases-decode
decreases-decode l = l.axes
