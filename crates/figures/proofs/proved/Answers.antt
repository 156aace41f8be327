-- `proved` meets its contract: the one value of each record.
use Rattle.figures.proofs.Figures.{figures}
use Rattle.figures.proofs.TimingFigures.{timing-figures}
use Rattle.figures.proofs.proved.Goals as goal

pub returns : goal.returns
returns c =
    (figures, timing-figures)
