-- `proved` meets its contract: the one value of the record.
use Rattle.theorems.proofs.Theorems.{theorems}
use Rattle.theorems.proofs.proved.Goals as goal

pub returns : goal.returns
returns c = theorems
