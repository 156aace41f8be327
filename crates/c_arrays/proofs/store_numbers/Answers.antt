-- `store_numbers` meets its contract. Assumes nothing.
use Rattle.std.proofs.Common.{arith}
use Rattle.c_arrays.proofs.StoreLaws.{sets_front}
use Rattle.c_arrays.proofs.store_numbers.Goals as goal

pub returns : goal.returns
returns g c =
    grind (arith, sets_front)
