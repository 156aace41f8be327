-- `fill_tables::time_of` meets its contract. Assumes nothing.
use native.Mathlib.Omega.{arith}
use Rattle.fill_tables.specs.Time.{time_of}
use Rattle.fill_tables.proofs.TimeLaws.{adjustment-le}
use Rattle.fill_tables.proofs.time_of.Goals as goal

pub overflow_sub-result : goal.overflow_sub-result
overflow_sub-result c =
    omega (arith, c.transfer_time-transfer.ensures.0, c.adjustment_of-adjustment.ensures, adjustment-le c.args.f)

pub returns : goal.returns
unfolding time_of
returns c =
    rw (c.setup_time-setup.ensures, c.transfer_time-transfer.ensures.0, c.adjustment_of-adjustment.ensures)
