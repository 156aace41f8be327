-- `store_state` meets its contract. Assumes nothing.
use Rattle.std.proofs.Common.{rules}
use Rattle.c_state.specs.State.{numbers_of}
use Rattle.c_state.proofs.store_state.Goals as goal

pub returns : goal.returns
unfolding numbers_of
returns c =
    rw (
      c.store_numbers.ensures,
      c.flags_number-4.ensures,
      c.flags_number-3.ensures,
      c.flags_number-2.ensures,
      c.flags_number.ensures,
    )
    (search rules)
