-- `lowest` meets its contract. Assumes nothing.
use Rattle.refusal.specs.Refusal.{lowest}
use Rattle.refusal.proofs.lowest.Goals as goal

pub returns : goal.returns
unfolding lowest
returns c =
    rw (c.refusal_table.ensures, c.bad_control-control.ensures, c.bad_pixel_size-size.ensures, c.no_memory-memory.ensures)
