-- `fill_states` meets its contract. Assumes nothing.
use Rattle.fill_timing.specs.FillTiming.{fill_states}
use Rattle.fill_timing.proofs.fill_states.Goals as goal

pub returns : goal.returns
unfolding fill_states
returns c =
    rw (c.fill_time-time.ensures, c.outcome_for-o.ensures)
