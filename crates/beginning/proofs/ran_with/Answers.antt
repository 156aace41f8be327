-- `beginning::ran_with` meets its contract. Assumes nothing.
use Rattle.beginning.proofs.BeginningLaws.{ran_dry}
use Rattle.beginning.proofs.ran_with.Goals as goal

pub returns : goal.returns
returns c =
    let x = c.args in
    ran_dry x.words x.draw x.changed x.values.now c.settings_of-s.ensures c.operation_of-op.ensures
    c.outcome_for-o.ensures c.fill_time-time.ensures
