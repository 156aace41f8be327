-- `is_bad_state` meets its contract. Assumes nothing.
use mathlib.Core.Bool.{◌||◌}
use Rattle.cache.specs.Cache.{bad_state}
use Rattle.cache.proofs.Cache.is_bad_state.Goals as goal

pub returns : goal.returns
unfolding bad_state
returns c =
    λ i. c.is_bad_order.ensures i || c.any_too_high.ensures i || c.any_clash.ensures i
