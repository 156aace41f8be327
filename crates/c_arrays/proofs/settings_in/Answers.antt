-- `settings_in` meets its contract. Assumes nothing.
use Rattle.std.proofs.Common.{rules}
use Rattle.settings.specs.Settings.{settings_of}
use Rattle.c_arrays.proofs.settings_in.Goals as goal

pub returns : goal.returns
unfolding settings_of
returns c =
    rw c.settings_of.ensures (search rules)
