-- `columns::columns_of` meets its contract: SEED is the last of the values, or 0 where it is not there. Assumes nothing.
use mathlib.Core.Path.{◌≡◌}
use native.Mathlib.Omega.{arith}
use lib.ListN.{get_or}
use Rattle.std.proofs.lemmas.Grind.{common_steps}
use Rattle.std.proofs.lemmas.Option.{gets}
use Rattle.names.specs.Names.{seed_at}
use Rattle.columns.proofs.ColumnsLaws.{held_line-is}
use Rattle.columns.proofs.columns_of.Goals as goal

pub returns : goal.returns
returns c =
    let seed : c.unwrap_or-seed.result ≡ get_or c.args.values.now seed_at 0 = grind (arith, common_steps, gets) in
    held_line-is c.args.point c.args.values.now _ _ _ c.in_order.ensures c.settings_of-s.ensures seed
