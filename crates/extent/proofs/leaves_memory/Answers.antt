-- `leaves_memory` meets its contract: of no pixels it is false.
use mathlib.Core.Path.{sym}
use Rattle.extent.proofs.ExtentLaws.{leaves_memory-of-none}
use Rattle.extent.proofs.leaves_memory.Goals as goal

pub returns-then-cols-rows : goal.returns-then-cols-rows
returns-then-cols-rows c =
    sym (leaves_memory-of-none _ _ _ _ c.if-cols-rows.true)
