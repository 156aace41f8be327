-- `tabs::behind` meets its contract.
use native.Mathlib.Omega.{arith}
use lib.ListN.{length-drop, drop}
use Rattle.text.proofs.TextLaws.{up_to-le}
use Rattle.tabs.specs.Fields.{behind}
use Rattle.tabs.proofs.behind.Goals as goal

pub overflow_add-result : goal.overflow_add-result
overflow_add-result c =
    let a = c.args in
    omega (arith, up_to-le 9 (drop a.p a.line.now), length-drop a.p a.line.now)

pub returns : goal.returns
unfolding behind
returns c =
    rw c.part_end.ensures
