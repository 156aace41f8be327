-- `tabs::third_at` meets its contract.
use native.Mathlib.Omega.{arith}
use Rattle.text.proofs.TextLaws.{up_to-le}
use Rattle.tabs.specs.Fields.{behind}
use Rattle.tabs.proofs.third_at.Goals as goal

pub behind-requires-2 : goal.behind-requires-2
unfolding behind
behind-requires-2 c =
    omega (arith, up_to-le 9 c.args.line.now)
