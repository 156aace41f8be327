-- `tabs::second` meets its contract.
use mathlib.Core.Path.{◌∙◌}
use Rattle.tabs.proofs.FieldsLaws.{second-field}
use Rattle.tabs.proofs.second.Goals as goal

pub returns : goal.returns
returns c =
    let p = rw c.behind.ensures at c.part.ensures in
    (p.bytes ∙ second-field _, p)
