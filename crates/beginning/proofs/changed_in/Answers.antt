-- `beginning::changed_in` meets its contract. Assumes nothing.
use mathlib.Core.Path.{◌∙◌}
use Rattle.beginning.proofs.LineLaws.{changed_in-later}
use Rattle.beginning.proofs.changed_in.Goals as goal

pub returns : goal.returns
returns c =
    let line = c.args.line.now in
    c.field_value.ensures ∙ rw (c.part.ensures.bytes, c.later-rest.ensures, c.later.ensures) (changed_in-later line)
