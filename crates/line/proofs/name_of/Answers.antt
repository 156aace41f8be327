-- `line::name_of` meets its contract: the names are the fields of the list that it looks in.
use mathlib.Core.Path.{ap, ◌∙◌}
use Rattle.line.specs.Line.{name_of, name_number}
use Rattle.line.proofs.WordsLaws.{name_number-joined}
use Rattle.line.proofs.name_of.Goals as goal

pub returns : goal.returns
unfolding name_of
returns c =
    c.index_of.ensures ∙ name_number-joined _ _ c.list-list.ensures ∙ ap name_number c.second.ensures.0
