-- `text::parse` meets its contract: no field, a leading zero, digits.
use mathlib.Core.Path.{sym, ◌∙◌}
use Rattle.std.proofs.Common.{rules}
use Rattle.text.proofs.NumberLaws.{number_of-empty, number_of-led, number_of-digits}
use Rattle.text.proofs.parse.Goals as goal

pub returns-then-is_empty : goal.returns-then-is_empty
returns-then-is_empty c =
    sym (number_of-empty _ (search rules))

pub returns-then-field : goal.returns-then-field
returns-then-field c =
    sym (number_of-led _ c.if-field.true)

pub returns : goal.returns
returns c =
    c.digits.ensures ∙ sym (number_of-digits _ (search rules) c.if-field.false)
