-- `line::memory_of` meets its contract.
use mathlib.Core.Path.{◌≡◌, sym, ◌∙◌}
use mathlib.Core.Bool.{true, false}
use Rattle.text.specs.Text.{fields_of}
use Rattle.line.specs.Words.{memory_word}
use Rattle.line.specs.Tests.{is_pair}
use Rattle.line.proofs.LineLaws.{memory_of-is_pair}
use Rattle.line.proofs.memory_of.Goals as goal

pub returns-then-not-is_pair : goal.returns-then-not-is_pair
returns-then-not-is_pair c =
    let line = c.args.line.now in
    let e : is_pair memory_word (fields_of line) ≡ false = sym c.is_pair.ensures ∙ c.if-not-is_pair.true in
    sym (memory_of-is_pair (fields_of line) ∙ rw e)

pub returns : goal.returns
returns c =
    let line = c.args.line.now in
    let e : is_pair memory_word (fields_of line) ≡ true = sym c.is_pair.ensures ∙ c.if-not-is_pair.false in
    c.size_of.ensures ∙ rw (c.field_value.ensures, c.second.ensures.0) (sym (memory_of-is_pair (fields_of line) ∙ rw e))
