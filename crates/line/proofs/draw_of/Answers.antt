-- `line::draw_of` meets its contract: the drawings are the fields of the list that it looks in.
use mathlib.Core.Path.{◌≡◌, sym, ap, ◌∙◌}
use mathlib.Core.Bool.{true, false}
use Rattle.text.specs.Text.{fields_of}
use Rattle.line.specs.Line.{drawing_number}
use Rattle.line.specs.Words.{draw_word}
use Rattle.line.specs.Tests.{is_pair}
use Rattle.line.proofs.LineLaws.{draw_of-is_pair}
use Rattle.line.proofs.WordsLaws.{drawing_number-joined}
use Rattle.line.proofs.draw_of.Goals as goal

pub returns-then-not-is_pair : goal.returns-then-not-is_pair
returns-then-not-is_pair c =
    let line = c.args.line.now in
    let e : is_pair draw_word (fields_of line) ≡ false = sym c.is_pair.ensures ∙ c.if-not-is_pair.true in
    sym (draw_of-is_pair (fields_of line) ∙ rw e)

pub returns : goal.returns
returns c =
    let line = c.args.line.now in
    let e : is_pair draw_word (fields_of line) ≡ true = sym c.is_pair.ensures ∙ c.if-not-is_pair.false in
    let found = c.index_of.ensures ∙ drawing_number-joined _ _ c.drawings-list.ensures ∙ ap drawing_number c.second.ensures.0 in
    found ∙ sym (draw_of-is_pair (fields_of line) ∙ rw e)
