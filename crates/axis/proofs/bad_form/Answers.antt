-- `axis::bad_form` meets its contract: too few fields, or the tests of each.
use mathlib.Core.Path.{refl, sym, ap, ◌∙◌}
use mathlib.Core.Bool.{not}
use mathlib.Core.List.{List, []}
use Prim.Native.Nat.{ℕ}
use Rattle.text.specs.Text.{fields_of, same}
use Rattle.line.specs.Words.{axis_word}
use Rattle.tabs.proofs.FieldsLaws.{fields_from-past, fields_from-cons, first_field, fields_from-third_at}
use Rattle.axis.proofs.AxisLaws.{bad_form-few, bad_form-is, same-empty}
use Rattle.axis.proofs.bad_form.Goals as goal

pub returns-then-line-third_at : goal.returns-then-line-third_at
returns-then-line-third_at c =
    let line = c.args.line.now in
    let none = rw c.third_at.ensures at (fields_from-past line _ c.if-line-third_at.true) in
    sym (bad_form-few (fields_of line) (sym (fields_from-third_at line) ∙ none))

pub returns : goal.returns
returns c =
    let line = c.args.line.now in
    let third = rw c.third_at.ensures at (fields_from-cons line c.third_at.result _ refl c.if-line-third_at.false) in
    bad_form-is (fields_of line) _ _ (sym (fields_from-third_at line) ∙ third)
    (c.ne-other.ensures ∙ ap (λ (w : List ℕ). not (same c.part.result.now w)) c.as_slice.ensures
    ∙ ap (λ (c : List ℕ). not (same c axis_word)) (c.part.ensures.bytes ∙ first_field line))
    (c.is_empty-empty.ensures ∙ sym (same-empty c.second.result.now) ∙ ap (λ (c : List ℕ). same c []) c.second.ensures.0)
    c.requires
