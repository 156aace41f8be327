-- `axis::axis_of` meets its contract: the lowest number that applies, or the name and how many values the first block has.
use mathlib.Core.Path.{sym, ◌∙◌}
use Rattle.tabs.proofs.FieldsLaws.{fields_from-third_at}
use Rattle.axis.proofs.AxisLaws.{form-refused, name-refused, value-refused, count-refused, line-taken}
use Rattle.values.proofs.BlockLaws.{held_of}
use Rattle.axis.proofs.ValuesLaws.{bad_from-third_at, too_many-third_at, count-third_at}
use Rattle.axis.proofs.axis_of.Goals as goal

pub bad_form-requires : goal.bad_form-requires
bad_form-requires c =
    rw (c.any_no_number.ensures, ← fields_from-third_at c.args.line.now, ← c.third_at-values.ensures)
    (sym (held_of c.block_at-b.ensures).told)

pub returns-then-bad_form : goal.returns-then-bad_form
returns-then-bad_form c =
    form-refused _ _ _ (sym c.bad_form.ensures ∙ c.if-bad_form.true)

pub returns-then-bad_name : goal.returns-then-bad_name
returns-then-bad_name c =
    name-refused _ _ _ (sym c.bad_form.ensures ∙ c.if-bad_form.false)
    (rw (← c.name_of-name.ensures, ← c.came.ensures) (sym c.bad_name.ensures) ∙ c.if-bad_name.true)

pub returns-then-bad_values : goal.returns-then-bad_values
returns-then-bad_values c =
    value-refused _ _ _ (sym c.bad_form.ensures ∙ c.if-bad_form.false)
    (rw (← c.name_of-name.ensures, ← c.came.ensures) (sym c.bad_name.ensures) ∙ c.if-bad_name.false)
    (sym (bad_from-third_at c.args.line.now _ _ _ c.third_at-values.ensures c.name_of-name.ensures c.greatest-most.ensures)
    ∙ sym c.bad_values.ensures ∙ c.if-bad_values.true)

pub returns-then-too_many : goal.returns-then-too_many
returns-then-too_many c =
    count-refused _ _ _ (sym c.bad_form.ensures ∙ c.if-bad_form.false)
    (rw (← c.name_of-name.ensures, ← c.came.ensures) (sym c.bad_name.ensures) ∙ c.if-bad_name.false)
    (sym (bad_from-third_at c.args.line.now _ _ _ c.third_at-values.ensures c.name_of-name.ensures c.greatest-most.ensures)
    ∙ sym c.bad_values.ensures ∙ c.if-bad_values.false)
    (too_many-third_at (held_of c.block_at-b.ensures) c.args.axes c.third_at-values.ensures ∙ sym c.too_many.ensures ∙ c.if-too_many.true)

pub returns : goal.returns
returns c =
    line-taken _ _ _ (sym c.bad_form.ensures ∙ c.if-bad_form.false)
    (rw (← c.name_of-name.ensures, ← c.came.ensures) (sym c.bad_name.ensures) ∙ c.if-bad_name.false)
    (sym (bad_from-third_at c.args.line.now _ _ _ c.third_at-values.ensures c.name_of-name.ensures c.greatest-most.ensures)
    ∙ sym c.bad_values.ensures ∙ c.if-bad_values.false)
    (too_many-third_at (held_of c.block_at-b.ensures) c.args.axes c.third_at-values.ensures ∙ sym c.too_many.ensures ∙ c.if-too_many.false)
    c.name_of-name.ensures (count-third_at (held_of c.block_at-b.ensures) c.third_at-values.ensures)
