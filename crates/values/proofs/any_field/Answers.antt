-- `values::any_field` meets its contract: none past the line's end, and else the pieces of the rest of the line.
use mathlib.Core.Path.{sym, ap, ◌∙◌}
use Rattle.std.proofs.Common.{rules, tests}
use Rattle.std.proofs.lemmas.Iterator.Search.{any_from_yields_List}
use Rattle.std.proofs.lemmas.Iterator.Splits.{YieldsList-from_slice_split}
use Rattle.lists.specs.Search.{any}
use Rattle.tabs.proofs.FieldsLaws.{any-listed, fields_from-past, fields_from-split}
use Rattle.values.proofs.any_field.Goals as goal

pub returns-in_default : goal.returns-in_default
unfolding any
returns-in_default g c p h =
    sym (ap (any p) (fields_from-past _ _ (search rules)))

pub returns : goal.returns
returns g c p h =
    let k = c.split.ensures in
    let i = c.in-Some.ensures.lookup.0 in
    any_from_yields_List p _ _ _ c.any.ensures.ran
    (YieldsList-from_slice_split _ _ c.in-Some.rest.now k.rest k.done k.closure (λ x b q t. search (rules, tests)))
    (λ x b q t. search (rules, tests, h))
    ∙ sym (any-listed p _) ∙ ap (any p) (fields_from-split c.args.line.now c.in-Some.rest.now c.args.from i.0 i.2)
