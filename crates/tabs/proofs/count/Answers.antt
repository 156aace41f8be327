-- `tabs::count` meets its contract: none past the line's end, and else the pieces of the rest of the line.
use mathlib.Core.Path.{sym, ap, ◌∙◌}
use Rattle.std.proofs.Common.{rules, tests, length}
use Rattle.std.proofs.lemmas.Iterator.Consumers.{count_from_yields_List}
use Rattle.std.proofs.lemmas.Iterator.Splits.{YieldsList-from_slice_split}
use Rattle.tabs.proofs.FieldsLaws.{fields_from-past, fields_from-split}
use Rattle.tabs.proofs.count.Goals as goal

pub returns-in_default : goal.returns-in_default
returns-in_default c =
    sym (ap length (fields_from-past _ _ (search rules)))

pub returns : goal.returns
returns c =
    let k = c.split.ensures in
    let h = c.in-Some.ensures.lookup.0 in
    count_from_yields_List _ _ c.count.ensures.ran
    (YieldsList-from_slice_split _ _ c.in-Some.rest.now k.rest k.done k.closure (λ x b q t. search (rules, tests)))
    ∙ ap length (fields_from-split c.args.line.now c.in-Some.rest.now c.args.from h.0 h.2)
