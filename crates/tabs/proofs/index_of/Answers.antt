-- `tabs::index_of` meets its contract: the number of the first field that is the word, or how many fields there are.
use mathlib.Core.Path.{sym, ap, ◌∙◌}
use Rattle.std.proofs.Common.{rules, tests, length, nat_eq}
use Rattle.std.proofs.lemmas.Iterator.Search.{position_from_yields_List}
use Rattle.std.proofs.lemmas.Iterator.Splits.{YieldsList-from_slice_split}
use Rattle.lists.specs.Search.{first}
use Rattle.text.specs.Text.{same}
use Rattle.text.proofs.TextLaws.{parts-split}
use Rattle.tabs.proofs.FieldsLaws.{first-some, first-none, fields_from-zero}
use Rattle.tabs.proofs.index_of.Goals as goal

pub returns-in-Some : goal.returns-in-Some
returns-in-Some c =
    let wanted = same c.args.word.now in
    let k = c.split.ensures in
    first-some wanted _ _
    (sym (position_from_yields_List wanted _ _ _ c.position.ensures.ran
    (YieldsList-from_slice_split _ (λ x. nat_eq x 9) c.args.list.now k.rest k.done k.closure (λ x b q t. search (rules, tests)))
    (λ x b q t. search (rules, tests)))
    ∙ c.in-Some.is)
    ∙ ap (first wanted) (parts-split 9 c.args.list.now)

pub returns-in-None : goal.returns-in-None
returns-in-None c =
    let wanted = same c.args.word.now in
    let k = c.split.ensures in
    c.count.ensures ∙ ap length (fields_from-zero c.args.list.now ∙ sym (parts-split 9 c.args.list.now))
    ∙ first-none wanted _
    (sym (position_from_yields_List wanted _ _ _ c.position.ensures.ran
    (YieldsList-from_slice_split _ (λ x. nat_eq x 9) c.args.list.now k.rest k.done k.closure (λ x b q t. search (rules, tests)))
    (λ x b q t. search (rules, tests)))
    ∙ c.in-None.is)
    ∙ ap (first wanted) (parts-split 9 c.args.list.now)
