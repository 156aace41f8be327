-- `text::part_end` meets its contract: past the text's end and at a mark the part is empty, and else it ends at the first mark behind.
use mathlib.Core.Path.{sym, ap, ◌∙◌}
use lib.Dec.{eqb}
use lib.ListN.{take, drop}
use Rattle.std.proofs.Common.{rules, List, ℕ, ◌+◌, ◌-◌, length}
use Rattle.text.specs.Text.{up_to}
use borrow.Author.Tests.{tests}
use Rattle.std.proofs.lemmas.Iterator.{YieldsList-from_slice}
use Rattle.std.proofs.lemmas.Iterator.Search.{position_from_yields_List}
use Rattle.text.proofs.TextLaws.{up_to-here, up_to-next, up_to-position, up_to-end, rest-is}
use Rattle.text.proofs.part_end.Goals as goal

pub returns-then-text-from : goal.returns-then-text-from
returns-then-text-from c =
    sym (up_to-end _ _ _ c.if-text-from.true)

pub returns-then-text-from-2 : goal.returns-then-text-from-2
returns-then-text-from-2 c =
    sym (up_to-here _ c.args.text.now c.args.from c.if-text-from.false c.if-text-from-2.true)

pub returns : goal.returns
returns c =
    let text = c.args.text.now in
    let next : ℕ = c.args.from + 1 in
    let rest : List ℕ = take (length text - next) (drop next text) in
    let road = YieldsList-from_slice rest cc in
    let found = position_from_yields_List (λ x. eqb x c.args.mark) _ _ _ c.position.ensures.ran road (λ x b q k. search (rules, tests)) in
    rw (c.unwrap_or.ensures, found, up_to-position c.args.mark rest)
    (ap (λ (l : List ℕ). next + length (up_to c.args.mark l)) (rest-is text next)
    ∙ sym (up_to-next _ text c.args.from c.if-text-from.false c.if-text-from-2.false))
