-- `values::is_among` meets its contract: the tests of all the numbers, joined.
use mathlib.Core.Path.{◌∙◌}
use mathlib.Core.Bool.{◌||◌, false}
use lib.Dec.{eqb}
use Rattle.std.proofs.Common.{rules, tests}
use Rattle.std.proofs.lemmas.Iterator.{YieldsList-from_slice}
use Rattle.std.proofs.lemmas.Iterator.Consumers.{fold_from_yields_List}
use Rattle.values.proofs.BlockLaws.{any-folded}
use Rattle.values.proofs.is_among.Goals as goal

pub returns : goal.returns
returns c =
    fold_from_yields_List _ (λ found x. found || eqb c.args.v x) _ _ c.fold.ensures.ran (YieldsList-from_slice c.args.held.now cc)
    (λ a x b q k. search (rules, tests))
    ∙ any-folded (eqb c.args.v) false c.args.held.now
