-- `any_too_high` meets its contract. Assumes nothing.
use Rattle.std.proofs.Common.{rules, tests}
use Rattle.segments.specs.Segments.{too_high}
use Rattle.lists.proofs.FoundLaws.{is_any}
use Rattle.segments.proofs.any_too_high.Goals as goal

pub returns : goal.returns
returns c =
    is_any too_high c.args.segments _ _ _ _ c.any.ensures.ran (cc) (λ x b q k. search (rules, tests))
