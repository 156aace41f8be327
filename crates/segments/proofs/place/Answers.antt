-- `place` meets its contract. Assumes nothing.
use Rattle.std.proofs.Common.{rules, tests}
use Rattle.segments.specs.Segments.{matches}
use Rattle.lists.proofs.FoundLaws.{is_first}
use Rattle.segments.proofs.place.Goals as goal

pub returns : goal.returns
returns c =
    is_first (matches c.args.start) c.args.segments _ _ _ _ c.position.ensures.ran (cc) (λ x b q k. search (rules, tests))
