-- `holds_some` meets its contract. Assumes nothing.
use Rattle.std.proofs.Common.{rules, tests}
use Rattle.lists.proofs.FoundLaws.{is_any}
use Rattle.segments.proofs.Segment.holds_some.Goals as goal

pub returns : goal.returns
returns c =
    is_any (λ flag. flag) c.args.self.present _ _ _ _ c.any.ensures.ran (cc) (λ x b q k. search (rules, tests))
