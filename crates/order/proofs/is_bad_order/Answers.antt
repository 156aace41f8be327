-- `is_bad_order` meets its contract. Assumes nothing.
use Rattle.std.proofs.Common.{◌||◌, rules, tests, eqb, leb}
use Rattle.segments.specs.Segments.{segment_count}
use Rattle.lists.proofs.FoundLaws.{is_any}
use Rattle.order.proofs.is_bad_order.Goals as goal

pub returns : goal.returns
returns c =
    λ i. is_any (λ k. leb segment_count k) c.args.order _ _ _ _ c.any-beyond.ensures.ran (cc) (λ x b q h. search (rules, tests)) i
    || c.any_pair-twice.ensures eqb (λ x y b h. search (rules, tests)) i
