-- `any_pair` meets its contract. Assumes nothing.
use Rattle.std.proofs.Common.{rules, tests}
use Rattle.lists.proofs.FoundLaws.{is_any, no_pair, pair_found, pair_later}
use Rattle.lists.proofs.any_pair.Goals as goal

pub returns-then-any : goal.returns-then-any
returns-then-any g c =
    λ r k. pair_found r _ _ (c.loop-x.invariant r k) _ c.in-Some.others.now c.in-Some.ensures.cases.0 _
    (is_any (r c.in-Some.x.now) c.in-Some.others.now _ _ _ _ c.any.ensures.ran (cc) (λ x b q h. search (rules, tests, k)))
    c.if-any.true

pub loop-x-preserved : goal.loop-x-preserved
loop-x-preserved g c =
    λ r k. pair_later r _ _ (c.loop-x.invariant r k) _ c.in-Some.others.now c.in-Some.ensures.cases.0 _
    (is_any (r c.in-Some.x.now) c.in-Some.others.now _ _ _ _ c.any.ensures.ran (cc) (λ x b q h. search (rules, tests, k)))
    c.if-any.false

pub returns : goal.returns
returns g c =
    λ r k. no_pair r _ _ (c.loop-x.invariant r k) (search rules)
