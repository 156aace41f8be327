-- `used` meets its contract, by the place at which the segment stands. Assumes nothing.
use Rattle.std.proofs.Common.{rules, tests, ◌∙◌, eqb}
use Rattle.lists.proofs.FoundLaws.{is_first}
use Rattle.order.proofs.OrderLaws.{latest-moved, latest-missing, latest-last, moved-four}
use Rattle.order.proofs.used.Goals as goal

pub returns-in-Some-eq0 : goal.returns-in-Some-eq0
returns-in-Some-eq0 c =
    (moved-four c.args.order (search rules)).0
    ∙ latest-moved c.args.k c.args.order _
    (is_first (λ x. eqb x c.args.k) c.args.order _ _ _ _ c.position.ensures.ran (cc) (λ x b q h. search (rules, tests)))
    _ 0 c.in-Some-eq0.is c.in-Some-eq0.field-0-test

pub returns-in-Some-eq1 : goal.returns-in-Some-eq1
returns-in-Some-eq1 c =
    (moved-four c.args.order (search rules)).1
    ∙ latest-moved c.args.k c.args.order _
    (is_first (λ x. eqb x c.args.k) c.args.order _ _ _ _ c.position.ensures.ran (cc) (λ x b q h. search (rules, tests)))
    _ 1 c.in-Some-eq1.is c.in-Some-eq1.field-0-test

pub returns-in-Some-eq2 : goal.returns-in-Some-eq2
returns-in-Some-eq2 c =
    (moved-four c.args.order (search rules)).2
    ∙ latest-moved c.args.k c.args.order _
    (is_first (λ x. eqb x c.args.k) c.args.order _ _ _ _ c.position.ensures.ran (cc) (λ x b q h. search (rules, tests)))
    _ 2 c.in-Some-eq2.is c.in-Some-eq2.field-0-test

pub returns-in_default : goal.returns-in_default
returns-in_default c =
    let not = c.in_default.field-0-test in
    latest-last c.args.k c.args.order _ (search rules)
    (is_first (λ x. eqb x c.args.k) c.args.order _ _ _ _ c.position.ensures.ran (cc) (λ x b q h. search (rules, tests)))
    _ _ c.in_default.is (search rules) not.0.0.1 not.0.1 not.1

pub returns-in_default-2 : goal.returns-in_default-2
returns-in_default-2 c =
    latest-missing c.args.k c.args.order _
    (is_first (λ x. eqb x c.args.k) c.args.order _ _ _ _ c.position.ensures.ran (cc) (λ x b q h. search (rules, tests)))
    c.in_default.is
