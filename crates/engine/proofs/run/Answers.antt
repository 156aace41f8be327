-- `run` meets its contract: no pixel is left or the budget is 0, or `visit_range` visits the pixels.
use Rattle.std.proofs.Common.{◌≡◌, ℕ, ◌-◌, min, sym, ap, ◌∙◌}
use Rattle.plot.specs.Drawing.{pixels}
use Rattle.engine.specs.Engine.{visits, visited_from}
use Rattle.engine.proofs.VisitsLaws.{visits-none}
use Rattle.engine.proofs.run.Goals as goal

-- the pixels left
left_is-3 : (c : goal.Then-count-eq0) → c.left_from-left.result ≡ pixels c.args.d - c.args.place
left_is-3 c =
    c.left_from-left.ensures ∙ ap (λ (n : ℕ). n - c.args.place) c.pixels.ensures

-- how many of them are visited
counted-3 : (c : goal.Then-count-eq0) → (let a = c.args in c.least-count.result ≡ visited_from a.d a.place a.budget)
counted-3 c =
    c.least-count.ensures ∙ ap (min c.args.budget) (left_is-3 c)

pub returns-then-count-eq0 : goal.returns-then-count-eq0
returns-then-count-eq0 c =
    let a = c.args in
    let e : 0 ≡ visited_from a.d a.place a.budget = sym c.if-count-eq0.true ∙ counted-3 c in
    (e, sym (visits-none a.d a.place a.memory.now) ∙ ap (λ (j : ℕ). visits a.d a.place j a.memory.now) e)
