-- `counting::points` meets its contract. Assumes nothing.
use mathlib.Core.Path.{◌≡◌, ap, sym, subst, ◌∙◌}
use mathlib.Core.Bool.{not}
use mathlib.Core.List.{List}
use Prim.Native.Nat.{ℕ, ◌+◌, ◌*◌, ◌-◌, min}
use borrow.Author.Tests.{le-leb}
use lib.ListN.{length, take, drop}
use Rattle.points.specs.Axes.{most_axes}
use Rattle.points.specs.Table.{length_in, size_in, holds_axis}
use Rattle.points.proofs.StepLaws.{part-drop, held, end-held, held_of, not-held-of, counted_stop, counted-end}
use Rattle.points.proofs.StepLaws.{Counted, counted-fits, counted_next}
use Rattle.counting.proofs.points.Goals as goal

-- what a function gives of the part that the code takes, it gives of the rest
of-rest : {A : Type 0} (at : ℕ) (t : List ℕ) (f : List ℕ → A) {r : A}
    → r ≡ f (take (length t - at) (drop at t)) → r ≡ f (drop at t)
of-rest at t f e = e ∙ ap f (part-drop at t)

pub returns-then-not-holds_axis : goal.returns-then-not-holds_axis
returns-then-not-holds_axis c =
    let x = c.args in
    let none = not-held-of _ (of-rest c.loop-i.at x.table.now holds_axis c.holds_axis.ensures) (ap not c.if-not-holds_axis.true) in
    rw (le-leb x.axes most_axes c.if-axes-gt-AXES.false) (counted_stop x.table.now x.axes c.loop-i.invariant c.loop-i-test.true none)

pub overflow_mul-count : goal.overflow_mul-count
overflow_mul-count c =
    let x = c.args in
    let some = held_of _ (of-rest c.loop-i.at x.table.now holds_axis c.holds_axis.ensures) (ap not c.if-not-holds_axis.false) in
    let n = of-rest c.loop-i.at x.table.now length_in c.length-count.ensures in
    record { fits = rw n (counted-fits x.table.now x.axes c.loop-i.invariant c.loop-i-test.true some c.if-axes-gt-AXES.false) }

pub loop-i-preserved : goal.loop-i-preserved
loop-i-preserved c =
    let x = c.args in
    let rest : List ℕ = drop c.loop-i.at x.table.now in
    let some = held_of rest (of-rest c.loop-i.at x.table.now holds_axis c.holds_axis.ensures) (ap not c.if-not-holds_axis.false) in
    let n = of-rest c.loop-i.at x.table.now length_in c.length-count.ensures in
    let e = of-rest c.loop-i.at x.table.now (λ r. min (size_in r) (length r)) c.end-at.ensures ∙ end-held rest (held rest some) in
    let more = counted_next x.table.now x.axes c.loop-i.invariant c.loop-i-test.true some in
    let Turn : ℕ → ℕ → Type 0 = λ n e. Counted x.table.now x.axes (c.loop-i.i + 1) (c.loop-i.count * n) (c.loop-i.at + e) in
    subst (λ (n : ℕ). Turn n c.end-at.result) (sym n) (subst (λ (e : ℕ). Turn (length_in rest) e) (sym e) more)

pub returns : goal.returns
returns c =
    let x = c.args in
    rw (le-leb x.axes most_axes c.if-axes-gt-AXES.false) (counted-end x.table.now x.axes c.loop-i.invariant c.loop-i-test.false)
