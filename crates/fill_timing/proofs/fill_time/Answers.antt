-- `fill_time` meets its contract. Assumes nothing.
use mathlib.Core.Path.{◌≡◌, sym, ap, ◌∙◌}
use Rattle.operation.specs.Operation.{source_of, copies}
use Rattle.fill_timing.specs.FillTiming.{no_time, fill_time}
use Rattle.fill_timing.proofs.fill_time.Goals as goal

copies-is : (c : goal.After-time_of) → c.copies-copy.result ≡ copies (source_of c.args.op)
copies-is c =
    c.copies-copy.ensures ∙ ap copies c.source_of.ensures

default-is : (c : goal.After-default) → c.default.result ≡ no_time
default-is c =
    let d = c.default.ensures in
    λ j. record { setup = d.0 j; transfer = d.1.0 j; adjustment = d.1.1.0 j; states = d.1.1.1 j }

pub returns-then-copy-visited : goal.returns-then-copy-visited
unfolding fill_time
returns-then-copy-visited c =
    let e = c.copies-copy.ensures ∙ ap copies c.source_of.ensures in
    rw (sym e, c.if-copy-visited.true) (default-is c)

pub returns : goal.returns
unfolding fill_time
returns c =
    rw (sym (copies-is c), c.if-copy-visited.false) (c.time_of.ensures ∙ rw c.fill_of.ensures)
