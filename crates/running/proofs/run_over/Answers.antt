-- `running::run_over` meets its contract. Assumes nothing.
use mathlib.Core.Path.{◌≡◌}
use native.Mathlib.Omega.{arith}
use lib.ListN.{length}
use Rattle.run.specs.Run.{ran_over}
use Rattle.run.proofs.RunLaws.{counted-bits}
use Rattle.running.proofs.run_over.Goals as goal

pub returns : goal.returns
unfolding ran_over
returns c =
    let image = c.args.image.now in
    let l : length c.draw-o.new.memory ≡ length image = omega arith in
    let n = counted-bits image c.draw-o.new.memory c.requires.1 l in
    let e = c.draw-o.ensures in
    let o = c.copy.ensures in
    (rw (c.fill_time-time.ensures, c.unwrap_or-changed.ensures, c.changed.ensures, n, e.0, e.1, o), rw (e.1, o))
