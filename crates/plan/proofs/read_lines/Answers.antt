-- `read_lines` meets its contract: the lines before the reader's place are read, and another one is wanted. Assumes nothing.
use mathlib.Core.Path.{ap}
use native.Mathlib.Omega.{arith}
use Rattle.plan.proofs.TurnLaws.{reads_none, here, read-here, after-end}
use Rattle.plan.proofs.read_lines.Goals as goal

pub loop-r-init : goal.loop-r-init
loop-r-init c =
    let e = c.reader_of-r.ensures in (
      ap (λ b. b.now) e.0,
      rw (e.1.0, e.1.1) (record { within = omega arith; numbered = omega arith }),
      rw (e.1.0, e.1.1, c.nothing_read-s.ensures) (reads_none _),
    )

pub returns-then-text-c : goal.returns-then-text-c
returns-then-text-c c =
    let i = c.loop-r.invariant in
    let n = rw i.0 at c.next-c.ensures in
    rw c.at_end.ensures (after-end (here n) (read-here n i.2) (omega (arith, c.if-text-c.true)))
