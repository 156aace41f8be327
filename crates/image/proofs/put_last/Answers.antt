-- `image::put_last` stores the words of a number up to the memory's end.
use mathlib.Core.Path.{◌∙◌}
use native.Mathlib.Omega.{arith}
use lib.ListN.{length-set}
use Rattle.image.proofs.FillLaws.{put_next, put-done}
use Rattle.image.proofs.put_last.Goals as goal

pub loop-i-preserved : goal.loop-i-preserved
loop-i-preserved c =
    let l = c.loop-i in
    (length-set l.memory l.i _ ∙ l.invariant.0, put_next l.invariant.1 (omega (arith, l.invariant.0, c.loop-i-test.true)))

pub returns : goal.returns
returns c =
    put-done c.loop-i.invariant.1 (omega (arith, c.loop-i.invariant.0, c.loop-i-test.false))
