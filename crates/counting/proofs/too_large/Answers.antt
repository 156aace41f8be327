-- `counting::too_large` meets its contract. Assumes nothing.
use Rattle.points.proofs.LimitLaws.{joined-start, joined-next}
use Rattle.counting.proofs.too_large.Goals as goal

pub loop-v-init : goal.loop-v-init
loop-v-init c =
    joined-start c.args.name c.args.values.now

pub loop-v-preserved : goal.loop-v-preserved
loop-v-preserved c =
    joined-next c.args.name c.args.values.now c.loop-v.all c.loop-v.v-index c.loop-v-test.true c.loop-v.invariant
