-- `beginning::like` meets its contract. Assumes nothing.
use Rattle.beginning.proofs.BeginningLaws.{length-with}
use Rattle.beginning.proofs.like.Goals as goal

pub is_line-requires : goal.is_line-requires
is_line-requires c =
    let x = c.args in
    rw c.ran_with-ran.ensures (length-with c.changed_in-changed.result x.words x.draw x.point x.values.now)
