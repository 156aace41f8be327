-- `segment_miss` meets its contract: the order names a segment. Assumes nothing.
use Rattle.cache.proofs.CacheLaws.{order_lt}
use Rattle.cache.proofs.Cache.segment_miss.Goals as goal

pub with_segment-requires : goal.with_segment-requires
with_segment-requires c =
    rw c.from-oldest.ensures (order_lt _ _ c.requires.1)
