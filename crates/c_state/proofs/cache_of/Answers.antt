-- `cache_of` meets its contract: each segment and each entry of the order is that of its place. Assumes nothing.
use Rattle.std.proofs.Common.{rules, ◌≡◌, ◌∙◌, List, ℕ}
use Rattle.lists.proofs.SearchLaws.{tabulate-get_or}
use Rattle.segments.specs.declared.Segment.{Segment}
use Rattle.segments.specs.Segments.{segment_count, no_segment}
use Rattle.cache.specs.declared.Cache.{Cache}
use Rattle.c_state.specs.State.{cache_of}
use Rattle.c_state.proofs.cache_of.Goals as goal

pub returns : goal.returns
unfolding cache_of
returns c =
    let l : c.from_fn.result ≡ (cache_of c.args.state.now).segments =
    tabulate-get_or segment_count no_segment _ c.from_fn.ensures.items.long ∙ search rules in
    let m : c.from_fn-2.result ≡ (cache_of c.args.state.now).order =
    tabulate-get_or segment_count 0 _ c.from_fn-2.ensures.items.long ∙ search rules in
    λ i. record { segments = l i; order = m i }
