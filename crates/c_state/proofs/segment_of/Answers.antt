-- `segment_of` meets its contract: each flag is that of its place. Assumes nothing.
use Rattle.std.proofs.Common.{rules, ◌≡◌, ◌∙◌, false, Bool, List, ap}
use Rattle.lists.proofs.SearchLaws.{tabulate-get_or}
use Rattle.segments.specs.declared.Segment.{Segment}
use Rattle.segments.specs.Segments.{flag_count}
use Rattle.c_state.specs.State.{flags_of}
use Rattle.c_state.proofs.segment_of.Goals as goal

pub returns : goal.returns
returns c =
    let l : c.from_fn.result ≡ flags_of c.args.flags =
    tabulate-get_or flag_count false _ c.from_fn.ensures.items.long ∙ search rules in
    let P : List Bool → Segment = λ p. record { start = c.args.start; present = p } in
    ap P l
