-- Laws of `specs/Segments.antt`. No contract cites this file. Assumes nothing.
use mathlib.Core.Path.{◌≡◌}
use mathlib.Core.Bool.{and_comm}
use Rattle.lists.proofs.TestLaws.{eqb_comm}
use Rattle.segments.specs.declared.Segment.{Segment}
use Rattle.segments.specs.Segments.{holds_some, clash}

pub clash-comm : (s t : Segment) → clash s t ≡ clash t s
clash-comm s t = rw (and_comm (holds_some s) (holds_some t), eqb_comm s.start t.start)
