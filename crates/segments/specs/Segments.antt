-- The segments of the instruction cache (scope, "Cache"; 004 section 5.4). Assumes nothing.
use Rattle.std.specs.Prelude.{Bool, ◌&&◌, [], ℕ, ◌-◌, ◌^◌, eqb, ltb}
use Rattle.lists.specs.Search.{any}
use Rattle.segments.specs.declared.Segment.{Segment}

-- the segments of the cache
abbrev pub segment_count : ℕ
segment_count = 4

-- the subsegments of a segment, each with a flag
abbrev pub flag_count : ℕ
flag_count = 8

-- the highest start address
abbrev pub most_start : ℕ
most_start = 2 ^ 23 - 1

-- Refusal 19

-- a start address is above 2^23 - 1
abbrev pub too_high : Segment → Bool
too_high s = ltb most_start s.start

-- a segment holds something: one of its flags is set
abbrev pub holds_some : Segment → Bool
holds_some s = any (λ flag. flag) s.present

-- two segments that hold something have the same start address
abbrev pub clash : Segment → Segment → Bool
clash s t = holds_some s && holds_some t && eqb s.start t.start

-- A fetch

-- a segment matches the start address that it has; one without flags matches nothing
abbrev pub matches : ℕ → Segment → Bool
matches start s = holds_some s && eqb start s.start

-- what stands for a segment past the fourth, and is never looked at
abbrev pub no_segment : Segment
no_segment = record { start = 0; present = [] }
