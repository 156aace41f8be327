-- The instruction cache (scope, "Cache"; 004 section 5.4): what a fetch answers, and the state that
-- it hands back. A state of the type has four segments of eight flags each, and an order of four.
-- Assumes nothing.
use Rattle.std.specs.Prelude.{Bool, true, false, cond, ◌||◌, List, [], ◌∷◌, ℕ, ◌/◌, ◌%◌, ◌^◌, get_or, set, replicate, Result, Ok, Err, codes}
use Rattle.answers.specs.declared.Refused.{Refused}
use Rattle.answers.specs.declared.Refused.TheVariants.{CacheState}
use Rattle.control.specs.Control.{disabled}
use Rattle.lists.specs.Search.{any, first, any_pair}
use Rattle.segments.specs.declared.Segment.{Segment}
use Rattle.order.specs.Order.{bad_order}
unfoldable pub use Rattle.order.specs.Order.{latest}
use Rattle.segments.specs.Segments.{segment_count, flag_count, too_high, clash, matches, no_segment}
use Rattle.cache.specs.declared.Cache.{Cache}
use Rattle.cache.specs.declared.Kind.{Kind}
use Rattle.cache.specs.declared.Kind.TheVariants.{Hit, SubsegmentMiss, SegmentMiss, Disabled}
use Rattle.cache.specs.declared.Fetched.{Fetched}

-- Refusal 19

-- the order isn't a permutation of the four segments, a start address is above 2^23 - 1, or two
-- segments that hold something have the same one
unfoldable pub bad_state : Cache → Bool
bad_state c = bad_order c.order || any too_high c.segments || any_pair clash c.segments

-- the number that a fetch answers: 19 exactly where its state is refused, else 0 (done)
abbrev pub fetch_refusal : Cache → ℕ
fetch_refusal c = cond (bad_state c) 19 0

-- A fetch

-- bits 9-31 of its bit address are a start address
abbrev pub start_address : ℕ → ℕ
start_address address = address / 2 ^ 9

-- bits 6-8 choose the subsegment of 4 words
abbrev pub subsegment_of : ℕ → ℕ
subsegment_of address = address / 2 ^ 6 % 2 ^ 3

-- segment i becomes s and the latest used
abbrev pub with_segment : Cache → ℕ → Segment → Cache
with_segment c i s = record { segments = set c.segments i s; order = latest i c.order }

-- a segment without flags
abbrev pub no_flags : ℕ → Segment
no_flags start = record { start = start; present = replicate flag_count false }

-- the segment with a flag set
abbrev pub with_flag : ℕ → Segment → Segment
with_flag sub s = record { start = s.start; present = set s.present sub true }

-- segment i
abbrev pub segment_at : Cache → ℕ → Segment
segment_at c i = get_or c.segments i no_segment

-- hit: the segment becomes the latest used
abbrev pub hit : Cache → ℕ → Fetched
hit c i =
    record {
      kind = Hit;
      cache = record { segments = c.segments; order = latest i c.order };
    }

-- subsegment miss: also its flag is set
abbrev pub subsegment_miss : Cache → ℕ → ℕ → Fetched
subsegment_miss c i sub =
    record { kind = SubsegmentMiss; cache = with_segment c i (with_flag sub (segment_at c i)) }

-- segment miss: the least recently used one gets the new address, loses all flags, gains one, and
-- becomes latest
abbrev pub segment_miss : Cache → ℕ → ℕ → Fetched
segment_miss c start sub =
    let oldest = get_or c.order 0 0 in
    record { kind = SegmentMiss; cache = with_segment c oldest (with_flag sub (no_flags start)) }

-- a fetch that segment i matches: a hit if it has the flag
abbrev pub matched : Cache → ℕ → ℕ → Fetched
matched c i sub =
    cond (get_or (segment_at c i).present sub false) (hit c i) (subsegment_miss c i sub)

-- a fetch of a subsegment of a start address
unfoldable pub lookup : Cache → ℕ → ℕ → Fetched
lookup c start sub =
    cond (any (matches start) c.segments)
    (matched c (first (matches start) c.segments) sub)
    (segment_miss c start sub)

-- with CD 1 every fetch reports disabled and the state stays; a refused state is refused also with
-- CD 1, and no next one is handed back
unfoldable pub fetched : Cache → ℕ → ℕ → Result Fetched Refused
fetched c address control =
    cond (bad_state c)
    (Err CacheState)
    (cond (disabled control)
    (Ok (record { kind = Disabled; cache = c }))
    (Ok (lookup c (start_address address) (subsegment_of address))))

-- the state after a fetch: that of a refused one stays
abbrev pub cache_left : Cache → Result Fetched Refused → Cache
cache_left c (Ok f) = f.cache
cache_left c (Err r) = c

-- Fresh: no flags, addresses 0, segment 0 least recent and 3 latest
abbrev pub fresh_cache : Cache
fresh_cache = record { segments = replicate segment_count (no_flags 0); order = 0 ∷ 1 ∷ 2 ∷ 3 ∷ [] }

-- Of each kind, its number and its name
abbrev pub kind_number : Kind → ℕ
kind_number Hit = 0
kind_number SubsegmentMiss = 1
kind_number SegmentMiss = 2
kind_number Disabled = 3

abbrev pub kind_name : Kind → List ℕ
kind_name Hit = codes "hit"
kind_name SubsegmentMiss = codes "subsegment miss"
kind_name SegmentMiss = codes "segment miss"
kind_name Disabled = codes "disabled"
