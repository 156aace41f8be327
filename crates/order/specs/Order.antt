-- The order in which the segments of the instruction cache were last used, the least recent first
-- (scope, "Cache"; 004 section 5.4). Assumes nothing.
use Rattle.std.specs.Prelude.{Bool, cond, ◌||◌, List, [], ◌∷◌, ◌++◌, ℕ, eqb, leb}
use Rattle.lists.specs.Search.{any, any_pair}
use Rattle.segments.specs.Segments.{segment_count}

-- Refusal 19

-- the order isn't a permutation of the four segments: a place names none of them, or two places
-- name the same
abbrev pub bad_order : List ℕ → Bool
bad_order order = any (λ k. leb segment_count k) order || any_pair eqb order

-- A fetch

-- segment k becomes the latest used: it moves to the end of the order
unfoldable pub latest : ℕ → List ℕ → List ℕ
latest k [] = []
latest k (x ∷ order) = cond (eqb x k) (order ++ (x ∷ [])) (x ∷ latest k order)
