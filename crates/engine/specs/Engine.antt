-- A drawing as a walk over pixels (the scope, "Arrays, windows and slices"; request Eight): pixels
-- are visited row by row from the start, in the chosen order, and each one reads memory as the ones
-- before left it. Assumes nothing.
use Rattle.std.specs.Prelude.{ℕ, zero, suc, ◌+◌, ◌-◌, min, List}
use Rattle.walk.specs.Walk.{address_of}
use Rattle.plot.specs.declared.Drawing.{Drawing}
use Rattle.plot.specs.Drawing.{pixels}
use Rattle.row.specs.Row.{drawn_at}

-- the addresses of pixel i and of its source
abbrev pub dest_of : Drawing → ℕ → ℕ
dest_of d i = address_of d.dest d.cols i

abbrev pub src_of : Drawing → ℕ → ℕ
src_of d i = address_of d.src d.cols i

-- the memory after pixel i is visited
abbrev pub visit : Drawing → ℕ → List ℕ → List ℕ
visit d i m = drawn_at d (src_of d i) (dest_of d i) m

-- the memory after n pixels are visited, from pixel k on
unfoldable pub visits : Drawing → ℕ → ℕ → List ℕ → List ℕ
visits d k zero m = m
visits d k (suc n) m = visit d (k + n) (visits d k n m)

-- how many pixels are visited from place k on with a budget: the lesser of b and n - k
abbrev pub visited_from : Drawing → ℕ → ℕ → ℕ
visited_from d k b = min b (pixels d - k)
