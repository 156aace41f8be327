-- `first_line::put_names` meets its contract: the line is made in an array of its length, and put where it fits. Assumes nothing.
use mathlib.Core.Path.{◌≡◌, ◌∙◌}
use mathlib.Core.List.{List, [], ◌∷◌, ◌++◌}
use Prim.Native.Nat.{ℕ, ◌≤◌}
use native.Mathlib.Omega.{arith}
use lib.ListN.{length, take, replicate}
use Rattle.ascii.specs.Ascii.{ascii, line_end, joined}
use Rattle.names.specs.Names.{names}
use Rattle.listing.proofs.PlacedLaws.{Placed, placed, fitted-append, first-bytes}
use Rattle.first_line.specs.Names.{names_line}
use Rattle.first_line.proofs.put_names.Goals as goal

abbrev point : List ℕ
point = ascii "point\t"

abbrev space : List ℕ
space = replicate 93 0

-- the three pieces put one after another are the line
pieces : (list : List ℕ) (i j k : ℕ) (s t u : List ℕ) → list ≡ joined names
    → Placed 0 point space i s → Placed i list s j t → Placed j (line_end ∷ []) t k u
    → (k ≤ length u) × (k ≡ length (take k u)) × (take k u ≡ names_line)
pieces list i j k s t u e p q r =
    let f = fitted-append 0 point (joined names) space i j s t (omega arith) p (rw e at q) in
    let h = placed 0 (point ++ joined names) space (omega arith) in
    let g = fitted-append 0 (point ++ joined names) (line_end ∷ []) space j k t u (omega arith) (f.0 ∙ h.0, f.1 ∙ h.1) r in
    first-bytes names_line space (omega arith) k u g.0 g.1

-- the text that is made
text : (c : goal.After-slice_known-2-1) → (c.bytes-end.result ≤ length c.bytes-end.new.out)
    × (c.bytes-end.result ≡ length (take c.bytes-end.result c.bytes-end.new.out))
    × (take c.bytes-end.result c.bytes-end.new.out ≡ names_line)
text c =
    pieces _ _ _ _ _ _ _ c.list-names.ensures (c.bytes-start.ensures.value, c.bytes-start.ensures.out_after)
    (c.bytes-next.ensures.value, c.bytes-next.ensures.out_after) (c.bytes-end.ensures.value, c.bytes-end.ensures.out_after)

pub returns-clause-out_after : goal.returns-clause-out_after
returns-clause-out_after c =
    rw (text c).2 at c.bytes.ensures.out_after
