-- `first_line::put_refused` meets its contract: the line is made in an array of its greatest length, and put where it fits.
-- Assumes nothing.
use mathlib.Core.Path.{◌≡◌}
use mathlib.Core.List.{List, [], ◌∷◌}
use Prim.Native.Nat.{ℕ, ◌≤◌}
use native.Mathlib.Omega.{arith}
use lib.ListN.{length, take, replicate}
use Rattle.ascii.specs.Ascii.{ascii}
use Rattle.listing.specs.Listing.{numbers_line, refused_line}
use Rattle.listing.proofs.ListingLaws.{length-refused_line-le}
use Rattle.listing.proofs.PlacedLaws.{Placed, fitted-append, first-bytes}
use Rattle.first_line.proofs.put_refused.Goals as goal

abbrev word : List ℕ
word = ascii "refused\t"

abbrev space : List ℕ
space = replicate 50 0

-- the two pieces put one after another are the line
pieces : (number line i j : ℕ) (s t : List ℕ) → Placed 0 word space i s → Placed i (numbers_line (number ∷ line ∷ [])) s j t
    → (j ≤ length t) × (j ≡ length (take j t)) × (take j t ≡ refused_line number line)
pieces number line i j s t p q =
    let l = length-refused_line-le number line in
    let f = fitted-append 0 word (numbers_line (number ∷ line ∷ [])) space i j s t (omega arith) p q in
    first-bytes (refused_line number line) space l j t f.0 f.1

-- the text that is made
text : (c : goal.After-slice_known-2-1) → (c.numbers-end.result ≤ length c.numbers-end.new.out)
    × (c.numbers-end.result ≡ length (take c.numbers-end.result c.numbers-end.new.out))
    × (take c.numbers-end.result c.numbers-end.new.out ≡ refused_line c.args.number c.args.line)
text c =
    pieces _ _ _ _ _ _ (c.bytes-start.ensures.value, c.bytes-start.ensures.out_after)
    (c.numbers-end.ensures.value, c.numbers-end.ensures.out_after)

pub returns-clause-value : goal.returns-clause-value
returns-clause-value c =
    rw (text c).2 at c.bytes.ensures.value

pub returns-clause-out_after : goal.returns-clause-out_after
returns-clause-out_after c =
    rw (text c).2 at c.bytes.ensures.out_after
