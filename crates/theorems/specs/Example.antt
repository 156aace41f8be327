-- The scope's plan and what its run writes ("Plans and images"), byte for byte. The proof is in
-- proofs/Example.antt. Assumes nothing.
use Rattle.std.specs.Prelude.{◌≡◌, List, ◌++◌, ℕ}
use Rattle.ascii.specs.Ascii.{ascii}
use Rattle.theorems.specs.Plans.{listing}

abbrev pub plan_text : List ℕ
plan_text =
    ascii "memory\t4\n"
    ++ ascii "draw\tFILL L\n"
    ++ ascii "axis\tPSIZE\t4\t8\n"
    ++ ascii "axis\tCOLOR1\t255\t65535\n"
    ++ ascii "axis\tDYDX\t65538\n"

abbrev pub listing_text : List ℕ
listing_text =
    ascii "point\tanswer\tvisited\tV\tchanged\tstates\n"
    ++ ascii "0\t0\t2\t0\t8\t10\n"
    ++ ascii "1\t0\t2\t0\t8\t10\n"
    ++ ascii "2\t0\t2\t0\t8\t9\n"
    ++ ascii "3\t0\t2\t0\t16\t9\n"

abbrev pub ExampleListed : Type 0
ExampleListed = listing plan_text ≡ listing_text

-- every statement of this file
pub record OfExample : Type 0 where
  pub example-listed : ExampleListed
