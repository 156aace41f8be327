-- `image::put_last` stores the words of a number up to the memory's end.
use mathlib.Core.Path.{◌≡◌}
use lib.ListN.{length}
use Rattle.image.specs.Words.{stored_words}
use Rattle.image.proofs.FillLaws.{Putting}
use Rattle.image.proofs.put_last.Given as goal

abbrev pub invariant-loop-i : goal.invariant-loop-i
invariant-loop-i l =
    (length l.memory ≡ length l.initial.memory) × Putting (stored_words 4 l.initial.memory l.at l.x) l.memory l.rest l.i
