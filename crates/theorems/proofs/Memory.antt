-- The proofs of specs/Memory.antt, a line each: the laws of the crates below. Assumes nothing.
use mathlib.Core.Path.{ap, ap₂, sym, ◌∙◌}
use mathlib.Core.List.{List}
use Prim.Native.Nat.{ℕ, ◌*◌, max}
use native.Mathlib.Numerals.{add-one}
use Rattle.answers.specs.Answer.{answer}
use Rattle.memory.specs.Changed.{differing, changed_bits, differing_by_word}
use Rattle.memory.proofs.MemoryLaws as memory
use Rattle.memory.proofs.ChangedLaws as changed
use Rattle.field.proofs.RoundLaws as field
use Rattle.timing.proofs.CaseLaws as timing
use Rattle.image.proofs.SeedLaws as image
use Rattle.theorems.proofs.ChangedLaws.{same-of-changed_bits}
use Rattle.theorems.specs.Memory.{BitsDecide, ChangedDecides, DifferingWord, ChangedByWord}
use Rattle.theorems.specs.Memory.{ReadBack, WriteFrame, WriteBack, PastEnd, OneCase, SeedsDiffer}
use Rattle.theorems.specs.Memory.{OfMemory}

pub bits-decide : BitsDecide
bits-decide n m m' g g' e = memory.memory-ext g g' e

pub changed-decides : ChangedDecides
changed-decides n m m' g g' = (
  same-of-changed_bits g g',
  λ e. ap (λ (l : List _). changed_bits m l) (sym e) ∙ changed.changed_bits-same m,
)

pub differing-word : DifferingWord
differing-word n n' m m' g g' i =
    ap (λ (k : ℕ). differing m m' (16 * k)) (add-one i) ∙ changed.differing-word g g' i

pub changed-by-word : ChangedByWord
changed-by-word n n' m m' g g' =
    ap (differing_by_word m m') (sym (ap₂ max g.size g'.size)) ∙ sym (changed.changed_bits-by-word g g')

pub read_back : ReadBack
read_back = field.read_back

pub write-frame : WriteFrame
write-frame = field.write-frame

pub write-back : WriteBack
write-back = field.write-back

pub past_end : PastEnd
past_end words a n some most size past = ap answer (field.past_end words a n some most size past)

pub one-case : OneCase
one-case = timing.one-case

pub seeds-differ : SeedsDiffer
seeds-differ = image.image_inj

pub of-memory : OfMemory
of-memory =
    record {
      bits-decide = bits-decide;
      changed-decides = changed-decides;
      differing-word = differing-word;
      changed-by-word = changed-by-word;
      read_back = read_back;
      write-frame = write-frame;
      write-back = write-back;
      past_end = past_end;
      one-case = one-case;
      seeds-differ = seeds-differ;
    }
