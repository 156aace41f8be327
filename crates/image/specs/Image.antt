-- The image of a seed (the scope, "Plans and images"). Assumes nothing.
use Rattle.std.specs.Prelude.{Result, Ok, Err, cond, List, [], ◌∷◌, ◌++◌, ℕ, zero, suc, ◌/◌, ◌%◌, ◌^◌, length, take}
use Rattle.answers.specs.declared.Refused.{Refused}
use Rattle.answers.specs.declared.Refused.TheVariants.{Memory}
use Rattle.memory.specs.Bits.{no_memory}
unfoldable pub use Rattle.generator.specs.Step.{stepped}

-- the k low words of x, lowest first
abbrev pub words : ℕ → ℕ → List ℕ
words zero x = []
words (suc k) x = x % 2 ^ 16 ∷ words k (x / 2 ^ 16)

-- k draws, starting at x: each new x gives four words, lowest first
abbrev pub draws : ℕ → ℕ → List ℕ
draws zero x = []
draws (suc k) x = words 4 (stepped x) ++ draws k (stepped x)

-- the image over a memory of n words: start at SEED, cut off at the memory's end (n draws are
-- enough: `length-image`)
abbrev pub image : ℕ → ℕ → List ℕ
image n seed = take n (draws n seed)

-- an image is asked of a memory: refusal 10, or done
abbrev pub image_refusal : ℕ → Result (Unit {0}) Refused
image_refusal words = cond (no_memory words) (Err Memory) (Ok tt)

-- the memory after it
unfoldable pub imaged : List ℕ → ℕ → List ℕ
imaged m seed = cond (no_memory (length m)) m (image (length m) seed)
