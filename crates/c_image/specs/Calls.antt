-- The promises of the calls on images: what each answers, and what it leaves in the array that it
-- may change. Assumes nothing.
use Rattle.std.specs.Prelude.{◌≡◌, List, [], ◌∷◌, ℕ, length}
use Rattle.std.specs.Result.{result_unwrap_or}
use Rattle.answers.specs.Answer.{answer}
use Rattle.memory.specs.Changed.{counted}
use Rattle.image.specs.Image.{image_refusal, imaged}
use Rattle.c_arrays.specs.Out.{short, answered, stored_out}

-- `fill_image`: there is no output array, so that no argument is bad
pub record FillImageCall (memory : List ℕ) (seed : ℕ) (result : ℕ) (memory' : List ℕ) : Type 0 where
  pub answers : result ≡ answer (image_refusal (length memory))
  pub memory-is : memory' ≡ imaged memory seed

-- `changed`: out has the number of bits, 0 where it is refused
pub record ChangedCall (before after out : List ℕ) (result : ℕ) (out' : List ℕ) : Type 0 where
  pub answers : result ≡ answered (short 1 out) (answer (counted before after))
  pub out-is : out' ≡ stored_out (short 1 out) out (result_unwrap_or (counted before after) 0 ∷ [])
