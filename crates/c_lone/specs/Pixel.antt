-- A lone pixel for C: bad arguments, the results of PIXT and DRAV, and what the promises of the
-- five calls share. Assumes nothing.
use Rattle.std.specs.Prelude.{◌≡◌, Bool, ◌||◌, List, [], ◌∷◌, ℕ, Result}
use Rattle.std.proofs.Common.{MutBor}
use Rattle.std.proofs.lemmas.List.Edits.{sets}
use Rattle.answers.specs.declared.Refused.{Refused}
use Rattle.answers.specs.Answer as answers
use Rattle.settings.specs.declared.Settings.{Settings}
use Rattle.settings.specs.Settings.{settings_of}
use Rattle.pixt.specs.declared.PixelResult.{PixelResult}
use Rattle.pixt.specs.Pixt.{pixel_left}
use Rattle.c_arrays.specs.Out.{is_set, flag_number, short, bad_call, answered, stored_out}
use Rattle.c_arrays.specs.Settings.{bad_settings}

-- how many results there are: BH_PIXEL_RESULTS of the header
abbrev pub pixel_result_count : ℕ
pixel_result_count = 4

-- the settings are bad, or there is no room for the results
abbrev pub bad_pixel : List ℕ → List ℕ → Bool
bad_pixel s out = short pixel_result_count out || bad_settings s

-- pixels visited, V, the request, and the register: the value that PIXT read, or DRAV's point
abbrev pub pixel_numbers : PixelResult → List ℕ
pixel_numbers r = r.visited ∷ flag_number r.v ∷ flag_number r.request ∷ r.register ∷ []

-- the promise of a call on one pixel, over what differs between the five: what is worked out where
-- no argument is bad, what a refused call leaves in the register, and the memory after the call
pub record PixelCall (settings : List ℕ) (v register : ℕ) (out : List ℕ)
    (worked : Result PixelResult Refused) (after : List ℕ) (answer : ℕ) (memory' out' : List ℕ)
    : Type 0 where
  pub answers : answer ≡ answered (bad_pixel settings out) (answers.answer worked)
  pub out-is : out' ≡ stored_out (bad_pixel settings out) out
      (pixel_numbers (pixel_left (settings_of settings) (is_set v) register worked))
  pub memory-is : memory' ≡ after

-- ---- the same over any call, by what it may return

-- bad arguments change nothing
pub record Unchanged (memory memory' out out' : List ℕ) (answer : ℕ) : Type 0 where
  pub answers : answer ≡ bad_call
  pub out-is : out' ≡ out
  pub memory-is : memory' ≡ memory

-- a call that is made, whose post takes the memory, the settings, V, the result, and the memory
-- after it
pub record Called (Post : MutBor (List ℕ) → Settings → Bool → Result PixelResult Refused
    → MutBor (List ℕ) → Type 0) (memory settings : List ℕ) (v register : ℕ) (out : List ℕ)
    (answer : ℕ) (memory' out' : List ℕ) : Type 0 where
  pub lent : MutBor (List ℕ)
  pub left : MutBor (List ℕ)
  pub worked : Result PixelResult Refused
  pub lent-is : lent.now ≡ memory
  pub returns : Post lent (settings_of settings) (is_set v) worked left
  pub left-is : memory' ≡ left.now
  pub answers : answer ≡ answers.answer worked
  pub out-is : out' ≡ sets out 0
      (pixel_numbers (pixel_left (settings_of settings) (is_set v) register worked))
