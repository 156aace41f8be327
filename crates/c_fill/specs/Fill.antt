-- The time of a FILL for C: bad arguments, the four results, and the promise of the call. Assumes
-- nothing.
use Rattle.std.specs.Prelude.{◌≡◌, Bool, ◌||◌, List, [], ◌∷◌, ℕ}
use Rattle.settings.specs.Settings.{settings_of}
use Rattle.operation.specs.Operation.{operation_of}
use Rattle.fill_tables.specs.declared.Time.{Time}
use Rattle.fill_timing.specs.FillTiming.{fill_states}
use Rattle.c_arrays.specs.Out.{short, answered, stored_out}
use Rattle.c_arrays.specs.Settings.{bad_settings}
use Rattle.c_draw.specs.Draw.{bad_operation}

-- how many results there are: BH_FILL_RESULTS of the header
abbrev pub fill_result_count : ℕ
fill_result_count = 4

-- the arguments are bad, or there is no room for the results
abbrev pub bad_fill : ℕ → List ℕ → List ℕ → Bool
bad_fill operation s out = short fill_result_count out
    || (bad_operation operation || bad_settings s)

-- setup, transfer, adjustment, and setup and transfer less the adjustment
abbrev pub fill_results : Time → List ℕ
fill_results t = t.setup ∷ t.transfer ∷ t.adjustment ∷ t.states ∷ []

-- the promise of `states`: what it answers, and what it leaves in the output array
pub record FillStatesCall (words operation : ℕ) (settings out : List ℕ) (answer : ℕ)
    (out' : List ℕ) : Type 0 where
  pub answers :
      let call = fill_states (operation_of operation) (settings_of settings) words in
      answer ≡ answered (bad_fill operation settings out) call.answer
  pub out-is :
      let call = fill_states (operation_of operation) (settings_of settings) words in
      out' ≡ stored_out (bad_fill operation settings out) out (fill_results call.time)
