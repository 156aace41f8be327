-- FILL and PIXBLT for C: bad arguments, the seven results, and the promises of both calls. Assumes
-- nothing.
use Rattle.std.specs.Prelude.{◌≡◌, Bool, cond, ◌||◌, List, [], ◌∷◌, ℕ, leb, length}
use Rattle.names.specs.Drawings.{drawing_count}
use Rattle.settings.specs.Settings.{settings_of}
use Rattle.operation.specs.Operation.{operation_of}
use Rattle.drawing.specs.declared.Outcome.{Outcome}
use Rattle.drawing.specs.Draw.{outcome, drawn}
use Rattle.c_arrays.specs.Out.{is_set, flag_number, short, answered, stored_out}
use Rattle.c_arrays.specs.Settings.{bad_settings}

-- the eight drawings have the numbers from 0 on; no other number is one's
abbrev pub bad_operation : ℕ → Bool
bad_operation n = leb drawing_count n

-- how many results there are: BH_DRAW_RESULTS of the header
abbrev pub draw_result_count : ℕ
draw_result_count = 7

-- the arguments are bad, or there is no room for the results
abbrev pub bad_draw : ℕ → List ℕ → List ℕ → Bool
bad_draw operation s out = short draw_result_count out
    || (bad_operation operation || bad_settings s)

-- the new place, the pixels visited by this call, V, the request, and the registers
abbrev pub draw_results : Outcome → List ℕ
draw_results o =
    o.place
    ∷ o.visited
    ∷ flag_number o.v
    ∷ flag_number o.request
    ∷ o.saddr
    ∷ o.daddr
    ∷ o.dydx
    ∷ []

-- the promise of `outcome`: what it answers, and what it leaves in the output array
pub record OutcomeCall (words operation : ℕ) (settings : List ℕ) (place v budget : ℕ)
    (out : List ℕ) (answer : ℕ) (out' : List ℕ) : Type 0 where
  pub answers :
      let op = operation_of operation in
      let call = outcome op (settings_of settings) place (is_set v) budget words in
      answer ≡ answered (bad_draw operation settings out) call.answer
  pub out-is :
      let op = operation_of operation in
      let call = outcome op (settings_of settings) place (is_set v) budget words in
      out' ≡ stored_out (bad_draw operation settings out) out (draw_results call)

-- the promise of `draw`: that of its outcome over the memory's words, and what it leaves in the
-- memory
pub record DrawCall (memory : List ℕ) (operation : ℕ) (settings : List ℕ) (place v budget : ℕ)
    (out : List ℕ) (answer : ℕ) (memory' out' : List ℕ) : Type 0 where
  pub outcome-is : OutcomeCall (length memory) operation settings place v budget out answer out'
  pub memory-is :
      let after = drawn (operation_of operation) (settings_of settings) place budget memory in
      memory' ≡ cond (bad_draw operation settings out) memory after
