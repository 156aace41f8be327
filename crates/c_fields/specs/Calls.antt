-- The promises of the calls on fields: what each answers, and what it leaves in the output array
-- and the memory. Assumes nothing.
use Rattle.std.specs.Prelude.{◌≡◌, ◌||◌, List, [], ◌∷◌, ℕ, length}
use Rattle.std.specs.Result.{result_unwrap_or}
use Rattle.answers.specs.Answer as refused
use Rattle.field.specs.Field.{field_refusal, field_read, field_written}
use Rattle.timing.specs.Cycles.{cycles_of}
use Rattle.timing.specs.declared.Cycles.{Cycles}
use Rattle.states.specs.Mode.{bad_mode, mode_of}
use Rattle.states.specs.MoveStates.{move_states}
use Rattle.c_arrays.specs.Out.{is_set, short, answered, stored_out}

-- `read`: out has the register, 0 where it is refused; the memory stays in every case
pub record FieldReadCall (memory : List ℕ) (address size signed : ℕ) (out : List ℕ)
    (answer : ℕ) (memory' out' : List ℕ) : Type 0 where
  pub answers :
      let call = field_read memory address size (is_set signed) in
      answer ≡ answered (short 1 out) (refused.answer call)
  pub out-is :
      let call = field_read memory address size (is_set signed) in
      out' ≡ stored_out (short 1 out) out (result_unwrap_or call 0 ∷ [])
  pub memory-is : memory' ≡ memory

-- `write`: there is no output array, so that no argument is bad
pub record FieldWriteCall (memory : List ℕ) (address size value : ℕ)
    (answer : ℕ) (memory' : List ℕ) : Type 0 where
  pub answers : answer ≡ refused.answer (field_refusal (length memory) address size)
  pub memory-is : memory' ≡ field_written memory address size value

-- those of a count that is refused
abbrev pub no_cycles : Cycles
no_cycles = record { read = 0; write = 0 }

-- `cycles`: out has those of a read, then those of a write; 0 where they are refused
pub record FieldCyclesCall (address size : ℕ) (out : List ℕ)
    (answer : ℕ) (out' : List ℕ) : Type 0 where
  pub answers : answer ≡ answered (short 2 out) (refused.answer (cycles_of address size))
  pub out-is :
      let call = result_unwrap_or (cycles_of address size) no_cycles in
      out' ≡ stored_out (short 2 out) out (call.read ∷ call.write ∷ [])

-- `move_states`: out has their number, 0 where it is refused
pub record MoveStatesCall (address size mode signed cached : ℕ) (out : List ℕ)
    (answer : ℕ) (out' : List ℕ) : Type 0 where
  pub answers :
      let call = move_states address size (mode_of mode) (is_set signed) (is_set cached) in
      answer ≡ answered (short 1 out || bad_mode mode) (refused.answer call)
  pub out-is :
      let call = move_states address size (mode_of mode) (is_set signed) (is_set cached) in
      out' ≡ stored_out (short 1 out || bad_mode mode) out (result_unwrap_or call 0 ∷ [])
