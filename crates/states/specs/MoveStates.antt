-- States of MOVE memory to register (the scope, "Fields"; 000 table 13-1). Assumes nothing.
use Rattle.std.specs.Prelude.{Bool, cond, Result, Ok, Err, ℕ, ◌+◌, ◌%◌}
use Rattle.answers.specs.declared.Refused.{Refused}
use Rattle.answers.specs.declared.Refused.TheVariants.{FieldSize}
use Rattle.field_refusal.specs.Size.{bad_size, meant}
use Rattle.timing.specs.Cycles.{case_of}
use Rattle.timing.specs.declared.Case.{Case}
use Rattle.timing.specs.declared.Case.TheVariants.{A, B, C, D, E, F, G}
use Rattle.states.specs.declared.Mode.{Mode}
use Rattle.states.specs.declared.Mode.TheVariants.{Indirect, Postincrement, Predecrement}

-- indirect, in cache: 3 for A, B; 5 for C to F; 7 for G
abbrev pub cached_states : Case → ℕ
cached_states A = 3
cached_states B = 3
cached_states C = 5
cached_states D = 5
cached_states E = 5
cached_states F = 5
cached_states G = 7

-- indirect, without: 6, 8, 10
abbrev pub uncached_states : Case → ℕ
uncached_states A = 6
uncached_states B = 6
uncached_states C = 8
uncached_states D = 8
uncached_states E = 8
uncached_states F = 8
uncached_states G = 10

abbrev pub base_states : Case → Bool → ℕ
base_states k cached = cond cached (cached_states k) (uncached_states k)

-- postincrement is as indirect, predecrement is one more in each
abbrev pub mode_states : Mode → ℕ
mode_states Indirect = 0
mode_states Postincrement = 0
mode_states Predecrement = 1

-- sign extension adds 1
abbrev pub sign_states : Bool → ℕ
sign_states signed = cond signed 1 0

-- a state count refuses only 18
unfoldable pub move_states : ℕ → ℕ → Mode → Bool → Bool → Result ℕ Refused
move_states a size mode signed cached =
    let base = base_states (case_of (a % 16) (meant size)) cached in
    cond (bad_size size) (Err FieldSize)
    (Ok (base + mode_states mode + sign_states signed))
