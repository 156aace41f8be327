-- Memory cycles of a field move (the scope, "Fields"; 003 section 4.1), by the cases A to G of its
-- n bits and s = a mod 16. Assumes nothing.
use Rattle.std.specs.Prelude.{Bool, cond, ◌&&◌, Result, Ok, Err, List, [], ◌∷◌, ℕ, ◌+◌, ◌%◌, eqb, leb, ltb}
use Rattle.answers.specs.declared.Refused.{Refused}
use Rattle.answers.specs.declared.Refused.TheVariants.{FieldSize}
use Rattle.field_refusal.specs.Size.{bad_size, meant}
use Rattle.timing.specs.declared.Case.{Case}
use Rattle.timing.specs.declared.Case.TheVariants.{A, B, C, D, E, F, G}
use Rattle.timing.specs.declared.Cycles.{Cycles}

-- is a field of this alignment and size of the case?
abbrev pub is_case : Case → ℕ → ℕ → Bool
is_case A s n = eqb s 0 && eqb n 16
is_case B s n = ltb n 16 && leb (s + n) 16
is_case C s n = eqb s 0 && eqb n 32
is_case D s n = ltb 16 n && (eqb (s + n) 32 && ltb 0 s)
is_case E s n = eqb s 0 && (ltb 16 n && ltb n 32)
is_case F s n = ltb 0 s && (ltb 16 (s + n) && ltb (s + n) 32)
is_case G s n = ltb 32 (s + n)

-- the cases, in the scope's order
abbrev pub cases : List Case
cases = A ∷ B ∷ C ∷ D ∷ E ∷ F ∷ G ∷ []

-- the first case of the list that a field is of
abbrev pub first_case : List Case → ℕ → ℕ → Case
first_case [] s n = G
first_case (k ∷ ks) s n = cond (is_case k s n) k (first_case ks s n)

unfoldable pub case_of : ℕ → ℕ → Case
case_of s n = first_case cases s n

-- how many cases of the list a field is of
abbrev pub holding : List Case → ℕ → ℕ → ℕ
holding [] s n = 0
holding (k ∷ ks) s n = cond (is_case k s n) 1 0 + holding ks s n

-- memory cycles of a read, and of a write
abbrev pub read_cycles : Case → ℕ
read_cycles A = 1
read_cycles B = 1
read_cycles C = 2
read_cycles D = 2
read_cycles E = 2
read_cycles F = 2
read_cycles G = 3

abbrev pub write_cycles : Case → ℕ
write_cycles A = 1
write_cycles B = 2
write_cycles C = 2
write_cycles D = 3
write_cycles E = 3
write_cycles F = 4
write_cycles G = 5

-- a cycle count refuses only 18
unfoldable pub cycles_of : ℕ → ℕ → Result Cycles Refused
cycles_of a size =
    let case = case_of (a % 16) (meant size) in
    cond (bad_size size) (Err FieldSize)
    (Ok (record { read = read_cycles case; write = write_cycles case }))
