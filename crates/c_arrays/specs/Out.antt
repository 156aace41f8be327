-- What the C interface adds to the calls: answer 9, flags as numbers, and results in an output
-- array. Assumes nothing.
use Rattle.std.specs.Prelude.{Bool, not, cond, List, ℕ, eqb, ltb, length}
use Rattle.std.proofs.lemmas.List.Edits.{sets}

-- a flag is 0 for no, anything else for yes; one that is handed out is 0 or 1
abbrev pub is_set : ℕ → Bool
is_set x = not (eqb x 0)

abbrev pub flag_number : Bool → ℕ
flag_number flag = cond flag 1 0

-- an array has fewer than n places
abbrev pub short : ℕ → List ℕ → Bool
short n out = ltb (length out) n

-- the answer to bad arguments: no refusal of the scope has this number
abbrev pub bad_call : ℕ
bad_call = 9

-- what a call answers, and the output array that it leaves: 9 and the array as it was where its
-- arguments are bad, else the answer that is worked out, and the results at the array's start
abbrev pub answered : Bool → ℕ → ℕ
answered bad answer = cond bad bad_call answer

abbrev pub stored_out : Bool → List ℕ → List ℕ → List ℕ
stored_out bad out results = cond bad out (sets out 0 results)
