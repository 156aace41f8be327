-- Lines of a listing as bytes (the scope, "Plans and images"): decimal numbers with tabs between,
-- ended by byte 10. Assumes nothing.
use Rattle.std.specs.Prelude.{cond, List, [], ◌∷◌, ◌++◌, ℕ, zero, suc, ◌+◌, ◌/◌, ◌%◌, ltb, leb, length, take, drop}
use Rattle.ascii.specs.Ascii.{ascii, tab, line_end, digit0}

-- a number's decimal digits, the most significant first, at most k of them
unfoldable pub digits : ℕ → ℕ → List ℕ
digits zero n = []
digits (suc k) n =
    cond (ltb n 10) ((digit0 + n) ∷ []) (digits k (n / 10) ++ ((digit0 + n % 10) ∷ []))

-- as many are enough below 2 ^ 64
abbrev pub most_digits : ℕ
most_digits = 20

abbrev pub decimal : ℕ → List ℕ
decimal n = digits most_digits n

-- numbers with tabs between, and a line's end
unfoldable pub numbers_line : List ℕ → List ℕ
numbers_line [] = line_end ∷ []
numbers_line (n ∷ []) = decimal n ++ (line_end ∷ [])
numbers_line (n ∷ m ∷ ns) = decimal n ++ (tab ∷ numbers_line (m ∷ ns))

-- the length of a line of one number or more: after each number's digits stands one byte
unfoldable pub line_length : List ℕ → ℕ
line_length [] = 0
line_length (n ∷ ns) = length (decimal n) + 1 + line_length ns

-- bytes put over others from an index on
unfoldable pub put : ℕ → List ℕ → List ℕ → List ℕ
put at bytes out = take at out ++ (bytes ++ drop (at + length bytes) out)

-- bytes put where they fit, else nothing; the index after them
abbrev pub put_if : ℕ → List ℕ → List ℕ → List ℕ
put_if at bytes out = cond (leb (at + length bytes) (length out)) (put at bytes out) out

abbrev pub index_after : ℕ → List ℕ → ℕ → ℕ
index_after at bytes size = cond (leb (at + length bytes) size) (at + length bytes) at

-- the heading
abbrev pub heading : List ℕ
heading = ascii "point\tanswer\tvisited\tV\tchanged\tstates\n"

-- a refused plan writes only `refused`, number, line
abbrev pub refused_line : ℕ → ℕ → List ℕ
refused_line number line = ascii "refused\t" ++ numbers_line (number ∷ line ∷ [])
