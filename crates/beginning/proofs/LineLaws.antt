-- Laws of lines and their fields: the fifth field, a line of numbers without the byte that ends it, and the same bytes with it. No contract
-- cites this file. Assumes nothing.
use mathlib.Core.Path.{◌≡◌, refl, sym, ap, ◌∙◌}
use mathlib.Core.Bool.{Bool, true, false, ◌&&◌, and-false}
use mathlib.Core.List.{List, [], ◌∷◌, ◌++◌, append_assoc}
use Prim.Native.Nat.{ℕ, zero, suc, ◌+◌, ◌-◌, ◌≤◌, ◌<◌}
use native.Mathlib.Nat.{le_of_lt}
use native.Mathlib.Omega.{arith}
use borrow.Author.Tests.{leb-true, leb-false, le-leb, eq-eqb}
use lib.Dec.{eqb, leb}
use lib.ListN.{length, get_or, take, drop, length-append, drop_of_length-le}
use lib.Seq.{get_or-drop, take-append_seam}
use Rattle.ascii.specs.Ascii.{tab, line_end}
use Rattle.text.specs.Text.{up_to, parts, fields_of, same}
use Rattle.tabs.specs.Fields.{fields_from, third_at, field_value}
use Rattle.tabs.proofs.FieldsLaws.{first_field, fields_from-past, fields_from-third_at}
use Rattle.listing.specs.Listing.{decimal, numbers_line, put}
use Rattle.listing.proofs.ListingLaws.{length-put}
use Rattle.listing.proofs.PlacedLaws.{Placed, fitted}
use Rattle.beginning.specs.Beginning.{changed_in, ended}

-- The fifth field

-- a line without its first two fields
abbrev pub later : List ℕ → List ℕ
later line = drop (third_at line) line

module _ (line : List ℕ) where
  later-within : third_at line ≤ length line → fields_of (later line) ≡ drop 2 (fields_of line)
  unfolding fields_from
  later-within l = rw (le-leb (third_at line) (length line) l) at (fields_from-third_at line)

  later-past : length line < third_at line → (later line ≡ []) × (drop 2 (fields_of line) ≡ [])
  later-past l =
      (drop_of_length-le line (le_of_lt l), sym (fields_from-third_at line) ∙ fields_from-past line (third_at line) l)

  none : (k : ℕ) → get_or (fields_of []) k [] ≡ []
  unfolding parts
  none zero = refl
  none (suc k) = refl

  -- its fields are the others
  fields-later : (k : ℕ) → get_or (fields_of (later line)) k [] ≡ get_or (fields_of line) (2 + k) []
  fields-later k = go (leb (third_at line) (length line)) refl ∙ get_or-drop 2 (fields_of line) k []
    where
      go : (b : Bool) → leb (third_at line) (length line) ≡ b → get_or (fields_of (later line)) k [] ≡ get_or (drop 2 (fields_of line)) k []
      go true e = rw (later-within (leb-true _ _ e))
      go false e = let p = later-past (leb-false _ _ e) in rw (p.0, p.1) (none k)

pub changed_in-later : (line : List ℕ) → field_value (up_to tab (later (later line))) ≡ changed_in line
unfolding changed_in
changed_in-later line =
    ap field_value (first_field (later (later line)) ∙ fields-later (later line) 0 ∙ fields-later line 2)

-- The same bytes, and a byte behind both

same_none : (c : ℕ) (a : List ℕ) → same [] (a ++ (c ∷ [])) ≡ false
same_none c [] = refl
same_none c (d ∷ a) = refl

none-same : (c : ℕ) (a : List ℕ) → same (a ++ (c ∷ [])) [] ≡ false
none-same c [] = refl
none-same c (d ∷ a) = refl

same-behind : (c : ℕ) (a b : List ℕ) → same (a ++ (c ∷ [])) (b ++ (c ∷ [])) ≡ same a b
same-behind c [] [] = rw (eq-eqb c c refl)
same-behind c [] (d ∷ b) = rw (same_none c b) (and-false (eqb c d))
same-behind c (d ∷ a) [] = rw (none-same c a) (and-false (eqb d c))
same-behind c (d ∷ a) (e ∷ b) = ap (λ (t : Bool). eqb d e && t) (same-behind c a b)

pub same_ended : (a b : List ℕ) → same a b ≡ same (ended a) (ended b)
same_ended a b = sym (same-behind line_end a b)

-- A line of numbers without its end

abbrev pub unended : List ℕ → List ℕ
unended [] = []
unended (n ∷ []) = decimal n
unended (n ∷ m ∷ ns) = decimal n ++ (tab ∷ unended (m ∷ ns))

pub numbers_line-ended : (ns : List ℕ) → numbers_line ns ≡ ended (unended ns)
unfolding numbers_line
numbers_line-ended [] = refl
numbers_line-ended (n ∷ []) = refl
numbers_line-ended (n ∷ m ∷ ns) = rw (numbers_line-ended (m ∷ ns)) (sym (append_assoc (decimal n) _ _))

-- where it is put at the start of a text with room, the text has it up to the byte before the last one put
pub line_read : (line text : List ℕ) → length (ended line) ≤ length text → {r : ℕ} {o : List ℕ} → Placed 0 (ended line) text r o
    → (1 ≤ r) × ((r - 1 ≤ length o) × (take (r - 1) o ≡ line))
unfolding put
line_read line text h {r} {o} p =
    let f = fitted 0 (ended line) text r o (omega arith) p in
    let n : r - 1 ≡ length line = omega (arith, f.0, length-append line (line_end ∷ [])) in (
      omega (arith, f.0, length-append line (line_end ∷ [])),
      (
        omega (arith, f.0, ap length f.1, length-put 0 (ended line) text (omega arith)),
        rw (n, f.1, append_assoc) (take-append_seam line _),
      ),
    )
