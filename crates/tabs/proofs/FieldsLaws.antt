-- Laws of `specs/Fields.antt`. No contract cites this file. Assumes nothing.
use mathlib.Core.Path.{◌≡◌, refl, sym, ap, ◌∙◌}
use mathlib.Core.Bool.{Bool, true, false, not, cond}
use mathlib.Core.List.{List, [], ◌∷◌}
use Prim.Native.Nat.{ℕ, suc, ◌+◌, ◌-◌, ◌<◌, ◌≤◌}
use native.Mathlib.Nat.{le_of_lt}
use native.Mathlib.Omega.{arith}
use borrow.Author.Tests.{le-leb, lt-leb, ltb-true, ltb-false, leb-true, leb-false}
use lib.Dec.{eqb, ltb, leb}
use lib.ListN.{length, get_or, take, drop, drop_of_length-le}
use lib.Seq.{get_or-drop, drop-drop}
use Rattle.std.specs.List.{list_any, position_or_len, position, slice_split}
use Rattle.std.specs.Prelude.{Some, None}
use Rattle.std.proofs.lemmas.Option.{cond_some, none-some}
use Rattle.lists.proofs.TestLaws.{cond_both}
use Rattle.ascii.specs.Ascii.{tab}
use Rattle.lists.specs.Search.{any, first}
use Rattle.text.specs.Text.{up_to, fields_of}
use Rattle.text.proofs.TextLaws.{rest-is, parts-split, part-take, parts-before, parts_last, part-last}
use Rattle.tabs.specs.Fields.{fields_from, behind, third_at}

-- Searches, as the library's iterators state them

pub any-listed : {A : Type 0} (p : A → Bool) (l : List A) → any p l ≡ list_any p l
unfolding any
any-listed p [] = refl
any-listed p (x ∷ l) = rw (any-listed p l)

first-listed : {A : Type 0} (p : A → Bool) (l : List A) → first p l ≡ position_or_len p l
unfolding first
first-listed p [] = refl
first-listed p (x ∷ l) = go (p x) (first-listed p l)
  where
    go : (b : Bool) → first p l ≡ position_or_len p l → cond b 0 (suc (first p l)) ≡ cond (not b) (1 + position_or_len p l) 0
    go true e = refl
    go false e = omega (arith, e)

first-le : {A : Type 0} (p : A → Bool) (l : List A) → first p l ≤ length l
unfolding first
first-le p [] = omega arith
first-le p (x ∷ l) = cond_both (λ n. n ≤ suc (length l)) (p x) 0 (suc (first p l)) (λ e. omega arith) (λ e. omega (arith, first-le p l))

pub first-some : {A : Type 0} (p : A → Bool) (l : List A) (n : ℕ) → position p l ≡ Some n → n ≡ first p l
first-some p l n e = sym (first-listed p l ∙ (cond_some _ _ _ e).1)

pub first-none : {A : Type 0} (p : A → Bool) (l : List A) → position p l ≡ None → length l ≡ first p l
first-none p l e = go (ltb (position_or_len p l) (length l)) refl e
  where
    go : (b : Bool) → ltb (position_or_len p l) (length l) ≡ b → cond b (Some (position_or_len p l)) None ≡ None → length l ≡ first p l
    go true t e = absurd (none-some _ (sym e))
    go false t e = omega (arith, ltb-false _ _ t, first-le p l, first-listed p l)

-- The fields from a place on

pub fields_from-zero : (line : List ℕ) → fields_from line 0 ≡ fields_of line
unfolding fields_from
fields_from-zero line = rw (le-leb 0 (length line) (omega arith))

pub fields_from-past : (line : List ℕ) (p : ℕ) → length line < p → fields_from line p ≡ []
unfolding fields_from
fields_from-past line p h = rw (lt-leb p (length line) h)

-- the pieces of the rest of a line, as a lent part of it
pub fields_from-split : (line rest : List ℕ) (p : ℕ) → p ≤ length line → rest ≡ take (length line - p) (drop p line)
    → slice_split (λ c. eqb c tab) rest ≡ fields_from line p
unfolding fields_from
fields_from-split line rest p h is = rw (le-leb p (length line) h, is, rest-is line p) (parts-split tab (drop p line))

-- The field at a place of the line, and its end e

module _ (line : List ℕ) (p e : ℕ) (is : e ≡ p + length (up_to 9 (drop p line))) (l : p ≤ length line) where
  fields_from-up_to : (b : Bool) → ltb e (length line) ≡ b → fields_from line p ≡ up_to 9 (drop p line) ∷ fields_from line (e + 1)
  unfolding fields_from
  fields_from-up_to true t =
      let h : e < length line = ltb-true _ _ t in
      rw (le-leb p (length line) l, le-leb (e + 1) (length line) (omega arith)) (parts-before 9 line p e is h)
  fields_from-up_to false t =
      let h : length line ≤ e = ltb-false _ _ t in
      rw (le-leb p (length line) l, lt-leb (e + 1) (length line) (omega arith), part-last 9 line p e is h) (parts_last 9 line p e is h)

  -- the field is the first of the fields from there on, and the others follow behind its end
  pub fields_from-cons : fields_from line p ≡ take (e - p) (drop p line) ∷ fields_from line (e + 1)
  fields_from-cons = rw (part-take 9 line p e is) (fields_from-up_to _ refl)

-- The place behind the field at a place

module _ (line : List ℕ) (p : ℕ) where
  at_place : (b : Bool) → leb p (length line) ≡ b
      → (get_or (fields_from line p) 0 [] ≡ up_to 9 (drop p line)) × (fields_from line (behind line p) ≡ drop 1 (fields_from line p))
  unfolding behind up_to
  at_place true t =
      let l : p ≤ length line = leb-true _ _ t in
      let e : fields_from line p ≡ up_to 9 (drop p line) ∷ fields_from line (behind line p) = fields_from-up_to line p _ refl l _ refl in
      (rw e, rw e)
  at_place false t =
      let l : length line < p = leb-false _ _ t in
      let n : drop p line ≡ [] = drop_of_length-le line (le_of_lt l) in
      (rw (fields_from-past line p l, n), rw (fields_from-past line p l) (fields_from-past line _ (omega (arith, l))))

  -- the field there: empty past the line's end
  get_or-fields_from : get_or (fields_from line p) 0 [] ≡ up_to 9 (drop p line)
  get_or-fields_from = (at_place _ refl).0

  fields_from-behind : fields_from line (behind line p) ≡ drop 1 (fields_from line p)
  fields_from-behind = (at_place _ refl).1

-- The first three fields

module _ (line : List ℕ) where
  pub first_field : up_to 9 line ≡ get_or (fields_of line) 0 []
  first_field = sym (get_or-fields_from line 0) ∙ ap (λ (fs : List (List ℕ)). get_or fs 0 []) (fields_from-zero line)

  pub second-field : up_to 9 (drop (behind line 0) line) ≡ get_or (fields_of line) 1 []
  second-field =
      sym (get_or-fields_from line (behind line 0))
      ∙ rw (fields_from-behind line 0, fields_from-zero line) (get_or-drop 1 (fields_of line) 0 [])

  pub fields_from-third_at : fields_from line (third_at line) ≡ drop 2 (fields_of line)
  fields_from-third_at =
      rw (fields_from-behind line (behind line 0), fields_from-behind line 0, fields_from-zero line) (drop-drop 1 1 (fields_of line))
