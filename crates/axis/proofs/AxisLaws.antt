-- Laws of `specs/Axis.antt`. No contract cites this file. Assumes nothing.
use mathlib.Core.Path.{◌≡◌, refl, sym, ◌∙◌}
use mathlib.Core.Bool.{Bool, true, false, not, ◌||◌}
use mathlib.Core.List.{List, [], ◌∷◌, map}
use Prim.Native.Nat.{ℕ, suc, ◌+◌, ◌-◌, ◌<◌, ◌≤◌, min}
use native.Mathlib.Numerals.{add-one}
use native.Mathlib.Omega.{arith}
use borrow.Author.Tests.{ne_eqb, ltb-false}
use Rattle.lists.proofs.TestLaws.{or-eq-false}
use native.Mathlib.Nat.{min-eq_right}
use lib.Dec.{eqb, leb}
use lib.ListN.{length, get_or, take, drop, set}
use lib.Seq.{set_out, take-nil}
use Rattle.lists.specs.Search.{any}
use Rattle.text.specs.Text.{up_to, same}
use Rattle.line.specs.Words.{axis_word}
use Rattle.points.specs.Axes.{axis_length, most_axes, most_values}
use Rattle.tabs.specs.Fields.{field_value, no_number}
use Rattle.line.specs.Line.{name_of}
use Rattle.std.specs.Prelude.{Ok, Err}
use Rattle.answers.specs.declared.Refused.TheVariants.{Form, Name, Value, Count}
use Rattle.axis.specs.Axis.{axis_of, bad_form, bad_name, bad_values, too_many, axis_line, stored_at}
use Rattle.tabs.specs.Fields.{fields_from}
use Rattle.tabs.proofs.FieldsLaws.{fields_from-past, fields_from-cons}

-- A line of three fields or more

pub bad_form-few : (fields : List (List ℕ)) → drop 2 fields ≡ [] → bad_form fields ≡ true
unfolding bad_form
bad_form-few [] e = refl
bad_form-few (word ∷ []) e = refl
bad_form-few (word ∷ name ∷ []) e = refl
bad_form-few (word ∷ name ∷ v ∷ vs) e = let z : ◌≡◌ {A = ℕ} 0 1 = cc in absurd (omega arith)

bad_form-some : (fields : List (List ℕ)) (v : List ℕ) (vs : List (List ℕ)) → drop 2 fields ≡ v ∷ vs
    → bad_form fields ≡ (not (same (get_or fields 0 []) axis_word) || same (get_or fields 1 []) [] || any no_number (drop 2 fields))
unfolding bad_form
bad_form-some [] v vs e = let z : ◌≡◌ {A = ℕ} 0 1 = cc in absurd (omega arith)
bad_form-some (word ∷ []) v vs e = let z : ◌≡◌ {A = ℕ} 0 1 = cc in absurd (omega arith)
bad_form-some (word ∷ name ∷ []) v vs e = let z : ◌≡◌ {A = ℕ} 0 1 = cc in absurd (omega arith)
bad_form-some (word ∷ name ∷ f ∷ fs) v vs e = refl

pub bad_form-is : (fields : List (List ℕ)) (v : List ℕ) (vs : List (List ℕ)) {other empty bad : Bool} → drop 2 fields ≡ v ∷ vs
    → other ≡ not (same (get_or fields 0 []) axis_word) → empty ≡ same (get_or fields 1 []) [] → bad ≡ any no_number (drop 2 fields)
    → (other || empty || bad) ≡ bad_form fields
bad_form-is fields v vs some w e b = rw (w, e, b) (sym (bad_form-some fields v vs some))

pub same-empty : (name : List ℕ) → same name [] ≡ eqb (length name) 0
same-empty [] = refl
same-empty (c ∷ cs) = rw (ne_eqb (suc (length cs)) 0 (λ e. omega arith))

-- Numbers stored: past a table's end, and the first of some

pub stored_at-past : (at : ℕ) (vs t : List ℕ) → length t ≤ at → stored_at at vs t ≡ t
unfolding stored_at
stored_at-past at [] t h = refl
stored_at-past at (v ∷ vs) t h = rw (set_out t at v h) (stored_at-past (suc at) vs t (omega arith))

-- with v the value of the field at a place of the line, and e its end
pub stored_at-cons : (line : List ℕ) (p e v i : ℕ) (t : List ℕ) → e ≡ p + length (up_to 9 (drop p line)) → p ≤ length line
    → v ≡ field_value (take (e - p) (drop p line))
    → stored_at i (map field_value (fields_from line p)) t ≡ stored_at (i + 1) (map field_value (fields_from line (e + 1))) (set t i v)
unfolding stored_at
stored_at-cons line p e v i t is l at = rw (fields_from-cons line p e is l, at, add-one i)

-- how many fit: none past the line's end
pub fitting-past : (line : List ℕ) (p n : ℕ) → length line < p → length (take n (map field_value (fields_from line p))) ≡ 0
fitting-past line p n h = rw (fields_from-past line p h, take-nil)

-- and from an index on in a table of n numbers
pub fitting-cons : (line : List ℕ) (p e i n : ℕ) → e ≡ p + length (up_to 9 (drop p line)) → p ≤ length line → i < n
    → length (take (n - i) (map field_value (fields_from line p)))
    ≡ suc (length (take (n - (i + 1)) (map field_value (fields_from line (e + 1)))))
fitting-cons line p e i n is l h =
    let k : n - i ≡ suc (n - (i + 1)) = omega arith in
    rw (fields_from-cons line p e is l, k)

-- What an axis line is, by its tests in their order

module _ (came : ℕ → Bool) (axes : ℕ) (fields : List (List ℕ)) where
  pub form-refused : bad_form fields ≡ true → Err Form ≡ axis_line came axes fields
  unfolding axis_line
  form-refused f = rw f

  module _ (f : bad_form fields ≡ false) where
    pub name-refused : bad_name came (name_of fields) ≡ true → Err Name ≡ axis_line came axes fields
    unfolding axis_line
    name-refused n = rw (f, n)

    module _ (n : bad_name came (name_of fields) ≡ false) where
      pub value-refused : bad_values (axis_of fields) ≡ true → Err Value ≡ axis_line came axes fields
      unfolding axis_line
      value-refused v = rw (f, n, v)

      module _ (v : bad_values (axis_of fields) ≡ false) where
        pub count-refused : too_many axes (axis_of fields) ≡ true → Err Count ≡ axis_line came axes fields
        unfolding axis_line
        count-refused m = rw (f, n, v, m)

        -- no more than 64 values are left, so that the first block has them all
        pub line-taken : {name count : ℕ} → too_many axes (axis_of fields) ≡ false → name ≡ name_of fields
            → count ≡ min most_values (axis_length (axis_of fields))
            → Ok (record { name = name; count = count }) ≡ axis_line came axes fields
        unfolding axis_line
        line-taken m is counted =
            let few = ltb-false _ _ (or-eq-false (leb most_axes axes) _ m).1 in
            rw (f, n, v, m, is, counted ∙ min-eq_right few)
