-- The axis line (the scope, "Plans and images" and refusals 20 to 23), over the fields of a line.
-- Assumes nothing.
use Rattle.std.specs.Prelude.{Bool, true, cond, not, ◌||◌, List, [], ◌∷◌, map, ℕ, suc, eqb, ltb, leb, length, drop, set}
use Rattle.std.specs.Prelude.{Result, Ok, Err}
use Rattle.lists.specs.Search.{any}
use Rattle.text.specs.Text.{same}
use Rattle.names.specs.Names.{name_count}
use Rattle.points.specs.Axes.{Axis, axis_length, most_axes, most_values}
use Rattle.points.specs.OneToOne.{too_large, repeats}
use Rattle.tabs.specs.Fields.{field_value, no_number}
use Rattle.line.specs.Words.{axis_word}
use Rattle.line.specs.Line.{name_of}
use Rattle.answers.specs.declared.Refused.{Refused}
use Rattle.answers.specs.declared.Refused.TheVariants.{Form, Name, Value, Count}
use Rattle.axis.specs.declared.AxisLine.{AxisLine}

-- `axis`, a name, then one or more values
unfoldable pub values_of : List (List ℕ) → List ℕ
values_of fields = map field_value (drop 2 fields)

abbrev pub axis_of : List (List ℕ) → Axis
axis_of fields = record { name = name_of fields; values = values_of fields }

-- 20: another form, an empty name, a value that is no number
unfoldable pub bad_form : List (List ℕ) → Bool
bad_form (word ∷ name ∷ v ∷ vs) =
    not (same word axis_word) || same name [] || any no_number (v ∷ vs)
bad_form [] = true
bad_form (word ∷ []) = true
bad_form (word ∷ name ∷ []) = true

-- 21: the name is unknown or came before
abbrev pub bad_name : (ℕ → Bool) → ℕ → Bool
bad_name came name = leb name_count name || came name

-- 22: a value is too large for its name, or stands twice on its axis
abbrev pub bad_values : Axis → Bool
bad_values a = too_large a || repeats a

-- 23: more than 8 axes, or more than 64 values on one
abbrev pub too_many : ℕ → Axis → Bool
too_many axes a = leb most_axes axes || ltb most_values (axis_length a)

-- an axis line, where some names came before on so many axes: the refusal with the lowest number
-- that applies, or its name's number and how many values it has
unfoldable pub axis_line : (ℕ → Bool) → ℕ → List (List ℕ) → Result AxisLine Refused
axis_line came axes fields =
    cond (bad_form fields) (Err Form) (
    cond (bad_name came (name_of fields)) (Err Name) (
    cond (bad_values (axis_of fields)) (Err Value) (
    cond (too_many axes (axis_of fields)) (Err Count)
    (Ok (record { name = name_of fields; count = axis_length (axis_of fields) })))))

-- after these axes
abbrev pub axis_after : List Axis → List (List ℕ) → Result AxisLine Refused
axis_after axes fields =
    axis_line (λ name. any (λ (a : Axis). eqb a.name name) axes) (length axes) fields

-- numbers stored from an index on, as far as there is room
unfoldable pub stored_at : ℕ → List ℕ → List ℕ → List ℕ
stored_at at [] t = t
stored_at at (v ∷ vs) t = stored_at (suc at) vs (set t at v)
