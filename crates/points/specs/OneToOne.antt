-- Points and experiments correspond one to one: the statement (the scope, "Plans and images").
-- Assumes nothing.
use Rattle.std.specs.Prelude.{◌≡◌, Bool, false, not, ◌||◌, List, ℕ, ◌≤◌, ◌<◌, ltb, leb, eqb, length, get_or}
use Rattle.lists.specs.Search.{any, any_pair}
use Rattle.names.specs.Names.{name_count, defaults, limit}
use Rattle.points.specs.Axes.{Axis, axis_length, axis_values, most_axes, most_values, count}
use Rattle.points.specs.Points.{experiment}

-- What an accepted plan's axes are

-- the name is none of the fourteen (21)
abbrev pub unknown : Axis → Bool
unknown a = leb name_count a.name

-- is i the axis's name?
abbrev pub is_named : ℕ → Axis → Bool
is_named i a = eqb i a.name

-- the name came before (21)
abbrev pub same_name : Axis → Axis → Bool
same_name a b = is_named a.name b

-- there is no value (20), or more than 64 (23)
abbrev pub bad_length : Axis → Bool
bad_length a = eqb (axis_length a) 0 || ltb most_values (axis_length a)

-- a value is too large for the name (22)
abbrev pub too_large : Axis → Bool
too_large a = any (leb (limit a.name)) (axis_values a)

-- a value stands twice (22)
abbrev pub repeats : Axis → Bool
repeats a = any_pair eqb (axis_values a)

pub record Sound (axes : List Axis) : Type 0 where
  -- there are at most 8
  pub few : length axes ≤ most_axes
  -- each has one of the fourteen names
  pub known : any unknown axes ≡ false
  -- no two have one name
  pub distinct : any_pair same_name axes ≡ false
  -- each has 1 to 64 values
  pub lengths : any bad_length axes ≡ false
  -- each value is below its name's limit
  pub small : any too_large axes ≡ false
  -- no value stands twice on its axis
  pub unrepeated : any repeats axes ≡ false

-- What an experiment of the plan is

-- does the axis's name have one of the axis's values?
abbrev pub chosen_from : List ℕ → Axis → Bool
chosen_from vs a = any (eqb (get_or vs a.name 0)) (axis_values a)

pub record Of (axes : List Axis) (vs : List ℕ) : Type 0 where
  pub fourteen : length vs ≡ name_count
  -- each axis's name has one of that axis's values
  pub chosen : any (λ a. not (chosen_from vs a)) axes ≡ false
  -- every other name has its default
  pub others : (i : ℕ) → i < name_count → any (is_named i) axes ≡ false
      → get_or vs i 0 ≡ get_or defaults i 0

-- The numbers below the count and the experiments of the plan
pub record OneToOne (axes : List Axis) : Type 0 where
  -- each number has an experiment of the plan
  pub into : (n : ℕ) → n < count axes → Of axes (experiment axes n)
  -- each experiment of the plan has a number
  pub onto : (vs : List ℕ) → Of axes vs → (n : ℕ) × (n < count axes) × (experiment axes n ≡ vs)
  -- two numbers with one experiment are the same
  pub once : (m n : ℕ) → m < count axes → n < count axes
      → experiment axes m ≡ experiment axes n → m ≡ n

-- the theorem: of every accepted plan
abbrev pub PointsOneToOne : Type 0
PointsOneToOne = (axes : List Axis) → Sound axes → OneToOne axes
