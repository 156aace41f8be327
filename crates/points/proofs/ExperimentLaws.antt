-- Laws of an experiment's values (`specs/Points.antt`). No contract cites this file. Assumes nothing.
use mathlib.Core.Path.{◌≡◌, refl, ◌∙◌}
use mathlib.Core.Bool.{false}
use mathlib.Core.List.{List, [], ◌∷◌}
use Prim.Native.Nat.{ℕ, zero, suc, ◌<◌}
use native.Mathlib.Omega.{arith}
use borrow.Author.Tests.{leb-false, eqb-false, lt-leb}
use lib.Dec.{leb}
use lib.ListN.{length, get_or, set, length-set}
use lib.Seq.{get_or-set_same, get_or-set_other}
use Rattle.lists.specs.Search.{any}
use Rattle.lists.proofs.TestLaws.{or-eq-false}
use Rattle.lists.proofs.SearchLaws.{any-get_or}
use Rattle.names.specs.Names.{defaults, limit}
use Rattle.names.proofs.NamesLaws.{limit-pos, default-lt-limit}
use Rattle.points.specs.Axes.{Axis, value_at, axis_values}
use Rattle.points.specs.Points.{indices, assigned, experiment}
use Rattle.points.specs.OneToOne.{is_named, too_large, Sound}
use Rattle.points.proofs.AxesLaws.{get_or-axis_values}
use Rattle.points.proofs.SoundLaws.{First, first-sound, later-sound}

-- What the assignments leave

pub length-assigned : (axes : List Axis) (is vs : List ℕ) → length (assigned axes is vs) ≡ length vs
unfolding assigned
length-assigned [] is vs = refl
length-assigned (a ∷ later) [] vs = refl
length-assigned (a ∷ later) (i ∷ is) vs = length-assigned later is (set vs _ _) ∙ length-set vs _ _

-- a name of no axis keeps its value
assigned-other : (axes : List Axis) (is vs : List ℕ) (i : ℕ) → any (is_named i) axes ≡ false
    → get_or (assigned axes is vs) i 0 ≡ get_or vs i 0
unfolding any assigned
assigned-other [] is vs i e = refl
assigned-other (a ∷ later) [] vs i e = refl
assigned-other (a ∷ later) (j ∷ is) vs i e =
    let p = or-eq-false (is_named i a) _ e in
    assigned-other later is (set vs _ _) i p.1 ∙ get_or-set_other vs a.name i _ 0 (eqb-false i a.name p.0)

-- the first axis's name has the value that it was given
pub assigned-first : (a : Axis) (later : List Axis) (is vs : List ℕ) (v : ℕ) → First a later → length vs ≡ 14
    → get_or (assigned later is (set vs a.name v)) a.name 0 ≡ v
assigned-first a later is vs v f e =
    assigned-other later is (set vs a.name v) a.name f.distinct ∙ get_or-set_same vs a.name v 0 (omega (arith, f.known, e))

-- The fourteen values of a point

pub length-experiment : (axes : List Axis) (n : ℕ) → length (experiment axes n) ≡ 14
unfolding experiment
length-experiment axes n = length-assigned axes (indices axes n) defaults

-- a name of no axis has its default
pub experiment-other : (axes : List Axis) (n i : ℕ) → any (is_named i) axes ≡ false → get_or (experiment axes n) i 0 ≡ get_or defaults i 0
unfolding experiment
experiment-other axes n i e = assigned-other axes (indices axes n) defaults i e

-- an axis's name has the axis's value at its index
assigned-named : (axes : List Axis) (n : ℕ) (vs : List ℕ) → Sound axes → length vs ≡ 14 → (d : Axis) (j : ℕ) → j < length axes
    → get_or (assigned axes (indices axes n) vs) (get_or axes j d).name 0 ≡ value_at (get_or axes j d) (get_or (indices axes n) j 0)
unfolding indices assigned
assigned-named [] n vs s e d j h = absurd (omega arith)
assigned-named (a ∷ later) n vs s e d zero h = assigned-first a later _ vs _ (first-sound a later s) e
assigned-named (a ∷ later) n vs s e d (suc j) h =
    assigned-named later _ (set vs _ _) (later-sound a later s) (length-set vs _ _ ∙ e) d j (omega arith)

pub experiment-named : (axes : List Axis) (n : ℕ) → Sound axes → (d : Axis) (j : ℕ) → j < length axes
    → get_or (experiment axes n) (get_or axes j d).name 0 ≡ value_at (get_or axes j d) (get_or (indices axes n) j 0)
unfolding experiment
experiment-named axes n s d j h = assigned-named axes n defaults s refl d j h

-- Every value is below the limit of its name

-- what holds of an index and what is stored there, and of the others as they are
set-each : (P : ℕ → ℕ → Type 0) (vs : List ℕ) (i v : ℕ) → P i v → ((k : ℕ) → P k (get_or vs k 0)) → (k : ℕ) → P k (get_or (set vs i v) k 0)
set-each P [] i v h f k = f k
set-each P (x ∷ vs) zero v h f zero = h
set-each P (x ∷ vs) zero v h f (suc k) = f (suc k)
set-each P (x ∷ vs) (suc i) v h f zero = f zero
set-each P (x ∷ vs) (suc i) v h f (suc k) = set-each (λ j. P (suc j)) vs i v h (λ j. f (suc j)) k

value-lt-limit : (a : Axis) (i : ℕ) → too_large a ≡ false → value_at a i < limit a.name
value-lt-limit a i e =
    let zero-fits = lt-leb (limit a.name) 0 (limit-pos a.name) in
    rw (← get_or-axis_values a i)
    (leb-false (limit a.name) _ (any-get_or (leb (limit a.name)) 0 (axis_values a) i zero-fits e))

assigned-lt-limit : (axes : List Axis) (is vs : List ℕ) → any too_large axes ≡ false → ((i : ℕ) → get_or vs i 0 < limit i)
    → (i : ℕ) → get_or (assigned axes is vs) i 0 < limit i
unfolding any assigned
assigned-lt-limit [] is vs e f = f
assigned-lt-limit (a ∷ later) [] vs e f = f
assigned-lt-limit (a ∷ later) (j ∷ is) vs e f =
    let p = or-eq-false (too_large a) _ e in
    assigned-lt-limit later is (set vs a.name (value_at a j)) p.1
    (set-each (λ (k v : ℕ). v < limit k) vs a.name _ (value-lt-limit a j p.0) f)

pub experiment-lt-limit : (axes : List Axis) (n i : ℕ) → any too_large axes ≡ false → get_or (experiment axes n) i 0 < limit i
unfolding experiment
experiment-lt-limit axes n i s = assigned-lt-limit axes (indices axes n) defaults s default-lt-limit i
