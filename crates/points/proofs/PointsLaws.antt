-- Laws of `specs/Points.antt`: a number below the count and its indices give each other. No contract cites this file. Assumes nothing.
use mathlib.Core.Path.{◌≡◌, refl, ap, ap₂, ◌∙◌}
use mathlib.Core.Bool.{false}
use mathlib.Core.List.{List, [], ◌∷◌}
use Prim.Native.Nat.{ℕ, ◌+◌, ◌*◌, ◌/◌, ◌%◌, ◌^◌, ◌<◌, ◌≤◌}
use native.Mathlib.Nat.{div-add-mod', mod-lt, mul-pos, mul-le-mul, div-lt_iff_lt-mul, pow-succ', pow-le-pow_right}
use native.Mathlib.Omega.{arith}
use lib.Arith.{digits_lt, digits_div, digits_mod}
use lib.ListN.{length}
use Rattle.lists.specs.Search.{any}
use Rattle.lists.proofs.TestLaws.{or-eq-false}
use Rattle.points.specs.Axes.{Axis, axis_length, most_axes, most_values, count}
use Rattle.points.specs.Points.{indices}
use Rattle.points.specs.OneToOne.{bad_length}
use Rattle.points.proofs.AxesLaws.{good_length}

-- each axis has a value
abbrev pub Filled : List Axis → Type 0
Filled [] = Unit {0}
Filled (a ∷ later) = (0 < axis_length a) × Filled later

-- an index for each axis, below its length
abbrev pub InRange : List Axis → List ℕ → Type 0
InRange [] [] = Unit {0}
InRange [] (i ∷ is) = ⊥
InRange (a ∷ later) [] = ⊥
InRange (a ∷ later) (i ∷ is) = (i < axis_length a) × InRange later is

-- the number of a point, from its indices
unfoldable pub number_of : List Axis → List ℕ → ℕ
number_of [] is = 0
number_of (a ∷ later) [] = 0
number_of (a ∷ later) (i ∷ is) = i * count later + number_of later is

pub count-pos : (axes : List Axis) → Filled axes → 0 < count axes
unfolding count
count-pos [] f = omega arith
count-pos (a ∷ later) f = mul-pos f.0 (count-pos later f.1)

pub count-le : (axes : List Axis) → any bad_length axes ≡ false → count axes ≤ most_values ^ length axes
unfolding any count
count-le [] e = omega arith
count-le (a ∷ later) e =
    let p = or-eq-false (bad_length a) _ e in
    rw (pow-succ' most_values (length later)) (mul-le-mul (good_length a p.0).1 (count-le later p.1))

pub count-le-eight : (axes : List Axis) → length axes ≤ most_axes → any bad_length axes ≡ false → count axes ≤ most_values ^ most_axes
count-le-eight axes h
    e = omega (arith, count-le axes e, pow-le-pow_right {n = most_values} (omega arith) {i = length axes} {j = most_axes} h)

pub indices-in_range : (axes : List Axis) → Filled axes → (n : ℕ) → n < count axes → InRange axes (indices axes n)
unfolding count indices
indices-in_range [] f n h = tt
indices-in_range (a ∷ later) f n h =
    let p = count-pos later f.1 in ((div-lt_iff_lt-mul p).1 h, indices-in_range later f.1 (n % count later) (mod-lt n p))

pub number_of-indices : (axes : List Axis) → Filled axes → (n : ℕ) → n < count axes → number_of axes (indices axes n) ≡ n
unfolding count indices number_of
number_of-indices [] f n h = omega arith
number_of-indices (a ∷ later) f n h =
    ap (λ (m : ℕ). n / count later * count later + m) (number_of-indices later f.1 (n % count later) (mod-lt n (count-pos later f.1)))
    ∙ div-add-mod' n (count later)

pub number_of-lt : (axes : List Axis) (is : List ℕ) → InRange axes is → number_of axes is < count axes
unfolding count number_of
number_of-lt [] [] r = omega arith
number_of-lt [] (i ∷ is) r = absurd r
number_of-lt (a ∷ later) [] r = absurd r
number_of-lt (a ∷ later) (i ∷ is) r = digits_lt r.0 (number_of-lt later is r.1)

pub indices-number_of : (axes : List Axis) (is : List ℕ) → InRange axes is → indices axes (number_of axes is) ≡ is
unfolding indices number_of
indices-number_of [] [] r = refl
indices-number_of [] (i ∷ is) r = absurd r
indices-number_of (a ∷ later) [] r = absurd r
indices-number_of (a ∷ later) (i ∷ is) r =
    let h = number_of-lt later is r.1 in
    ap₂ ◌∷◌ (digits_div i h) (ap (indices later) (digits_mod i h) ∙ indices-number_of later is r.1)
