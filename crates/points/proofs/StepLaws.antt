-- Laws of `specs/Table.antt` as the code goes through a table: the test of an axis, then the later axes. No contract cites this file.
-- Assumes nothing.
use mathlib.Core.Path.{◌≡◌, refl, sym, ap, ◌∙◌}
use mathlib.Core.Bool.{Bool, true, false, cond, not, ◌&&◌, and-false, and-eq-true_iff}
use mathlib.Core.List.{List}
use Prim.Native.Nat.{ℕ, zero, suc, ◌+◌, ◌-◌, ◌*◌, ◌/◌, ◌%◌, ◌^◌, ◌<◌, ◌≤◌, min}
use native.Mathlib.Nat.{min-eq_left, mul-le-mul, mul-zero, mul-one, one-mul, mul_assoc, mul-pos, mod-lt, mul-div_right, div-one}
use native.Mathlib.Nat.{div-lt_iff_lt-mul, pow-suc, pow-le-pow_right}
use native.Mathlib.Numerals.{add-one}
use native.Mathlib.Omega.{arith}
use borrow.Author.Tests.{not-true, not-false, ltb-true, leb-true, lt-leb}
use lib.Dec.{ltb, leb, leb-suc-suc}
use lib.ListN.{length, get_or, set, take, drop, length-drop}
use lib.Seq.{take_all, length-take-le, get_or-take, get_or-drop, drop-drop}
use Rattle.lists.specs.Search.{any}
use Rattle.names.specs.Names.{limit}
use Rattle.points.specs.Axes.{axis_length, value_at, most_axes, most_values, count}
use Rattle.points.specs.Points.{indices, assigned}
use Rattle.points.specs.OneToOne.{too_large}
use Rattle.points.proofs.AxesLaws.{axis_length-listed, axis_values-listed}
use Rattle.points.specs.Table.{axis_in, axes_in, later_in, length_in, value_in, size_in, holds_axis, holds}

-- A part of a slice from i on

pub part-drop : (i : ℕ) (t : List ℕ) → take (length t - i) (drop i t) ≡ drop i t
part-drop i t = take_all (length t - i) (drop i t) (omega (arith, length-drop i t))

-- The test of an axis

pub record Held (t : List ℕ) : Type 0 where
  pub named : get_or t 0 0 < 14
  pub some : 1 ≤ length_in t
  pub few : length_in t ≤ most_values
  pub whole : size_in t ≤ length t
  pub small : too_large (axis_in t) ≡ false

pub held : (t : List ℕ) → holds_axis t ≡ true → Held t
unfolding holds_axis
held t e =
    let s = (and-eq-true_iff _ _).0 e in
    let p = (and-eq-true_iff _ _).0 s.0 in
    let q = (and-eq-true_iff _ _).0 p.0 in
    let r = (and-eq-true_iff _ _).0 q.0 in
    record {
      named = ltb-true _ _ r.0;
      some = leb-true _ _ r.1;
      few = leb-true _ _ q.1;
      whole = leb-true _ _ p.1;
      small = not-true (too_large (axis_in t)) s.1;
    }

-- its numbers end inside the table
pub end-held : (t : List ℕ) → Held t → min (size_in t) (length t) ≡ size_in t
end-held t h = min-eq_left h.whole

-- from a call's answer and the branch after it
pub held_of : {b : Bool} (t : List ℕ) → b ≡ holds_axis t → not b ≡ false → holds_axis t ≡ true
held_of {b} t e n = sym e ∙ not-false b n

pub not-held-of : {b : Bool} (t : List ℕ) → b ≡ holds_axis t → not b ≡ true → holds_axis t ≡ false
not-held-of {b} t e n = sym e ∙ not-true b n

pub holds_axis-short : (t : List ℕ) → length t < 2 → false ≡ holds_axis t
unfolding holds_axis
holds_axis-short t h =
    rw (
      lt-leb (size_in t) (length t) (omega arith),
      and-false
          (ltb (get_or t 0 0) 14 && leb 1 (length_in t) && leb (length_in t) most_values),
    )

leb-sub : (v l : ℕ) → 2 ≤ l → leb v (l - 2) ≡ leb (2 + v) l
leb-sub v zero h = absurd (omega arith)
leb-sub v (suc zero) h = absurd (omega arith)
leb-sub v (suc (suc l)) h = rw (less l, more v, leb-suc-suc, leb-suc-suc)
  where
    less : (n : ℕ) → suc (suc n) - 2 ≡ n
    less n = omega arith

    more : (n : ℕ) → 2 + n ≡ suc (suc n)
    more n = omega arith

-- the test of all but the values, with no sum
abbrev shape : List ℕ → Bool
shape t = ltb (get_or t 0 0) 14 && leb 1 (length_in t) && leb (length_in t) most_values && leb (length_in t) (length t - 2)

module _ (t : List ℕ) (l : 2 ≤ length t) where
  holds_axis-shape : holds_axis t ≡ (shape t && not (too_large (axis_in t)))
  unfolding holds_axis
  holds_axis-shape = rw (leb-sub (length_in t) (length t) l)

  pub not-shaped : not (shape t) ≡ true → false ≡ holds_axis t
  not-shaped e = sym (holds_axis-shape ∙ rw (not-true (shape t) e))

  pub shaped-small : not (shape t) ≡ false → {b : Bool} → b ≡ any (leb (limit (get_or t 0 0))) (take (size_in t - 2) (drop 2 t))
      → not b ≡ holds_axis t
  shaped-small e {b} h =
      let n : size_in t - 2 ≡ length_in t = omega arith in
      sym (holds_axis-shape ∙ rw (not-false (shape t) e, h, n, axis_values-listed (axis_in t)))

-- The axes, one after another

suc-pred : (k : ℕ) → suc k - 1 ≡ k
suc-pred k = omega arith

axis_length-held : (t : List ℕ) → Held t → axis_length (axis_in t) ≡ length_in t
axis_length-held t h = axis_length-listed (axis_in t) ∙ length-take-le (length_in t) (drop 2 t) (omega (arith, h.whole, length-drop 2 t))

-- the count of the first k axes; 0 where they are not there
abbrev pub count_in : ℕ → List ℕ → ℕ
count_in k t = cond (holds k t) (count (axes_in k t)) 0

module _ (t : List ℕ) where
  count_in-none : (k : ℕ) → k ≡ 0 → 1 ≡ count_in k t
  unfolding holds axes_in count
  count_in-none k e = rw e

  count_in-not : (k : ℕ) → (k ≡ 0 → ⊥) → holds_axis t ≡ false → 0 ≡ count_in k t
  unfolding holds
  count_in-not zero n e = absurd (n refl)
  count_in-not (suc k) n e = rw e

  pub count_in-next : (k : ℕ) → (k ≡ 0 → ⊥) → holds_axis t ≡ true → length_in t * count_in (k - 1) (later_in t) ≡ count_in k t
  unfolding holds axes_in count
  count_in-next zero n e = absurd (n refl)
  count_in-next (suc k) n e = rw (suc-pred k, e) (go (holds k (later_in t)))
    where
      go : (b : Bool)
          → length_in t * cond b (count (axes_in k (later_in t))) 0 ≡ cond b (axis_length (axis_in t) * count (axes_in k (later_in t))) 0
      go true = rw (axis_length-held t (held t e))
      go false = mul-zero (length_in t)

eight-fit : (k n : ℕ) → k ≤ most_axes → n ≤ most_values ^ k → n < 2 ^ 64
eight-fit k n h e = omega (arith, pow-le-pow_right {n = most_values} (omega arith) {i = k} {j = most_axes} h)

-- The loop over the axes: i of k are counted, and the table's rest starts at `at`

pub record Counted (t : List ℕ) (k i n at : ℕ) : Type 0 where
  pub few : i ≤ k
  pub inside : at ≤ length t
  pub full : n ≤ most_values ^ i
  pub rest : n * count_in (k - i) (drop at t) ≡ count_in k t

module _ (t : List ℕ) (k : ℕ) where
  module _ {i n at : ℕ} (c : Counted t k i n at) where
    -- an axis that isn't there
    pub counted_stop : i < k → holds_axis (drop at t) ≡ false → 0 ≡ count_in k t
    counted_stop h e = sym (mul-zero n) ∙ ap (λ (m : ℕ). n * m) (count_in-not (drop at t) (k - i) (omega arith) e) ∙ c.rest

    pub counted-end : k ≤ i → n ≡ count_in k t
    counted-end h = sym (mul-one n) ∙ ap (λ (m : ℕ). n * m) (count_in-none (drop at t) (k - i) (omega (arith, c.few))) ∙ c.rest

    module _ (h : i < k) (e : holds_axis (drop at t) ≡ true) where
      counted-inside : (length_in (drop at t) ≤ most_values) × (at + size_in (drop at t) ≤ length t)
      counted-inside = ((held (drop at t) e).few, omega (arith, (held (drop at t) e).whole, length-drop at t, c.inside))

      counted-full : n * length_in (drop at t) ≤ most_values ^ (i + 1)
      counted-full = rw (add-one i, pow-suc most_values i) (mul-le-mul c.full (held (drop at t) e).few)

      pub counted-fits : k ≤ most_axes → n * length_in (drop at t) < 2 ^ 64
      counted-fits l = eight-fit (i + 1) _ (omega arith) counted-full

      pub counted_next : Counted t k (i + 1) (n * length_in (drop at t)) (at + size_in (drop at t))
      counted_next =
          let v = length_in (drop at t) in
          let j : k - (i + 1) ≡ k - i - 1 = omega arith in
          record {
            few = omega arith;
            inside = counted-inside.1;
            full = counted-full;
            rest =
                rw (mul_assoc n v, j, ← drop-drop (2 + v) at t)
                (ap (λ (m : ℕ). n * m) (count_in-next (drop at t) (k - i) (omega arith) e) ∙ c.rest);
          }

-- The decoding, one axis after another

pub count-pos : (k : ℕ) (t : List ℕ) → holds k t ≡ true → 0 < count (axes_in k t)
unfolding holds axes_in count
count-pos zero t e = omega arith
count-pos (suc k) t e =
    let p = (and-eq-true_iff _ _).0 e in
    mul-pos (rw (axis_length-held t (held t p.0)) (held t p.0).some) (count-pos k (later_in t) p.1)

-- a division by the first axis's length leaves the count of the later axes
count-later : (k : ℕ) (t : List ℕ) → Held t → count (axes_in (suc k) t) / length_in t ≡ count (axes_in k (later_in t))
unfolding axes_in count
count-later k t h = rw (axis_length-held t h) (mul-div_right (count (axes_in k (later_in t))) h.some)

-- what is known of point n, of `total` points, of a table that has an axis and then j more
pub record Decoding (j total n : ℕ) (t : List ℕ) : Type 0 where
  pub axis : Held t
  pub later : holds j (later_in t) ≡ true
  pub counted : total / length_in t ≡ count (axes_in j (later_in t))
  pub positive : 0 < total / length_in t
  pub index : n / (total / length_in t) < length_in t
  pub rest : n % (total / length_in t) < total / length_in t

pub decoding : (k total n : ℕ) (t : List ℕ) → (k ≡ 0 → ⊥) → holds k t ≡ true → total ≡ count (axes_in k t) → n < total
    → Decoding (k - 1) total n t
unfolding holds axes_in count
decoding zero total n t z e c h = absurd (z refl)
decoding (suc k) total n t z e c h =
    let p = (and-eq-true_iff _ _).0 e in
    let a = held t p.0 in
    let l = ap (λ (m : ℕ). m / length_in t) c ∙ count-later k t a in
    let q = count-pos k (later_in t) p.1 in
    rw (suc-pred k) (record {
      axis = a;
      later = p.1;
      counted = l;
      positive = rw l q;
      index = rw l ((div-lt_iff_lt-mul q).1 (rw (c, axis_length-held t a) at h));
      rest = rw l (mod-lt n q);
    })

pub assigned-none : (k n : ℕ) (t vs : List ℕ) → k ≡ 0 → vs ≡ assigned (axes_in k t) (indices (axes_in k t) n) vs
unfolding axes_in indices assigned
assigned-none k n t vs e = rw e

value_at-axis_in : (t : List ℕ) (i : ℕ) → i < length_in t → value_at (axis_in t) i ≡ value_in t i
unfolding value_at
value_at-axis_in t i h = get_or-take (length_in t) (drop 2 t) i 0 h ∙ get_or-drop 2 t i 0

-- the first axis is assigned, then the later ones
pub assigned-next : (k total n : ℕ) (t vs : List ℕ) → (k ≡ 0 → ⊥) → Decoding (k - 1) total n t
    → let later = axes_in (k - 1) (later_in t) in
    let m = total / length_in t in
    assigned later (indices later (n % m)) (set vs (get_or t 0 0) (value_in t (n / m)))
    ≡ assigned (axes_in k t) (indices (axes_in k t) n) vs
unfolding axes_in indices assigned
assigned-next zero total n t vs z d = absurd (z refl)
assigned-next (suc k) total n t vs z d = rw (← value_at-axis_in t _ d.index, d.counted, suc-pred k)

-- the last axis: the number is its index
module _ (k total n : ℕ) (t : List ℕ) (one : k ≡ 1) (d : Decoding (k - 1) total n t) where
  index-last : n / (total / length_in t) ≡ n
  unfolding axes_in count
  index-last = rw (d.counted, one) (div-one n)

  pub last-lt : n < length_in t
  last-lt = rw index-last at d.index

  pub assigned-last : (vs : List ℕ) → set vs (get_or t 0 0) (value_in t n) ≡ assigned (axes_in k t) (indices (axes_in k t) n) vs
  unfolding axes_in indices assigned
  assigned-last vs =
      rw one (ap (λ (i : ℕ). set vs (get_or t 0 0) (value_in t i)) (sym index-last)
      ∙ rw one at (assigned-next k total n t vs (omega arith) d))
