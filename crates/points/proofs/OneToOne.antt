-- Points and experiments correspond one to one (`specs/OneToOne.antt`): proof. No contract cites this file. Assumes nothing.
use mathlib.Core.Path.{◌≡◌, refl, sym, ap, ap₂, ◌∙◌}
use mathlib.Core.Bool.{Bool, true, false, not, or-true}
use mathlib.Core.List.{List, [], ◌∷◌}
use Prim.Native.Nat.{ℕ, zero, suc, ◌<◌}
use native.Mathlib.Omega.{arith}
use borrow.Author.Tests.{not-false, ltb-true, leb-false, eqb-true, eqb-false, eq-eqb}
use lib.Dec.{eqb}
use lib.ListN.{length, get_or, set, length-set}
use lib.Seq.{get_or-set_same, get_or-set_other, ext_get_or}
use Rattle.lists.specs.Search.{any, any_pair, first}
use Rattle.lists.proofs.TestLaws.{or-eq-false, eqb_comm}
use Rattle.lists.proofs.SearchLaws.{any-first, get_or-first}
use Rattle.names.specs.Names.{defaults}
use Rattle.points.specs.Axes.{Axis, axis_length, value_at, axis_values, count}
use Rattle.points.specs.Points.{indices, assigned, experiment}
use Rattle.points.specs.OneToOne.{is_named, unknown, Sound, chosen_from, Of, PointsOneToOne}
use Rattle.points.proofs.AxesLaws.{length-axis_values, get_or-axis_values}
use Rattle.points.proofs.PointsLaws.{InRange, number_of, indices-in_range, number_of-indices, number_of-lt, indices-number_of}
use Rattle.points.proofs.SoundLaws.{first-sound, later-sound, sound-filled}
use Rattle.points.proofs.ExperimentLaws.{length-assigned, assigned-first, length-experiment, experiment-other}

-- Searches

any-of-get_or : (p : ℕ → Bool) (l : List ℕ) (i : ℕ) → i < length l → p (get_or l i 0) ≡ true → any p l ≡ true
unfolding any
any-of-get_or p [] i h e = absurd (omega arith)
any-of-get_or p (x ∷ l) zero h e = rw e
any-of-get_or p (x ∷ l) (suc i) h e = rw (any-of-get_or p l i (omega arith) e) (or-true (p x))

get_or-of-none : (p : ℕ → Bool) (l : List ℕ) (i : ℕ) → i < length l → any p l ≡ false → p (get_or l i 0) ≡ false
unfolding any
get_or-of-none p [] i h e = absurd (omega arith)
get_or-of-none p (x ∷ l) zero h e = (or-eq-false (p x) _ e).0
get_or-of-none p (x ∷ l) (suc i) h e = get_or-of-none p l i (omega arith) (or-eq-false (p x) _ e).1

-- a value that stands once is found where it is
first-get_or : (l : List ℕ) (i : ℕ) → any_pair eqb l ≡ false → i < length l → first (eqb (get_or l i 0)) l ≡ i
unfolding any_pair first
first-get_or [] i d h = absurd (omega arith)
first-get_or (x ∷ l) zero d h = rw (eq-eqb x x refl)
first-get_or (x ∷ l) (suc i) d h =
    let p = or-eq-false (any (eqb x) l) _ d in
    rw (eqb_comm (get_or l i 0) x ∙ get_or-of-none (eqb x) l i (omega arith) p.0, first-get_or l i p.1 (omega arith))

-- and so of an axis's values
any-value_at : (a : Axis) (i : ℕ) → i < axis_length a → any (eqb (value_at a i)) (axis_values a) ≡ true
any-value_at a i h =
    any-of-get_or (eqb (value_at a i)) (axis_values a) i (rw (length-axis_values a) h)
    (rw (get_or-axis_values a i) (eq-eqb (value_at a i) (value_at a i) refl))

first-value_at : (a : Axis) (i : ℕ) → any_pair eqb (axis_values a) ≡ false → i < axis_length a
    → first (eqb (value_at a i)) (axis_values a) ≡ i
first-value_at a i d h =
    ap (λ (v : ℕ). first (eqb v) (axis_values a)) (sym (get_or-axis_values a i))
    ∙ first-get_or (axis_values a) i d (rw (length-axis_values a) h)

-- each axis's name has one of its values
assigned-chosen : (axes : List Axis) (is vs : List ℕ) → Sound axes → length vs ≡ 14 → InRange axes is
    → any (λ a. not (chosen_from (assigned axes is vs) a)) axes ≡ false
unfolding any assigned
assigned-chosen [] is vs s e r = refl
assigned-chosen (a ∷ later) [] vs s e r = absurd r
assigned-chosen (a ∷ later) (i ∷ is) vs s e r =
    let v = value_at a i in
    rw (assigned-first a later is vs v (first-sound a later s) e, any-value_at a i r.0)
    (assigned-chosen later is (set vs a.name v) (later-sound a later s) (length-set vs _ _ ∙ e) r.1)

-- The indices of an experiment: where each axis has its name's value

unfoldable indices_of : List Axis → List ℕ → List ℕ
indices_of [] vs = []
indices_of (a ∷ later) vs = first (eqb (get_or vs a.name 0)) (axis_values a) ∷ indices_of later vs

indices_of-assigned : (axes : List Axis) (is vs : List ℕ) → Sound axes → length vs ≡ 14 → InRange axes is
    → indices_of axes (assigned axes is vs) ≡ is
unfolding assigned indices_of
indices_of-assigned [] [] vs s e r = refl
indices_of-assigned [] (i ∷ is) vs s e r = absurd r
indices_of-assigned (a ∷ later) [] vs s e r = absurd r
indices_of-assigned (a ∷ later) (i ∷ is) vs s e r =
    let f = first-sound a later s in
    let v = value_at a i in
    ap₂ ◌∷◌
    (ap (λ (w : ℕ). first (eqb w) (axis_values a)) (assigned-first a later is vs v f e) ∙ first-value_at a i f.once r.0)
    (indices_of-assigned later is (set vs a.name v) (later-sound a later s) (length-set vs _ _ ∙ e) r.1)

indices_of-in_range : (axes : List Axis) (vs : List ℕ) → any (λ a. not (chosen_from vs a)) axes ≡ false → InRange axes (indices_of axes vs)
unfolding any indices_of
indices_of-in_range [] vs e = tt
indices_of-in_range (a ∷ later) vs e =
    let p = or-eq-false (not (chosen_from vs a)) _ e in
    let j = first (eqb (get_or vs a.name 0)) (axis_values a) in
    let h : j < length (axis_values a) = ltb-true _ _ (sym (any-first _ (axis_values a)) ∙ not-false _ p.0) in
    (rw (length-axis_values a) at h, indices_of-in_range later vs p.1)

-- assigning them gives the experiment back, from any values that agree with it where no axis has the name
assigned-indices_of : (axes : List Axis) (vs ds : List ℕ) → length ds ≡ 14 → any unknown axes ≡ false
    → any (λ a. not (chosen_from vs a)) axes ≡ false
    → ((i : ℕ) → i < 14 → any (is_named i) axes ≡ false → get_or vs i 0 ≡ get_or ds i 0)
    → (i : ℕ) → i < 14 → get_or (assigned axes (indices_of axes vs) ds) i 0 ≡ get_or vs i 0
unfolding any assigned indices_of
assigned-indices_of [] vs ds l u c f i h = sym (f i h refl)
assigned-indices_of (a ∷ later) vs ds l u c f i h =
    let p = or-eq-false (unknown a) _ u in
    let q = or-eq-false (not (chosen_from vs a)) _ c in
    let j = first (eqb (get_or vs a.name 0)) (axis_values a) in
    let v = value_at a j in
    let e : get_or vs a.name 0 ≡ v =
    eqb-true _ _ (get_or-first (eqb (get_or vs a.name 0)) 0 (axis_values a) (not-false _ q.0)) ∙ get_or-axis_values a j in
    assigned-indices_of later vs (set ds a.name v) (length-set ds _ _ ∙ l) p.1 q.1
    (λ j b n. go v e (leb-false 14 a.name p.0) j b n (is_named j a) refl) i h
  where
    go : (v : ℕ) → get_or vs a.name 0 ≡ v → a.name < 14 → (j : ℕ) → j < 14 → any (is_named j) later ≡ false
        → (b : Bool) → is_named j a ≡ b → get_or vs j 0 ≡ get_or (set ds a.name v) j 0
    go v e k j b n true t = rw (eqb-true j a.name t) (e ∙ sym (get_or-set_same ds a.name v 0 (omega (arith, k, l))))
    go v e k j b n false t = f j b (rw (t, n)) ∙ sym (get_or-set_other ds a.name j v 0 (eqb-false j a.name t))

-- The theorem

module _ (axes : List Axis) (s : Sound axes) where
  experiment-of : (n : ℕ) → n < count axes → Of axes (experiment axes n)
  unfolding experiment
  experiment-of n h =
      record {
        fourteen = length-experiment axes n;
        chosen = assigned-chosen axes (indices axes n) defaults s refl (indices-in_range axes (sound-filled axes s) n h);
        others = λ i b e. experiment-other axes n i e;
      }

  experiment-number_of : (vs : List ℕ) → Of axes vs → experiment axes (number_of axes (indices_of axes vs)) ≡ vs
  unfolding experiment
  experiment-number_of vs o =
      let l = length-assigned axes (indices_of axes vs) defaults in
      rw (indices-number_of axes (indices_of axes vs) (indices_of-in_range axes vs o.chosen))
      (ext_get_or 0 _ vs (l ∙ sym o.fourteen)
      (λ i h. assigned-indices_of axes vs defaults refl s.known o.chosen o.others i (omega (arith, l, h))))

  indices_of-experiment : (n : ℕ) → n < count axes → indices_of axes (experiment axes n) ≡ indices axes n
  unfolding experiment
  indices_of-experiment n h = indices_of-assigned axes (indices axes n) defaults s refl (indices-in_range axes (sound-filled axes s) n h)

  number-of-experiment : (n : ℕ) → n < count axes → number_of axes (indices_of axes (experiment axes n)) ≡ n
  number-of-experiment n h = ap (number_of axes) (indices_of-experiment n h) ∙ number_of-indices axes (sound-filled axes s) n h

pub points_one_to_one : PointsOneToOne
points_one_to_one axes s =
    record {
      into = experiment-of axes s;
      onto = λ vs o.
          let is = indices_of axes vs in
          (number_of axes is, number_of-lt axes is (indices_of-in_range axes vs o.chosen), experiment-number_of axes s vs o);
      once = λ m n h k e.
          sym (number-of-experiment axes s m h) ∙ ap (λ (vs : List ℕ). number_of axes (indices_of axes vs)) e
          ∙ number-of-experiment axes s n k;
    }
