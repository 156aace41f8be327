-- Laws of `specs/State.antt`: what is held of the axes read so far. No contract cites this file. Assumes nothing.
use mathlib.Core.Path.{◌≡◌, refl, sym, ap, ◌∙◌}
use mathlib.Core.Bool.{Bool, true, false, ◌||◌}
use mathlib.Core.List.{List, [], ◌∷◌, ◌++◌, map}
use Prim.Native.Nat.{ℕ, zero, suc, ◌+◌, ◌*◌, ◌^◌, ◌<◌, ◌≤◌}
use native.Mathlib.Nat.{mul-one, one-mul, mul_assoc}
use native.Mathlib.Numerals.{add-one}
use native.Mathlib.Omega.{arith}
use borrow.Author.Tests.{eqb-true, eqb-false}
use lib.Dec.{eqb}
use lib.ListN.{length, get_or, set, take, replicate, length-set, length-append}
use lib.Seq.{get_or-set_same, get_or-set_other, take-suc-set}
use Rattle.std.specs.Prelude.{Ok}
use Rattle.lists.specs.Search.{any}
use Rattle.lists.proofs.SearchLaws.{any_snoc}
use Rattle.names.specs.Names.{name_count}
use Rattle.points.specs.Axes.{Axis, axis_length, most_values, count}
use Rattle.points.proofs.PointsLaws.{count-le}
use Rattle.text.specs.Text.{fields_of}
use Rattle.line.specs.Line.{name_of}
use Rattle.axis.specs.Axis.{axis_of, axis_line, axis_after}
use Rattle.axis.specs.declared.AxisLine.{AxisLine}
use Rattle.plan.specs.declared.State.{State}
use Rattle.plan.specs.Table.{accepted_plan}
use Rattle.plan.specs.Cursor.{line_at}
use Rattle.plan.specs.State.{nothing_read, with_plan, held_axis, held_after, axes_from, HoldsAxes}
use Rattle.plan.proofs.AxisLaws.{good-on}
use Rattle.plan.proofs.SoundLaws.{sound_none, sound-next}

-- No axis

get_or-none : (n i : ℕ) → get_or (replicate n false) i false ≡ false
get_or-none zero i = refl
get_or-none (suc n) zero = refl
get_or-none (suc n) (suc i) = get_or-none n i

pub holds-none : (text : List ℕ) → HoldsAxes text [] nothing_read
unfolding any count
holds-none text =
    record {
      sound = sound_none;
      size = refl;
      seen-is = get_or-none name_count;
      axes-is = refl;
      points-is = refl;
      places = refl;
      starts-are = refl;
    }

-- with another plan of no axes
pub holds-going : {text : List ℕ} {s : State} (words draw : ℕ) → HoldsAxes text [] s
    → HoldsAxes text [] (with_plan s (accepted_plan words draw 0 1))
unfolding count
holds-going words draw h =
    record {
      sound = sound_none;
      size = h.size;
      seen-is = h.seen-is;
      axes-is = refl;
      points-is = refl;
      places = h.places;
      starts-are = refl;
    }

-- What is known of an axis line

pub held_axis-is : {text : List ℕ} {axes : List Axis} {s : State} (fields : List (List ℕ)) → HoldsAxes text axes s
    → held_axis s fields ≡ axis_after axes fields
unfolding axis_line
held_axis-is fields h = rw (h.seen-is (name_of fields), h.axes-is)

-- An axis more

count-append : (axes : List Axis) (a : Axis) → count (axes ++ (a ∷ [])) ≡ count axes * axis_length a
unfolding count
count-append [] a = mul-one (axis_length a) ∙ sym (one-mul (axis_length a))
count-append (b ∷ axes) a = rw (count-append axes a) (sym (mul_assoc (axis_length b) (count axes) (axis_length a)))

seen_next : (seen : List Bool) (new name : ℕ) → new < length seen
    → get_or (set seen new true) name false ≡ (eqb new name || get_or seen name false)
seen_next seen new name h = go (eqb new name) refl
  where
    go : (b : Bool) → eqb new name ≡ b → get_or (set seen new true) name false ≡ (b || get_or seen name false)
    go true e = rw (← eqb-true new name e) (get_or-set_same seen new true false h)
    go false e = get_or-set_other seen new name true false (λ q. eqb-false new name e (sym q))

map_snoc : (f : ℕ → Axis) (xs : List ℕ) (y : ℕ) → map f (xs ++ (y ∷ [])) ≡ map f xs ++ (f y ∷ [])
map_snoc f [] y = refl
map_snoc f (x ∷ xs) y = ap (λ (l : List Axis). f x ∷ l) (map_snoc f xs y)

axes_from-set : (text starts : List ℕ) (n at : ℕ) → n < length starts
    → axes_from text (set starts n at) (n + 1) ≡ axes_from text starts n ++ (axis_of (fields_of (line_at text at)) ∷ [])
axes_from-set text starts n at h = rw (add-one n, take-suc-set starts n at h) (map_snoc _ (take n starts) at)

pub holds-next : {text : List ℕ} {axes : List Axis} {s : State} {a : AxisLine} (fields : List (List ℕ)) (at : ℕ)
    → fields ≡ fields_of (line_at text at)
    → HoldsAxes text axes s → axis_after axes fields ≡ Ok a
    → HoldsAxes text (axes ++ (axis_of fields ∷ [])) (held_after s (name_of fields) (axis_length (axis_of fields)) at)
holds-next {text} {axes} {s} {a} fields at is h e =
    let g = good-on axes fields e in
    record {
      sound = sound-next h.sound g;
      size = length-set s.seen (name_of fields) true ∙ h.size;
      seen-is =
          λ name.
          rw (seen_next s.seen (name_of fields) name (omega (arith, h.size, g.known)), h.seen-is name)
          (sym (any_snoc (λ (a : Axis). eqb a.name name) (axis_of fields) axes));
      axes-is = omega (arith, h.axes-is, length-append axes (axis_of fields ∷ []));
      points-is = rw h.points-is (sym (count-append axes (axis_of fields)));
      places = length-set s.starts s.plan.axes at ∙ h.places;
      starts-are = sym
          (axes_from-set text s.starts s.plan.axes at (omega (arith, h.places, h.axes-is, g.room)) ∙ rw (← h.starts-are, ← is));
    }

pub points-le : {text : List ℕ} {axes : List Axis} {s : State} → HoldsAxes text axes s → s.plan.points ≤ most_values ^ s.plan.axes
points-le {axes} h = rw (h.points-is, h.axes-is) (count-le axes h.sound.lengths)
