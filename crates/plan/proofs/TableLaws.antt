-- Laws of `specs/Table.antt`: axes stored one after the other. No contract cites this file. Assumes nothing.
use mathlib.Core.Path.{◌≡◌, refl, ap, ◌∙◌}
use mathlib.Core.List.{List, [], ◌∷◌, ◌++◌, append-nil}
use Prim.Native.Nat.{ℕ, suc, ◌+◌, ◌<◌, ◌≤◌}
use native.Mathlib.Numerals.{add-one}
use native.Mathlib.Omega.{arith}
use lib.ListN.{length, set, drop, length-append, length-drop}
use lib.Seq.{set_comm, sets, sets-eq, take-append_seam, drop-append-add, drop-drop}
use Rattle.points.specs.Axes.{Axis}
use Rattle.points.specs.Table.{entry_of, table_of}
use Rattle.points.proofs.TableLaws.{table_of-append}
use Rattle.axis.specs.Axis.{stored_at}
use Rattle.plan.specs.Table.{stored_axes}

-- Numbers stored from an index on

-- one before them, stored later
stored_at-before : (vs t : List ℕ) (at i b : ℕ) → i < at → set (stored_at at vs t) i b ≡ stored_at at vs (set t i b)
unfolding stored_at
stored_at-before [] t at i b h = refl
stored_at-before (v ∷ vs) t at i b h =
    stored_at-before vs (set t at v) (suc at) i b (omega arith) ∙ ap (stored_at (suc at) vs) (set_comm t at i v b (λ e. omega (arith, e)))

module _ (t : List ℕ) (at : ℕ) where
  -- the first, those behind the second, and the second between them
  pub stored_at-between : (a b : ℕ) (vs : List ℕ) → set (stored_at (at + 2) vs (set t at a)) (at + 1) b ≡ stored_at at (a ∷ b ∷ vs) t
  unfolding stored_at
  stored_at-between a b vs =
      let two : at + 2 ≡ suc (suc at) = omega arith in
      stored_at-before vs (set t at a) (at + 2) (at + 1) b (omega arith) ∙ rw (add-one at, two)

stored_at-sets : (vs t : List ℕ) (at : ℕ) → stored_at at vs t ≡ sets t at vs
unfolding stored_at
stored_at-sets [] t at = refl
stored_at-sets (v ∷ vs) t at = stored_at-sets vs (set t at v) (suc at)

stored_at-append : (xs ys zs : List ℕ) → length ys ≤ length zs → stored_at (length xs) ys (xs ++ zs) ≡ xs ++ ys ++ drop (length ys) zs
stored_at-append xs ys zs h =
    stored_at-sets ys (xs ++ zs) (length xs)
    ∙ sets-eq ys (xs ++ zs) (length xs) (omega (arith, length-append xs zs))
    ∙ rw (take-append_seam xs zs, drop-append-add xs zs)

-- No axis, and an axis more

pub stored-none : (t : List ℕ) → t ≡ stored_axes [] t
unfolding table_of
stored-none t = refl

module _ (axes : List Axis) (a : Axis) where
  abbrev pub with_axis : List Axis
  with_axis = axes ++ (a ∷ [])

  table_of-with_axis : table_of with_axis ≡ table_of axes ++ entry_of a
  unfolding table_of
  table_of-with_axis = table_of-append axes (a ∷ []) ∙ rw (append-nil (entry_of a))

  pub length-with_axis : length (table_of with_axis) ≡ length (table_of axes) + length (entry_of a)
  length-with_axis = ap length table_of-with_axis ∙ length-append (table_of axes) (entry_of a)

  pub stored_next : (t : List ℕ) → length (table_of axes) + length (entry_of a) ≤ length t
      → stored_at (length (table_of axes)) (entry_of a) (stored_axes axes t) ≡ stored_axes with_axis t
  stored_next t h =
      stored_at-append (table_of axes) (entry_of a) _ (omega (arith, length-drop (length (table_of axes)) t))
      ∙ rw (drop-drop, table_of-with_axis, length-append (table_of axes) (entry_of a))

-- The table keeps its length

module _ (axes : List Axis) (t : List ℕ) where
  pub length-stored : length (table_of axes) ≤ length t → length (stored_axes axes t) ≡ length t
  length-stored h = omega (arith, length-append (table_of axes) (drop (length (table_of axes)) t), length-drop (length (table_of axes)) t)
