-- Laws of a run of stores (`sets`). No contract cites this file. Assumes nothing.
use mathlib.Core.Path.{◌≡◌, refl, ap, ◌∙◌}
use mathlib.Core.List.{List, [], ◌∷◌, ◌++◌}
use Prim.Native.Nat.{ℕ, zero, suc, min}
use native.Mathlib.Omega.{arith}
use lib.ListN.{length, set, take, drop}
use lib.Seq.{sets}

sets-cons : {A : Type 0} (x : A) (vs l : List A) (i : ℕ) → sets (x ∷ l) (suc i) vs ≡ x ∷ sets l i vs
sets-cons x [] l i = refl
sets-cons x (a ∷ vs) l i = sets-cons x vs (set l i a) (suc i)

sets-nil : {A : Type 0} (vs : List A) (i : ℕ) → sets [] i vs ≡ []
sets-nil [] i = refl
sets-nil (a ∷ vs) i = sets-nil vs (suc i)

-- stores at a list's start, as far as it reaches
pub sets_front : {A : Type 0} (l vs : List A) (n : ℕ) → n ≡ min (length l) (length vs) → sets l 0 vs ≡ take n vs ++ drop n l
sets_front [] vs n e = let h : n ≡ 0 = omega arith in rw h (sets-nil vs 0)
sets_front (x ∷ l) [] n e = let h : n ≡ 0 = omega arith in rw h
sets_front (x ∷ l) (a ∷ vs) zero e = absurd (omega arith)
sets_front {A} (x ∷ l) (a ∷ vs) (suc n) e =
    sets-cons a vs l 0 ∙ ap (λ (t : List A). a ∷ t) (sets_front l vs n (omega arith))
