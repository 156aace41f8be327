-- The loop of `copy`: what a turn keeps, and what follows at the end. No contract cites this file. Assumes nothing.
use mathlib.Core.Path.{◌≡◌, refl, sym, ap, ◌∙◌}
use mathlib.Core.List.{List, ◌∷◌, [], ◌++◌}
use Prim.Native.Nat.{ℕ, ◌+◌, ◌≤◌, ◌<◌}
use native.Mathlib.Omega.{arith}
use native.Mathlib.Numerals.{add-one}
use lib.ListN.{length, take, set, get_or, length-set}
use lib.Seq.{take-suc, take-suc-set, take_all}

-- the first i words are copied
pub record Copied (from to : List ℕ) (i : ℕ) : Type 0 where
  pub size : length to ≡ length from
  pub words : take i to ≡ take i from

pub turn : {from to : List ℕ} {i : ℕ} → i < length to → Copied from to i → Copied from (set to i (get_or from i 0)) (i + 1)
turn {from} {to} {i} l h =
    record {
      size = length-set to i _ ∙ h.size;
      words =
          rw (add-one, take-suc-set to i (get_or from i 0) l, take-suc from i 0 (omega (arith, h.size)))
          (ap (λ (xs : List ℕ). xs ++ (get_or from i 0 ∷ [])) h.words);
    }

pub finish : {from to : List ℕ} {i : ℕ} → length to ≤ i → Copied from to i → to ≡ from
finish {from} {to} {i} l h = sym (take_all i to l) ∙ h.words ∙ take_all i from (omega (arith, h.size))
