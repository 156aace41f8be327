-- Steps over a memory whose bits do not meet commute. No contract cites this file. Assumes nothing.
use mathlib.Core.Path.{◌≡◌, sym, ◌∙◌}
use mathlib.Core.Logic.{◌⊎◌, ⊎_elim}
use mathlib.Core.List.{List}
use Prim.Native.Nat.{ℕ}
use Rattle.memory.specs.Bits.{Memory, bit_at}
use Rattle.memory.proofs.MemoryLaws.{memory-ext}
use Rattle.interleave.specs.Apart.{Apart}
use Rattle.interleave.proofs.FootprintLaws.{Foot}

pub apart-sym : {W R W' R' : ℕ → Type 0} → Apart W R W' R' → Apart W' R' W R
apart-sym h = record { writes = λ a w' w. h.writes a w w'; left = h.right; right = h.left }

-- a bit that is not in W stays
pub kept : {n : ℕ} {W R : ℕ → Type 0} {f : List ℕ → List ℕ} → Foot n W R f → (m : List ℕ) → Memory n m → (a : ℕ)
    → (W a → ⊥) → bit_at (f m) a ≡ bit_at m a
kept F m g a no-w = ⊎_elim (λ e. e) (λ w. absurd (no-w w)) (F.frame m g a)

-- in the bits that f may write, it is all the same whether f' went before or comes after
at-written : {n : ℕ} {W R W' R' : ℕ → Type 0} {f f' : List ℕ → List ℕ} → Foot n W R f → Foot n W' R' f' → Apart W R W' R'
    → (m : List ℕ) → Memory n m → (a : ℕ) → W a → bit_at (f (f' m)) a ≡ bit_at (f' (f m)) a
at-written {f = f} {f' = f'} F F' d m g a w =
    F.depend (f' m) m (F'.good m g) g (λ b. ⊎_elim (λ r. kept F' m g b (λ w'. d.right b w' r)) (λ v. kept F' m g b (d.writes b v))) a w
    ∙ sym (kept F' (f m) (F.good m g) a (d.writes a w))

module _ {n : ℕ} {W R W' R' : ℕ → Type 0} {f f' : List ℕ → List ℕ} (F : Foot n W R f) (F' : Foot n W' R' f') (d : Apart W R W' R') where
  commute-at : (m : List ℕ) → Memory n m → (a : ℕ) → bit_at (f (f' m)) a ≡ bit_at (f' (f m)) a
  commute-at m g a =
      let here : W a → bit_at (f (f' m)) a ≡ bit_at (f' (f m)) a = at-written F F' d m g a in
      let there : W' a → bit_at (f (f' m)) a ≡ bit_at (f' (f m)) a = λ w'. sym (at-written F' F (apart-sym d) m g a w') in
      ⊎_elim
      (λ e. ⊎_elim
      (λ e'. ⊎_elim (λ p. ⊎_elim (λ p'. p ∙ p' ∙ sym e ∙ sym e') there (F'.frame m g a)) here (F.frame (f' m) (F'.good m g) a))
      there
      (F'.frame (f m) (F.good m g) a))
      here
      (F.frame m g a)

  pub commute : (m : List ℕ) → Memory n m → f (f' m) ≡ f' (f m)
  commute m g = memory-ext (F.good (f' m) (F'.good m g)) (F'.good (f m) (F.good m g)) (λ a h. commute-at m g a)
