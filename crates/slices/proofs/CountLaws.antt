-- The pixels of each drawing that can be drawn, and that those of different drawings commute. No contract cites this file. Assumes nothing.
use mathlib.Core.Path.{◌≡◌, refl, sym, ap, ◌∙◌}
use mathlib.Core.Logic.{◌≢◌}
use mathlib.Core.Bool.{Bool, true, false, cond}
use mathlib.Core.List.{List}
use Prim.Native.Nat.{ℕ, ◌<◌}
use native.Mathlib.Decide.{ℕ_discrete, dec_lt}
use native.Mathlib.Omega.{arith}
use lib.Dec.{eqb, ltb}
use Rattle.memory.specs.Bits.{Memory, bit_at}
use Rattle.engine.specs.Engine.{visit}
use Rattle.interleave.proofs.CommuteLaws.{commute, kept}
use Rattle.interleave.proofs.JobLaws.{Commuting}
use Rattle.slices.specs.Demand3.{walk_of, pixels_of, Accepted, Writes, Setup}
use Rattle.slices.proofs.CallLaws.{cond-eq, cond-ne, cond-lt, cond-le, number}
use Rattle.slices.proofs.FootLaws.{foot}

module _ {w : ℕ} (S : Setup w) where
  -- a refused drawing has none
  unfoldable pub cnt : ℕ → ℕ
  cnt j = cond (ltb j S.count) (cond (eqb (number (S.jobs j) 0 w) 0) (pixels_of (S.jobs j)) 0) 0

  unfoldable pub step : ℕ → ℕ → List ℕ → List ℕ
  step j i = visit (walk_of (S.jobs j)) i

  pub cnt-live : (j : ℕ) → j < S.count → Accepted w (S.jobs j) → cnt j ≡ pixels_of (S.jobs j)
  unfolding cnt
  cnt-live j hj hr = cond-lt j S.count _ 0 hj ∙ cond-eq (number (S.jobs j) 0 w) 0 _ 0 hr

  pub cnt-none : (j : ℕ) → number (S.jobs j) 0 w ≢ 0 → cnt j ≡ 0
  unfolding cnt
  cnt-none j hr =
      ap (λ (n : ℕ). cond (ltb j S.count) n 0) (cond-ne (number (S.jobs j) 0 w) 0 (pixels_of (S.jobs j)) 0 hr) ∙ go (ltb j S.count)
    where
      go : (t : Bool) → cond {A = ℕ} t 0 0 ≡ 0
      go true = refl
      go false = refl

  cnt-out : (j : ℕ) → ¬ (j < S.count) → cnt j ≡ 0
  unfolding cnt
  cnt-out j hj = cond-le j S.count _ 0 (omega arith)

  -- a pixel that can be drawn
  record Live (j i : ℕ) : Type 0 where
    job : j < S.count
    taken : Accepted w (S.jobs j)
    pixel : i < pixels_of (S.jobs j)

  live : (j i : ℕ) → i < cnt j → Live j i
  live j i h = go (dec_lt j S.count) (ℕ_discrete (number (S.jobs j) 0 w) 0)
    where
      go : Dec (j < S.count) → Dec (Accepted w (S.jobs j)) → Live j i
      go (yes p) (yes q) = record { job = p; taken = q; pixel = omega (arith, cnt-live j p q) }
      go (yes p) (no q) = absurd (omega (arith, cnt-none j q))
      go (no p) d = absurd (omega (arith, cnt-out j p))

  pub commuting : Commuting (Memory w) cnt step
  unfolding step
  commuting =
      record {
        good = λ j i h m g. (foot w (S.jobs j) i (live j i h).taken (live j i h).pixel).good m g;
        comm = λ j x i k ne h h' m g.
            let l = live j i h in
            let l' = live x k h' in
            let apart = S.apart j x l.job l'.job ne l.taken l'.taken in
            commute (foot w (S.jobs j) i l.taken l.pixel) (foot w (S.jobs x) k l'.taken l'.pixel)
            (record {
              writes = λ a p q. apart.writes a (i, l.pixel, p) (k, l'.pixel, q);
              left = λ a p q. apart.left a (i, l.pixel, p) (k, l'.pixel, q);
              right = λ a p q. apart.right a (k, l'.pixel, p) (i, l.pixel, q);
            })
            m g;
      }

  -- a bit that drawing j may write is kept by the pixels of the others
  pub step_keeps : (j : ℕ) → j < S.count → Accepted w (S.jobs j) → (a : ℕ) → Writes (S.jobs j) a
      → (x i : ℕ) → x ≢ j → i < cnt x → (m : List ℕ) → Memory w m → bit_at (step x i m) a ≡ bit_at m a
  unfolding step
  step_keeps j hj hr a y x i ne hi m g =
      let l = live x i hi in
      kept (foot w (S.jobs x) i l.taken l.pixel) m g a
      (λ q. (S.apart j x hj l.job (λ z. ne (sym z)) hr l.taken).writes a y (i, l.pixel, q))

  -- a bit that no accepted drawing may write is kept by all pixels
  pub step-keeps-all : (a : ℕ) → ((j : ℕ) → j < S.count → Accepted w (S.jobs j) → Writes (S.jobs j) a → ⊥)
      → (x i : ℕ) → i < cnt x → (m : List ℕ) → Memory w m → bit_at (step x i m) a ≡ bit_at m a
  unfolding step
  step-keeps-all a none x i hi m g =
      let l = live x i hi in
      kept (foot w (S.jobs x) i l.taken l.pixel) m g a (λ q. none x l.job l.taken (i, l.pixel, q))
