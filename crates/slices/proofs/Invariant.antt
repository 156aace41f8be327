-- What holds after any list of calls, and that more pixels of one drawing keep it. No contract cites this file. Assumes nothing.
use mathlib.Core.Path.{◌≡◌, refl, sym, ap, ◌∙◌, subst}
use mathlib.Core.Logic.{◌⊎◌, inl, inr, ⊎_elim, ◌≢◌, by_cases}
use mathlib.Core.Bool.{cond}
use mathlib.Core.List.{List}
use Prim.Native.Nat.{ℕ, ◌+◌, ◌≤◌, ◌<◌}
use native.Mathlib.Decide.{ℕ_discrete}
use native.Mathlib.Omega.{arith}
use lib.Dec.{eqb}
use Rattle.memory.specs.Bits.{Memory}
use Rattle.interleave.specs.Order.{Order}
use Rattle.interleave.proofs.VisitLaws.{visits}
use Rattle.interleave.proofs.JobLaws.{ordered, ordered-none, visits-good, advance}
use Rattle.slices.specs.Calls.{Held, CallState, fresh, start}
use Rattle.slices.specs.Demand3.{pixels_of, Accepted, Setup}
use Rattle.slices.proofs.CallLaws.{cond-eq, cond-ne, held_at, held_at-place}
use Rattle.slices.proofs.CountLaws.{cnt, step, cnt-live, commuting}

abbrev pub places : CallState → ℕ → ℕ
places s j = (s.held j).place

module _ {w : ℕ} (S : Setup w) where
  -- drawing j was accepted, and what is held of it is what its place gives with its first V
  pub record Drew (s : CallState) (j : ℕ) : Type 0 where
    pub job : j < S.count
    pub taken : Accepted w (S.jobs j)
    pub holds : s.held j ≡ held_at (S.jobs j) (places s j) (S.first_v j)

  -- every order gives the memory; what is held of each drawing is fresh, or what its place gives
  pub record Inv (s : CallState) : Type 0 where
    pub good : Memory w s.memory
    pub fits : (j : ℕ) → places s j ≤ cnt S j
    pub mem : (os : List ℕ) → Order S.count os → s.memory ≡ ordered (step S) (places s) os S.memory
    pub job : (j : ℕ) → (s.held j ≡ fresh (S.jobs j) (S.first_v j)) ⊎ Drew s j

  pub inv-start : Inv (start S.jobs S.first_v S.memory)
  inv-start =
      record {
        good = S.good;
        fits = λ j. omega arith;
        mem = λ os o. sym (ordered-none (step S) os S.memory);
        job = λ j. inl refl;
      }

  -- c more pixels of drawing j
  unfoldable pub moved : CallState → ℕ → ℕ → CallState
  moved s j c =
      record {
        memory = visits (step S j) (places s j) c s.memory;
        held = λ x. cond (eqb x j) (held_at (S.jobs j) (places s j + c) (S.first_v j)) (s.held x);
      }

  module _ (s : CallState) (j c : ℕ) where
    pub moved_here : (moved s j c).held j ≡ held_at (S.jobs j) (places s j + c) (S.first_v j)
    unfolding moved
    moved_here = cond-eq j j _ (s.held j) refl

    pub moved-there : (x : ℕ) → x ≢ j → (moved s j c).held x ≡ s.held x
    unfolding moved
    moved-there x ne = cond-ne x j _ (s.held x) ne

    place_here : places (moved s j c) j ≡ places s j + c
    place_here = ap (λ (h : Held). h.place) moved_here ∙ held_at-place (S.jobs j) (places s j + c) (S.first_v j)

    place-there : (x : ℕ) → x ≢ j → places (moved s j c) x ≡ places s x
    place-there x ne = ap (λ (h : Held). h.place) (moved-there x ne)

    drew-here : j < S.count → Accepted w (S.jobs j) → Drew (moved s j c) j
    drew-here hj hr =
        record { job = hj; taken = hr; holds = moved_here ∙ ap (λ (k : ℕ). held_at (S.jobs j) k (S.first_v j)) (sym place_here) }

    drew-there : (x : ℕ) → x ≢ j → Drew s x → Drew (moved s j c) x
    drew-there x ne p =
        record {
          job = p.job;
          taken = p.taken;
          holds = moved-there x ne ∙ p.holds ∙ ap (λ (k : ℕ). held_at (S.jobs x) k (S.first_v x)) (sym (place-there x ne));
        }

    module _ (I : Inv s) (hj : j < S.count) (hr : Accepted w (S.jobs j)) (hc : places s j + c ≤ pixels_of (S.jobs j)) where
      moved-fits : (x : ℕ) → places (moved s j c) x ≤ cnt S x
      moved-fits x =
          by_cases (ℕ_discrete x j)
          (λ e. subst (λ (y : ℕ). places (moved s j c) y ≤ cnt S y) (sym e) (omega (arith, place_here, cnt-live S j hj hr)))
          (λ ne. omega (arith, place-there x ne, I.fits x))

      moved-mem : (os : List ℕ) → Order S.count os → (moved s j c).memory ≡ ordered (step S) (places (moved s j c)) os S.memory
      unfolding moved
      moved-mem os o =
          ap (visits (step S j) (places s j) c) (I.mem os o)
          ∙ advance (commuting S) (places s) I.fits (places (moved s j c)) j c place_here place-there
          (omega (arith, cnt-live S j hj hr)) os o.once (o.all j hj) S.memory S.good

      pub inv-moved : Inv (moved s j c)
      unfolding moved
      inv-moved =
          record {
            good = visits-good (commuting S) j (places s j) c (omega (arith, cnt-live S j hj hr)) s.memory I.good;
            fits = moved-fits;
            mem = moved-mem;
            job = λ x. by_cases (ℕ_discrete x j)
                (λ e. inr (subst (Drew (moved s j c)) (sym e) (drew-here hj hr)))
                (λ ne. ⊎_elim (λ p. inl (moved-there x ne ∙ p)) (λ p. inr (drew-there x ne p)) (I.job x));
          }
