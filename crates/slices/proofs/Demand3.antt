-- Demand 3 of two drawings: an instance of the claim of any number. Assumes nothing.
use mathlib.Core.Path.{refl}
use mathlib.Core.List.{[], ◌∷◌}
use mathlib.Core.Logic.{inl, inr, ⊎_elim, ◌≢◌, by_cases}
use Prim.Native.Nat.{ℕ, zero, suc, ◌<◌}
use native.Mathlib.Decide.{ℕ_discrete}
use native.Mathlib.Omega.{arith}
use Rattle.interleave.specs.Order.{Order}
use Rattle.interleave.proofs.CommuteLaws.{apart-sym}
use Rattle.slices.specs.Calls.{Job, CallState, memory_left}
use Rattle.slices.specs.Demand3.{Whole, Accepted, BitsApart, Setup, Done, reached, in_turn, AsWhole, two, OneThenOther, Demand3}
use Rattle.slices.proofs.CallLaws.{memory-good}
use Rattle.slices.proofs.Interleaved.{any-drawings}

-- what whole calls give, in the order of two of them
one-then-other : {w : ℕ} (S : Setup w) (b : ℕ → ℕ) (s : CallState) → AsWhole S b s
    → (i j : ℕ) → Order S.count (i ∷ j ∷ []) → Accepted w (S.jobs i) → Accepted w (S.jobs j)
    → OneThenOther i j (S.jobs i) (S.jobs j) (S.first_v i) (S.first_v j) (b i) (b j) S.memory s
unfolding in_turn
one-then-other S b s t i j o hi hj =
    record {
      memory = t.memory (i ∷ j ∷ []) o;
      first = t.held i (o.only i (inl refl)) hi S.memory S.good.size;
      second = t.held j (o.only j (inr (inl refl))) hj (memory_left (S.jobs i) 0 (b i) S.memory)
          (memory-good (S.jobs i) hi (b i) S.memory S.good).size;
    }

below_two : (Q : ℕ → Type 0) → Q 0 → Q 1 → (j : ℕ) → j < 2 → Q j
below_two Q q0 q1 zero h = q0
below_two Q q0 q1 (suc zero) h = q1
below_two Q q0 q1 (suc (suc j)) h = absurd (omega arith)

order-two : (i j : ℕ) → i ≢ j → i < 2 → j < 2 → Order 2 (i ∷ j ∷ [])
order-two i j ne hi hj =
    record {
      once = (⊎_elim ne (λ z. z), ((λ z. z), tt));
      all = λ x hx. by_cases (ℕ_discrete x i) (λ e. inl e) (λ n. inr (inl (omega arith)));
      only = λ x. ⊎_elim (λ e. omega arith) (⊎_elim (λ e. omega arith) (λ z. absurd z));
    }

apart-two : (d e : Job) → BitsApart d e → (j x : ℕ) → j ≢ x → j < 2 → x < 2 → BitsApart (two d e j) (two d e x)
apart-two d e h zero zero ne hj hx = absurd (ne refl)
apart-two d e h zero (suc x) ne hj hx = h
apart-two d e h (suc j) zero ne hj hx = apart-sym h
apart-two d e h (suc j) (suc x) ne hj hx = absurd (ne (omega arith))

pub demand3 : Demand3
demand3 w m g d e hd he apart v u cs f a0 a1 b c hb hc =
    let S : Setup w =
    record {
      count = 2;
      jobs = two d e;
      first_v = two v u;
      memory = m;
      good = g;
      apart = λ j x hj hx ne p q. apart-two d e apart j x ne hj hx;
    } in
    let t =
    any-drawings w S cs f (λ j hj _. below_two (Done (reached S cs)) a0 a1 j hj) (two b c)
    (below_two (λ j. Whole (two d e j) (two b c j)) hb hc) in (
      one-then-other S (two b c) _ t 0 1 (order-two 0 1 (omega arith) (omega arith) (omega arith)) hd he,
      one-then-other S (two b c) _ t 1 0 (order-two 1 0 (omega arith) (omega arith) (omega arith)) he hd,
    )
