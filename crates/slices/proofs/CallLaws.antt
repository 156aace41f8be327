-- One call of a drawing: accepted, refused, whole; and the cases of a test. No contract cites this file. Assumes nothing.
use mathlib.Core.Path.{◌≡◌, refl, sym, ap, ◌∙◌, subst}
use mathlib.Core.Logic.{◌≢◌, by_cases}
use mathlib.Core.Bool.{Bool, true, false, cond}
use mathlib.Core.List.{List}
use Prim.Native.Nat.{ℕ, zero, suc, ◌+◌, ◌-◌, ◌≤◌, ◌<◌, min}
use native.Mathlib.Decide.{ℕ_discrete}
use native.Mathlib.Omega.{arith}
use borrow.Author.Tests.{eq-eqb, ne_eqb, lt-ltb, le-ltb}
use lib.Dec.{eqb, ltb}
use lib.ListN.{length}
use Rattle.memory.specs.Bits.{Memory}
use Rattle.engine.specs.Engine.{visit, visits as walk_visits}
use Rattle.arrays.specs.Array.{v_after}
use Rattle.array_refusal.specs.Refusal.{refusal}
use Rattle.drawing.specs.Draw.{refused_call, outcome_at, visited_by}
use Rattle.engine.proofs.VisitsLaws.{memory-visits}
use Rattle.interleave.proofs.VisitLaws.{visits, upto, visits-zero}
use Rattle.slices.specs.Calls.{Job, Held, held_of, handed_back, memory_left, last_accepted}
use Rattle.slices.specs.Demand3.{walk_of, pixels_of, Accepted}
use Rattle.drawing.proofs.OutcomeLaws.{at, outcome-accepted, outcome-refused, drawn-accepted, drawn-refused}

pub cond-eq : {A : Type 0} (n k : ℕ) (a b : A) → n ≡ k → cond (eqb n k) a b ≡ a
cond-eq n k a b e = ap (λ (t : Bool). cond t a b) (eq-eqb n k e)

pub cond-ne : {A : Type 0} (n k : ℕ) (a b : A) → n ≢ k → cond (eqb n k) a b ≡ b
cond-ne n k a b e = ap (λ (t : Bool). cond t a b) (ne_eqb n k e)

pub cond-lt : {A : Type 0} (n k : ℕ) (a b : A) → n < k → cond (ltb n k) a b ≡ a
cond-lt n k a b h = ap (λ (t : Bool). cond t a b) (lt-ltb n k h)

pub cond-le : {A : Type 0} (n k : ℕ) (a b : A) → k ≤ n → cond (ltb n k) a b ≡ b
cond-le n k a b h = ap (λ (t : Bool). cond t a b) (le-ltb n k h)

module _ (j : Job) where
  -- the refusal at a place over so many words; V after an accepted call; the pixels visited
  abbrev pub number : ℕ → ℕ → ℕ
  number k words = refusal j.operation j.settings k words

  abbrev pub flag : Bool → Bool
  flag v = v_after j.operation j.settings v

  abbrev pub visited_of : ℕ → ℕ → ℕ
  visited_of k b = visited_by j.operation j.settings k b

  -- what an accepted call hands back at its new place, from the V that it was given
  unfoldable pub held_at : ℕ → Bool → Held
  held_at place v = held_of (at j.operation j.settings (flag v) place 0)

  pub handed-accepted : (k b : ℕ) (v : Bool) (m : List ℕ) → number k (length m) ≡ 0 → handed_back j k b v m ≡ held_at (k + visited_of k b) v
  unfolding held_at outcome_at
  handed-accepted k b v m e = ap held_of (outcome-accepted j.operation j.settings k v b (length m) e)

  pub handed-refused : (k b : ℕ) (v : Bool) (m : List ℕ) → number k (length m) ≢ 0
      → handed_back j k b v m ≡ held_of (refused_call j.settings k v (number k (length m)))
  handed-refused k b v m e = ap held_of (outcome-refused j.operation j.settings k v b (length m) e)

  -- the pixels visited, one after another
  visits-steps : (k c : ℕ) (m : List ℕ) → walk_visits (walk_of j) k c m ≡ visits (visit (walk_of j)) k c m
  unfolding walk_visits visits
  visits-steps k zero m = refl
  visits-steps k (suc c) m = ap (visit (walk_of j) (k + c)) (visits-steps k c m)

  pub memory-accepted : (k b : ℕ) (m : List ℕ) → number k (length m) ≡ 0
      → memory_left j k b m ≡ visits (visit (walk_of j)) k (visited_of k b) m
  memory-accepted k b m e = drawn-accepted j.operation j.settings k b m e ∙ visits-steps k (visited_of k b) m

  pub memory-refused : (k b : ℕ) (m : List ℕ) → number k (length m) ≢ 0 → memory_left j k b m ≡ m
  memory-refused k b m e = drawn-refused j.operation j.settings k b m e

  -- a call at place 0 draws the first pixels, as many as its budget has room for
  pub memory-zero : (b k : ℕ) (m : List ℕ) → number 0 (length m) ≡ 0 → min b (pixels_of j) ≡ k
      → memory_left j 0 b m ≡ upto (visit (walk_of j)) k m
  memory-zero b k m e h =
      let q : min b (pixels_of j - 0) ≡ k = omega arith in
      memory-accepted 0 b m e ∙ ap (λ (c : ℕ). visits (visit (walk_of j)) 0 c m) q ∙ visits-zero (visit (walk_of j)) k m

  -- a whole call ends at place n
  pub handed-whole : (b : ℕ) (v : Bool) (m : List ℕ) → number 0 (length m) ≡ 0 → pixels_of j ≤ b
      → handed_back j 0 b v m ≡ held_at (pixels_of j) v
  handed-whole b v m e h =
      let q : 0 + min b (pixels_of j - 0) ≡ pixels_of j = omega arith in
      handed-accepted 0 b v m e ∙ ap (λ (k : ℕ). held_at k v) q

  -- an answer of 0 is given at place n only
  pub answer-place : (k : ℕ) (v : Bool) → (held_at k v).answer ≡ 0 → k ≡ pixels_of j
  unfolding held_at outcome_at
  answer-place k v e =
      by_cases (ℕ_discrete k (pixels_of j)) (λ q. q)
      (λ ne. absurd (let z : ◌≡◌ {A = ℕ} 1 0 = sym (cond-ne k (pixels_of j) 0 1 ne) ∙ e in omega arith))

  pub place-answer : (k : ℕ) (v : Bool) → k ≡ pixels_of j → (held_at k v).answer ≡ 0
  unfolding held_at outcome_at
  place-answer k v e = cond-eq k (pixels_of j) 0 1 e

  -- V given counts by what it leads to
  pub held_at-flag : (k : ℕ) (v u : Bool) → flag v ≡ flag u → held_at k v ≡ held_at k u
  unfolding held_at
  held_at-flag k v u e = ap (λ (x : Bool). held_of (at j.operation j.settings x k 0)) e

  pub held_at-place : (k : ℕ) (v : Bool) → (held_at k v).place ≡ k
  unfolding held_at outcome_at
  held_at-place k v = refl

  pub held_at-v : (k : ℕ) (v : Bool) → (held_at k v).v ≡ flag v
  unfolding held_at outcome_at
  held_at-v k v = refl

  -- an accepted call is held; a refused one is not
  pub after-accepted : (k : ℕ) (v : Bool) (h : Held) → last_accepted (held_at k v) h ≡ held_at k v
  unfolding held_at outcome_at
  after-accepted k v h = cond-lt (held_at k v).answer 10 _ _ (go (eqb k (pixels_of j)))
    where
      go : (t : Bool) → cond {A = ℕ} t 0 1 < 10
      go true = omega arith
      go false = omega arith

  pub after-refused : (k : ℕ) (v : Bool) (n : ℕ) (h : Held) → 10 ≤ n → last_accepted (held_of (refused_call j.settings k v n)) h ≡ h
  after-refused k v n h hn = cond-le n 10 _ _ hn

  -- an accepted drawing leaves a memory
  pub memory-good : {w : ℕ} → Accepted w j → (b : ℕ) (m : List ℕ) → Memory w m → Memory w (memory_left j 0 b m)
  memory-good {w} hr b m g =
      subst (Memory w) (sym (drawn-accepted j.operation j.settings 0 b m (ap (number 0) g.size ∙ hr)))
      (memory-visits (walk_of j) 0 (visited_of 0 b) g)
