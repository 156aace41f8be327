-- Jobs of numbered steps over one state, in any alternation. Nothing here knows of memories or bits. Assumes nothing.
use mathlib.Core.Path.{◌≡◌, refl, sym, ap, ◌∙◌, subst}
use mathlib.Core.Logic.{inl, inr, ◌≢◌}
use mathlib.Core.List.{List, [], ◌∷◌}
use Prim.Native.Nat.{ℕ, zero, suc, ◌+◌, ◌≤◌, ◌<◌}
use native.Mathlib.Omega.{arith}
use Rattle.interleave.specs.Order.{In, Distinct}
use Rattle.interleave.proofs.VisitLaws.{visits, upto, visits-upto, visits-keep, upto-keep}
use Rattle.interleave.proofs.OrderLaws.{in-ne}

-- job j's steps below its place p j, for the jobs of the list, the first one first
unfoldable pub ordered : {S : Type 0} → (ℕ → ℕ → S → S) → (ℕ → ℕ) → List ℕ → S → S
ordered step p [] m = m
ordered step p (j ∷ js) m = ordered step p js (upto (step j) (p j) m)

pub ordered-none : {S : Type 0} (step : ℕ → ℕ → S → S) (js : List ℕ) (m : S) → ordered step (λ j. 0) js m ≡ m
unfolding ordered upto
ordered-none step [] m = refl
ordered-none step (x ∷ xs) m = ordered-none step xs m

-- the place of a job that is not in the list is of no matter
ordered_same : {S : Type 0} (step : ℕ → ℕ → S → S) (p p' : ℕ → ℕ) (j : ℕ) → ((x : ℕ) → x ≢ j → p' x ≡ p x)
    → (js : List ℕ) → (In j js → ⊥) → (m : S) → ordered step p' js m ≡ ordered step p js m
unfolding ordered
ordered_same step p p' j e [] h m = refl
ordered_same step p p' j e (x ∷ xs) h m =
    ordered_same step p p' j e xs (λ i. h (inr i)) (upto (step x) (p' x) m)
    ∙ ap (λ k. ordered step p xs (upto (step x) k m)) (e x (λ q. h (inl (sym q))))

-- count j: how many steps job j has; steps of different jobs commute
pub record Commuting {S : Type 0} (Good : S → Type 0) (count : ℕ → ℕ) (step : ℕ → ℕ → S → S) : Type 0 where
  pub good : (j i : ℕ) → i < count j → (m : S) → Good m → Good (step j i m)
  pub comm : (j x i k : ℕ) → j ≢ x → i < count j → k < count x → (m : S) → Good m → step j i (step x k m) ≡ step x k (step j i m)

module _ {S : Type 0} {Good : S → Type 0} {count : ℕ → ℕ} {step : ℕ → ℕ → S → S} (C : Commuting Good count step) where
  pub upto-good : (j k : ℕ) → k ≤ count j → (m : S) → Good m → Good (upto (step j) k m)
  upto-good j k h = upto-keep (step j) Good k (λ i hi. C.good j i (omega arith))

  pub visits-good : (j k c : ℕ) → k + c ≤ count j → (m : S) → Good m → Good (visits (step j) k c m)
  visits-good j k c h = visits-keep (step j) Good k c (λ i hi. C.good j i (omega arith))

  -- one step of j goes past steps of another job
  step-upto : (j x i k : ℕ) → j ≢ x → i < count j → k ≤ count x → (m : S) → Good m
      → step j i (upto (step x) k m) ≡ upto (step x) k (step j i m)
  unfolding upto
  step-upto j x i zero ne hi hk m g = refl
  step-upto j x i (suc k) ne hi hk m g =
      C.comm j x i k ne hi hk (upto (step x) k m) (upto-good x k (omega arith) m g)
      ∙ ap (step x k) (step-upto j x i k ne hi (omega arith) m g)

  -- and so do the first ones
  upto-upto : (j x i k : ℕ) → j ≢ x → i ≤ count j → k ≤ count x → (m : S) → Good m
      → upto (step j) i (upto (step x) k m) ≡ upto (step x) k (upto (step j) i m)
  unfolding upto
  upto-upto j x zero k ne hi hk m g = refl
  upto-upto j x (suc i) k ne hi hk m g =
      ap (step j i) (upto-upto j x i k ne (omega arith) hk m g)
      ∙ step-upto j x i k ne hi hk (upto (step j) i m) (upto-good j i (omega arith) m g)

  module _ (p : ℕ → ℕ) (fits : (j : ℕ) → p j ≤ count j) where
    step-ordered : (j i : ℕ) → i < count j → (js : List ℕ) → (In j js → ⊥) → (m : S) → Good m
        → step j i (ordered step p js m) ≡ ordered step p js (step j i m)
    unfolding ordered
    step-ordered j i hi [] h m g = refl
    step-ordered j i hi (x ∷ xs) h m g =
        step-ordered j i hi xs (λ k. h (inr k)) (upto (step x) (p x) m) (upto-good x (p x) (fits x) m g)
        ∙ ap (ordered step p xs) (step-upto j x i (p x) (λ q. h (inl q)) hi (fits x) m g)

    visits-ordered : (j k c : ℕ) → k + c ≤ count j → (js : List ℕ) → (In j js → ⊥) → (m : S) → Good m
        → visits (step j) k c (ordered step p js m) ≡ ordered step p js (visits (step j) k c m)
    unfolding visits
    visits-ordered j k zero hc js h m g = refl
    visits-ordered j k (suc c) hc js h m g =
        ap (step j (k + c)) (visits-ordered j k c (omega arith) js h m g)
        ∙ step-ordered j (k + c) (omega arith) js h (visits (step j) k c m) (visits-good j k c (omega arith) m g)

    -- c more steps of job j move its place by c, wherever j stands in the order
    pub advance : (p' : ℕ → ℕ) (j c : ℕ) → p' j ≡ p j + c → ((x : ℕ) → x ≢ j → p' x ≡ p x) → p j + c ≤ count j
        → (js : List ℕ) → Distinct js → In j js → (m : S) → Good m
        → visits (step j) (p j) c (ordered step p js m) ≡ ordered step p' js m
    unfolding ordered
    advance p' j c e o hc [] d x3 m g = elim x3 [ ]
    advance p' j c e o hc (x ∷ xs) d (inl q) m g =
        subst (λ y. (In y xs → ⊥)
        → visits (step j) (p j) c (ordered step p xs (upto (step y) (p y) m)) ≡ ordered step p' xs (upto (step y) (p' y) m)) q
        (λ ni.
        visits-ordered j (p j) c hc xs ni (upto (step j) (p j) m) (upto-good j (p j) (fits j) m g)
        ∙ ap (ordered step p xs) (visits-upto (step j) (p j) c m ∙ ap (λ k. upto (step j) k m) (sym e))
        ∙ sym (ordered_same step p p' j o xs ni (upto (step j) (p' j) m)))
        d.0
    advance p' j c e o hc (x ∷ xs) d (inr i) m g =
        advance p' j c e o hc xs d.1 i (upto (step x) (p x) m) (upto-good x (p x) (fits x) m g)
        ∙ ap (λ k. ordered step p' xs (upto (step x) k m)) (sym (o x (λ q. in-ne j x xs i d.0 (sym q))))

    -- what no other job's step changes is what job j alone has
    module _ {O : Type 0} (obs : S → O) (j : ℕ)
        (keeps : (x i : ℕ) → x ≢ j → i < count x → (m : S) → Good m → obs (step x i m) ≡ obs m) where
      obs-upto : (x k : ℕ) → x ≢ j → k ≤ count x → (m : S) → Good m → obs (upto (step x) k m) ≡ obs m
      unfolding upto
      obs-upto x zero ne hk m g = refl
      obs-upto x (suc k) ne hk m g =
          keeps x k ne hk (upto (step x) k m) (upto-good x k (omega arith) m g) ∙ obs-upto x k ne (omega arith) m g

      pub obs-ordered : (js : List ℕ) → (In j js → ⊥) → (m : S) → Good m → obs (ordered step p js m) ≡ obs m
      unfolding ordered
      obs-ordered [] h m g = refl
      obs-ordered (x ∷ xs) h m g =
          obs-ordered xs (λ i. h (inr i)) (upto (step x) (p x) m) (upto-good x (p x) (fits x) m g)
          ∙ obs-upto x (p x) (λ q. h (inl (sym q))) (fits x) m g

      pub alone : (js : List ℕ) → Distinct js → In j js → (m : S) → Good m → obs (ordered step p js m) ≡ obs (upto (step j) (p j) m)
      unfolding ordered
      alone [] d x3 m g = elim x3 [ ]
      alone (x ∷ xs) d (inl q) m g =
          subst (λ y. (In y xs → ⊥) → obs (ordered step p xs (upto (step y) (p y) m)) ≡ obs (upto (step j) (p j) m)) q
          (λ ni. obs-ordered xs ni (upto (step j) (p j) m) (upto-good j (p j) (fits j) m g))
          d.0
      alone (x ∷ xs) d (inr i) m g =
          let ne : x ≢ j = λ q. in-ne j x xs i d.0 (sym q) in
          alone xs d.1 i (upto (step x) (p x) m) (upto-good x (p x) (fits x) m g)
          ∙ ap obs (upto-upto j x (p j) (p x) (λ q. ne (sym q)) (fits j) (fits x) m g)
          ∙ obs-upto x (p x) ne (fits x) (upto (step j) (p j) m) (upto-good j (p j) (fits j) m g)
