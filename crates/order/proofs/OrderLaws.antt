-- Laws of `specs/Order.antt`: a segment that moves to the end keeps what holds of all places. No contract cites this file. Assumes nothing.
use mathlib.Core.Path.{◌≡◌, refl, sym, ap, ◌∙◌}
use mathlib.Core.Bool.{Bool, true, false, cond, ◌||◌}
use mathlib.Core.List.{List, [], ◌∷◌, ◌++◌}
use Prim.Native.Nat.{ℕ, zero, suc, ◌<◌, ◌≤◌}
use native.Mathlib.Omega.{arith}
use borrow.Author.Tests.{ltb-true}
use lib.Dec.{eqb}
use lib.ListN.{get_or, length}
use Rattle.std.specs.Prelude.{Option, Some, None}
use Rattle.std.specs.List.{remove}
use Rattle.lists.specs.Search.{any, first, any_pair}
use Rattle.lists.proofs.TestLaws.{eqb_comm, or-eq-false}
use Rattle.lists.proofs.SearchLaws.{any-first, any_snoc, any_pair-snoc}
use Rattle.order.specs.Order.{latest}

pub any-latest : (p : ℕ → Bool) (k : ℕ) (l : List ℕ) → any p (latest k l) ≡ any p l
unfolding any latest
any-latest p k [] = refl
any-latest p k (x ∷ l) = go (eqb x k) (any-latest p k l)
  where
    go : (b : Bool) → any p (latest k l) ≡ any p l → any p (cond b (l ++ (x ∷ [])) (x ∷ latest k l)) ≡ any p (x ∷ l)
    go true e = any_snoc p x l
    go false e = rw e

pub any_pair-latest : (k : ℕ) (l : List ℕ) → any_pair eqb (latest k l) ≡ any_pair eqb l
unfolding any any_pair latest
any_pair-latest k [] = refl
any_pair-latest k (x ∷ l) = go (eqb x k) (any_pair-latest k l)
  where
    go : (b : Bool) → any_pair eqb (latest k l) ≡ any_pair eqb l
        → any_pair eqb (cond b (l ++ (x ∷ [])) (x ∷ latest k l)) ≡ any_pair eqb (x ∷ l)
    go true e = any_pair-snoc eqb eqb_comm x l
    go false e = rw (any-latest (eqb x) k l, e)

-- What a search for segment k in the order finds

latest-at : (k : ℕ) (l : List ℕ) → any (λ x. eqb x k) l ≡ true
    → remove l (first (λ x. eqb x k) l) ++ (get_or l (first (λ x. eqb x k) l) 0 ∷ []) ≡ latest k l
unfolding any first latest
latest-at k [] e = cc
latest-at k (x ∷ l) e = go (eqb x k) e (latest-at k l)
  where
    go : (b : Bool) → (b || any (λ y. eqb y k) l) ≡ true
        → (any (λ y. eqb y k) l ≡ true
        → remove l (first (λ y. eqb y k) l) ++ (get_or l (first (λ y. eqb y k) l) 0 ∷ []) ≡ latest k l)
        → remove (x ∷ l) (cond b 0 (suc (first (λ y. eqb y k) l))) ++ (get_or (x ∷ l) (cond b 0 (suc (first (λ y. eqb y k) l))) 0 ∷ [])
        ≡ cond b (l ++ (x ∷ [])) (x ∷ latest k l)
    go true e h = refl
    go false e h = ap (λ (t : List ℕ). x ∷ t) (h e)

latest-none : (k : ℕ) (l : List ℕ) → any (λ x. eqb x k) l ≡ false → l ≡ latest k l
unfolding any latest
latest-none k [] e = refl
latest-none k (x ∷ l) e =
    let p = or-eq-false (eqb x k) _ e in rw p.0 (ap (λ (t : List ℕ). x ∷ t) (latest-none k l p.1))

latest-found : (k : ℕ) (l : List ℕ) (r : Option ℕ) → r ≡ cond (any (λ x. eqb x k) l) (Some (first (λ x. eqb x k) l)) None
    → (i : ℕ) → r ≡ Some i → remove l i ++ (get_or l i 0 ∷ []) ≡ latest k l
latest-found k l r e i f = go (any (λ x. eqb x k) l) refl (sym f ∙ e)
  where
    go : (b : Bool) → any (λ x. eqb x k) l ≡ b → Some i ≡ cond b (Some (first (λ x. eqb x k) l)) None
        → remove l i ++ (get_or l i 0 ∷ []) ≡ latest k l
    go true t g = let h : i ≡ first (λ x. eqb x k) l = cc in rw h (latest-at k l t)
    go false t g = cc

pub latest-missing : (k : ℕ) (l : List ℕ) (r : Option ℕ) → r ≡ cond (any (λ x. eqb x k) l) (Some (first (λ x. eqb x k) l)) None
    → r ≡ None → l ≡ latest k l
latest-missing k l r e f = latest-none k l (go (any (λ x. eqb x k) l) (sym f ∙ e))
  where
    go : (b : Bool) → None ≡ cond b (Some (first (λ x. eqb x k) l)) None → b ≡ false
    go true g = cc
    go false g = refl

-- the place may be known by another number
pub latest-moved : (k : ℕ) (l : List ℕ) (r : Option ℕ) → r ≡ cond (any (λ x. eqb x k) l) (Some (first (λ x. eqb x k) l)) None
    → (i n : ℕ) → r ≡ Some i → i ≡ n → remove l n ++ (get_or l n 0 ∷ []) ≡ latest k l
latest-moved k l r e i n f h = rw (sym h) (latest-found k l r e i f)

-- An order of four, with the one at each place moved to the end

of-four : (P : List ℕ → Type 0) (l : List ℕ) → length l ≡ 4 → ((a b c d : ℕ) → P (a ∷ b ∷ c ∷ d ∷ [])) → P l
of-four P [] h f = absurd (omega arith)
of-four P (a ∷ []) h f = absurd (omega arith)
of-four P (a ∷ b ∷ []) h f = absurd (omega arith)
of-four P (a ∷ b ∷ c ∷ []) h f = absurd (omega arith)
of-four P (a ∷ b ∷ c ∷ d ∷ []) h f = f a b c d
of-four P (a ∷ b ∷ c ∷ d ∷ e ∷ l) h f = absurd (omega arith)

abbrev Moved : List ℕ → Type 0
Moved l =
    ((get_or l 1 0 ∷ get_or l 2 0 ∷ get_or l 3 0 ∷ get_or l 0 0 ∷ []) ≡ remove l 0 ++ (get_or l 0 0 ∷ []))
    × ((get_or l 0 0 ∷ get_or l 2 0 ∷ get_or l 3 0 ∷ get_or l 1 0 ∷ []) ≡ remove l 1 ++ (get_or l 1 0 ∷ []))
    × ((get_or l 0 0 ∷ get_or l 1 0 ∷ get_or l 3 0 ∷ get_or l 2 0 ∷ []) ≡ remove l 2 ++ (get_or l 2 0 ∷ []))
    × (l ≡ remove l 3 ++ (get_or l 3 0 ∷ []))

pub moved-four : (l : List ℕ) → length l ≡ 4 → Moved l
moved-four l h = of-four Moved l h (λ a b c d. (refl, refl, refl, refl))

past-two : (i : ℕ) → (i ≡ 0 → ⊥) → (i ≡ 1 → ⊥) → (i ≡ 2 → ⊥) → 3 ≤ i
past-two zero a b c = absurd (a refl)
past-two (suc zero) a b c = absurd (b refl)
past-two (suc (suc zero)) a b c = absurd (c refl)
past-two (suc (suc (suc i))) a b c = omega arith

-- the last one stays where it is
pub latest-last : (k : ℕ) (l : List ℕ) (r : Option ℕ) → length l ≡ 4
    → r ≡ cond (any (λ x. eqb x k) l) (Some (first (λ x. eqb x k) l)) None
    → (i n : ℕ) → r ≡ Some i → n ≡ i → (n ≡ 0 → ⊥) → (n ≡ 1 → ⊥) → (n ≡ 2 → ⊥) → l ≡ latest k l
latest-last k l r four e i n f same x y z = go (any (λ x. eqb x k) l) refl (sym f ∙ e)
  where
    go : (b : Bool) → any (λ x. eqb x k) l ≡ b → Some i ≡ cond b (Some (first (λ x. eqb x k) l)) None → l ≡ latest k l
    go true t g =
        let is : i ≡ first (λ x. eqb x k) l = cc in
        let within : first (λ x. eqb x k) l < length l = ltb-true _ _ (sym (any-first (λ x. eqb x k) l) ∙ t) in
        (moved-four l four).3 ∙ latest-moved k l r e i 3 f (omega (arith, is, within, same, past-two n x y z))
    go false t g = cc
