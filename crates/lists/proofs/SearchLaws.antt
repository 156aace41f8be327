-- Laws of `specs/Search.antt`. No contract cites this file. Assumes nothing.
use mathlib.Core.Path.{◌≡◌, refl, sym, ap, fun_ext, ◌∙◌}
use mathlib.Core.Bool.{Bool, true, false, cond, ◌||◌, or_assoc}
use mathlib.Core.List.{List, [], ◌∷◌, ◌++◌}
use Prim.Native.Nat.{ℕ, zero, suc, ◌≤◌}
use native.Mathlib.Omega.{arith}
use borrow.Author.Tests.{lt-ltb}
use lib.Dec.{ltb, leb-suc-suc}
use lib.ListN.{length, get_or, set}
use Rattle.lists.specs.Search.{any, first, any_pair}
use Rattle.lists.specs.Tabulate.{tabulate}
use Rattle.lists.proofs.TestLaws.{or-eq-false, or-left-comm, or_swap}

-- Lists of known length, and numbers below one

pub tabulate-get_or : {A : Type 0} (n : ℕ) (d : A) (l : List A) → length l ≡ n → l ≡ tabulate n (λ i. get_or l i d)
tabulate-get_or zero d [] h = refl
tabulate-get_or zero d (x ∷ l) h = absurd (omega arith)
tabulate-get_or (suc n) d [] h = absurd (omega arith)
tabulate-get_or (suc n) d (x ∷ l) h = ap (λ (t : List _). x ∷ t) (tabulate-get_or n d l (omega arith))

pub length-tabulate : {A : Type 0} (n : ℕ) (f : ℕ → A) → length (tabulate n f) ≡ n
length-tabulate zero f = refl
length-tabulate (suc n) f = ap suc (length-tabulate n (λ i. f (suc i)))

-- with elements that are the default from the length on, each index gives its element
pub get_d_tabulate : {A : Type 0} (n : ℕ) (f : ℕ → A) (d : A) → ((i : ℕ) → n ≤ i → f i ≡ d) → (i : ℕ) → get_or (tabulate n f) i d ≡ f i
get_d_tabulate zero f d past i = sym (past i (omega arith))
get_d_tabulate (suc n) f d past zero = refl
get_d_tabulate (suc n) f d past (suc i) = get_d_tabulate n (λ j. f (suc j)) d (λ j h. past (suc j) (omega arith)) i

-- does some number below n pass the test?
abbrev pub any_below : ℕ → (ℕ → Bool) → Bool
any_below zero p = false
any_below (suc n) p = any_below n p || p n

-- The first element that passes; no element that passes

-- some element passes exactly where the first one stands below the length
pub any-first : {A : Type 0} (p : A → Bool) (l : List A) → any p l ≡ ltb (first p l) (length l)
unfolding any first
any-first p [] = refl
any-first p (x ∷ l) = go (p x) (any-first p l)
  where
    go : (b : Bool) → any p l ≡ ltb (first p l) (length l) → (b || any p l) ≡ ltb (cond b 0 (suc (first p l))) (suc (length l))
    go true e = sym (lt-ltb 0 (suc (length l)) (omega arith))
    go false e = e ∙ sym (leb-suc-suc (suc (first p l)) (length l))

-- the first one passes
pub get_or-first : {A : Type 0} (p : A → Bool) (d : A) (l : List A) → any p l ≡ true → p (get_or l (first p l) d) ≡ true
unfolding any first
get_or-first p d [] e = cc
get_or-first p d (x ∷ l) e = go (p x) refl e (get_or-first p d l)
  where
    go : (b : Bool) → p x ≡ b → (b || any p l) ≡ true → (any p l ≡ true → p (get_or l (first p l) d) ≡ true)
        → p (get_or (x ∷ l) (cond b 0 (suc (first p l))) d) ≡ true
    go true q e f = q
    go false q e f = f e

-- where no element passes, and the default does not, nothing read from the list does
pub any-get_or : {A : Type 0} (p : A → Bool) (d : A) (l : List A) (i : ℕ) → p d ≡ false → any p l ≡ false → p (get_or l i d) ≡ false
unfolding any
any-get_or p d [] i h e = h
any-get_or p d (x ∷ l) zero h e = (or-eq-false (p x) _ e).0
any-get_or p d (x ∷ l) (suc i) h e = any-get_or p d l i h (or-eq-false (p x) _ e).1

-- where no element passes a test, none passes a stricter one
pub any_none : {A : Type 0} (p q : A → Bool) (l : List A) → ((x : A) → p x ≡ false → q x ≡ false) → any p l ≡ false → any q l ≡ false
unfolding any
any_none p q [] f e = refl
any_none p q (x ∷ l) f e = rw (f x (or-eq-false (p x) _ e).0) (any_none p q l f (or-eq-false (p x) _ e).1)

-- A list with an element more at the end

pub any_snoc : {A : Type 0} (p : A → Bool) (x : A) (l : List A) → any p (l ++ (x ∷ [])) ≡ (p x || any p l)
unfolding any
any_snoc p x [] = refl
any_snoc p x (y ∷ l) = rw (any_snoc p x l) (or-left-comm (p y) (p x) _)

pub any_pair-snoc : {A : Type 0} (r : A → A → Bool) (symmetric : (a b : A) → r a b ≡ r b a) (x : A) (l : List A)
    → any_pair r (l ++ (x ∷ [])) ≡ (any (r x) l || any_pair r l)
unfolding any any_pair
any_pair-snoc r s x [] = refl
any_pair-snoc r s x (y ∷ l) =
    rw (any_snoc (r y) x l, s y x)
    (ap (λ (b : Bool). (r x y || any (r y) l) || b) (any_pair-snoc r s x l) ∙ or_swap (r x y) (any (r y) l) (any (r x) l) (any_pair r l))

-- A list with an element changed

-- to one that passes where some element does, or fails where all do
pub any-set : {A : Type 0} (p : A → Bool) (x : A) (l : List A) (i : ℕ) (b : Bool) → p x ≡ b → any p l ≡ b → any p (set l i x) ≡ b
unfolding any
any-set p x [] i b h e = e
any-set p x (y ∷ l) zero true h e = rw h
any-set p x (y ∷ l) zero false h e = rw h (or-eq-false (p y) _ e).1
any-set p x (y ∷ l) (suc i) b h e = go (p y) e (any-set p x l i b h)
  where
    go : (t : Bool) → (t || any p l) ≡ b → (any p l ≡ b → any p (set l i x) ≡ b) → (t || any p (set l i x)) ≡ b
    go true e f = e
    go false e f = f e

-- to one that passes as the old one does
pub any-set-same : {A : Type 0} (p : A → Bool) (x d : A) (l : List A) (i : ℕ) → p x ≡ p (get_or l i d) → any p (set l i x) ≡ any p l
unfolding any
any-set-same p x d [] i h = refl
any-set-same p x d (y ∷ l) zero h = rw h
any-set-same p x d (y ∷ l) (suc i) h = rw (any-set-same p x d l i h)

module _ {A : Type 0} (r : A → A → Bool) (symmetric : (a b : A) → r a b ≡ r b a) where
  -- to one in relation to none of the list
  pub any_pair-set : (x : A) (l : List A) (i : ℕ) → any (r x) l ≡ false → any_pair r l ≡ false → any_pair r (set l i x) ≡ false
  unfolding any any_pair
  any_pair-set x [] i h e = refl
  any_pair-set x (y ∷ l) zero h e = rw (or-eq-false (r x y) _ h).1 (or-eq-false (any (r y) l) _ e).1
  any_pair-set x (y ∷ l) (suc i) h e =
      rw (any-set (r y) x l i false (symmetric y x ∙ (or-eq-false (r x y) _ h).0) (or-eq-false (any (r y) l) _ e).0)
      (any_pair-set x l i (or-eq-false (r x y) _ h).1 (or-eq-false (any (r y) l) _ e).1)

  -- to one in relation to what the old one is in relation to
  pub any_pair-set-same : (x d : A) (l : List A) (i : ℕ) → ((y : A) → r x y ≡ r (get_or l i d) y) → any_pair r (set l i x) ≡ any_pair r l
  unfolding any any_pair
  any_pair-set-same x d [] i h = refl
  any_pair-set-same x d (y ∷ l) zero h = ap (λ (p : A → Bool). any p l || any_pair r l) (fun_ext h)
  any_pair-set-same x d (y ∷ l) (suc i) h =
      rw (any-set-same (r y) x d l i (symmetric y x ∙ h y ∙ symmetric _ y), any_pair-set-same x d l i h)

-- Two lists joined

pub any_append : {A : Type 0} (p : A → Bool) (l m : List A) → any p (l ++ m) ≡ (any p l || any p m)
unfolding any
any_append p [] m = refl
any_append p (x ∷ l) m = rw (any_append p l m) (sym (or_assoc (p x) _ _))

any-or : {A : Type 0} (p q : A → Bool) (l : List A) → any (λ x. p x || q x) l ≡ (any p l || any q l)
unfolding any
any-or p q [] = refl
any-or p q (x ∷ l) = rw (any-or p q l) (or_swap (p x) (q x) _ _)

any-never : {A : Type 0} (l : List A) → any (λ _. false) l ≡ false
unfolding any
any-never [] = refl
any-never (x ∷ l) = any-never l

-- a pair of the first list, a later element in relation to one of the first list, or a pair of the second
pub any_pair-append : {A : Type 0} (r : A → A → Bool) (symmetric : (a b : A) → r a b ≡ r b a) (l m : List A)
    → any_pair r (l ++ m) ≡ (any_pair r l || (any (λ y. any (r y) l) m || any_pair r m))
unfolding any any_pair
any_pair-append r s [] m = rw (any-never m)
any_pair-append r s (x ∷ l) m =
    let turned : any (λ y. r y x) m ≡ any (r x) m = ap (λ (p : _ → Bool). any p m) (fun_ext (λ y. s y x)) in
    rw (
      any_append (r x) l m,
      any_pair-append r s l m,
      any-or (λ y. r y x) (λ y. any (r y) l) m,
      turned,
      or_assoc (any (r x) m) (any (λ y. any (r y) l) m) (any_pair r m),
    )
    (or_swap (any (r x) l) (any (r x) m) (any_pair r l) _)
