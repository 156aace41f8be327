-- Laws of `specs/Number.antt` on digits that follow a value, as a loop over a field reads them. No contract cites this file. Assumes
-- nothing.
use mathlib.Core.Path.{◌≡◌, refl, sym, ap, ap₂}
use mathlib.Core.Bool.{Bool, true, false, cond, ◌&&◌, and-eq-true_iff}
use mathlib.Core.List.{List, [], ◌∷◌}
use Prim.Native.Nat.{ℕ, suc, ◌+◌, ◌-◌, ◌*◌, ◌^◌, ◌<◌, ◌≤◌}
use native.Mathlib.Nat.{le_trans, le_refl}
use native.Mathlib.Numerals.{add-one}
use native.Mathlib.Omega.{arith}
use borrow.Author.Tests.{lt-ltb, le-ltb, ltb-true, ltb-false, leb-true}
use lib.Dec.{leb, ltb}
use lib.ListN.{length, get_or, drop, drop_of_length-le}
use lib.Seq.{drop-cons}
use Rattle.lists.proofs.TestLaws.{cond_same}
use Rattle.ascii.specs.Ascii.{digit0, digit9}
use Rattle.std.specs.Prelude.{Some, None}
use Rattle.std.proofs.lemmas.Option.{none-some, same_Some}
use Rattle.text.specs.Number.{is_digit, are_digits, digits_value, fitting, digits_of, pushed}

-- What passes a test and fits
pub fitting-value : (b : Bool) (v w : ℕ) → cond b (fitting v) None ≡ Some w → (b ≡ true) × (v ≡ w) × (w < 2 ^ 64)
fitting-value false v w e = absurd (none-some w e)
fitting-value true v w e = go (ltb v (2 ^ 64)) refl e
  where
    go : (b : Bool) → ltb v (2 ^ 64) ≡ b → cond b (Some v) None ≡ Some w → (true ≡ true) × (v ≡ w) × (w < 2 ^ 64)
    go true t e = (refl, same_Some v w e, omega (arith, ltb-true v (2 ^ 64) t, same_Some v w e))
    go false t e = absurd (none-some w e)

-- One digit more

pub pushed-lt : (v c w : ℕ) → pushed v c ≡ Some w → w < 2 ^ 64
pushed-lt v c w e = (fitting-value (is_digit c) (v * 10 + (c - digit0)) w e).2

-- The value of digits

-- it only grows
decimal-ge : (v : ℕ) (cs : List ℕ) → v ≤ digits_value v cs
unfolding digits_value
decimal-ge v [] = le_refl v
decimal-ge v (c ∷ cs) = le_trans (more v (c - digit0)) (decimal-ge (v * 10 + (c - digit0)) cs)
  where
    more : (v d : ℕ) → v ≤ v * 10 + d
    more v d = omega arith

pub is_digit-le : (c : ℕ) → is_digit c ≡ true → (digit0 ≤ c) × (c ≤ digit9)
is_digit-le c e = let t = (and-eq-true_iff (leb digit0 c) (leb c digit9)).0 e in (leb-true digit0 c t.0, leb-true c digit9 t.1)

-- a greater value stays greater, where no fewer digits follow it
pub decimal-lt : (v w : ℕ) (a b : List ℕ) → v < w → length a ≤ length b → are_digits a ≡ true → digits_value v a < digits_value w b
unfolding are_digits digits_value
decimal-lt v w [] b h n t = omega (arith, decimal-ge w b)
decimal-lt v w (c ∷ a) [] h n t = absurd (omega arith)
decimal-lt v w (c ∷ a) (d ∷ b) h n t =
    let q = (and-eq-true_iff (is_digit c) (are_digits a)).0 t in
    let l = is_digit-le c q.0 in
    decimal-lt (v * 10 + (c - digit0)) (w * 10 + (d - digit0)) a b (omega arith) (omega arith) q.1

-- as many digits with the same value are the same
pub decimal-inj : (v w : ℕ) (a b : List ℕ) → length a ≡ length b → are_digits a ≡ true → are_digits b ≡ true
    → digits_value v a ≡ digits_value w b → (v ≡ w) × (a ≡ b)
unfolding are_digits digits_value
decimal-inj v w [] [] n s t e = (e, refl)
decimal-inj v w [] (d ∷ b) n s t e = absurd (omega arith)
decimal-inj v w (c ∷ a) [] n s t e = absurd (omega arith)
decimal-inj v w (c ∷ a) (d ∷ b) n s t e =
    let p = (and-eq-true_iff (is_digit c) (are_digits a)).0 s in
    let q = (and-eq-true_iff (is_digit d) (are_digits b)).0 t in
    let l = is_digit-le c p.0 in
    let m = is_digit-le d q.0 in
    let i = decimal-inj (v * 10 + (c - digit0)) (w * 10 + (d - digit0)) a b (omega arith) p.1 q.1 e in
    let o : c ≡ d = omega arith in
    (omega arith, ap₂ (λ (x : ℕ) (r : List ℕ). x ∷ r) o i.1)

-- The next digit

digits_of-cons : (v c w : ℕ) (cs : List ℕ) → pushed v c ≡ Some w → digits_of v (c ∷ cs) ≡ digits_of w cs
unfolding are_digits digits_value
digits_of-cons v c w cs = go (is_digit c) (ltb (v * 10 + (c - digit0)) (2 ^ 64))
  where
    go : (b d : Bool) → cond b (cond d (Some (v * 10 + (c - digit0))) None) None ≡ Some w
        → cond (b && are_digits cs) (fitting (digits_value (v * 10 + (c - digit0)) cs)) None ≡ digits_of w cs
    go true true e = ap (λ (n : ℕ). digits_of n cs) (same_Some _ w e)
    go true false e = absurd (none-some w e)
    go false d e = absurd (none-some w e)

-- no digit, or a value that is too large however it goes on
digits_of-bad : (v c : ℕ) (cs : List ℕ) → pushed v c ≡ None → digits_of v (c ∷ cs) ≡ None
unfolding are_digits digits_value
digits_of-bad v c cs = go (is_digit c) (ltb (v * 10 + (c - digit0)) (2 ^ 64)) refl
  where
    go : (b d : Bool) → ltb (v * 10 + (c - digit0)) (2 ^ 64) ≡ d → cond b (cond d (Some (v * 10 + (c - digit0))) None) None ≡ None
        → cond (b && are_digits cs) (fitting (digits_value (v * 10 + (c - digit0)) cs)) None ≡ None
    go true true t e = absurd (none-some _ (sym e))
    go true false t e =
        rw (le-ltb _ _ (le_trans (ltb-false _ _ t) (decimal-ge (v * 10 + (c - digit0)) cs))) (cond_same (are_digits cs) None)
    go false d t e = refl

module _ (s : List ℕ) (i v : ℕ) where
  pub digits_of-next : (w : ℕ) → i < length s → pushed v (get_or s i 0) ≡ Some w → digits_of v (drop i s) ≡ digits_of w (drop (i + 1) s)
  digits_of-next w l e = rw (drop-cons s i 0 l, add-one) (digits_of-cons v (get_or s i 0) w (drop (suc i) s) e)

  pub digits_of-stop : i < length s → pushed v (get_or s i 0) ≡ None → digits_of v (drop i s) ≡ None
  digits_of-stop l e = rw (drop-cons s i 0 l) (digits_of-bad v (get_or s i 0) (drop (suc i) s) e)

  pub digits_of-end : length s ≤ i → v < 2 ^ 64 → digits_of v (drop i s) ≡ Some v
  unfolding are_digits digits_value
  digits_of-end l h = rw (drop_of_length-le s l, lt-ltb v (2 ^ 64) h)
