-- Laws of `specs/Number.antt` on a whole field. No contract cites this file. Assumes nothing.
use mathlib.Core.Path.{◌≡◌, refl, sym, ◌∙◌}
use mathlib.Core.Bool.{Bool, true, false, true≢false, cond, ◌&&◌, and-eq-true_iff}
use mathlib.Core.List.{List, [], ◌∷◌}
use Prim.Native.Nat.{ℕ, suc, ◌+◌, ◌-◌, ◌*◌, ◌^◌, ◌<◌}
use native.Mathlib.Nat.{lt_irrefl, lt_of_not-le}
use native.Mathlib.Omega.{arith}
use borrow.Author.Tests.{eq-eqb, lt-ltb}
use lib.Dec.{eqb, ltb}
use lib.ListN.{length, get_or}
use Rattle.ascii.specs.Ascii.{digit0}
use Rattle.std.specs.Prelude.{Some, None}
use Rattle.std.proofs.lemmas.Option.{none-some}
use Rattle.text.specs.Number.{is_digit, are_digits, digits_value, digits_of, number_of}
use Rattle.text.proofs.DigitLaws.{fitting-value, is_digit-le, decimal-lt, decimal-inj}

-- A field by its length and its first byte

pub number_of-empty : (s : List ℕ) → length s ≡ 0 → number_of s ≡ None
unfolding number_of
number_of-empty [] e = refl
number_of-empty (c ∷ s) e = absurd (omega arith)

-- is there a leading zero?
abbrev pub leads : List ℕ → Bool
leads s = ltb 1 (length s) && eqb (get_or s 0 0) digit0

leads-two : (c d : ℕ) (s : List ℕ) → leads (c ∷ d ∷ s) ≡ eqb c digit0
leads-two c d s = rw (lt-ltb 1 (suc (suc (length s))) (omega arith))

pub number_of-led : (s : List ℕ) → leads s ≡ true → number_of s ≡ None
unfolding number_of
number_of-led [] e = refl
number_of-led (c ∷ []) e = absurd (true≢false (sym e))
number_of-led (c ∷ d ∷ s) e = rw (sym (leads-two c d s) ∙ e)

pub number_of-digits : (s : List ℕ) → (length s ≡ 0 → ⊥) → leads s ≡ false → number_of s ≡ digits_of 0 s
unfolding number_of
number_of-digits [] n e = absurd (n refl)
number_of-digits (c ∷ []) n e = refl
number_of-digits (c ∷ d ∷ s) n e = rw (sym (leads-two c d s) ∙ e)

-- The fields that are numbers: decimal without leading zeros, not above 2^64 - 1

record Written (s : List ℕ) (v : ℕ) : Type 0 where
  some : 0 < length s
  digits : are_digits s ≡ true
  unled : leads s ≡ false
  value : digits_value 0 s ≡ v
  fits : v < 2 ^ 64

digits_of-written : (s : List ℕ) (v : ℕ) → 0 < length s → leads s ≡ false → digits_of 0 s ≡ Some v → Written s v
digits_of-written s v n l e =
    let t = fitting-value (are_digits s) (digits_value 0 s) v e in
    record { some = n; digits = t.0; unled = l; value = t.1; fits = t.2 }

number_of-written : (s : List ℕ) (v : ℕ) → number_of s ≡ Some v → Written s v
unfolding number_of
number_of-written [] v e = absurd (none-some v e)
number_of-written (c ∷ []) v e = digits_of-written (c ∷ []) v (omega arith) refl e
number_of-written (c ∷ d ∷ s) v e = go (eqb c digit0) refl e
  where
    go : (b : Bool) → eqb c digit0 ≡ b → cond b None (digits_of 0 (c ∷ d ∷ s)) ≡ Some v → Written (c ∷ d ∷ s) v
    go true t e = absurd (none-some v e)
    go false t e = digits_of-written (c ∷ d ∷ s) v (omega arith) (leads-two c d s ∙ t) e

-- No two fields are the same number

-- fewer digits, a smaller number
fewer-lt : (a b : List ℕ) (v w : ℕ) → Written a v → Written b w → length a < length b → v < w
unfolding are_digits digits_value
fewer-lt a [] v w p q h = absurd (omega arith)
fewer-lt a (d ∷ b) v w p q h =
    let t = (and-eq-true_iff (is_digit d) (are_digits b)).0 q.digits in
    let l = is_digit-le d t.0 in
    let m : 1 < suc (length b) = omega (arith, p.some) in
    let n : digit0 < d = lt_of_not-le (λ k. true≢false (rw (lt-ltb 1 (suc (length b)) m, eq-eqb d digit0 (omega arith)) at q.unled)) in
    omega (arith, p.value, q.value, decimal-lt 0 (0 * 10 + (d - digit0)) a b (omega arith) (omega arith) p.digits)

pub number_of-inj : (a b : List ℕ) (v : ℕ) → number_of a ≡ Some v → number_of b ≡ Some v → a ≡ b
number_of-inj a b v e f =
    let p = number_of-written a v e in
    let q = number_of-written b v f in
    let l : length a < suc (length b) = lt_of_not-le (λ h. lt_irrefl v (fewer-lt b a v v q p h)) in
    let m : length b < suc (length a) = lt_of_not-le (λ h. lt_irrefl v (fewer-lt a b v v p q h)) in
    (decimal-inj 0 0 a b (omega arith) p.digits q.digits (p.value ∙ sym q.value)).1
