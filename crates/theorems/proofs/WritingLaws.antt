-- A number that a listing writes is read back by a plan's reader. Assumes nothing.
use mathlib.Core.Path.{◌≡◌, refl, ◌∙◌}
use mathlib.Core.Bool.{Bool, true, false, ◌&&◌}
use mathlib.Core.List.{List, [], ◌∷◌, ◌++◌}
use mathlib.Core.Logic.{◌≢◌}
use Prim.Native.Nat.{ℕ, zero, suc, ◌+◌, ◌-◌, ◌*◌, ◌/◌, ◌%◌, ◌^◌, ◌≤◌, ◌<◌}
use native.Mathlib.Nat.{pow-suc}
use native.Mathlib.Omega.{arith}
use borrow.Author.Tests.{ltb-true, ltb-false, lt-ltb, le-leb, ne_eqb}
use lib.Dec.{ltb}
use Rattle.text.specs.Number.{is_digit, are_digits, digits_of, number_of}
use Rattle.text.specs.Number.{digits_value as value_from}
use Rattle.std.specs.Prelude.{Some}
use Rattle.listing.specs.Listing.{digits, decimal}
use Rattle.listing.proofs.ListingLaws.{digits-small, digits-large}

by_size : {P : Type 0} (n : ℕ) → (n < 10 → P) → (10 ≤ n → P) → P
by_size {P} n f g = go (ltb n 10) refl
  where
    go : (b : Bool) → ltb n 10 ≡ b → P
    go true e = f (ltb-true n 10 e)
    go false e = g (ltb-false n 10 e)

-- One digit more

value_from-snoc : (v c : ℕ) (cs : List ℕ) → value_from v (cs ++ (c ∷ [])) ≡ value_from v cs * 10 + (c - 48)
unfolding value_from
value_from-snoc v c [] = refl
value_from-snoc v c (d ∷ cs) = value_from-snoc (v * 10 + (d - 48)) c cs

are_digits-snoc : (c : ℕ) (cs : List ℕ) → is_digit c ≡ true → are_digits cs ≡ true → are_digits (cs ++ (c ∷ [])) ≡ true
unfolding are_digits
are_digits-snoc c [] d e = rw d
are_digits-snoc c (b ∷ cs) d e = go (is_digit b) e (are_digits-snoc c cs d)
  where
    go : (t : Bool) → (t && are_digits cs) ≡ true → (are_digits cs ≡ true → are_digits (cs ++ (c ∷ [])) ≡ true)
        → (t && are_digits (cs ++ (c ∷ []))) ≡ true
    go true e f = f e
    go false e f = e

is_digit-digit : (n : ℕ) → n < 10 → is_digit (48 + n) ≡ true
is_digit-digit n h = rw (le-leb 48 (48 + n) (omega arith), le-leb (48 + n) 57 (omega arith))

-- What is written: digits of that value, the first of them not 0 but in 0 itself

-- a first byte that isn't 0
abbrev Leads : List ℕ → Type 0
Leads [] = ⊥
Leads (c ∷ cs) = c ≢ 48

leads-snoc : (c : ℕ) (cs : List ℕ) → Leads cs → Leads (cs ++ (c ∷ []))
leads-snoc c [] l = absurd l
leads-snoc c (d ∷ cs) l = l

record Written (n : ℕ) (cs : List ℕ) : Type 0 where
  value : value_from 0 cs ≡ n
  all : are_digits cs ≡ true
  leads : 0 < n → Leads cs

written_one : (n : ℕ) → n < 10 → Written n ((48 + n) ∷ [])
unfolding value_from are_digits
written_one n h = record { value = omega arith; all = rw (is_digit-digit n h); leads = λ p e. omega arith }

written-snoc : (n : ℕ) (cs : List ℕ) → 10 ≤ n → Written (n / 10) cs → Written n (cs ++ ((48 + n % 10) ∷ []))
written-snoc n cs h w =
    record {
      value = value_from-snoc 0 (48 + n % 10) cs ∙ rw w.value (omega arith);
      all = are_digits-snoc (48 + n % 10) cs (is_digit-digit (n % 10) (omega arith)) w.all;
      leads = λ p. leads-snoc (48 + n % 10) cs (w.leads (omega arith));
    }

written : (k n : ℕ) → n < 10 ^ suc k → Written n (digits (suc k) n)
written zero n h = rw (digits-small 0 n h) (written_one n h)
written (suc k) n h =
    by_size n (λ l. rw (digits-small (suc k) n l) (written_one n l))
    (λ l. rw (digits-large (suc k) n l) (written-snoc n _ l (written k (n / 10) (omega (arith, pow-suc 10 (suc k))))))

-- and so it is read

digits_of-written : (n : ℕ) (cs : List ℕ) → n < 2 ^ 64 → Written n cs → digits_of 0 cs ≡ Some n
digits_of-written n cs h w = rw (w.all, w.value, lt-ltb n (2 ^ 64) h)

number_of-written : (n : ℕ) (cs : List ℕ) → n < 2 ^ 64 → 0 < n → Written n cs → number_of cs ≡ Some n
unfolding number_of
number_of-written n [] h p w = absurd (w.leads p)
number_of-written n (c ∷ []) h p w = digits_of-written n (c ∷ []) h w
number_of-written n (c ∷ d ∷ cs) h p w = rw (ne_eqb c 48 (w.leads p)) (digits_of-written n (c ∷ d ∷ cs) h w)

number_of-one : (n : ℕ) → n < 10 → number_of ((48 + n) ∷ []) ≡ Some n
unfolding number_of
number_of-one n h = digits_of-written n ((48 + n) ∷ []) (omega arith) (written_one n h)

pub number_of-decimal : (n : ℕ) → n < 2 ^ 64 → number_of (decimal n) ≡ Some n
number_of-decimal n h =
    by_size n (λ l. rw (digits-small 19 n l) (number_of-one n l))
    (λ l. number_of-written n (decimal n) h (omega arith) (written 19 n (omega arith)))
