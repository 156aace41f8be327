-- Turned walks: a distance that falls, the address by row and column from the corner, alignment. No contract cites this file.
-- Assumes nothing.
use Rattle.std.proofs.Common.{◌≡◌, ℕ, ◌+◌, ◌-◌, ◌*◌, ◌/◌, ◌%◌, ◌^◌, ◌<◌, ◌≤◌, Bool, true, false, sym, refl, ap, ◌∙◌, ap₂, mul_assoc, add-mul, zero-mul, mul-add, arith, pow-add}
use native.Mathlib.Nat.{mul-sub, mul-mod_right, div-add-mod}
use Rattle.walk.specs.declared.Walk.{Walk}
use Rattle.walk.specs.Walk.{address_at}
use Rattle.walk.proofs.Arithmetic.{mod-pow-mod}
use Rattle.corner.specs.Corner.{walked, corner_of, from_corner, chosen_index}

-- rising and falling by one distance, n times, makes whole turns of 2^32
pub walked-turns : (n x : ℕ) → n * x + n * walked true x ≡ n * ((x + walked true x) / 2 ^ 32) * 2 ^ 32
walked-turns n x =
    let turns : x + walked true x ≡ (x + walked true x) / 2 ^ 32 * 2 ^ 32 = omega arith in
    sym (mul-add n x (walked true x)) ∙ ap (λ (y : ℕ). n * y) turns ∙ sym (mul_assoc n ((x + walked true x) / 2 ^ 32) (2 ^ 32))

-- ---- the chosen order: below n, and its own other way round
pub chosen_index-lt : (falls : Bool) (n k : ℕ) → k < n → chosen_index falls n k < n
chosen_index-lt false n k h = h
chosen_index-lt true n k h = omega arith

pub chosen_index-twice : (falls : Bool) (n k : ℕ) → k < n → chosen_index falls n (chosen_index falls n k) ≡ k
chosen_index-twice false n k h = refl
chosen_index-twice true n k h = omega arith

-- ---- one dimension: from the corner's row or column to the k-th in the chosen order, modulo 2^32
record Turn (falls : Bool) (n k x : ℕ) : Type 0 where
  turns : ℕ
  is : corner_of falls n * x + k * walked falls x ≡ chosen_index falls n k * x + turns * 2 ^ 32

turn : (falls : Bool) (n k x : ℕ) → k < n → Turn falls n k x
turn false n k x h = record { turns = 0; is = omega (arith, zero-mul x) }
turn true n k x h =
    let cut : n - 1 ≡ n - 1 - k + k = omega arith in
    record {
      turns = k * ((x + walked true x) / 2 ^ 32);
      is = omega (arith, ap (λ (y : ℕ). y * x) cut, add-mul (n - 1 - k) k x, walked-turns k x);
    }

-- ---- a walk from the chosen corner visits the rows and columns of the one from the upper left, in the chosen order
module _ (pbh pbv : Bool) (cols rows : ℕ) (w : Walk) where
  pub from_corner-chosen_index : (r c : ℕ) → r < rows → c < cols
      → address_at (from_corner pbh pbv cols rows w) r c ≡ address_at w (chosen_index pbv rows r) (chosen_index pbh cols c)
  unfolding from_corner address_at
  from_corner-chosen_index r c hr hc =
      let down = turn pbv rows r w.pitch hr in
      let across = turn pbh cols c w.step hc in
      sums _ _ _ _ _ _ down.turns across.turns down.is across.is
    where
      -- the sums in whole turns of 2^32
      sums : (a b i j r c t u : ℕ) → a + r ≡ i + t * 2 ^ 32 → b + c ≡ j + u * 2 ^ 32
          → ((w.start + a + b) % 2 ^ 32 + r + c) % 2 ^ 32 ≡ (w.start + i + j) % 2 ^ 32
      sums a b i j r c t u e f =
          let whole : w.start + a + b + r + c ≡ w.start + i + j + (t + u) * 2 ^ 32 = omega arith in
          cut (w.start + a + b) r c ∙ ap (λ (x : ℕ). x % 2 ^ 32) whole ∙ drop (w.start + i + j) (t + u)
        where
          cut : (x r c : ℕ) → (x % 2 ^ 32 + r + c) % 2 ^ 32 ≡ (x + r + c) % 2 ^ 32
          cut x r c = omega arith

          drop : (x q : ℕ) → (x + q * 2 ^ 32) % 2 ^ 32 ≡ x % 2 ^ 32
          drop x q = omega arith

-- ---- alignment: a multiple of a power of two that is walked the other way is one
pub walked-multiple : (falls : Bool) (k x : ℕ) → k ≤ 4 → x % 2 ^ k ≡ 0 → walked falls x % 2 ^ k ≡ 0
walked-multiple false k x h e = e
walked-multiple true k x h e =
    let m : x % 2 ^ 32 % 2 ^ k ≡ 0 = mod-pow-mod k 32 x (omega arith) ∙ e in
    let y : x % 2 ^ 32 ≡ 2 ^ k * (x % 2 ^ 32 / 2 ^ k) = omega (arith, div-add-mod (x % 2 ^ 32) (2 ^ k)) in
    let s : k + (32 - k) ≡ 32 = omega arith in
    let p : 2 ^ 32 ≡ 2 ^ k * 2 ^ (32 - k) = ap (λ (n : ℕ). 2 ^ n) (sym s) ∙ pow-add 2 k (32 - k) in
    mod-pow-mod k 32 (2 ^ 32 - x % 2 ^ 32) (omega arith)
    ∙ ap (λ (n : ℕ). n % 2 ^ k) (ap₂ (λ (a b : ℕ). a - b) p y ∙ sym (mul-sub (2 ^ k) (2 ^ (32 - k)) (x % 2 ^ 32 / 2 ^ k)))
    ∙ mul-mod_right (2 ^ k) (2 ^ (32 - k) - x % 2 ^ 32 / 2 ^ k)
