-- Places a distance apart, modulo 2^32, that all lie below a limit; a walk by its rows and columns. No contract cites this file.
-- Assumes nothing.
use mathlib.Core.Path.{◌≡◌, refl, sym, ap, subst, ◌∙◌}
use mathlib.Core.Bool.{Bool, true, false, cond}
use Prim.Native.Nat.{ℕ, zero, suc, ◌+◌, ◌-◌, ◌*◌, ◌%◌, ◌^◌, ◌≤◌, ◌<◌}
use native.Mathlib.Nat.{mul-le-mul_right, mul-add, suc-mul, zero-mul}
use native.Mathlib.Omega.{arith}
use lib.Dec.{leb}
use borrow.Author.Tests.{leb-true, leb-false}
use Rattle.walk.specs.declared.Walk.{Walk}
use Rattle.walk.specs.Walk.{address_at}
use Rattle.extent.specs.Reach.{upwards, downwards}

-- ---- n places from a base, all below a limit of at most 2^24: no distance leads from within around to the base
module _ (limit base distance : ℕ) (most : limit ≤ 2 ^ 24) (start : base < limit) where
  -- the first places up to place i
  abbrev Below : ℕ → Type 0
  Below i = (j : ℕ) → j ≤ i → (base + j * distance) % 2 ^ 32 < limit

  rise : distance ≤ 2 ^ 31 → (i : ℕ) → Below i → base + i * distance < limit
  rise up zero h = omega (arith, zero-mul distance)
  rise up (suc i) h = omega (arith, rise up i (λ j l. h j (omega arith)), h (suc i) (omega arith), suc-mul i distance)

  fall : (q : ℕ) → distance + q ≡ 2 ^ 32 → q < 2 ^ 31 → (i : ℕ) → Below i → i * q ≤ base
  fall q e l zero h = omega (arith, zero-mul q)
  fall q e l (suc i) h =
      omega (arith, fall q e l i (λ j k. h j (omega arith)), h (suc i) (omega arith), suc-mul i q, both (suc i))
    where
      both : (r : ℕ) → r * distance + r * q ≡ r * 2 ^ 32
      both r = sym (mul-add r distance q) ∙ ap (λ (x : ℕ). r * x) e

  reach : (n : ℕ) → 0 < n → distance < 2 ^ 32 → ((i : ℕ) → i < n → (base + i * distance) % 2 ^ 32 < limit)
      → (base + upwards n distance < limit) × (downwards n distance ≤ base)
  unfolding upwards downwards
  reach n pos fits h = go (leb distance (2 ^ 31)) refl
    where
      go : (b : Bool) → leb distance (2 ^ 31) ≡ b
          → (base + cond b ((n - 1) * distance) 0 < limit) × (cond b 0 ((n - 1) * (2 ^ 32 - distance)) ≤ base)
      go true e = (rise (leb-true distance (2 ^ 31) e) (n - 1) (λ j l. h j (omega arith)), omega arith)
      go false e =
          let g : 2 ^ 31 < distance = leb-false distance (2 ^ 31) e in
          (omega arith, fall (2 ^ 32 - distance) (omega arith) (omega arith) (n - 1) (λ j l. h j (omega arith)))

-- ---- place i of n lies at most upwards above the base and at most downwards below it
record Offset (n distance i : ℕ) : Type 0 where
  pub plus : ℕ
  pub minus : ℕ
  pub turns : ℕ
  pub is : i * distance + minus ≡ plus + turns * 2 ^ 32
  pub plus-le : plus ≤ upwards n distance
  pub minus-le : minus ≤ downwards n distance

offset : (n distance i : ℕ) → i < n → distance < 2 ^ 32 → Offset n distance i
unfolding upwards downwards
offset n distance i h fits = go (leb distance (2 ^ 31)) refl
  where
    last : (q : ℕ) → i * q ≤ (n - 1) * q
    last q = let l : i ≤ n - 1 = omega arith in mul-le-mul_right q l

    go : (b : Bool) → leb distance (2 ^ 31) ≡ b → Offset n distance i
    go true e = record {
      plus = i * distance;
      minus = 0;
      turns = 0;
      is = omega arith;
      plus-le = subst (λ (u : Bool). i * distance ≤ cond u ((n - 1) * distance) 0) (sym e) (last distance);
      minus-le = omega arith;
    }
    go false e = record {
      plus = 0;
      minus = i * (2 ^ 32 - distance);
      turns = i;
      is = omega (arith, mul-add i distance (2 ^ 32 - distance), ap (λ (x : ℕ). i * x) (whole distance fits));
      plus-le = omega arith;
      minus-le = subst (λ (u : Bool). i * (2 ^ 32 - distance) ≤ cond u 0 ((n - 1) * (2 ^ 32 - distance))) (sym e)
          (last (2 ^ 32 - distance));
    }
      where
        whole : (d : ℕ) → d < 2 ^ 32 → d + (2 ^ 32 - d) ≡ 2 ^ 32
        whole d l = omega arith

-- ---- a walk of which rows and columns lie below a limit
module _ (limit : ℕ) (w : Walk) (cols rows : ℕ) (most : limit ≤ 2 ^ 24) (hp : w.pitch < 2 ^ 32) (hs : w.step < 2 ^ 32) where
  abbrev pub Inside : Type 0
  Inside = (r c : ℕ) → r < rows → c < cols → address_at w r c < limit

  pub inside-of-ends : w.start + (upwards rows w.pitch + upwards cols w.step) < limit
      → downwards rows w.pitch + downwards cols w.step ≤ w.start → Inside
  unfolding address_at
  inside-of-ends h l r c hr hc =
      let o = offset rows w.pitch r hr hp in
      let u = offset cols w.step c hc hs in
      sums w.start (r * w.pitch) (c * w.step) o.plus o.minus o.turns u.plus u.minus u.turns o.is u.is
      (omega (arith, o.plus-le, u.plus-le)) (omega (arith, o.minus-le, u.minus-le))
    where
      sums : (start a b p m t p' m' t' : ℕ) → a + m ≡ p + t * 2 ^ 32 → b + m' ≡ p' + t' * 2 ^ 32
          → start + p + p' < limit → m + m' ≤ start → (start + a + b) % 2 ^ 32 < limit
      sums start a b p m t p' m' t' e f h l = omega arith

  -- the other way round: along the first row to the column that lies highest or lowest, then along that column
  module _ (pos : 0 < cols) (some : 0 < rows) (first : w.start < 2 ^ 32) (h : Inside) where
    start-lt : w.start < limit
    unfolding address_at
    start-lt = omega (arith, h 0 0 some pos, zero-mul w.pitch, zero-mul w.step)

    row : (c : ℕ) → c < cols → (w.start + c * w.step) % 2 ^ 32 < limit
    unfolding address_at
    row c l = subst (λ (x : ℕ). x % 2 ^ 32 < limit) (drop (c * w.step)) (h 0 c some l)
      where
        drop : (z : ℕ) → w.start + 0 * w.pitch + z ≡ w.start + z
        drop z = omega (arith, zero-mul w.pitch)

    across : (w.start + upwards cols w.step < limit) × (downwards cols w.step ≤ w.start)
    across = reach limit w.start w.step most start-lt cols pos hs row

    -- the column that lies `at` as a whole number
    column : (c at : ℕ) → c < cols → at < limit → (w.start + c * w.step) % 2 ^ 32 ≡ at
        → (at + upwards rows w.pitch < limit) × (downwards rows w.pitch ≤ at)
    unfolding address_at
    column c at l k e = reach limit at w.pitch most k rows some hp (λ r hr. down (r * w.pitch) (h r c hr l))
      where
        down : (z : ℕ) → (w.start + z + c * w.step) % 2 ^ 32 < limit → (at + z) % 2 ^ 32 < limit
        down z g = omega (arith, e)

    -- the highest and the lowest column
    highest : (c : ℕ) × (c < cols) × ((w.start + c * w.step) % 2 ^ 32 ≡ w.start + upwards cols w.step)
    unfolding upwards
    highest = go (leb w.step (2 ^ 31)) refl across.0
      where
        go : (b : Bool) → leb w.step (2 ^ 31) ≡ b → w.start + cond b ((cols - 1) * w.step) 0 < limit
            → (c : ℕ) × (c < cols) × ((w.start + c * w.step) % 2 ^ 32 ≡ w.start + cond b ((cols - 1) * w.step) 0)
        go true e l = (cols - 1, omega arith, omega arith)
        go false e l = (0, pos, omega (arith, zero-mul w.step))

    lowest : (c : ℕ) × (c < cols) × ((w.start + c * w.step) % 2 ^ 32 ≡ w.start - downwards cols w.step)
    unfolding downwards
    lowest = go (leb w.step (2 ^ 31)) refl across.1
      where
        both : (r : ℕ) → r * w.step + r * (2 ^ 32 - w.step) ≡ r * 2 ^ 32
        both r = sym (mul-add r w.step (2 ^ 32 - w.step)) ∙ ap (λ (x : ℕ). r * x) (omega arith)

        go : (b : Bool) → leb w.step (2 ^ 31) ≡ b → cond b 0 ((cols - 1) * (2 ^ 32 - w.step)) ≤ w.start
            → (c : ℕ) × (c < cols) × ((w.start + c * w.step) % 2 ^ 32 ≡ w.start - cond b 0 ((cols - 1) * (2 ^ 32 - w.step)))
        go true e l = (0, pos, omega (arith, zero-mul w.step))
        go false e l = (cols - 1, omega arith, omega (arith, both (cols - 1)))

    pub ends-of-inside : (w.start + (upwards rows w.pitch + upwards cols w.step) < limit)
        × (downwards rows w.pitch + downwards cols w.step ≤ w.start)
    ends-of-inside =
        let high = highest in
        let low = lowest in
        let top : ℕ = w.start + upwards cols w.step in
        let bottom : ℕ = w.start - downwards cols w.step in (
          omega (arith, (column high.0 top high.1 across.0 high.2).0),
          omega (arith, across.1, (column low.0 bottom low.1 (omega (arith, start-lt)) low.2).1),
        )
