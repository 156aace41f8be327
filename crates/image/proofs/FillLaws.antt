-- Laws of `specs/Words.antt`; and of the loops of `fill` and `put_last` what holds at the start, what a turn keeps, and what follows at the
-- end. Assumes nothing.
use mathlib.Core.Path.{◌≡◌, refl, sym, ap, ◌∙◌}
use mathlib.Core.List.{List, [], ◌∷◌, ◌++◌}
use Prim.Native.Nat.{ℕ, zero, suc, ◌+◌, ◌-◌, ◌/◌, ◌%◌, ◌^◌, ◌<◌, ◌≤◌}
use native.Mathlib.Omega.{arith}
use native.Mathlib.Nat.{add-zero}
use lib.ListN.{length, take, set, length-set}
use lib.Seq.{take_at, take_all, set_out}
use Rattle.generator.specs.Step.{stepped}
use Rattle.generator.proofs.StepLaws.{stepped-lt}
use Rattle.image.specs.Image.{words, draws, image}
use Rattle.image.specs.Words.{stored_words}

length-stored_words : (k : ℕ) (m : List ℕ) (i x : ℕ) → length (stored_words k m i x) ≡ length m
unfolding stored_words
length-stored_words zero m i x = refl
length-stored_words (suc k) m i x = length-stored_words k (set m i (x % 2 ^ 16)) (i + 1) (x / 2 ^ 16) ∙ length-set m i (x % 2 ^ 16)

-- past the end all is cut off
stored_words-out : (k : ℕ) (m : List ℕ) (i x : ℕ) → length m ≤ i → stored_words k m i x ≡ m
unfolding stored_words
stored_words-out zero m i x l = refl
stored_words-out (suc k) m i x l = rw (set_out m i (x % 2 ^ 16) l) (stored_words-out k m (i + 1) (x / 2 ^ 16) (omega (arith, l)))

-- four words, as `put` stores them
pub stored_words-four : (m : List ℕ) (i x : ℕ) → x < 2 ^ 64
    → set (set (set (set m i (x % 2 ^ 16)) (i + 1) (x / 2 ^ 16 % 2 ^ 16)) (i + 2) (x / 2 ^ 32 % 2 ^ 16)) (i + 3) (x / 2 ^ 48)
    ≡ stored_words 4 m i x
unfolding stored_words
stored_words-four m i x h =
    let i₂ : i + 2 ≡ i + 1 + 1 = omega arith in
    let i₃ : i + 3 ≡ i + 1 + 1 + 1 = omega arith in
    let w₂ : x / 2 ^ 32 % 2 ^ 16 ≡ x / 2 ^ 16 / 2 ^ 16 % 2 ^ 16 = omega arith in
    let w₃ : x / 2 ^ 48 ≡ x / 2 ^ 16 / 2 ^ 16 / 2 ^ 16 % 2 ^ 16 = omega (arith, h) in
    λ j. set (set (set (set m i (x % 2 ^ 16)) (i + 1) (x / 2 ^ 16 % 2 ^ 16)) (i₂ j) (w₂ j)) (i₃ j) (w₃ j)

-- ---- the loop of `put_last`: the `left` low words of rest are still to be stored_words, from i on, and the memory ends there
pub record Putting (after memory : List ℕ) (rest i : ℕ) : Type 0 where
  pub left : ℕ
  pub enough : length memory ≤ i + left
  pub ahead : stored_words left memory i rest ≡ after

module _ {after memory : List ℕ} {rest i : ℕ} (p : Putting after memory rest i) where
  pub put_next : i < length memory → Putting after (set memory i (rest % 2 ^ 16)) (rest / 2 ^ 16) (i + 1)
  unfolding stored_words
  put_next l =
      let e : suc (p.left - 1) ≡ p.left = omega (arith, p.enough, l) in
      record {
        left = p.left - 1;
        enough = omega (arith, p.enough, l, length-set memory i (rest % 2 ^ 16));
        ahead = ap (λ (k : ℕ). stored_words k memory i rest) e ∙ p.ahead;
      }

  pub put-done : length memory ≤ i → memory ≡ after
  put-done l = sym (stored_words-out p.left memory i rest l) ∙ p.ahead

-- ---- of the words that a memory is to have, the first i stand in it

-- the next one is stored_words
set-ahead : (m : List ℕ) (i w : ℕ) (ws : List ℕ) → take (length m) (take i m ++ w ∷ ws) ≡ take (length m) (take (suc i) (set m i w) ++ ws)
set-ahead [] i w ws = refl
set-ahead (y ∷ m) zero w ws = refl
set-ahead (y ∷ m) (suc i) w ws = ap (λ (l : List ℕ). y ∷ l) (set-ahead m i w ws)

-- the next k are stored_words
stored_words-ahead : {n : ℕ} (k : ℕ) (m : List ℕ) (i x : ℕ) (ws : List ℕ) → length m ≡ n
    → take n (take i m ++ (words k x ++ ws)) ≡ take n (take (i + k) (stored_words k m i x) ++ ws)
unfolding stored_words
stored_words-ahead {n} zero m i x ws e = ap (λ (j : ℕ). take n (take j m ++ ws)) (sym (add-zero i))
stored_words-ahead {n} (suc k) m i x ws e =
    let m' = set m i (x % 2 ^ 16) in
    let ws' = words k (x / 2 ^ 16) ++ ws in
    let next : suc i ≡ i + 1 = omega arith in
    let last : i + 1 + k ≡ i + suc k = omega arith in
    rw (sym e) (set-ahead m i (x % 2 ^ 16) ws')
    ∙ ap (λ (j : ℕ). take n (take j m' ++ ws')) next
    ∙ stored_words-ahead k m' (i + 1) (x / 2 ^ 16) ws (length-set m i (x % 2 ^ 16) ∙ e)
    ∙ ap (λ (j : ℕ). take n (take j (stored_words k m' (i + 1) (x / 2 ^ 16)) ++ ws)) last

-- ---- the loop of `fill`: the first `at` words of the image stand in the memory, and those of `more` draws from the state on come next
pub record Filled (n seed at state : ℕ) (memory : List ℕ) : Type 0 where
  pub fits : state < 2 ^ 64
  pub size : length memory ≡ n
  pub more : ℕ
  pub enough : n ≤ at + more
  pub ahead : image n seed ≡ take n (take at memory ++ draws more state)

pub start : (memory : List ℕ) (seed : ℕ) → seed < 2 ^ 64 → Filled (length memory) seed 0 seed memory
start memory seed h = record { fits = h; size = refl; more = length memory; enough = omega arith; ahead = refl }

module _ {n seed at state : ℕ} {memory : List ℕ} (f : Filled n seed at state memory) where
  -- a turn: one draw, whose four words are stored_words
  pub turn : at < n → Filled n seed (at + 4) (stepped state) (stored_words 4 memory at (stepped state))
  turn l =
      let x = stepped state in
      let e : f.more ≡ suc (f.more - 1) = omega (arith, f.enough, l) in
      record {
        fits = stepped-lt state f.fits;
        size = length-stored_words 4 memory at x ∙ f.size;
        more = f.more - 1;
        enough = omega (arith, f.enough, l);
        ahead =
            f.ahead
            ∙ ap (λ (k : ℕ). take n (take at memory ++ draws k state)) e
            ∙ stored_words-ahead 4 memory at x (draws (f.more - 1) x) f.size;
      }

  pub finish : n ≤ at → memory ≡ image n seed
  finish l = sym (f.ahead ∙ rw (take_all at memory (omega (arith, f.size, l))) (take_at memory _ n f.size))
