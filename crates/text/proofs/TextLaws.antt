-- Laws of `specs/Text.antt`, for any mark. No contract cites this file. Assumes nothing.
use mathlib.Core.Path.{◌≡◌, refl, ap, ◌∙◌}
use mathlib.Core.Bool.{Bool, true, false, not, cond}
use mathlib.Core.List.{List, [], ◌∷◌}
use Prim.Native.Nat.{ℕ, suc, ◌+◌, ◌-◌, ◌<◌, ◌≤◌}
use native.Mathlib.Omega.{arith}
use native.Mathlib.Numerals.{add-one}
use borrow.Author.Tests.{ltb-false, eq-eqb, ne_eqb}
use lib.Dec.{eqb, ltb}
use lib.ListN.{length, get_or, take, drop, length-drop, drop_of_length-le}
use lib.Seq.{drop-cons, drop-drop, take_all}
use Rattle.std.specs.Prelude.{Some, None, unwrap_or}
use Rattle.std.specs.List.{position_or_len, position, slice_split, onto_first}
use Rattle.text.specs.Text.{up_to, in_front, parts}

-- The part at the text's start

module _ (mark : ℕ) where
  pub up_to-le : (s : List ℕ) → length (up_to mark s) ≤ length s
  unfolding up_to
  up_to-le [] = omega arith
  up_to-le (c ∷ s) = go (eqb c mark) (up_to-le s)
    where
      go : (b : Bool) → length (up_to mark s) ≤ length s → length (cond b [] (c ∷ up_to mark s)) ≤ suc (length s)
      go true h = omega arith
      go false h = omega arith

  take-up_to : (s : List ℕ) → take (length (up_to mark s)) s ≡ up_to mark s
  unfolding up_to
  take-up_to [] = refl
  take-up_to (c ∷ s) = go (eqb c mark) (take-up_to s)
    where
      go : (b : Bool) → take (length (up_to mark s)) s ≡ up_to mark s
          → take (length (cond b [] (c ∷ up_to mark s))) (c ∷ s) ≡ cond b [] (c ∷ up_to mark s)
      go true e = refl
      go false e = ap (λ (l : List ℕ). c ∷ l) e

  -- where no mark follows, the part is all the text
  up_to-all : (s : List ℕ) → length s ≤ length (up_to mark s) → up_to mark s ≡ s
  unfolding up_to
  up_to-all [] h = refl
  up_to-all (c ∷ s) h = go (eqb c mark) h (up_to-all s)
    where
      go : (b : Bool) → suc (length s) ≤ length (cond b [] (c ∷ up_to mark s)) → (length s ≤ length (up_to mark s) → up_to mark s ≡ s)
          → cond b [] (c ∷ up_to mark s) ≡ c ∷ s
      go true h f = absurd (omega arith)
      go false h f = ap (λ (l : List ℕ). c ∷ l) (f (omega arith))

  -- a part before a mark, and the last part
  parts-mark : (s : List ℕ) → length (up_to mark s) < length s
      → parts mark s ≡ up_to mark s ∷ parts mark (drop (suc (length (up_to mark s))) s)
  unfolding up_to in_front parts
  parts-mark [] h = absurd (omega arith)
  parts-mark (c ∷ s) h = go (eqb c mark) h (parts-mark s)
    where
      go : (b : Bool) → length (cond b [] (c ∷ up_to mark s)) < suc (length s)
          → (length (up_to mark s) < length s → parts mark s ≡ up_to mark s ∷ parts mark (drop (suc (length (up_to mark s))) s))
          → cond b ([] ∷ parts mark s) (in_front c (parts mark s))
          ≡ cond b [] (c ∷ up_to mark s) ∷ parts mark (drop (suc (length (cond b [] (c ∷ up_to mark s)))) (c ∷ s))
      go true h f = refl
      go false h f = ap (in_front c) (f (omega arith))

  parts_all : (s : List ℕ) → length s ≤ length (up_to mark s) → parts mark s ≡ s ∷ []
  unfolding up_to in_front parts
  parts_all [] h = refl
  parts_all (c ∷ s) h = go (eqb c mark) h (parts_all s)
    where
      go : (b : Bool) → suc (length s) ≤ length (cond b [] (c ∷ up_to mark s)) → (length s ≤ length (up_to mark s) → parts mark s ≡ s ∷ [])
          → cond b ([] ∷ parts mark s) (in_front c (parts mark s)) ≡ (c ∷ s) ∷ []
      go true h f = absurd (omega arith)
      go false h f = ap (in_front c) (f (omega arith))

-- the parts, as the library's `split` states them
pub parts-split : (mark : ℕ) (s : List ℕ) → slice_split (λ c. eqb c mark) s ≡ parts mark s
unfolding in_front parts
parts-split mark [] = refl
parts-split mark (c ∷ s) = rw (parts-split mark s) (ap (cond (eqb c mark) ([] ∷ parts mark s)) (front (parts mark s)))
  where
    front : (ps : List (List ℕ)) → onto_first c ps ≡ in_front c ps
    front [] = refl
    front (p ∷ ps) = refl

-- The end of the part at a place of the text

module _ (mark : ℕ) (text : List ℕ) (i : ℕ) where
  -- a mark there ends it at once
  pub up_to-here : i < length text → get_or text i 0 ≡ mark → i + length (up_to mark (drop i text)) ≡ i
  unfolding up_to
  up_to-here l e = rw (drop-cons text i 0 l, eq-eqb _ _ e) (omega arith)

  pub up_to-next : i < length text → (get_or text i 0 ≡ mark → ⊥)
      → i + length (up_to mark (drop i text)) ≡ (i + 1) + length (up_to mark (drop (i + 1) text))
  unfolding up_to
  up_to-next l n = rw (drop-cons text i 0 l, ne_eqb _ _ n, add-one) (omega arith)

  -- past the text's end the part is empty
  pub up_to-past : length text ≤ i → up_to mark (drop i text) ≡ []
  unfolding up_to
  up_to-past l = rw (drop_of_length-le text l)

  pub up_to-end : length text ≤ i → i + length (up_to mark (drop i text)) ≡ i
  up_to-end l = rw (up_to-past l) (omega arith)

-- The part at a place, and its end e

module _ (mark : ℕ) (text : List ℕ) (i e : ℕ) (is : e ≡ i + length (up_to mark (drop i text))) where
  pub part-end-le : i ≤ length text → e ≤ length text
  part-end-le h = omega (arith, up_to-le mark (drop i text), length-drop i text)

  pub part-take : take (e - i) (drop i text) ≡ up_to mark (drop i text)
  part-take = let n : e - i ≡ length (up_to mark (drop i text)) = omega arith in rw n (take-up_to mark (drop i text))

  -- a part before a mark: the other parts start behind the mark
  pub parts-before : e < length text → parts mark (drop i text) ≡ up_to mark (drop i text) ∷ parts mark (drop (e + 1) text)
  parts-before h =
      let n = length (up_to mark (drop i text)) in
      let at : i + suc n ≡ e + 1 = omega arith in
      parts-mark mark (drop i text) (omega (arith, length-drop i text)) ∙ rw (drop-drop (suc n) i text, at)

  -- the last part: what is left of the text
  pub part-last : length text ≤ e → up_to mark (drop i text) ≡ drop i text
  part-last h = up_to-all mark (drop i text) (omega (arith, length-drop i text))

  pub parts_last : length text ≤ e → parts mark (drop i text) ≡ drop i text ∷ []
  parts_last h = parts_all mark (drop i text) (omega (arith, length-drop i text))

-- The rest of a text, as a lent part of it
pub rest-is : (text : List ℕ) (from : ℕ) → take (length text - from) (drop from text) ≡ drop from text
rest-is text from = take_all (length text - from) (drop from text) (omega (arith, length-drop from text))

-- where the first mark stands, or the length
up_to-prefix : (mark : ℕ) (s : List ℕ) → position_or_len (λ c. eqb c mark) s ≡ length (up_to mark s)
unfolding up_to
up_to-prefix mark [] = refl
up_to-prefix mark (c ∷ s) = go (eqb c mark) (up_to-prefix mark s)
  where
    go : (b : Bool) → position_or_len (λ c. eqb c mark) s ≡ length (up_to mark s)
        → cond (not b) (1 + position_or_len (λ c. eqb c mark) s) 0 ≡ length (cond b [] (c ∷ up_to mark s))
    go true e = refl
    go false e = omega (arith, e)

pub up_to-position : (mark : ℕ) (s : List ℕ) → unwrap_or (position (λ c. eqb c mark) s) (length s) ≡ length (up_to mark s)
up_to-position mark s = go (ltb (position_or_len (λ c. eqb c mark) s) (length s)) refl
  where
    go : (b : Bool) → ltb (position_or_len (λ c. eqb c mark) s) (length s) ≡ b
        → unwrap_or (cond b (Some (position_or_len (λ c. eqb c mark) s)) None) (length s) ≡ length (up_to mark s)
    go true t = up_to-prefix mark s
    go false t = omega (arith, ltb-false _ _ t, up_to-prefix mark s, up_to-le mark s)
