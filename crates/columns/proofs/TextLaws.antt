-- Lines of texts: texts put one after another, as the loop puts them. No contract cites this file. Assumes nothing.
use mathlib.Core.Path.{◌≡◌, sym, ap, ◌∙◌}
use mathlib.Core.List.{List, [], ◌∷◌, ◌++◌, map, append_assoc}
use Prim.Native.Nat.{ℕ, suc, ◌+◌, ◌-◌, ◌^◌, ◌≤◌, ◌<◌}
use native.Mathlib.Numerals.{add-one}
use native.Mathlib.Omega.{arith}
use borrow.Author.Tests.{lt-ltb, le-ltb}
use lib.ListN.{length, get_or, take, drop, drop_of_length-le, length-append, length-drop}
use lib.Seq.{drop-cons}
use Rattle.ascii.specs.Ascii.{tab, line_end, joined}
use Rattle.std.proofs.lemmas.List.{get_or-map, get_or-take}
use Rattle.listing.specs.Listing.{decimal, put}
use Rattle.listing.proofs.ListingLaws.{length-put, put-put}
use Rattle.listing.proofs.PlacedLaws.{Placed, fitted, fitted-append}
use Rattle.columns.specs.declared.Held.{Held}
use Rattle.columns.specs.declared.Held.TheVariants.{Number}
use Rattle.columns.specs.Held.{held_text}
use Rattle.columns.specs.Columns.{minus, signed_text, text_line}

-- A text with the byte after it

abbrev ended : List ℕ → ℕ → List ℕ
ended t end = t ++ (end ∷ [])

-- a line of two texts or more
pub text_line-cons : (t : List ℕ) (ts : List (List ℕ)) → 0 < length ts → text_line (t ∷ ts) ≡ ended t tab ++ text_line ts
text_line-cons t [] h = absurd (omega arith)
text_line-cons t (u ∷ ts) h =
    append_assoc t (tab ∷ joined (u ∷ ts)) (line_end ∷ []) ∙ sym (append_assoc t (tab ∷ []) (text_line (u ∷ ts)))

text_line-drop : (ts : List (List ℕ)) (i : ℕ) → suc i < length ts
    → text_line (drop i ts) ≡ ended (get_or ts i []) tab ++ text_line (drop (i + 1) ts)
text_line-drop ts i h =
    rw (drop-cons ts i [] (omega arith), add-one i)
    (text_line-cons (get_or ts i []) (drop (suc i) ts) (omega (arith, length-drop (suc i) ts)))

text_line-last : (ts : List (List ℕ)) (i : ℕ) → suc i ≡ length ts → text_line (drop i ts) ≡ ended (get_or ts i []) line_end
text_line-last ts i h = rw (drop-cons ts i [] (omega arith), drop_of_length-le ts {i = suc i} (omega arith))

-- A text put where it fits: a coordinate below 0 and another one

module _ (at n end : ℕ) (out : List ℕ) (room : at + length (ended (signed_text n) end) ≤ length out) (r : ℕ) (o : List ℕ) where
  pub placed-negative : n < 2 ^ 15 → (i : ℕ) (s : List ℕ) → Placed at (minus ∷ []) out i s
      → Placed i (ended (decimal (2 ^ 15 - n)) end) s r o
      → (r ≡ at + length (ended (signed_text n) end)) × (o ≡ put at (ended (signed_text n) end) out)
  unfolding signed_text
  placed-negative l i s p q = rw (lt-ltb n (2 ^ 15) l) (fitted-append at (minus ∷ []) _ out i r s o (rw (lt-ltb n (2 ^ 15) l) at room) p q)

  pub placed-positive : 2 ^ 15 ≤ n → Placed at (ended (decimal (n - 2 ^ 15)) end) out r o
      → (r ≡ at + length (ended (signed_text n) end)) × (o ≡ put at (ended (signed_text n) end) out)
  unfolding signed_text
  placed-positive l p = rw (le-ltb n (2 ^ 15) l) (fitted at _ out r o (rw (le-ltb n (2 ^ 15) l) at room) p)

-- The text of a column

pub text-before : (cs : List Held) (n i : ℕ) → i < n → n ≤ length cs
    → get_or (map held_text cs) i [] ≡ held_text (get_or (take n cs) i (Number 0))
text-before cs n i h l = get_or-map held_text cs i (Number 0) [] (omega arith) ∙ ap held_text (sym (get_or-take n cs i (Number 0) h))

pub text-at : (cs : List Held) (n i : ℕ) → i ≡ n → n < length cs → get_or (map held_text cs) i [] ≡ held_text (get_or cs n (Number 0))
text-at cs n i e h = rw e (get_or-map held_text cs n (Number 0) [] h)

-- Before text i: what is to come, put where the loop stands, is the whole line put at the start

pub record Texted (ts : List (List ℕ)) (out₀ : List ℕ) (i to : ℕ) (out : List ℕ) : Type 0 where
  pub size : length out ≡ length out₀
  pub ends : to + length (text_line (drop i ts)) ≡ length (text_line ts)
  pub same : put to (text_line (drop i ts)) out ≡ put 0 (text_line ts) out₀

module _ (ts : List (List ℕ)) (out₀ : List ℕ) (fit : length (text_line ts) ≤ length out₀) (i to : ℕ) (out : List ℕ)
    (l : Texted ts out₀ i to out) (text : List ℕ) (is : get_or ts i [] ≡ text) where
  here : suc i < length ts → text_line (drop i ts) ≡ ended text tab ++ text_line (drop (i + 1) ts)
  here h = rw (text_line-drop ts i h, is)

  last : suc i ≡ length ts → text_line (drop i ts) ≡ ended text line_end
  last h = rw (text_line-last ts i h, is)

  -- there is room for the text and the byte after it
  pub texted-room : suc i < length ts → to + length (ended text tab) ≤ length out
  texted-room h = omega (arith, l.size, l.ends, ap length (here h), length-append (ended text tab) (text_line (drop (i + 1) ts)))

  pub texted-room-last : suc i ≡ length ts → to + length (ended text line_end) ≤ length out
  texted-room-last h = omega (arith, l.size, l.ends, ap length (last h))

  module _ (r : ℕ) (o : List ℕ) where
    pub texted-step : suc i < length ts → r ≡ to + length (ended text tab) → o ≡ put to (ended text tab) out → Texted ts out₀ (i + 1) r o
    texted-step h e p =
        let rest : List ℕ = text_line (drop (i + 1) ts) in
        let room = texted-room h in
        record {
          size = ap length p ∙ length-put to (ended text tab) out room ∙ l.size;
          ends = omega (arith, l.ends, ap length (here h), length-append (ended text tab) rest);
          same = rw (e, p, put-put to (ended text tab) rest out room) (rw (here h) at l.same);
        }

    pub texted-end : suc i ≡ length ts → r ≡ to + length (ended text line_end) → o ≡ put to (ended text line_end) out
        → (r ≡ length (text_line ts)) × (o ≡ put 0 (text_line ts) out₀)
    texted-end h e p = (e ∙ (rw (last h) at l.ends), p ∙ (rw (last h) at l.same))
