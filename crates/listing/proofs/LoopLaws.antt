-- What the loops keep: steps over plain variables. No contract cites this file. Assumes nothing.
use mathlib.Core.Path.{◌≡◌, ap, ◌∙◌}
use mathlib.Core.Bool.{true, false}
use mathlib.Core.List.{List, [], ◌∷◌, ◌++◌}
use Prim.Native.Nat.{ℕ, suc, ◌+◌, ◌-◌, ◌≤◌, ◌<◌}
use native.Mathlib.Numerals.{add-one}
use native.Mathlib.Omega.{arith}
use borrow.Author.Tests.{le-leb, lt-leb}
use lib.Dec.{leb}
use lib.ListN.{length, get_or, drop, drop_of_length-le, length-append, length-drop}
use lib.Seq.{drop-cons}
use Rattle.ascii.specs.Ascii.{tab, line_end}
use Rattle.listing.specs.Listing.{decimal, numbers_line, line_length, put}
use Rattle.listing.proofs.ListingLaws.{numbers_line-cons, length-put, put-put}
use Rattle.listing.proofs.PlacedLaws.{leb-eq, Placed, fitted}

-- Whether a line fits

line_length-drop : (ns : List ℕ) (i : ℕ) → i < length ns
    → line_length (drop i ns) ≡ length (decimal (get_or ns i 0)) + 1 + line_length (drop (i + 1) ns)
unfolding line_length
line_length-drop ns i h = rw (drop-cons ns i 0 h, add-one i)

-- a number that fits: the rest must fit into what is left
pub within_step : (ns : List ℕ) (i left k : ℕ) → i < length ns → k ≡ length (decimal (get_or ns i 0)) → k < left
    → leb (line_length (drop i ns)) left ≡ leb (line_length (drop (i + 1) ns)) (left - k - 1)
within_step ns i left k h e l =
    let s = line_length-drop ns i h in leb-eq _ left (line_length (drop (i + 1) ns)) (left - k - 1) (λ p. omega arith) (λ p. omega arith)

-- a number that doesn't
pub within-stop : (ns : List ℕ) (i left k : ℕ) → i < length ns → k ≡ length (decimal (get_or ns i 0)) → left ≤ k
    → leb (line_length (drop i ns)) left ≡ false
within-stop ns i left k h e l = lt-leb _ left (omega (arith, line_length-drop ns i h))

-- none left
pub within-done : (ns : List ℕ) (i left : ℕ) → length ns ≤ i → leb (line_length (drop i ns)) left ≡ true
unfolding line_length
within-done ns i left h = rw (drop_of_length-le ns h) (le-leb 0 left (omega arith))

-- Writing a line

-- before number i: what is to come, put where the loop stands, is the whole line put at the start
pub record Lined (ns : List ℕ) (at : ℕ) (out₀ : List ℕ) (i to : ℕ) (out : List ℕ) : Type 0 where
  pub inside : i < length ns
  pub size : length out ≡ length out₀
  pub ends : to + length (numbers_line (drop i ns)) ≡ at + length (numbers_line ns)
  pub same : put to (numbers_line (drop i ns)) out ≡ put at (numbers_line ns) out₀

numbers_line-drop : (ns : List ℕ) (i : ℕ) → suc i < length ns
    → numbers_line (drop i ns) ≡ decimal (get_or ns i 0) ++ (tab ∷ []) ++ numbers_line (drop (i + 1) ns)
numbers_line-drop ns i h =
    rw (drop-cons ns i 0 (omega arith), add-one i)
    (numbers_line-cons (get_or ns i 0) (drop (suc i) ns) (omega (arith, length-drop (suc i) ns)))

numbers_line-last : (ns : List ℕ) (i : ℕ) → suc i ≡ length ns → numbers_line (drop i ns) ≡ decimal (get_or ns i 0) ++ (line_end ∷ [])
unfolding numbers_line
numbers_line-last ns i h = rw (drop-cons ns i 0 (omega arith), drop_of_length-le ns {i = suc i} (omega arith))

module _ (ns : List ℕ) (at : ℕ) (out₀ : List ℕ) (fit : at + length (numbers_line ns) ≤ length out₀) (i to : ℕ) (out : List ℕ)
    (l : Lined ns at out₀ i to out) (r : ℕ) (o : List ℕ) where
  pub lined-step : suc i < length ns → Placed to (decimal (get_or ns i 0) ++ (tab ∷ [])) out r o → Lined ns at out₀ (i + 1) r o
  lined-step h p =
      let bs : List ℕ = decimal (get_or ns i 0) ++ (tab ∷ []) in
      let rest : List ℕ = numbers_line (drop (i + 1) ns) in
      let e : numbers_line (drop i ns) ≡ bs ++ rest = numbers_line-drop ns i h in
      let n : length (numbers_line (drop i ns)) ≡ length bs + length rest = ap length e ∙ length-append bs rest in
      let room : to + length bs ≤ length out = omega (arith, l.size, l.ends) in
      let f = fitted to bs out r o room p in
      record {
        inside = omega arith;
        size = ap length f.1 ∙ length-put to bs out room ∙ l.size;
        ends = omega (arith, l.ends, f.0);
        same = rw (f.0, f.1, put-put to bs rest out room) (rw e at l.same);
      }

  pub lined-end : suc i ≡ length ns → Placed to (decimal (get_or ns i 0) ++ (line_end ∷ [])) out r o
      → (r ≡ at + length (numbers_line ns)) × (o ≡ put at (numbers_line ns) out₀)
  lined-end h p =
      let e = numbers_line-last ns i h in
      let room : to + length (decimal (get_or ns i 0) ++ (line_end ∷ [])) ≤ length out = omega (arith, l.size, l.ends, ap length e) in
      let f = fitted to _ out r o room p in
      (f.0 ∙ (rw e at l.ends), f.1 ∙ (rw e at l.same))
