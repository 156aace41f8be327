-- Lines of numbers are parted and read back, and whole lines are kept where a text is cut behind its last line end. Assumes nothing.
use mathlib.Core.Path.{◌≡◌, refl, sym, ap, ap₂, ◌∙◌}
use mathlib.Core.Bool.{Bool, true, false, true≢false, ◌&&◌, or-true}
use mathlib.Core.Logic.{◌≢◌}
use mathlib.Core.List.{List, [], ◌∷◌, ◌++◌, append_assoc}
use Prim.Native.Nat.{ℕ, zero, suc, ◌/◌, ◌^◌, ◌<◌}
use native.Mathlib.Omega.{arith}
use borrow.Author.Tests.{ltb-true, ltb-false, eqb-true, eq-eqb, ne_eqb}
use lib.Dec.{eqb, ltb}
use Rattle.ascii.specs.Ascii.{tab, line_end, digit0}
use Rattle.lists.specs.Search.{any}
use Rattle.text.specs.Text.{up_to, in_front, parts, fields_of, same}
use Rattle.listing.specs.Listing.{digits, most_digits, decimal, numbers_line}
use Rattle.listing.proofs.ListingLaws.{digits-small, digits-large}
use Rattle.beginning.specs.Beginning.{changed_in, ended}
use Rattle.beginning.proofs.LineLaws.{unended, numbers_line-ended}
use Rattle.theorems.specs.Resume.{whole_lines}
use Rattle.theorems.proofs.WritingLaws.{number_of-decimal}

-- The same bytes

pub same_self : (a : List ℕ) → same a a ≡ true
same_self [] = refl
same_self (c ∷ a) = rw (eq-eqb c c refl) (same_self a)

pub same-is : (a b : List ℕ) → same a b ≡ true → a ≡ b
same-is [] [] e = refl
same-is [] (d ∷ b) e = absurd (true≢false (sym e))
same-is (c ∷ a) [] e = absurd (true≢false (sym e))
same-is (c ∷ a) (d ∷ b) e = go (eqb c d) refl e (same-is a b)
  where
    go : (t : Bool) → eqb c d ≡ t → (t && same a b) ≡ true → (same a b ≡ true → a ≡ b) → ◌≡◌ {A = List ℕ} (c ∷ a) (d ∷ b)
    go true q e f = ap₂ (λ (x : ℕ) (l : List ℕ). x ∷ l) (eqb-true c d q) (f e)
    go false q e f = absurd (true≢false (sym e))

-- Bytes without a mark

module _ (mark : ℕ) where
  abbrev Clear : List ℕ → Type 0
  Clear [] = Unit
  Clear (c ∷ cs) = (c ≢ mark) × Clear cs

  clear-append : (a b : List ℕ) → Clear a → Clear b → Clear (a ++ b)
  clear-append [] b h k = k
  clear-append (c ∷ a) b h k = (h.0, clear-append a b h.1 k)

  -- a part up to a mark, and the last part
  up_to-clear : (a b : List ℕ) → Clear a → up_to mark (a ++ (mark ∷ b)) ≡ a
  unfolding up_to
  up_to-clear [] b h = rw (eq-eqb mark mark refl)
  up_to-clear (c ∷ a) b h = rw (ne_eqb c mark h.0) (ap (λ (l : List ℕ). c ∷ l) (up_to-clear a b h.1))

  parts-clear : (a b : List ℕ) → Clear a → parts mark (a ++ (mark ∷ b)) ≡ a ∷ parts mark b
  unfolding in_front parts
  parts-clear [] b h = rw (eq-eqb mark mark refl)
  parts-clear (c ∷ a) b h = rw (ne_eqb c mark h.0, parts-clear a b h.1)

  -- digits are none of the marks
  clear-digits : mark < digit0 → (k n : ℕ) → Clear (digits k n)
  unfolding digits
  clear-digits h zero n = tt
  clear-digits h (suc k) n = go (ltb n 10) refl (clear-digits h k (n / 10))
    where
      go : (b : Bool) → ltb n 10 ≡ b → Clear (digits k (n / 10)) → Clear (digits (suc k) n)
      go true e c = rw (digits-small k n (ltb-true _ _ e)) ((λ q. omega arith), tt)
      go false e c = rw (digits-large k n (ltb-false _ _ e)) (clear-append (digits k (n / 10)) _ c ((λ q. omega arith), tt))

-- A line of numbers

clear-unended : (ns : List ℕ) → Clear line_end (unended ns)
clear-unended [] = tt
clear-unended (n ∷ []) = clear-digits line_end (omega arith) most_digits n
clear-unended (n ∷ m ∷ ns) =
    clear-append line_end (decimal n) _ (clear-digits line_end (omega arith) most_digits n) ((λ q. omega arith), clear-unended (m ∷ ns))

-- it has one line end, its last byte
pub up_to-numbers_line : (ns : List ℕ) → up_to line_end (numbers_line ns) ≡ unended ns
up_to-numbers_line ns = ap (up_to line_end) (numbers_line-ended ns) ∙ up_to-clear line_end (unended ns) [] (clear-unended ns)

-- its fields are its numbers
fields-unended : (n m : ℕ) (ns : List ℕ) → fields_of (unended (n ∷ m ∷ ns)) ≡ decimal n ∷ fields_of (unended (m ∷ ns))
fields-unended n m ns = parts-clear tab (decimal n) (unended (m ∷ ns)) (clear-digits tab (omega arith) most_digits n)

pub changed_in-unended : (a b c d n e : ℕ) → n < 2 ^ 64 → changed_in (unended (a ∷ b ∷ c ∷ d ∷ n ∷ e ∷ [])) ≡ n
unfolding changed_in
changed_in-unended a b c d n e h =
    rw (
      fields-unended a b (c ∷ d ∷ n ∷ e ∷ []),
      fields-unended b c (d ∷ n ∷ e ∷ []),
      fields-unended c d (n ∷ e ∷ []),
      fields-unended d n (e ∷ []),
      fields-unended n e [],
      number_of-decimal n h,
    )

-- Whole lines

any-ended : (a b : List ℕ) → any (eqb line_end) (ended a ++ b) ≡ true
unfolding any
any-ended [] b = refl
any-ended (c ∷ a) b = rw (any-ended a b) (or-true (eqb line_end c))

-- none is lost
pub record Whole (a : List ℕ) : Type 0 where
  pub kept : (b : List ℕ) → whole_lines (a ++ b) ≡ a ++ whole_lines b

kept-ended : (a b : List ℕ) → whole_lines (ended a ++ b) ≡ ended a ++ whole_lines b
unfolding whole_lines any
kept-ended [] b = refl
kept-ended (c ∷ a) b = rw (any-ended a b, or-true (eqb line_end c)) (ap (λ (l : List ℕ). c ∷ l) (kept-ended a b))

pub whole-none : Whole []
whole-none = record { kept = λ b. refl }

pub whole-ended : (a : List ℕ) → Whole (ended a)
whole-ended a = record { kept = kept-ended a }

pub whole_append : (a b : List ℕ) → Whole a → Whole b → Whole (a ++ b)
whole_append a b h k =
    record {
      kept = λ c.
          ap whole_lines (append_assoc a b c) ∙ h.kept (b ++ c) ∙ ap (λ (l : List ℕ). a ++ l) (k.kept c)
          ∙ sym (append_assoc a b (whole_lines c));
    }

-- what is left of a line is
pub whole_lines-torn : (torn : List ℕ) → any (eqb line_end) torn ≡ false → whole_lines torn ≡ []
unfolding whole_lines
whole_lines-torn [] e = refl
whole_lines-torn (c ∷ cs) e = rw e
