-- Bounds: the entries of the tables, the words of a row, the adjustment, and the time. No contract cites this file.
-- Assumes nothing.
use mathlib.Core.Path.{◌≡◌, refl}
use mathlib.Core.Bool.{Bool, true, false, cond}
use Prim.Native.Nat.{ℕ, ◌+◌, ◌-◌, ◌*◌, ◌/◌, ◌%◌, ◌^◌, ◌≤◌, ◌<◌}
use native.Mathlib.Nat.{mul-le-mul_left, mul-le-mul_right, le_trans, le_of_lt, add-mul}
use native.Mathlib.Omega.{arith}
use borrow.Author.Tests.{eqb-true, eqb-false}
use lib.Dec.{eqb}
use Rattle.fill_tables.specs.declared.Adjust.{Adjust}
use Rattle.fill_tables.specs.declared.Adjust.TheVariants.{Off, Fits, Start, Dimension, Both}
use Rattle.fill_tables.specs.declared.Alignment.{Alignment}
use Rattle.fill_tables.specs.declared.Alignment.TheVariants.{A, B, C, D}
use Rattle.fill_tables.specs.declared.Entry.{Entry}
use Rattle.fill_tables.specs.declared.Fill.{Fill}
use Rattle.fill_tables.specs.Tables.{Length, Short, Medium, Long, Column, Replace, Boolean, Adding, Subs}
use Rattle.fill_tables.specs.Tables.{setup_l, setup_xy, uncached, transfer_entry, word_states, edge_states}
use Rattle.fill_tables.specs.Time.{setup_time, words_of, alignment_of, length_of, processing_column, transfer_time, adjustment, time_of}
use Rattle.fill_tables.specs.Time.{most_states}

-- ---- the tables
setup_xy-le : (a : Adjust) → setup_xy a ≤ 20
setup_xy-le Off = omega arith
setup_xy-le Fits = omega arith
setup_xy-le Start = omega arith
setup_xy-le Dimension = omega arith
setup_xy-le Both = omega arith

cached-le : (xy : Bool) (a : Adjust) → cond xy (setup_xy a) setup_l ≤ 20
cached-le true a = setup_xy-le a
cached-le false a = omega arith

uncached-le : (d : Bool) → uncached d ≤ 3
uncached-le true = omega arith
uncached-le false = omega arith

setup-some : (xy : Bool) (a : Adjust) → 0 < cond xy (setup_xy a) setup_l
setup-some true Off = omega arith
setup-some true Fits = omega arith
setup-some true Start = omega arith
setup-some true Dimension = omega arith
setup-some true Both = omega arith
setup-some false a = omega arith

pub setup_time-some : (f : Fill) → 0 < setup_time f
setup_time-some f = omega (arith, setup-some f.xy f.adjust)

setup_time-le : (f : Fill) → setup_time f ≤ 23
setup_time-le f = omega (arith, cached-le f.xy f.adjust, uncached-le f.disabled)

-- an entry for an alignment: at most 2 states a row over the adjustment
pub record Within (a : Alignment) (e : Entry) : Type 0 where
  pub row-some : 1 ≤ e.row
  pub row-le : e.row ≤ 4
  pub end-some : 1 ≤ e.end
  pub end-le : e.end ≤ 5
  over : e.row ≤ edge_states a + 2

within : (a : Alignment) (e : Entry)
    → (1 ≤ e.row) × (e.row ≤ 4) × (1 ≤ e.end) × (e.end ≤ 5) × (e.row ≤ edge_states a + 2) → Within a e
within a e h = record { row-some = h.0; row-le = h.1; end-some = h.2; end-le = h.3; over = h.4 }

pub entry-within : (l : Length) (a : Alignment) → Within a (transfer_entry l a)
entry-within Short A = within A (transfer_entry Short A) (omega arith)
entry-within Short B = within B (transfer_entry Short B) (omega arith)
entry-within Short C = within C (transfer_entry Short C) (omega arith)
entry-within Short D = within D (transfer_entry Short D) (omega arith)
entry-within Medium A = within A (transfer_entry Medium A) (omega arith)
entry-within Medium B = within B (transfer_entry Medium B) (omega arith)
entry-within Medium C = within C (transfer_entry Medium C) (omega arith)
entry-within Medium D = within D (transfer_entry Medium D) (omega arith)
entry-within Long A = within A (transfer_entry Long A) (omega arith)
entry-within Long B = within B (transfer_entry Long B) (omega arith)
entry-within Long C = within C (transfer_entry Long C) (omega arith)
entry-within Long D = within D (transfer_entry Long D) (omega arith)

plain-le : (p : Column) → word_states false p ≤ 6
plain-le Replace = omega arith
plain-le Boolean = omega arith
plain-le Adding = omega arith
plain-le Subs = omega arith

pub word_states-le : (m : Bool) (p : Column) → word_states m p ≤ 8
word_states-le false p = omega (arith, plain-le p)
word_states-le true Replace = omega arith
word_states-le true Boolean = omega arith
word_states-le true Adding = omega arith
word_states-le true Subs = omega arith

masked-ge : (p : Column) → 4 ≤ word_states true p
masked-ge Replace = omega arith
masked-ge Boolean = omega arith
masked-ge Adding = omega arith
masked-ge Subs = omega arith

-- ---- the words of a row, and its alignment
words_of-le : (start bits : ℕ) → words_of start bits ≤ (bits + 30) / 16
words_of-le start bits = omega arith

words_of-some : (start bits : ℕ) → 0 < bits → 1 ≤ words_of start bits
words_of-some start bits h = omega arith

-- what each alignment says
module _ (start bits : ℕ) (P : Alignment → Type 0) where
  by-alignment : (start % 16 ≡ 0 → (start % 16 + bits) % 16 ≡ 0 → P A)
      → (start % 16 ≡ 0 → ((start % 16 + bits) % 16 ≡ 0 → ⊥) → P B)
      → ((start % 16 ≡ 0 → ⊥) → (start % 16 + bits) % 16 ≡ 0 → P C)
      → ((start % 16 ≡ 0 → ⊥) → ((start % 16 + bits) % 16 ≡ 0 → ⊥) → P D)
      → P (alignment_of start bits)
  unfolding alignment_of
  by-alignment a b c d = go (eqb (start % 16) 0) (eqb ((start % 16 + bits) % 16) 0) refl refl
    where
      go : (l t : Bool) → eqb (start % 16) 0 ≡ l → eqb ((start % 16 + bits) % 16) 0 ≡ t
          → P (cond l (cond t A B) (cond t C D))
      go true true p q = a (eqb-true _ _ p) (eqb-true _ _ q)
      go true false p q = b (eqb-true _ _ p) (eqb-false _ _ q)
      go false true p q = c (eqb-false _ _ p) (eqb-true _ _ q)
      go false false p q = d (eqb-false _ _ p) (eqb-false _ _ q)

-- ---- products
product_le : (x y : ℕ) {a b : ℕ} → x ≤ a → y ≤ b → x * y ≤ a * b
product_le x y {a} {b} h k = le_trans (mul-le-mul_right y h) (mul-le-mul_left a k)

-- the steps of the transfer time fit
pub record Room (r n g l e : ℕ) : Type 0 where
  pub words : n * g < 2 ^ 64
  pub row : r + n * g < 2 ^ 64
  pub rows : (r + n * g) * l < 2 ^ 64
  pub all : (r + n * g) * l + e < 2 ^ 49

pub room : (r n g l e : ℕ) → r ≤ 4 → n ≤ 2 ^ 29 → g ≤ 8 → l < 2 ^ 16 → e ≤ 5 → Room r n g l e
room r n g l e hr hn hg hl he =
    let p : n * g ≤ 2 ^ 29 * 8 = product_le n g hn hg in
    let s : r + n * g ≤ 4 + 2 ^ 29 * 8 = omega (arith, p) in
    let q : (r + n * g) * l ≤ (4 + 2 ^ 29 * 8) * 2 ^ 16 = product_le (r + n * g) l s (le_of_lt hl) in
    record { words = omega (arith, p); row = omega (arith, p); rows = omega (arith, q); all = omega (arith, q) }

-- ---- the adjustment is part of the transfer time: every row has a word unless its edges are aligned
edges_le : (start bits g : ℕ) → 4 ≤ g → edge_states (alignment_of start bits) ≤ words_of start bits * g
edges_le start bits g h =
    by-alignment start bits (λ a. edge_states a ≤ words_of start bits * g)
    (λ l t. omega arith)
    (λ l t. omega (arith, some (words_of-some start bits (omega (arith, l, t)))))
    (λ l t. omega (arith, some (words_of-some start bits (omega (arith, l, t)))))
    (λ l t. some (omega (arith, l)))
  where
    some : 1 ≤ words_of start bits → 4 ≤ words_of start bits * g
    some k = product_le 1 4 k h

pub adjustment-le : (f : Fill) → adjustment f ≤ transfer_time f
adjustment-le f =
    let n = words_of f.start f.bits in
    let e = transfer_entry (length_of n) (alignment_of f.start f.bits) in
    go f.masked n e.row e.end (edges_le f.start f.bits)
  where
    x : ℕ
    x = edge_states (alignment_of f.start f.bits)

    p : Column
    p = processing_column f.pp

    go : (m : Bool) (n r e : ℕ) → ((g : ℕ) → 4 ≤ g → x ≤ n * g)
        → cond m (x * f.rows) 0 ≤ (r + n * word_states m p) * f.rows + e
    go false n r e h = omega arith
    go true n r e h =
        let q = mul-le-mul_right f.rows (h (word_states true p) (masked-ge p)) in
        omega (arith, q, add-mul r (n * word_states true p) f.rows)

-- ---- the time of a FILL of at most 65,535 rows, each of at most 65,535 words' bits

last-D : (k : Length) → (transfer_entry k D).end ≤ 1
last-D Short = omega arith
last-D Medium = omega arith
last-D Long = omega arith

-- rows of at most t states for the words, whose entry is at most s over x
over-le : (r w l x s t : ℕ) → r ≤ x + s → w ≤ t → l ≤ 65535 → (r + w) * l ≤ x * l + (s + t) * 65535
over-le r w l x s t hr hw hl =
    let h : r + w ≤ x + (s + t) = omega arith in
    omega (arith, mul-le-mul_right l h, add-mul x (s + t) l, mul-le-mul_left (s + t) hl)

module _ (start bits l : ℕ) (p : Column) (small : bits ≤ 16 * 65535) (few : l ≤ 65535) where
  abbrev n : ℕ
  n = words_of start bits

  n-le : n ≤ 65536
  n-le = omega (arith, words_of-le start bits)

  abbrev Under : Bool → Alignment → Type 0
  Under m a =
      let e = transfer_entry (length_of n) a in
      (e.row + n * word_states m p) * l + e.end ≤ 34359214081 + cond m (edge_states a * l) 0

  plain-under : (a : Alignment) → Under false a
  plain-under a =
      let e = entry-within (length_of n) a in
      let w : n * word_states false p ≤ 65536 * 6 = product_le n (word_states false p) n-le (plain-le p) in
      omega (arith, e.end-le, over-le (transfer_entry (length_of n) a).row (n * word_states false p) l 0 4 (65536 * 6) e.row-le w few)

  -- a row that does not have both its edges inside a word
  part-under : (a : Alignment) → n ≤ 65535 → Under true a
  part-under a h =
      let e = entry-within (length_of n) a in
      let w : n * word_states true p ≤ 65535 * 8 = product_le n (word_states true p) h (word_states-le true p) in
      let q = over-le (transfer_entry (length_of n) a).row (n * word_states true p) l (edge_states a) 2 (65535 * 8) e.over w few in
      omega (arith, e.end-le, q)

  masked-under : Under true (alignment_of start bits)
  masked-under =
      by-alignment start bits (Under true)
      (λ x t. part-under A (omega (arith, x, t)))
      (λ x t. part-under B (omega (arith, x, t)))
      (λ x t. part-under C (omega (arith, x, t)))
      (λ x t.
      let e = entry-within (length_of n) D in
      let w : n * word_states true p ≤ 65536 * 8 = product_le n (word_states true p) n-le (word_states-le true p) in
      let q = over-le (transfer_entry (length_of n) D).row (n * word_states true p) l 4 0 (65536 * 8) e.row-le w few in
      omega (arith, last-D (length_of n), q))

pub states-le : (f : Fill) → f.bits ≤ 16 * 65535 → f.rows ≤ 65535 → (time_of f).states ≤ most_states
unfolding time_of
states-le f small few = go f.masked refl
  where
    go : (m : Bool) → f.masked ≡ m → setup_time f + transfer_time f - adjustment f ≤ most_states
    go true e =
        let q = masked-under f.start f.bits f.rows (processing_column f.pp) small few in
        rw e (omega (arith, setup_time-le f, q))
    go false e =
        let q = plain-under f.start f.bits f.rows (processing_column f.pp) small few (alignment_of f.start f.bits) in
        rw e (omega (arith, setup_time-le f, q))
