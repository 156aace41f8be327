-- The proofs of `specs/Columns.antt`. Assumes nothing.
use mathlib.Core.Path.{◌≡◌, refl, sym, ap, ap₂, subst, ◌∙◌}
use mathlib.Core.Bool.{Bool, true, false, true≢false, cond}
use mathlib.Core.List.{List, [], ◌∷◌, ◌++◌}
use mathlib.Core.Logic.{◌≢◌}
use Prim.Native.Nat.{ℕ, zero, suc, ◌+◌, ◌-◌, ◌*◌, ◌/◌, ◌%◌, ◌^◌, ◌<◌}
use native.Mathlib.Nat.{mod-eq_of_lt, div-div-eq-div-mul, div-add-mod'}
use native.Mathlib.Decide.{dec_lt}
use native.Mathlib.Omega.{arith}
use borrow.Author.Tests.{eq-eqb, ne_eqb, eqb-true, eqb-false, ltb-true, ltb-false}
use lib.Dec.{eqb, ltb}
use lib.ListN.{get_or, drop}
use Rattle.ascii.specs.Ascii.{tab, line_end, joined}
use Rattle.control.specs.Control.{transparency, windowing, right_to_left, bottom_to_top, processing, disabled}
use Rattle.address.specs.Coordinate.{x_of, y_of, negative, register_of}
use Rattle.address.proofs.CoordinateLaws.{register_of-x_of-y_of}
use Rattle.names.specs.Names.{control_at, limit}
use Rattle.settings.specs.Settings.{settings_of}
use Rattle.text.specs.Text.{in_front, parts, lines_of, fields_of}
use Rattle.listing.specs.Listing.{digits, decimal}
use Rattle.listing.proofs.ListingLaws.{digits-small, digits-large}
use Rattle.columns.specs.Columns.{minus, signed_text, text_line, column_names, columns_heading, columns_of, columns_line}
use Rattle.columns.proofs.ColumnsLaws.{length-columns_line}
use Rattle.theorems.specs.Columns.{ColumnsTellValues, LineOfColumns, ColumnsAsMany, ColumnsFit, OfColumns}
use Rattle.theorems.proofs.Runs.{one-writing}

-- ---- Texts without a mark in them, joined and cut at it

-- a text without the mark
abbrev Clear : ℕ → List ℕ → Type 0
Clear m [] = Unit {0}
Clear m (c ∷ s) = (eqb c m ≡ false) × Clear m s

clear-append : (m : ℕ) (s t : List ℕ) → Clear m s → Clear m t → Clear m (s ++ t)
clear-append m [] t k l = l
clear-append m (c ∷ s) t k l = (k.0, clear-append m s t k.1 l)

parts-clear : (m : ℕ) (s : List ℕ) → Clear m s → parts m s ≡ s ∷ []
unfolding parts in_front
parts-clear m [] k = refl
parts-clear m (c ∷ s) k = rw (k.0, parts-clear m s k.1)

-- what follows a mark
parts-behind : (m : ℕ) (s t : List ℕ) → Clear m s → parts m (s ++ (m ∷ t)) ≡ s ∷ parts m t
unfolding parts in_front
parts-behind m [] t k = rw (eq-eqb m m refl)
parts-behind m (c ∷ s) t k = rw (k.0, parts-behind m s t k.1)

-- texts without it
abbrev AllClear : ℕ → List (List ℕ) → Type 0
AllClear m [] = Unit {0}
AllClear m (t ∷ ts) = Clear m t × AllClear m ts

clear-joined : (m : ℕ) (ts : List (List ℕ)) → eqb tab m ≡ false → AllClear m ts → Clear m (joined ts)
clear-joined m [] e k = tt
clear-joined m (t ∷ []) e k = k.0
clear-joined m (t ∷ u ∷ ts) e k = clear-append m t (tab ∷ joined (u ∷ ts)) k.0 (e, clear-joined m (u ∷ ts) e k.1)

fields_of-joined : (t : List ℕ) (ts : List (List ℕ)) → AllClear tab (t ∷ ts) → fields_of (joined (t ∷ ts)) ≡ t ∷ ts
fields_of-joined t [] k = parts-clear tab t k.0
fields_of-joined t (u ∷ ts) k =
    parts-behind tab t (joined (u ∷ ts)) k.0 ∙ ap (λ (l : List (List ℕ)). t ∷ l) (fields_of-joined u ts k.1)

lines_of-text_line : (ts : List (List ℕ)) → AllClear line_end ts → lines_of (text_line ts) ≡ joined ts ∷ [] ∷ []
unfolding parts
lines_of-text_line ts k = parts-behind line_end (joined ts) [] (clear-joined line_end ts refl k)

-- texts of columns: digits, and `-`
clear-digits : (m k n : ℕ) → m < 48 → Clear m (digits k n)
unfolding digits
clear-digits m zero n h = tt
clear-digits m (suc k) n h = go (ltb n 10) refl (clear-digits m k (n / 10) h)
  where
    go : (b : Bool) → ltb n 10 ≡ b → Clear m (digits k (n / 10)) → Clear m (digits (suc k) n)
    go true e f = rw (digits-small k n (ltb-true n 10 e)) (ne_eqb (48 + n) m (λ e. omega arith), tt)
    go false e f =
        rw (digits-large k n (ltb-false n 10 e))
        (clear-append m (digits k (n / 10)) ((48 + n % 10) ∷ []) f (ne_eqb (48 + n % 10) m (λ e. omega arith), tt))

clear-decimal : (m n : ℕ) → m < 48 → Clear m (decimal n)
clear-decimal m n h = clear-digits m 20 n h

clear-signed : (m c : ℕ) → m < minus → Clear m (signed_text c)
unfolding signed_text
clear-signed m c h = go (negative c)
  where
    go : (b : Bool) → Clear m (cond b (minus ∷ decimal (2 ^ 15 - c)) (decimal (c - 2 ^ 15)))
    go true = (ne_eqb minus m (λ e. omega arith), clear-decimal m (2 ^ 15 - c) (omega arith))
    go false = clear-decimal m (c - 2 ^ 15) (omega arith)

-- the texts of a point's columns: numbers and coordinates
clear-columns : (m p : ℕ) (vs : List ℕ) → m < minus → AllClear m (columns_of p vs)
clear-columns m p vs h =
    let n : (k : ℕ) → Clear m (decimal k) = λ k. clear-decimal m k (omega arith) in
    let s : (k : ℕ) → Clear m (signed_text k) = λ k. clear-signed m k h in (
      n _,
      (
        n _,
        (
          s _,
          (
            s _,
            (
              n _,
              (
                n _,
                (
                  s _,
                  (
                    s _,
                    (
                      n _,
                      (
                        n _,
                        (
                          s _,
                          (
                            s _,
                            (
                              s _,
                              (
                                s _,
                                (
                                  n _,
                                  (
                                    n _,
                                    (
                                      n _,
                                      (
                                        n _,
                                        (
                                          n _,
                                          (
                                            n _,
                                            (n _, (n _, (n _, (n _, (n _, (n _, (n _, tt))))))),
                                          ),
                                        ),
                                      ),
                                    ),
                                  ),
                                ),
                              ),
                            ),
                          ),
                        ),
                      ),
                    ),
                  ),
                ),
              ),
            ),
          ),
        ),
      ),
    )

-- ---- As many fields

line-of-point : (p : ℕ) (vs : List ℕ) → LineOfColumns (columns_line p vs) (columns_of p vs)
unfolding columns_line
line-of-point p vs =
    record {
      line = lines_of-text_line (columns_of p vs) (clear-columns line_end p vs (omega arith));
      cut = fields_of-joined _ _ (clear-columns tab p vs (omega arith));
      count = refl;
    }

line-of-names : LineOfColumns columns_heading column_names
unfolding parts in_front
line-of-names = record { line = refl; cut = refl; count = refl }

pub columns-as-many : ColumnsAsMany
columns-as-many = (line-of-names, line-of-point)

pub columns-fit : ColumnsFit
columns-fit = (omega arith, length-columns_line)

-- ---- One line: the same texts

texts-same : (p q : ℕ) (vs ws : List ℕ) → columns_line p vs ≡ columns_line q ws → columns_of p vs ≡ columns_of q ws
texts-same p q vs ws e =
    let a = line-of-point p vs in
    let b = line-of-point q ws in
    let l = sym a.line ∙ ap lines_of e ∙ b.line in
    let j : joined (columns_of p vs) ≡ joined (columns_of q ws) = ap (λ (l : List (List ℕ)). get_or l 0 []) l in
    sym a.cut ∙ ap fields_of j ∙ b.cut

-- ---- Texts tell numbers

-- no number starts with `-`
not-minus : (n : ℕ) (s : List ℕ) → minus ∷ s ≡ decimal n → ⊥
not-minus n s e = true≢false (sym (eq-eqb minus minus refl) ∙ (rw (sym e) at (clear-decimal minus n (omega arith))).0)

signed-inj : (c d : ℕ) → c < 2 ^ 16 → d < 2 ^ 16 → signed_text c ≡ signed_text d → c ≡ d
unfolding signed_text
signed-inj c d h l e = go (negative c) (negative d) refl refl e
  where
    go : (b t : Bool) → negative c ≡ b → negative d ≡ t
        → cond b (minus ∷ decimal (2 ^ 15 - c)) (decimal (c - 2 ^ 15)) ≡ cond t (minus ∷ decimal (2 ^ 15 - d)) (decimal (d - 2 ^ 15))
        → c ≡ d
    go true true p q e =
        let same = one-writing (2 ^ 15 - c) (2 ^ 15 - d) (omega arith) (omega arith) (ap (drop 1) e) in
        omega (arith, ltb-true c (2 ^ 15) p, ltb-true d (2 ^ 15) q)
    go true false p q e = absurd (not-minus (d - 2 ^ 15) _ e)
    go false true p q e = absurd (not-minus (c - 2 ^ 15) _ (sym e))
    go false false p q e =
        let same = one-writing (c - 2 ^ 15) (d - 2 ^ 15) (omega arith) (omega arith) e in
        omega (arith, ltb-false c (2 ^ 15) p, ltb-false d (2 ^ 15) q)

word : (a b : ℕ) → a < 2 ^ 32 → b < 2 ^ 32 → decimal (a % 2 ^ 32) ≡ decimal (b % 2 ^ 32) → a ≡ b
word a b h l e = let same = one-writing (a % 2 ^ 32) (b % 2 ^ 32) (omega arith) (omega arith) e in omega arith

half : (a b : ℕ) → a < 2 ^ 16 → b < 2 ^ 16 → decimal (a % 2 ^ 16) ≡ decimal (b % 2 ^ 16) → a ≡ b
half a b h l e = let same = one-writing (a % 2 ^ 16) (b % 2 ^ 16) (omega arith) (omega arith) e in omega arith

-- a register by its coordinates
pair : (a b : ℕ) → a < 2 ^ 32 → b < 2 ^ 32 → signed_text (x_of (a % 2 ^ 32)) ≡ signed_text (x_of (b % 2 ^ 32))
    → signed_text (y_of (a % 2 ^ 32)) ≡ signed_text (y_of (b % 2 ^ 32)) → a ≡ b
pair a b h l e f =
    let x : x_of a ≡ x_of b = signed-inj (x_of a) (x_of b) (omega arith) (omega arith) (rw (mod-eq_of_lt h, mod-eq_of_lt l) at e) in
    let y : y_of a ≡ y_of b = signed-inj (y_of a) (y_of b) (omega arith) (omega arith) (rw (mod-eq_of_lt h, mod-eq_of_lt l) at f) in
    sym (register_of-x_of-y_of a h) ∙ ap₂ register_of x y ∙ register_of-x_of-y_of b l

-- DYDX by its halves
halves : (a b : ℕ) → a < 2 ^ 32 → b < 2 ^ 32 → decimal (a % 2 ^ 32 % 2 ^ 16) ≡ decimal (b % 2 ^ 32 % 2 ^ 16)
    → decimal (a % 2 ^ 32 / 2 ^ 16) ≡ decimal (b % 2 ^ 32 / 2 ^ 16) → a ≡ b
halves a b h l e f =
    let low = one-writing (a % 2 ^ 32 % 2 ^ 16) (b % 2 ^ 32 % 2 ^ 16) (omega arith) (omega arith) e in
    let high = one-writing (a % 2 ^ 32 / 2 ^ 16) (b % 2 ^ 32 / 2 ^ 16) (omega arith) (omega arith) f in
    omega arith

-- a bit, and CONTROL by its parts
flag : (x : ℕ) → x < 2 → cond (eqb x 1) 1 0 ≡ x
flag x h = go (eqb x 1) refl
  where
    go : (b : Bool) → eqb x 1 ≡ b → cond b 1 0 ≡ x
    go true e = sym (eqb-true x 1 e)
    go false e = let n = eqb-false x 1 e in omega arith

bit-same : (x y : ℕ) → x < 2 → y < 2 → decimal (cond (eqb x 1) 1 0) ≡ decimal (cond (eqb y 1) 1 0) → x ≡ y
bit-same x y h l e = one-writing x y (omega arith) (omega arith) (rw (flag x h, flag y l) at e)

-- a number by its digits below a place and those from it on
digit : (c k m : ℕ) → c / (k * m) * m + c / k % m ≡ c / k
digit c k m = rw (← div-div-eq-div-mul c k m) (div-add-mod' (c / k) m)

digit-same : (a b k m : ℕ) → a / k % m ≡ b / k % m → a / (k * m) ≡ b / (k * m) → a / k ≡ b / k
digit-same a b k m e f = sym (digit a k m) ∙ rw (e, f) (digit b k m)

top-same : (a b : ℕ) → a < 2 ^ 16 → b < 2 ^ 16 → a / 2 ^ 15 % 2 ≡ b / 2 ^ 15 % 2 → a / 2 ^ 15 ≡ b / 2 ^ 15
top-same a b h l e = omega arith

module _ (a b : ℕ) (h : a < 2 ^ 16) (l : b < 2 ^ 16) where
  control-same : decimal (processing a) ≡ decimal (processing b)
      → decimal (cond (transparency a) 1 0) ≡ decimal (cond (transparency b) 1 0) → decimal (windowing a) ≡ decimal (windowing b)
      → decimal (cond (right_to_left a) 1 0) ≡ decimal (cond (right_to_left b) 1 0)
      → decimal (cond (bottom_to_top a) 1 0) ≡ decimal (cond (bottom_to_top b) 1 0)
      → decimal (cond (disabled a) 1 0) ≡ decimal (cond (disabled b) 1 0) → a / 2 ^ 5 ≡ b / 2 ^ 5
  control-same pp t w pbh pbv cd =
      let p : a / 2 ^ 10 % 32 ≡ b / 2 ^ 10 % 32 = one-writing _ _ (omega arith) (omega arith) pp in
      let x : a / 2 ^ 5 % 2 ≡ b / 2 ^ 5 % 2 = bit-same _ _ (omega arith) (omega arith) t in
      let y : a / 2 ^ 6 % 4 ≡ b / 2 ^ 6 % 4 = one-writing _ _ (omega arith) (omega arith) w in
      let z : a / 2 ^ 8 % 2 ≡ b / 2 ^ 8 % 2 = bit-same _ _ (omega arith) (omega arith) pbh in
      let u : a / 2 ^ 9 % 2 ≡ b / 2 ^ 9 % 2 = bit-same _ _ (omega arith) (omega arith) pbv in
      let v : a / 2 ^ 15 % 2 ≡ b / 2 ^ 15 % 2 = bit-same _ _ (omega arith) (omega arith) cd in
      let from10 = digit-same a b (2 ^ 10) 32 p (top-same a b h l v) in
      let from8 = digit-same a b (2 ^ 8) 2 z (digit-same a b (2 ^ 9) 2 u from10) in
      digit-same a b (2 ^ 5) 2 x (digit-same a b (2 ^ 6) 4 y from8)

-- ---- All values

none : (P : ℕ → Type 0) (i : ℕ) → i < 0 → P i
none P i h = absurd (omega arith)

next : (P : ℕ → Type 0) (n : ℕ) → ((i : ℕ) → i < n → P i) → P n → (i : ℕ) → i < suc n → P i
next P n f e i h =
    elim (dec_lt i n) [
      | yes y ↦ f i y
      | no m ↦ subst P (omega arith) e
    ]

pub columns-tell-values : ColumnsTellValues
unfolding limit settings_of
columns-tell-values p q vs ws hp hq h l e =
    let at : (i : ℕ) → get_or (columns_of p vs) i [] ≡ get_or (columns_of q ws) i []
    = λ i. ap (λ (t : List (List ℕ)). get_or t i []) (texts-same p q vs ws e) in
    let a : ℕ → ℕ = λ i. get_or vs i 0 in
    let b : ℕ → ℕ = λ i. get_or ws i 0 in
    let c : (a 10 % 2 ^ 16) / 2 ^ 5 ≡ (b 10 % 2 ^ 16) / 2 ^ 5
    = control-same (a 10 % 2 ^ 16) (b 10 % 2 ^ 16) (omega arith) (omega arith) (at 18) (at 19) (at 20) (at 21) (at 22) (at 23) in
    let P : ℕ → Type 0 = λ i. i ≢ control_at → a i ≡ b i in
    let k0 = none P in
    let k1 = next P 0 k0 (λ n. word (a 0) (b 0) (h 0) (l 0) (at 1)) in
    let k2 = next P 1 k1 (λ n. word (a 1) (b 1) (h 1) (l 1) (at 4)) in
    let k3 = next P 2 k2 (λ n. word (a 2) (b 2) (h 2) (l 2) (at 5)) in
    let k4 = next P 3 k3 (λ n. word (a 3) (b 3) (h 3) (l 3) (at 8)) in
    let k5 = next P 4 k4 (λ n. word (a 4) (b 4) (h 4) (l 4) (at 9)) in
    let k6 = next P 5 k5 (λ n. pair (a 5) (b 5) (h 5) (l 5) (at 10) (at 11)) in
    let k7 = next P 6 k6 (λ n. pair (a 6) (b 6) (h 6) (l 6) (at 12) (at 13)) in
    let k8 = next P 7 k7 (λ n. halves (a 7) (b 7) (h 7) (l 7) (at 14) (at 15)) in
    let k9 = next P 8 k8 (λ n. word (a 8) (b 8) (h 8) (l 8) (at 16)) in
    let k10 = next P 9 k9 (λ n. word (a 9) (b 9) (h 9) (l 9) (at 17)) in
    let k11 = next P 10 k10 (λ n. absurd (n refl)) in
    let k12 = next P 11 k11 (λ n. half (a 11) (b 11) (h 11) (l 11) (at 24)) in
    let k13 = next P 12 k12 (λ n. half (a 12) (b 12) (h 12) (l 12) (at 25)) in
    let k14 = next P 13 k13 (λ n. one-writing (a 13) (b 13) (h 13) (l 13) (at 26)) in
    record {
      number = one-writing p q hp hq (at 0);
      values = k14;
      control = rw (mod-eq_of_lt (h 10), mod-eq_of_lt (l 10)) at c;
    }

pub of-columns : OfColumns
of-columns = record { columns-tell-values = columns-tell-values; columns-as-many = columns-as-many; columns-fit = columns-fit }
