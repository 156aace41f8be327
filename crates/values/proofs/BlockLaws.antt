-- Laws of `specs/Block.antt`, and searches among numbers held. No contract cites this file. Assumes nothing.
use mathlib.Core.Path.{◌≡◌, refl, sym, ap, ◌∙◌}
use mathlib.Core.Bool.{Bool, true, false, true≢false, ◌&&◌, ◌||◌, or_assoc, or_comm, or-false, and-eq-true_iff}
use mathlib.Core.List.{List, [], ◌∷◌, ◌++◌, append_assoc, append-nil, map}
use Prim.Native.Nat.{ℕ, zero, suc, ◌+◌, ◌-◌, ◌<◌, ◌≤◌}
use native.Mathlib.Omega.{arith}
use borrow.Author.Tests.{ltb-true, ltb-false, leb-true, leb-false}
use lib.Dec.{eqb, ltb, leb}
use lib.ListN.{length, set, take, drop, replicate, length-append, length-map, length-replicate, take-append-drop}
use lib.ListN.{drop_of_length-le}
use lib.Seq.{set_at, length-take-le, take_all, take_at, drop_at}
use Rattle.std.specs.List.{fold}
use Rattle.lists.specs.Search.{any, any_pair}
use Rattle.lists.proofs.TestLaws.{or_swap, eqb_comm}
use Rattle.lists.proofs.SearchLaws.{any_snoc, any_append, any_pair-append}
use Rattle.text.specs.Text.{up_to}
use Rattle.text.specs.Number.{number_of}
use Rattle.std.specs.Prelude.{Option, is_none, unwrap_or}
use Rattle.values.specs.declared.Block.{Block}
use Rattle.tabs.specs.Fields.{fields_from, field_value, no_number}
use Rattle.values.specs.Tests.{is_above}
use Rattle.text.proofs.TextLaws.{up_to-le, part-take}
use Rattle.values.specs.Block.{values_from, widths, block_size, block_of, BlockAt}
use Rattle.tabs.proofs.FieldsLaws.{fields_from-cons, fields_from-past}
use Rattle.values.proofs.TestsLaws.{any-map, any-above}

-- A search among numbers held, each of which is tested
pub any-folded : (p : ℕ → Bool) (found : Bool) (l : List ℕ) → fold (λ f x. f || p x) found l ≡ (found || any p l)
unfolding any
any-folded p found [] = sym (or-false found)
any-folded p found (x ∷ l) = any-folded p (found || p x) l ∙ or_assoc found (p x) (any p l)

-- A number that stands twice: the first one, or one behind it

pub any_pair-first : (l later : List ℕ) (v : ℕ) → l ≡ v ∷ later → any_pair eqb l ≡ (any (eqb v) later || any_pair eqb later)
unfolding any_pair
any_pair-first l later v e = rw e

pub any_pair-none : (l : List ℕ) → length l ≡ 0 → any_pair eqb l ≡ false
unfolding any_pair
any_pair-none [] e = refl
any_pair-none (x ∷ l) e = absurd (omega arith)

-- What is known of a block: the values held are the first ones, those left start behind it, and what its fields tell is told

pub record Held (line : List ℕ) (from most : ℕ) (b : Block) : Type 0 where
  pub room : b.count ≤ length b.values
  pub held : take b.count b.values ≡ take block_size (values_from line from)
  pub left : values_from line b.behind ≡ drop block_size (values_from line from)
  pub onwards : from ≤ length line → from < b.behind
  pub told : any no_number (fields_from line from) ≡ (b.bad || any no_number (fields_from line b.behind))
  pub over : any (is_above most) (fields_from line from) ≡ (b.above || any (is_above most) (fields_from line b.behind))

-- fields that are read one after another

map-take : (n : ℕ) (l : List (List ℕ)) → map field_value (take n l) ≡ take n (map field_value l)
map-take zero l = refl
map-take (suc n) [] = refl
map-take (suc n) (x ∷ l) = ap (λ (r : List ℕ). field_value x ∷ r) (map-take n l)

map-drop : (n : ℕ) (l : List (List ℕ)) → map field_value (drop n l) ≡ drop n (map field_value l)
map-drop zero l = refl
map-drop (suc n) [] = refl
map-drop (suc n) (x ∷ l) = map-drop n l

map_snoc : (l : List (List ℕ)) (f : List ℕ) → map field_value (l ++ (f ∷ [])) ≡ map field_value l ++ (field_value f ∷ [])
map_snoc [] f = refl
map_snoc (x ∷ l) f = ap (λ (r : List ℕ). field_value x ∷ r) (map_snoc l f)

widths-snoc : (l : List (List ℕ)) (f : List ℕ) → widths (l ++ (f ∷ [])) ≡ widths l + (length f + 1)
widths-snoc [] f = omega arith
widths-snoc (x ∷ l) f = omega (arith, widths-snoc l f)

-- A block while it is filled: the fields read and those left are all the fields

pub record Filled (line : List ℕ) (from most : ℕ) (values : List ℕ) (count p : ℕ) (bad above : Bool) : Type 0 where
  pub read : List (List ℕ)
  pub number : count ≡ length read
  pub room : count ≤ block_size
  pub values-are : values ≡ map field_value read ++ replicate (block_size - count) 0
  pub split : fields_from line from ≡ read ++ fields_from line p
  pub place : p ≡ from + widths read
  pub told : bad ≡ any no_number read
  pub over : above ≡ any (is_above most) read

pub nothing-filled : (line : List ℕ) (from most : ℕ) → Filled line from most (replicate block_size 0) 0 from false false
unfolding any
nothing-filled line from most =
    record { read = []; number = refl; room = omega arith; values-are = refl; split = refl; place = omega arith; told = refl; over = refl }

-- there is room, and the place is one of the line
pub fill-test : (count k p n : ℕ) → (ltb count k && leb p n) ≡ true → (count < k) × (p ≤ n)
fill-test count k p n e = let t = (and-eq-true_iff (ltb count k) (leb p n)).0 e in (ltb-true _ _ t.0, leb-true _ _ t.1)

module _ {line : List ℕ} {from most : ℕ} {values : List ℕ} {count p : ℕ} {bad above : Bool}
    (f : Filled line from most values count p bad above) where
  -- the values after one more
  values-next : (v : ℕ) → count < block_size
      → set values count v ≡ (map field_value f.read ++ (v ∷ [])) ++ replicate (block_size - (count + 1)) 0
  values-next v h =
      let k : block_size - count ≡ suc (block_size - (count + 1)) = omega arith in
      rw (f.values-are, k, append_assoc (map field_value f.read) (v ∷ []) (replicate (block_size - (count + 1)) 0))
      (set_at (map field_value f.read) 0 (replicate (block_size - (count + 1)) 0) v count
      (length-map f.read field_value ∙ sym f.number))

  -- with e the end of the field at the place, and n what is read there
  pub filled_next : (e v : ℕ) (n : Option ℕ) (t : Bool) → e ≡ p + length (up_to 9 (drop p line)) → p ≤ length line
      → n ≡ number_of (take (e - p) (drop p line))
      → v ≡ unwrap_or n 0 → t ≡ is_none n → count < block_size
      → Filled line from most (set values count v) (count + 1) (e + 1) (bad || t) (above || ltb most v)
  filled_next e v n t is l read at none h =
      let g : List ℕ = take (e - p) (drop p line) in
      let here : fields_from line p ≡ g ∷ fields_from line (e + 1) = fields_from-cons line p e is l in
      let value : v ≡ field_value g = at ∙ ap (λ (o : Option ℕ). unwrap_or o 0) read in
      let wide : length g ≡ e - p = length-take-le (e - p) (drop p line) (omega (arith, is, up_to-le 9 (drop p line))) in
      record {
        read = f.read ++ (g ∷ []);
        number = omega (arith, f.number, length-append f.read (g ∷ []));
        room = omega arith;
        values-are = values-next v h ∙ rw (map_snoc f.read g, value);
        split = f.split ∙ rw (here, append_assoc f.read (g ∷ []) (fields_from line (e + 1)));
        place = omega (arith, f.place, widths-snoc f.read g, wide, is);
        told = rw (any_snoc no_number g f.read, f.told, none, read) (or_comm (any no_number f.read) (no_number g));
        over =
            rw (any_snoc (is_above most) g f.read, f.over, value)
            (or_comm (any (is_above most) f.read) (ltb most (field_value g)));
      }

  read-full : count ≡ block_size → (f.read ≡ block_of line from) × (fields_from line p ≡ drop block_size (fields_from line from))
  read-full h =
      let n : length f.read ≡ block_size = sym f.number ∙ h in
      rw f.split (sym (take_at f.read (fields_from line p) block_size n), sym (drop_at f.read (fields_from line p) block_size n))

  read-last : length line < p → (f.read ≡ block_of line from) × (fields_from line p ≡ drop block_size (fields_from line from))
  read-last h =
      let n : length f.read ≤ block_size = omega (arith, f.number, f.room) in
      rw (f.split, fields_from-past line p h, append-nil) (sym (take_all block_size f.read n), sym (drop_of_length-le f.read n))

  read-end : (a b : Bool) → ltb count block_size ≡ a → leb p (length line) ≡ b → (a && b) ≡ false
      → (f.read ≡ block_of line from) × (fields_from line p ≡ drop block_size (fields_from line from))
  read-end true true s t e = absurd (true≢false e)
  read-end true false s t e = read-last (leb-false _ _ t)
  read-end false b s t e = let h : block_size ≤ count = ltb-false _ _ s in read-full (omega (arith, f.room))

  pub filled-end : (ltb count block_size && leb p (length line)) ≡ false
      → BlockAt line from most (record { values = values; count = count; behind = p; bad = bad; above = above })
  filled-end e =
      let h = (read-end _ _ refl refl e).0 in
      record {
        values-are = f.values-are ∙ ap (λ (r : List (List ℕ)). map field_value r ++ replicate (block_size - count) 0) h;
        count-is = f.number ∙ ap length h;
        behind-is = f.place ∙ ap (λ (r : List (List ℕ)). from + widths r) h;
        bad-is = f.told ∙ ap (any no_number) h;
        above-is = f.over ∙ ap (any (is_above most)) h;
      }

-- A block's fields end where the next ones start

-- the field at a place of the line, and those behind it
field_at : (line : List ℕ) (p : ℕ) → p ≤ length line
    → fields_from line p ≡ up_to 9 (drop p line) ∷ fields_from line (p + (length (up_to 9 (drop p line)) + 1))
field_at line p l =
    let e = p + length (up_to 9 (drop p line)) in
    let k : e + 1 ≡ p + (length (up_to 9 (drop p line)) + 1) = omega arith in
    rw (sym k) (fields_from-cons line p e refl l ∙ ap (λ (f : List ℕ). f ∷ fields_from line (e + 1)) (part-take 9 line p e refl))

-- the law below, from that of the next field's place
widths-next : (line : List ℕ) (n p next : ℕ) → next ≡ p + (length (up_to 9 (drop p line)) + 1)
    → fields_from line (next + widths (take n (fields_from line next))) ≡ drop n (fields_from line next)
    → (b : Bool) → leb p (length line) ≡ b
    → fields_from line (p + widths (take (suc n) (fields_from line p))) ≡ drop (suc n) (fields_from line p)
widths-next line n p next at ih true t =
    let here : fields_from line p ≡ up_to 9 (drop p line) ∷ fields_from line next = rw at (field_at line p (leb-true _ _ t)) in
    let k : p + (length (up_to 9 (drop p line)) + 1 + widths (take n (fields_from line next)))
    ≡ next + widths (take n (fields_from line next)) = omega (arith, at) in
    rw (here, k) ih
widths-next line n p next at ih false t =
    let h : length line < p = leb-false _ _ t in
    let e : p + 0 ≡ p = omega arith in
    rw (fields_from-past line p h, e) (fields_from-past line p h)

fields_from-widths : (line : List ℕ) (n p : ℕ) → fields_from line (p + widths (take n (fields_from line p))) ≡ drop n (fields_from line p)
fields_from-widths line zero p = let e : p + 0 ≡ p = omega arith in rw e
fields_from-widths line (suc n) p =
    widths-next line n p _ refl (fields_from-widths line n (p + (length (up_to 9 (drop p line)) + 1))) (leb p (length line)) refl

-- a block goes on, where there is a field
widths-pos : (line : List ℕ) (p : ℕ) → p ≤ length line → 0 < widths (take block_size (fields_from line p))
widths-pos line p l = rw (field_at line p l) (omega arith)

pub held_of : {line : List ℕ} {from most : ℕ} {b : Block} → BlockAt line from most b → Held line from most b
held_of {line} {from} {most} {b} at =
    let fields = fields_from line from in
    let rest : fields_from line b.behind ≡ drop block_size fields = rw at.behind-is (fields_from-widths line block_size from) in
    let both : block_of line from ++ drop block_size fields ≡ fields = take-append-drop block_size fields in
    let n : length (map field_value (block_of line from)) ≡ b.count = length-map (block_of line from) field_value ∙ sym at.count-is in
    let size : length b.values ≡ b.count + (block_size - b.count) =
    ap length at.values-are ∙ length-append (map field_value (block_of line from)) (replicate (block_size - b.count) 0)
    ∙ omega (arith, n, length-replicate {A = ℕ} (block_size - b.count) 0) in
    record {
      room = omega (arith, size);
      held =
          rw at.values-are
          (take_at (map field_value (block_of line from)) (replicate (block_size - b.count) 0) b.count n ∙ map-take block_size fields);
      left = rw rest (map-drop block_size fields);
      onwards = λ l. omega (arith, at.behind-is, widths-pos line from l);
      told = ap (any no_number) (sym both) ∙ any_append no_number (block_of line from) (drop block_size fields) ∙ rw (at.bad-is, rest);
      over =
          ap (any (is_above most)) (sym both)
          ∙ any_append (is_above most) (block_of line from) (drop block_size fields) ∙ rw (at.above-is, rest);
    }

-- Values that stand twice: in a block, in it and behind it, or behind it

-- the values that a block holds
abbrev pub held_in : Block → List ℕ
held_in b = take b.count b.values

-- is one of them a value of a field behind the block?
abbrev pub same_behind : List ℕ → Block → Bool
same_behind line b = any (λ f. any (eqb (field_value f)) (held_in b)) (fields_from line b.behind)

module _ {line : List ℕ} {from most : ℕ} {b : Block} (at : Held line from most b) where
  any_pair-block : any_pair eqb (values_from line from)
      ≡ (any_pair eqb (held_in b) || (same_behind line b || any_pair eqb (values_from line b.behind)))
  any_pair-block =
      let split : values_from line from ≡ held_in b ++ values_from line b.behind =
      rw (at.held, at.left) (sym (take-append-drop block_size (values_from line from))) in
      rw (
        split,
        any_pair-append eqb eqb_comm (held_in b) (values_from line b.behind),
        any-map (λ y. any (eqb y) (held_in b)) field_value (fields_from line b.behind),
      )

  pub block_same : any_pair eqb (held_in b) ≡ true → any_pair eqb (values_from line from) ≡ true
  block_same t = any_pair-block ∙ rw t

  pub block-among : any_pair eqb (held_in b) ≡ false → same_behind line b ≡ true → any_pair eqb (values_from line from) ≡ true
  block-among s t = any_pair-block ∙ rw (s, t)

  pub block-next : any_pair eqb (held_in b) ≡ false → same_behind line b ≡ false
      → any_pair eqb (values_from line from) ≡ any_pair eqb (values_from line b.behind)
  block-next s t = any_pair-block ∙ rw (s, t)

-- Values too large or twice, in the order in which they are looked for: in the block, then behind it and in it, then behind it alone

or-arrange : (a r s m t : Bool) → (a || r || (s || (m || t))) ≡ (a || s || (r || m || t))
or-arrange a r s m t = or_swap a r s (m || t) ∙ ap (λ (x : Bool). a || s || x) (sym (or_assoc r m t))

abbrev pub bad_from : List ℕ → ℕ → ℕ → Bool
bad_from line from most = any (leb (most + 1)) (values_from line from) || any_pair eqb (values_from line from)

abbrev pub bad_in : Block → Bool
bad_in b = b.above || any_pair eqb (held_in b)

abbrev pub bad_behind : List ℕ → ℕ → Block → Bool
bad_behind line most b = any (is_above most) (fields_from line b.behind) || same_behind line b

module _ {line : List ℕ} {from most : ℕ} {b : Block} (at : Held line from most b) where
  bad_from-block : bad_from line from most ≡ (bad_in b || (bad_behind line most b || any_pair eqb (values_from line b.behind)))
  bad_from-block =
      let rest = fields_from line b.behind in
      rw (any-above most (most + 1) (fields_from line from) refl, at.over, any_pair-block at)
      (or-arrange b.above (any (is_above most) rest) (any_pair eqb (held_in b)) (same_behind line b)
      (any_pair eqb (map field_value rest)))

  pub bad_from-in : bad_in b ≡ true → bad_from line from most ≡ true
  bad_from-in t = bad_from-block ∙ rw t

  pub bad_from-behind : bad_in b ≡ false → bad_behind line most b ≡ true → bad_from line from most ≡ true
  bad_from-behind s t = bad_from-block ∙ rw (s, t)

  pub bad_from-next : bad_in b ≡ false → bad_behind line most b ≡ false → bad_from line from most ≡ any_pair eqb (values_from line b.behind)
  bad_from-next s t = bad_from-block ∙ rw (s, t)
