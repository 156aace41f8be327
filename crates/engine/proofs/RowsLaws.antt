-- The loop over whole rows: i of n pixels are drawn, and while some are left the addresses are those of the next row's first pixel.
-- No contract cites this file. Assumes nothing.
use Rattle.std.proofs.Common.{◌≡◌, ℕ, ◌+◌, ◌-◌, ◌*◌, ◌/◌, ◌%◌, ◌^◌, ◌<◌, ◌≤◌, min, List, sym, ap, ◌∙◌, mod-lt, add-mul, one-mul, div-add-mod', arith}
use lib.Arith.{digits_mod}
use Rattle.walk.proofs.WalkLaws.{next-mod, address_of-down}
use Rattle.plot.specs.declared.Drawing.{Drawing}
use Rattle.engine.specs.Engine.{src_of, dest_of, visits}
use Rattle.row.specs.Row.{row_drawn}
use Rattle.engine.proofs.RowLaws.{row-visits}
use Rattle.engine.proofs.VisitsLaws.{visits-none, visits-add}

-- where the first row ends
pub piece-ends : (cols k n : ℕ) {count : ℕ} → 0 < cols → count ≡ min n (cols - k % cols) → count < n → (k + count) % cols ≡ 0
piece-ends cols k n {count} h e l =
    let c : k + count ≡ (k / cols + 1) * cols + 0 =
    omega (arith, e, div-add-mod' k cols, mod-lt k h, add-mul (k / cols) 1 cols, one-mul cols) in
    ap (λ (x : ℕ). x % cols) c ∙ digits_mod (k / cols + 1) h

-- while pixels are left
pub record AtRow (d : Drawing) (from to i : ℕ) : Type 0 where
  pub first : i % d.cols ≡ 0
  pub from_is : from ≡ src_of d i
  pub to_is : to ≡ dest_of d i

pub record Rows (m₀ : List ℕ) (d : Drawing) (k n : ℕ) (m : List ℕ) (from to i : ℕ) : Type 0 where
  pub pos : 0 < d.cols
  pub end_lt : k + n < 2 ^ 32
  pub bound : i ≤ n
  pub drawn : m ≡ visits d k i m₀
  pub at : i < n → AtRow d from to (k + i)

module _ {m₀ : List ℕ} {d : Drawing} {k n : ℕ} where
  pub no_rows : {from to : ℕ} → 0 < d.cols → k + n < 2 ^ 32 → k % d.cols ≡ 0 → from ≡ src_of d k → to ≡ dest_of d k
      → Rows m₀ d k n m₀ from to 0
  no_rows {from} {to} p h z f t =
      let e : k ≡ k + 0 = omega arith in
      record {
        pos = p;
        end_lt = h;
        bound = omega arith;
        drawn = sym (visits-none d k m₀);
        at = λ l. rw (← e) (record { first = z; from_is = f; to_is = t });
      }

  module _ {m : List ℕ} {from to i count : ℕ} (inv : Rows m₀ d k n m from to i) (more : i < n)
      (e : count ≡ min d.cols (n - i)) where
    rows_row : (k + i) % d.cols + count ≤ d.cols
    rows_row = omega (arith, e, (inv.at more).first)

    rows_end : i + count ≤ n
    rows_end = omega (arith, e)

    -- the row drawn is its pixels visited
    rows-drawn : row_drawn d from to count m ≡ visits d (k + i) count m
    rows-drawn = rw ((inv.at more).from_is, (inv.at more).to_is) (row-visits d (k + i) count m rows_row)

    pub next-rows : {m' : List ℕ} {from' to' : ℕ} → m' ≡ row_drawn d from to count m
        → from' ≡ (from + d.src.pitch) % 2 ^ 32 → to' ≡ (to + d.dest.pitch) % 2 ^ 32
        → Rows m₀ d k n m' from' to' (i + count)
    next-rows {m'} {from'} {to'} v f t = record {
      pos = inv.pos;
      end_lt = inv.end_lt;
      bound = rows_end;
      drawn = v ∙ rows-drawn ∙ ap (visits d (k + i) count) inv.drawn ∙ sym (visits-add d k i count m₀);
      at = next;
    }
      where
        next : i + count < n → AtRow d from' to' (k + (i + count))
        next l =
            let a = inv.at more in
            let q : k + (i + count) ≡ k + i + d.cols = omega (arith, e) in
            rw q
            (record {
              first = next-mod d.cols (k + i) inv.pos ∙ a.first;
              from_is = f ∙ ap (λ (x : ℕ). (x + d.src.pitch) % 2 ^ 32) a.from_is
                  ∙ sym (address_of-down d.src d.cols (k + i) inv.pos);
              to_is = t ∙ ap (λ (x : ℕ). (x + d.dest.pitch) % 2 ^ 32) a.to_is
                  ∙ sym (address_of-down d.dest d.cols (k + i) inv.pos);
            })
