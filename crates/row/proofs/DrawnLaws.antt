-- Pixels drawn one after the other in a row: the memory keeps its length and its words their 16 bits; the loop, of which i of n pixels are
-- drawn, and the addresses are i steps on. No contract cites this file. Assumes nothing.
use Rattle.std.proofs.Common.{◌≡◌, ℕ, zero, suc, ◌+◌, ◌%◌, ◌^◌, ◌<◌, ◌≤◌, List, length, sym, refl, ap, ◌∙◌, add-one, arith}
use Rattle.memory.specs.Bits.{Memory}
use Rattle.pixel.proofs.PixelLaws.{length-plotted, memory-plotted}
use Rattle.walk.specs.Walk.{start_at}
use Rattle.walk.proofs.WalkLaws.{address_at-start, address_at-across}
use Rattle.plot.specs.declared.Drawing.{Drawing}
use Rattle.row.specs.Row.{drawn_at, along, row_drawn}
use Rattle.row.specs.Colors.{colors_of}

module _ (d : Drawing) (from to : ℕ) where
  pub length-drawn_at : (m : List ℕ) → length (drawn_at d from to m) ≡ length m
  unfolding drawn_at
  length-drawn_at m = length-plotted d.pp d.t _ d.pmask to _ m

  pub memory-drawn_at : {n : ℕ} {m : List ℕ} → Memory n m → Memory n (drawn_at d from to m)
  unfolding drawn_at
  memory-drawn_at g = memory-plotted d.pp d.t _ d.pmask to _ g

  length-row_drawn : (n : ℕ) (m : List ℕ) → length (row_drawn d from to n m) ≡ length m
  unfolding row_drawn length-drawn_at
  length-row_drawn zero m = refl
  length-row_drawn (suc n) m = length-plotted d.pp d.t _ d.pmask _ _ _ ∙ length-row_drawn n m

-- ---- the loop over the pixels of a row
pub record Drawn (m₀ : List ℕ) (d : Drawing) (src dest n : ℕ) (colors m : List ℕ) (from to i : ℕ) : Type 0 where
  pub colors-is : colors ≡ colors_of d
  pub bound : i ≤ n
  pub drawn : m ≡ row_drawn d src dest i m₀
  pub from_is : from ≡ along d.src src i
  pub to_is : to ≡ along d.dest dest i

module _ {m₀ : List ℕ} {d : Drawing} {src dest n : ℕ} {colors : List ℕ} where
  pub none-drawn : colors ≡ colors_of d → src < 2 ^ 32 → dest < 2 ^ 32 → Drawn m₀ d src dest n colors m₀ src dest 0
  unfolding row_drawn
  none-drawn c f t = record {
    colors-is = c;
    bound = omega arith;
    drawn = refl;
    from_is = sym (address_at-start (start_at d.src src) f);
    to_is = sym (address_at-start (start_at d.dest dest) t);
  }

  pub next_drawn : {m : List ℕ} {from to i : ℕ} → Drawn m₀ d src dest n colors m from to i
      → {m' : List ℕ} {from' to' : ℕ} → i < n → m' ≡ drawn_at d from to m
      → from' ≡ (from + d.src.step) % 2 ^ 32 → to' ≡ (to + d.dest.step) % 2 ^ 32
      → Drawn m₀ d src dest n colors m' from' to' (i + 1)
  unfolding row_drawn
  next_drawn {m} {from} {to} {i} inv {m'} h e f t = record {
    colors-is = inv.colors-is;
    bound = omega arith;
    drawn = rw (e, inv.from_is, inv.to_is, inv.drawn, add-one);
    from_is = f ∙ ap (λ (x : ℕ). (x + d.src.step) % 2 ^ 32) inv.from_is ∙ address_at-across (start_at d.src src) 0 i;
    to_is = t ∙ ap (λ (x : ℕ). (x + d.dest.step) % 2 ^ 32) inv.to_is ∙ address_at-across (start_at d.dest dest) 0 i;
  }
