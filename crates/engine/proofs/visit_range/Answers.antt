-- `visit_range` meets its contract: what is left of the first row is visited, then the rows after it.
use Rattle.std.proofs.Common.{◌≡◌, ℕ, ◌+◌, ◌-◌, sym, ap, ◌∙◌, ap₂, mod-lt, arith}
use Rattle.row.specs.Row.{row_drawn}
use Rattle.engine.specs.Engine.{visits}
use Rattle.engine.proofs.VisitsLaws.{visits-add}
use Rattle.engine.proofs.RowLaws.{row-visits}
use Rattle.engine.proofs.RowsLaws.{piece-ends}
use Rattle.engine.proofs.visit_range.Goals as goal

-- what is left of the first row is drawn, that is, its pixels are visited
first-row-2 : (c : goal.After-slice_known-then-count-n-1) → (let a = c.args in
    let n : ℕ = c.piece-count.result in
    row_drawn a.d c.pixel_at-from.result c.pixel_at-to.result n a.memory.now ≡ visits a.d a.k n a.memory.now)
first-row-2 c =
    let a = c.args in
    let n : ℕ = c.piece-count.result in
    ap₂ (λ (from to : ℕ). row_drawn a.d from to n a.memory.now) c.pixel_at-from.ensures c.pixel_at-to.ensures
    ∙ row-visits a.d a.k n a.memory.now (omega (arith, c.piece-count.ensures, mod-lt a.k c.requires.0))

-- what is left of the first row is drawn, that is, its pixels are visited
first-row : (c : goal.Else-count-n) → (let a = c.args in
    let n : ℕ = c.piece-count.result in
    row_drawn a.d c.pixel_at-from.result c.pixel_at-to.result n a.memory.now ≡ visits a.d a.k n a.memory.now)
first-row c =
    let a = c.args in
    let n : ℕ = c.piece-count.result in
    ap₂ (λ (from to : ℕ). row_drawn a.d from to n a.memory.now) c.pixel_at-from.ensures c.pixel_at-to.ensures
    ∙ row-visits a.d a.k n a.memory.now (omega (arith, c.piece-count.ensures, mod-lt a.k c.requires.0))

pub visit_rows-requires : goal.visit_rows-requires
visit_rows-requires c =
    let a = c.args in (
      c.requires.0,
      piece-ends a.d.cols a.k a.n c.requires.0 c.piece-count.ensures c.if-count-n.true,
      omega (arith, c.requires.1, c.if-count-n.true),
    )

pub returns-then-count-n : goal.returns-then-count-n
returns-then-count-n c =
    let a = c.args in
    let n = c.piece-count.result in
    let e : n + (a.n - n) ≡ a.n = omega (arith, c.if-count-n.true) in
    c.visit_rows.ensures
    ∙ ap (visits a.d (a.k + n) (a.n - n)) (c.draw_row.ensures ∙ first-row-2 c)
    ∙ sym (visits-add a.d a.k n (a.n - n) a.memory.now)
    ∙ ap (λ (j : ℕ). visits a.d a.k j a.memory.now) e

pub returns-else-count-n : goal.returns-else-count-n
returns-else-count-n c =
    let a = c.args in
    let e : c.piece-count.result ≡ a.n = omega (arith, c.piece-count.ensures, c.if-count-n.false) in
    c.draw_row.ensures ∙ first-row c ∙ ap (λ (j : ℕ). visits a.d a.k j a.memory.now) e
