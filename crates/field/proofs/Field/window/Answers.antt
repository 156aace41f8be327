-- `field::Field::window` meets its contract. Assumes nothing.
use mathlib.Core.Path.{◌≡◌, sym, ap₂, ◌∙◌}
use Prim.Native.Nat.{ℕ, ◌+◌, ◌*◌}
use native.Mathlib.Omega.{arith}
use Rattle.memory.proofs.MemoryLaws.{memory-lent}
use Rattle.field.proofs.WindowLaws.{window-one, window-two, window-three}
use Rattle.field.proofs.Field.window.Goals as goal

pub returns-then-self-eq1 : goal.returns-then-self-eq1
returns-then-self-eq1 c =
    c.from-a.ensures ∙ sym (rw c.if-self-eq1.true (window-one (memory-lent _ (λ i. (c.type_inv.memory i).fits)) c.args.self.at))

pub returns-then-self-eq2 : goal.returns-then-self-eq2
returns-then-self-eq2 c =
    ap₂ (λ (x y : ℕ). x + 65536 * y) c.from-a.ensures c.from-b.ensures
    ∙ sym (rw c.if-self-eq2.true (window-two (memory-lent _ (λ i. (c.type_inv.memory i).fits)) c.args.self.at))

pub returns : goal.returns
returns c =
    let n : c.args.self.count ≡ 3 = omega arith in
    ap₂ (λ (x y : ℕ). x + 65536 * y) c.from-a.ensures (ap₂ (λ (x y : ℕ). x + 65536 * y) c.from-b.ensures c.from-c.ensures)
    ∙ sym (rw n (window-three (memory-lent _ (λ i. (c.type_inv.memory i).fits)) c.args.self.at))
