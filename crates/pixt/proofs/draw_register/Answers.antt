-- `draw_register` meets its contract. Assumes nothing.
use mathlib.Core.Path.{subst}
use Prim.Native.Nat.{ℕ}
use Rattle.std.specs.Prelude.{Option, IfSome}
use Rattle.pixt.proofs.LoneLaws.{Aligned, shifted-low_bits}
use Rattle.pixt.proofs.draw_register.Goals as goal

pub returns-in-Some : goal.returns-in-Some
returns-in-Some c =
    let a = c.args in
    let aligned = subst (λ (o : Option ℕ). IfSome o (Aligned a.s)) c.in-Some.is c.requires in
    rw (c.in-Some.is, c.draw.ensures, c.at_place.ensures, shifted-low_bits a.s a.value c.in-Some.address aligned)
