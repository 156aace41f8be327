-- What the code tests of a field. The scope knows nothing of it. Assumes nothing.
use Rattle.std.specs.Prelude.{◌≡◌, Bool, List, ℕ, ltb}
use Rattle.std.specs.Borrow.{Bor}
use Rattle.std.specs.Fn.{Shared, FnReturns}
use Rattle.tabs.specs.Fields.{field_value}

-- a value above this one
abbrev pub is_above : ℕ → List ℕ → Bool
is_above v f = ltb v (field_value f)

-- each call of a closure on a field answers this test of its bytes
abbrev pub ComputesTest : {F : Type 0} → Shared F (Bor (List ℕ) × Unit {0}) Bool → F
    → (List ℕ → Bool) → Type 0
ComputesTest g f p = (x : Bor (List ℕ)) (b : Bool) → FnReturns g f (x, tt) b → b ≡ p x.now
