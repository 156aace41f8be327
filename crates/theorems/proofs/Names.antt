-- The names of settings and of drawings, by computing over their tables. Assumes nothing.
use mathlib.Core.Path.{◌≡◌, refl}
use mathlib.Core.Bool.{Bool, true, false, not}
use mathlib.Core.List.{[]}
use Prim.Native.Nat.{ℕ, zero, suc, ◌<◌}
use native.Mathlib.Omega.{arith}
use borrow.Author.Tests.{eqb-true, ltb-true, ltb-false, not-false}
use lib.Dec.{eqb, ltb}
use lib.ListN.{get_or}
use Rattle.lists.specs.Search.{first}
use Rattle.lists.proofs.SearchLaws.{any_below}
use Rattle.lists.proofs.TestLaws.{or-eq-false}
use Rattle.names.specs.Names.{names, name_count}
use Rattle.line.specs.Line.{name_number}
use Rattle.theorems.specs.Names.{NamesNumbered, SettingsNamed, DrawingsNamed, OfNames}

-- a test that no number below a bound passes
none_below : (n : ℕ) (p : ℕ → Bool) → any_below n p ≡ false → (i : ℕ) → i < n → p i ≡ false
none_below zero p e i h = absurd (omega arith)
none_below (suc n) p e i h =
    let t = or-eq-false (any_below n p) (p n) e in
    go (λ l. none_below n p t.0 i l) t.1 (ltb i n) refl
  where
    go : (i < n → p i ≡ false) → p n ≡ false → (b : Bool) → ltb i n ≡ b → p i ≡ false
    go below last true q = below (ltb-true i n q)
    go below last false q = let same : i ≡ n = omega (arith, ltb-false i n q) in rw same last

misread : ℕ → Bool
misread i = not (eqb (name_number (get_or names i [])) i)

all_read : any_below name_count misread ≡ false
unfolding first misread
all_read = refl

pub names-numbered : NamesNumbered
unfolding misread
names-numbered i h = eqb-true (name_number (get_or names i [])) i (not-false _ (none_below name_count misread all_read i h))

pub settings-named : SettingsNamed
unfolding first
settings-named =
    record {
      saddr = λ f. refl;
      sptch = λ f. refl;
      daddr = λ f. refl;
      dptch = λ f. refl;
      offset = λ f. refl;
      wstart = λ f. refl;
      wend = λ f. refl;
      dydx = λ f. refl;
      color0 = λ f. refl;
      color1 = λ f. refl;
      control = λ f. refl;
      psize = λ f. refl;
      pmask = λ f. refl;
      seed = refl;
      last = refl;
    }

pub drawings-named : DrawingsNamed
drawings-named = refl

pub of-names : OfNames
of-names = record { names-numbered = names-numbered; settings-named = settings-named; drawings-named = drawings-named }
