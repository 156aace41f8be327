-- `running::copy` meets its contract. Assumes nothing.
use mathlib.Core.Path.{refl, sym}
use native.Mathlib.Omega.{arith}
use Rattle.running.proofs.CopyLaws.{turn, finish}
use Rattle.running.proofs.copy.Goals as goal

pub loop-i-init : goal.loop-i-init
loop-i-init c = record { size = sym c.requires; words = refl }

pub loop-i-preserved : goal.loop-i-preserved
loop-i-preserved c = turn (omega arith) c.loop-i.invariant

pub returns : goal.returns
returns c = finish (omega arith) c.loop-i.invariant
