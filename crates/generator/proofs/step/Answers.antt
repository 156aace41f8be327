-- `generator::step` is the generator's step.
use mathlib.Core.Path.{refl}
use Rattle.generator.specs.Step.{stepped}
use Rattle.generator.proofs.step.Goals as goal

pub returns : goal.returns
unfolding stepped
returns c =
    refl
