-- `field::Field::store` meets its contract. Assumes nothing.
use mathlib.Core.Path.{◌≡◌}
use native.Mathlib.Omega.{arith}
use Rattle.field.proofs.WindowLaws.{store-one, store_two, store-three}
use Rattle.field.proofs.Field.store.Goals as goal

pub returns-then-self-eq1 : goal.returns-then-self-eq1
returns-then-self-eq1 c =
    rw c.if-self-eq1.true (store-one c.requires.words c.args.self.at c.args.v (omega arith))

pub returns-then-self-eq2 : goal.returns-then-self-eq2
returns-then-self-eq2 c =
    rw c.if-self-eq2.true (store_two c.requires.words c.args.self.at c.args.v (omega arith))

pub returns : goal.returns
returns c =
    let n : c.args.self.count ≡ 3 = omega arith in
    rw n (store-three c.requires.words c.args.self.at c.args.v (omega arith))
