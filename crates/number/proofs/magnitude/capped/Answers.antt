use Prim.Native.Nat.{◌-◌}
use mathlib.Core.Path.{◌∙◌, sym, refl}
use native.Mathlib.Omega.{arith}
use Rattle.number.specs.Finite.{value, numeral}
use Rattle.number.proofs.Digits.{numeral-on, numeral-out, numeral-tenfold}
use Rattle.number.proofs.magnitude.capped.Goals as goal

pub loop-b-init : goal.loop-b-init
unfolding value numeral
loop-b-init c = (refl, omega arith)

pub returns-then-v : goal.returns-then-v
returns-then-v c = omega (arith, numeral-tenfold c.loop-b.v c.args.s.now c.loop-b.b-index c.loop-b-test.true, c.loop-b.invariant.0)

pub loop-b-preserved : goal.loop-b-preserved
loop-b-preserved c = (rw c.digit-d.ensures (sym (numeral-on _ _ _ c.loop-b-test.true) ∙ c.loop-b.invariant.0), omega (arith, c.digit-d.type_inv))

pub returns : goal.returns
returns c = omega (arith, numeral-out c.loop-b.v c.args.s.now c.loop-b.b-index c.loop-b-test.false, c.loop-b.invariant.0)
