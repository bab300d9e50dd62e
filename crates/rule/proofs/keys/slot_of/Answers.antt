use native.Mathlib.Omega.{arith}
use Prim.Native.Nat.{ℕ, ◌/◌}
use mathlib.Core.Path.{◌≡◌, refl, sym, ap, ◌∙◌}
use Rattle.rule.specs.Table.{stirred, slot_of}
use Rattle.rule.proofs.TableLaws.{stirred-next, stirred-end}
use Rattle.rule.proofs.keys.slot_of.Goals as goal

pub loop-b-init : goal.loop-b-init
loop-b-init c = (refl, omega arith)

pub loop-b-preserved : goal.loop-b-preserved
loop-b-preserved c = (c.loop-b.invariant.0 ∙ stirred-next c.args.key.now c.loop-b.mixed c.loop-b.b-index c.loop-b-test.true refl refl, omega arith)

pub returns : goal.returns
unfolding slot_of
returns c =
    let end : stirred 0 c.args.key.now ≡ c.loop-b.mixed = c.loop-b.invariant.0 ∙ stirred-end c.args.key.now c.loop-b.mixed c.loop-b.b-index (omega (arith, c.loop-b-test.false)) in
    (ap (λ (h : ℕ). h / 8388608) (sym end), omega (arith, c.loop-b.invariant.1))
