use native.Mathlib.Omega.{arith}
use Prim.Native.Nat.{ℕ, ◌-◌}
use mathlib.Core.Bool.{true, false}
use mathlib.Core.Path.{◌∙◌}
use lib.ListN.{length-replicate}
use Rattle.json_keys.specs.Repeats.{batch}
use Rattle.json_keys.specs.ScanLaws.{scan-all, scan-end, scan-pass, scan-quote, scan-bad, scan-open, scan-repeated}
use Rattle.json_sheet.proofs.keys.keys_differ.Goals as goal

pub loop-i-init : goal.loop-i-init
loop-i-init c = (omega arith, length-replicate {A = ℕ} batch 0, length-replicate {A = ℕ} batch 0, λ r k. scan-all c.args.text.now r k)

pub overflow_add-i : goal.overflow_add-i
overflow_add-i c = omega (arith, c.loop-i-test.true)

pub read_string-requires : goal.read_string-requires
read_string-requires c = omega (arith, c.loop-i-test.true)

pub returns-in_default : goal.returns-in_default
returns-in_default c = c.loop-i.invariant.3 false (scan-bad c.args.text.now c.loop-i.i c.loop-i-test.true c.if-b-eq34.true (rw c.in_default.is at c.read_string.ensures))

pub loop-i-smaller-then-b-eq34 : goal.loop-i-smaller-then-b-eq34
loop-i-smaller-then-b-eq34 c = let r = rw c.in-Some.is at c.read_string.ensures in omega (arith, r.read.past, r.read.within)

pub loop-i-preserved-then-b-eq34 : goal.loop-i-preserved-then-b-eq34
loop-i-preserved-then-b-eq34 c =
    let r = rw c.in-Some.is at c.read_string.ensures in
    (r.read.within, c.loop-i.invariant.1, c.loop-i.invariant.2, λ x k. c.loop-i.invariant.3 x (scan-quote c.args.text.now c.loop-i.i c.loop-i-test.true c.if-b-eq34.true r k))

pub object_differs-requires : goal.object_differs-requires
object_differs-requires c = (omega (arith, c.loop-i-test.true), c.loop-i.invariant.1, c.loop-i.invariant.2)

pub loop-i-smaller-else-not-object_differs : goal.loop-i-smaller-else-not-object_differs
loop-i-smaller-else-not-object_differs c = omega (arith, c.loop-i-test.true)

pub loop-i-preserved-else-not-object_differs : goal.loop-i-preserved-else-not-object_differs
loop-i-preserved-else-not-object_differs c = (omega (arith, c.loop-i-test.true), c.object_differs.auto.links ∙ c.loop-i.invariant.1, c.object_differs.auto.places ∙ c.loop-i.invariant.2, λ x k. c.loop-i.invariant.3 x (scan-open c.args.text.now c.loop-i.i c.loop-i-test.true c.if-b-eq123.true (rw c.if-not-object_differs.false at c.object_differs.ensures) k))

pub returns-then-not-object_differs : goal.returns-then-not-object_differs
returns-then-not-object_differs c = c.loop-i.invariant.3 false (scan-repeated c.args.text.now c.loop-i.i c.loop-i-test.true c.if-b-eq123.true (rw c.if-not-object_differs.true at c.object_differs.ensures))

pub loop-i-smaller : goal.loop-i-smaller
loop-i-smaller c = omega (arith, c.loop-i-test.true)

pub loop-i-preserved : goal.loop-i-preserved
loop-i-preserved c = (omega (arith, c.loop-i-test.true), c.loop-i.invariant.1, c.loop-i.invariant.2, λ x k. c.loop-i.invariant.3 x (scan-pass c.args.text.now c.loop-i.i c.loop-i-test.true c.if-b-eq34.false c.if-b-eq123.false k))

pub returns : goal.returns
returns c = c.loop-i.invariant.3 true (scan-end c.args.text.now c.loop-i.i (omega (arith, c.loop-i-test.false)))
