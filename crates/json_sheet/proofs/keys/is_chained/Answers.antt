use native.Mathlib.Omega.{arith}
use Prim.Native.Nat.{◌-◌}
use mathlib.Core.Bool.{true, false}
use mathlib.Core.Path.{refl}
use Rattle.json_keys.specs.TableLaws.{chain-none, chain-found, chain_next, falls-next}
use Rattle.json_sheet.proofs.keys.is_chained.Goals as goal

pub loop-x-init : goal.loop-x-init
loop-x-init c = (c.requires, λ r k. k)

pub bounds-places-x : goal.bounds-places-x
bounds-places-x c = omega (arith, c.loop-x-test.true, c.loop-x.invariant.0.placed)

pub returns-then-same_text : goal.returns-then-same_text
returns-then-same_text c = c.loop-x.invariant.1 true (chain-found c.args.s.now c.args.links.now c.args.places.now c.args.at c.loop-x.x c.loop-x-test.true c.same_text.ensures c.if-same_text.true)

pub bounds-links-x : goal.bounds-links-x
bounds-links-x c = omega (arith, c.loop-x-test.true, c.loop-x.invariant.0.linked)

pub overflow_cast-x : goal.overflow_cast-x
overflow_cast-x c = omega (arith, c.shared_slice_known-in-loop-x-2-1.given (c.loop-x.x - 1))

pub loop-x-smaller : goal.loop-x-smaller
loop-x-smaller c = omega (arith, c.loop-x-test.true, c.loop-x.invariant.0.falls (c.loop-x.x - 1) (omega (arith, c.loop-x-test.true)))

pub loop-x-preserved : goal.loop-x-preserved
loop-x-preserved c = (falls-next c.args.s.now c.args.links.now c.args.places.now c.args.at c.loop-x.x c.loop-x-test.true c.loop-x.invariant.0 refl, λ r k. c.loop-x.invariant.1 r (chain_next c.args.s.now c.args.links.now c.args.places.now c.args.at c.loop-x.x c.loop-x-test.true c.same_text.ensures c.if-same_text.false refl k))

pub returns : goal.returns
returns c = c.loop-x.invariant.1 false (chain-none c.args.s.now c.args.links.now c.args.places.now c.args.at c.loop-x.x (omega (arith, c.loop-x-test.false)))
