use native.Mathlib.Omega.{arith}
use Prim.Native.Nat.{◌-◌, ◌/◌}
use mathlib.Core.Bool.{true, false}
use mathlib.Core.Path.{refl}
use Rattle.rule.proofs.TableLaws.{chain-none, chain-found, chain_next, falls-next}
use Rattle.rule.proofs.keys.is_chained.Goals as goal

pub loop-x-init : goal.loop-x-init
loop-x-init c = (c.requires, λ r chained. chained)

pub returns-then-stands_at : goal.returns-then-stands_at
returns-then-stands_at c = let a = c.args in c.loop-x.invariant.1 true (chain-found a.s.now a.words.now a.links.now a.entry c.loop-x.x c.loop-x-test.true c.start_of.ensures c.stands_at.ensures c.if-stands_at.true)

pub bounds-links-x : goal.bounds-links-x
bounds-links-x c = omega (arith, c.loop-x-test.true, c.loop-x.invariant.0.room)

pub loop-x-smaller : goal.loop-x-smaller
loop-x-smaller c = omega (arith, c.loop-x-test.true, c.loop-x.invariant.0.falls ((c.loop-x.x - 1) / 2))

pub loop-x-preserved : goal.loop-x-preserved
loop-x-preserved c =
    let a = c.args in
    (falls-next a.s.now a.words.now a.links.now a.entry c.loop-x.x c.loop-x-test.true c.loop-x.invariant.0 refl, λ r chained. c.loop-x.invariant.1 r (chain_next a.s.now a.words.now a.links.now a.entry c.loop-x.x c.loop-x-test.true c.start_of.ensures c.stands_at.ensures c.if-stands_at.false refl chained))

pub returns : goal.returns
returns c = let a = c.args in c.loop-x.invariant.1 false (chain-none a.s.now a.words.now a.links.now a.entry c.loop-x.x (omega (arith, c.loop-x-test.false)))
