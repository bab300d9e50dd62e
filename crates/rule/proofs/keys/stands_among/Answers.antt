use Prim.Native.Nat.{◌+◌, ◌-◌}
use native.Mathlib.Omega.{arith}
use mathlib.Core.Bool.{true, false}
use mathlib.Core.Path.{◌≡◌}
use Rattle.rule.proofs.SearchLaws.{among_none, among-found, among_next}
use Rattle.rule.proofs.keys.stands_among.Goals as goal

pub loop-init : goal.loop-init
loop-init c =
    let all : c.args.count - 0 ≡ c.args.count = omega arith in
    λ r among. rw all at among

pub returns-then-stands_at : goal.returns-then-stands_at
returns-then-stands_at c =
    let a = c.args in
    c.loop.invariant true (among-found a.s.now a.words.now a.entry c.loop.i (a.count - c.loop.counter) (omega arith) c.start_of.ensures c.stands_at.ensures c.if-stands_at.true)

pub loop-preserved : goal.loop-preserved
loop-preserved c =
    let a = c.args in
    let one : a.count - c.loop.counter - 1 ≡ a.count - (c.loop.counter + 1) = omega arith in
    λ r among. c.loop.invariant r (among_next a.s.now a.words.now a.entry c.loop.i (a.count - c.loop.counter) (omega arith) c.start_of.ensures c.stands_at.ensures c.if-stands_at.false (rw one (rw c.end_of-i.ensures at among)))

pub returns : goal.returns
returns c = let a = c.args in c.loop.invariant false (among_none a.s.now a.words.now a.entry c.loop.i (a.count - c.loop.counter) (omega arith))
