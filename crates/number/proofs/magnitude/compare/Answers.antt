use Prim.Native.Nat.{◌-◌}
use mathlib.Core.List.{map, ◌++◌}
use mathlib.Core.Path.{◌≡◌}
use native.Mathlib.Omega.{arith}
use Rattle.number.specs.Bound.{bound}
use Rattle.number.specs.Finite.{digit}
use Rattle.number.proofs.Digits.{left-differs, left-same, left-none}
use Rattle.number.proofs.magnitude.compare.Goals as goal

pub returns-then-d-b : goal.returns-then-d-b
unfolding bound
returns-then-d-b c =
    let a = c.args in
    left-differs (map digit (a.high.now ++ a.low.now)) bound c.loop-i.i (omega arith) c.digit_at-d.ensures c.if-d-b.true c.loop-i.invariant

pub loop-i-preserved : goal.loop-i-preserved
unfolding bound
loop-i-preserved c =
    let a = c.args in
    left-same (map digit (a.high.now ++ a.low.now)) bound c.loop-i.i (omega arith) c.digit_at-d.ensures c.if-d-b.false c.loop-i.invariant

pub returns : goal.returns
unfolding bound
returns c =
    let a = c.args in
    let last : c.loop-i.i ≡ 309 = omega arith in
    rw last at (left-none (map digit (a.high.now ++ a.low.now)) bound c.loop-i.i (omega arith) c.loop-i.invariant)
