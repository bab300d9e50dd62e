use mathlib.Core.Path.{◌≡◌}
use native.Mathlib.Omega.{arith}
use lib.ListN.{length}
use Rattle.walk.proofs.Dots.{passed_start, passed-more, ends-dot, ends-all}
use borrow.Author.Rules.{rules}
use Rattle.walk.proofs.path.end_after.Goals as goal

pub loop-i-init : goal.loop-i-init
loop-i-init c = passed_start _ c.dotless_start-i.result c.dotless_start-i.ensures

pub returns-then-path-i-eq46 : goal.returns-then-path-i-eq46
returns-then-path-i-eq46 c = search (ends-dot, rules)

pub loop-i-preserved : goal.loop-i-preserved
loop-i-preserved c = search (passed-more, rules)

pub returns : goal.returns
returns c =
    let last : c.loop-i.i ≡ length c.args.path.now = omega (arith, c.dotless_start-i.ensures.within) in
    rw last at (ends-all c.args.path.now c.loop-i.i c.loop-i.invariant (omega (arith, last)) (omega arith))
