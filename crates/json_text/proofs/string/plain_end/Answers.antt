use mathlib.Core.Path.{◌≡◌}
use native.Mathlib.Omega.{arith}
use lib.ListN.{length}
use Rattle.json_text.proofs.Scanning.{plain_more}
use Rattle.json_text.proofs.string.plain_end.Goals as goal

pub loop-i-preserved : goal.loop-i-preserved
loop-i-preserved c = plain_more c.args.s.now c.args.at c.loop-i.i c.loop-i.invariant (omega arith) (c.is_plain.ensures c.if-not-is_plain.false)

pub returns : goal.returns
returns c =
    let last : c.loop-i.i ≡ length c.args.s.now = omega (arith, c.loop-i.invariant.within) in
    rw last at c.loop-i.invariant
