use Prim.Native.Nat.{◌-◌}
use Rattle.buffer.specs.Bytes.{bytes_of}
use Rattle.buffer.specs.WroteLaws.{wrote_nothing, wrote_kept}
use Rattle.buffer.proofs.Steps.{wrote-numbers, all-numbers}
use native.Mathlib.Omega.{arith}
use borrow.Author.Rules.{rules}
use Rattle.buffer.proofs.put_numbers.Goals as goal

pub loop-n-init : goal.loop-n-init
unfolding bytes_of
loop-n-init c = wrote_nothing _ _

pub loop-n-preserved : goal.loop-n-preserved
loop-n-preserved c = search (wrote-numbers, rules)

pub shape_of-out : goal.shape_of-out
shape_of-out c = wrote_kept c.loop-n.invariant

pub returns : goal.returns
returns c = search (all-numbers, rules)
