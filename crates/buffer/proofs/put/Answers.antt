use Prim.Native.Nat.{◌-◌}
use Rattle.buffer.specs.WroteLaws.{wrote_nothing, wrote_kept}
use Rattle.buffer.proofs.Steps.{wrote-more, wrote-all}
use native.Mathlib.Omega.{arith}
use borrow.Author.Rules.{rules}
use Rattle.buffer.proofs.put.Goals as goal

pub loop-byte-init : goal.loop-byte-init
loop-byte-init c = wrote_nothing _ _

pub loop-byte-preserved : goal.loop-byte-preserved
loop-byte-preserved c = search (wrote-more, rules)

pub shape_of-out : goal.shape_of-out
shape_of-out c = wrote_kept c.loop-byte.invariant

pub returns : goal.returns
returns c = search (wrote-all, rules)
