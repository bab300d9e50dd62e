-- `rule::kind::byte_after` meets its contract.
use native.Mathlib.Omega.{arith}
use Prim.Native.Nat.{◌+◌}
use Rattle.rule.proofs.KindSteps.{past_end}
use Rattle.rule.proofs.kind.byte_after.Goals as goal

pub returns-then-s-n : goal.returns-then-s-n
returns-then-s-n c = let a = c.args in past_end a.s.now (a.at + a.n) (omega arith)

pub returns-then-s-n-2 : goal.returns-then-s-n-2
returns-then-s-n-2 c = let a = c.args in past_end a.s.now (a.at + a.n) (omega arith)
