use Rattle.defect_message.proofs.RefusalLaws.{rest-joined, rest-none}
use native.Mathlib.Omega.{arith}
use Rattle.defect_message.proofs.refusal.behind_dot.Goals as goal

pub returns-then-end-path : goal.returns-then-end-path
returns-then-end-path c = rest-joined _ _ c.requires (omega arith)

pub returns : goal.returns
returns c = rest-none _ _ c.requires (omega arith)
