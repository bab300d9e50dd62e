use Rattle.defect_message.proofs.SettledSteps.{depth-none, depth-past, depth-laid}
use native.Mathlib.Omega.{arith}
use Rattle.defect_message.proofs.settled.lay_depth.Goals as goal

pub returns-then-end-le1 : goal.returns-then-end-le1
returns-then-end-le1 c = depth-none c.end_of-end.ensures (omega arith)

pub returns-then-end-gt-WORD_ENTRIES : goal.returns-then-end-gt-WORD_ENTRIES
returns-then-end-gt-WORD_ENTRIES c = depth-past c.end_of-end.ensures (omega arith)

pub returns : goal.returns
returns c = depth-laid c.end_of-end.ensures c.condition_depth.ensures c.lay_decimal.ensures
