use native.Mathlib.Omega.{arith}
use Rattle.json_sheet.proofs.Operands.{plain-laid}
use Rattle.json_sheet.proofs.condition.lay_plain.Goals as goal

pub returns : goal.returns
returns c = plain-laid c.args.op (omega arith) c.lay_operator-a.ensures c.lay.ensures
