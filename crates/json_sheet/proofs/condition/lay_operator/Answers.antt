use native.Mathlib.Omega.{arith}
use Rattle.json_sheet.proofs.Operands.{start-laid}
use Rattle.json_sheet.proofs.condition.lay_operator.Goals as goal

pub returns : goal.returns
returns c = start-laid c.args.op (omega arith) c.lay-a.ensures c.lay_decimal-b.ensures c.lay_byte.ensures
