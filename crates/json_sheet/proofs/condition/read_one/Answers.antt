use native.Mathlib.Omega.{arith}
use Rattle.json_sheet.proofs.Operands.{is-one}
use Rattle.json_sheet.proofs.condition.read_one.Goals as goal

pub returns : goal.returns
returns c = is-one c.args.op c.args.depth c.args.s.now c.args.at c.read_value.result _ _ _ _ _ (omega arith) c.lay_plain-e.ensures c.read_value.ensures
