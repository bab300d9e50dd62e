-- `json_sheet::value::lay_headed` meets its contract.
use native.Mathlib.Omega.{arith}
use Rattle.json_sheet.proofs.Scalars.{lays-headed}
use Rattle.json_sheet.proofs.value.lay_headed.Goals as goal

pub returns : goal.returns
returns c = lays-headed c.args.head.now c.args.s.now c.args.at c.args.len (omega arith) c.lay-a.ensures c.lay_decimal-b.ensures c.lay_byte-c.ensures c.lay_text-d.ensures c.lay_byte.ensures
