-- `json_sheet::texts::stir_point` meets its contract.
use native.Mathlib.Omega.{arith}
use Rattle.json_keys.specs.TextLaws.{stirred-1, stirred-2, stirred-3, stirred-4}
use Rattle.json_sheet.proofs.texts.stir_point.Goals as goal

pub returns-then-c-le127 : goal.returns-then-c-le127
returns-then-c-le127 c = stirred-1 c.args.h c.args.c (omega arith) c.stir.ensures

pub returns-then-c-le2047 : goal.returns-then-c-le2047
returns-then-c-le2047 c = stirred-2 c.args.h c.args.c (omega arith) (omega arith) c.stir-then-c-le2047.ensures c.stir-then-c-le2047-2.ensures

pub returns-then-c-le65535 : goal.returns-then-c-le65535
returns-then-c-le65535 c = stirred-3 c.args.h c.args.c (omega arith) (omega arith) c.stir-x.ensures c.stir-then-c-le65535.ensures c.stir-then-c-le65535-2.ensures

pub returns : goal.returns
returns c = stirred-4 c.args.h c.args.c (omega arith) c.stir-x-2.ensures c.stir-y.ensures c.stir-2.ensures c.stir-3.ensures
