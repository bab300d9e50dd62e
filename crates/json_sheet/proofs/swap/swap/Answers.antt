-- `json_sheet::swap::swap` meets its contract.
use native.Mathlib.Omega.{arith}
use Rattle.json_sheet.proofs.Moving.{swapped-none, swapped-all, swapped-over, swapped-rotated}
use Rattle.json_sheet.proofs.swap.swap.Goals as goal

pub returns-then-middle-from : goal.returns-then-middle-from
returns-then-middle-from c = swapped-none c.args.out.now c.args.from c.args.middle c.args.end (omega arith) (omega arith)

pub returns-then-end-middle : goal.returns-then-end-middle
returns-then-end-middle c = swapped-all c.args.out.now c.args.from c.args.middle c.args.end (omega arith) (omega arith)

pub returns-then-out-end : goal.returns-then-out-end
returns-then-out-end c = swapped-over c.args.out.now c.args.from c.args.middle c.args.end (omega arith) (omega arith)

pub returns : goal.returns
returns c = swapped-rotated c.args.out.now _ c.args.from c.args.middle c.args.end (omega arith) (omega arith) (omega arith) (omega arith) c.rotate.ensures
