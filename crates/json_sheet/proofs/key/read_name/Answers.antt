use Rattle.json_sheet.proofs.Naming.{named}
use native.Mathlib.Omega.{arith}
use Rattle.json_sheet.proofs.key.read_name.Goals as goal

pub returns-in_err-len : goal.returns-in_err-len
returns-in_err-len c = rw c.from_residual.ensures (rw c.in_err-len.was at c.read_key.ensures)

pub overflow_add-at : goal.overflow_add-at
overflow_add-at c = let k = rw c.in_ok-len.was at c.read_key.ensures in omega (arith, k.quoted.past, k.quoted.within)

pub lay_text-requires : goal.lay_text-requires
lay_text-requires c = let k = rw c.in_ok-len.was at c.read_key.ensures in omega (arith, k.quoted.past, k.quoted.within)

pub returns : goal.returns
returns c = named (rw c.in_ok-len.was at c.read_key.ensures) c.lay_text.ensures
