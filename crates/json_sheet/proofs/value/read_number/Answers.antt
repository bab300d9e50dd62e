-- `json_sheet::value::read_number` meets its contract.
use native.Mathlib.Omega.{arith}
use Rattle.json_sheet.proofs.Scalars.{number-unread, number-given}
use Rattle.json_sheet.proofs.value.read_number.Goals as goal

pub returns-then-end-at : goal.returns-then-end-at
returns-then-end-at c = number-unread c.number_end-end.ensures c.if-end-at.true

pub slice_bounds-lay-end-2 : goal.slice_bounds-lay-end-2
slice_bounds-lay-end-2 c = (c.number_end-end.ensures.read c.if-end-at.false).within

pub returns : goal.returns
returns c = number-given c.args.s.now c.args.at c.number_end-end.result (omega arith) c.number_end-end.ensures c.if-end-at.false c.lay-a.ensures c.lay_decimal-b.ensures c.lay_byte-c.ensures c.lay-d.ensures c.lay_byte.ensures
