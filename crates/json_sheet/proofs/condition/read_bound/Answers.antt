use native.Mathlib.Omega.{arith}
use Rattle.json_sheet.proofs.Quantifying.{bound-other, bound-unread, bound-given}
use Rattle.json_sheet.proofs.condition.read_bound.Goals as goal

pub overflow_add-at : goal.overflow_add-at
overflow_add-at c = let b = (rw c.if-starts_with.true at c.starts_with.ensures) in omega (arith, b.within)

pub read_string-requires : goal.read_string-requires
read_string-requires c = let b = (rw c.if-starts_with.true at c.starts_with.ensures) in b.within

pub returns-in_err-len : goal.returns-in_err-len
returns-in_err-len c = rw c.from_residual.ensures (bound-unread (rw c.if-starts_with.true at c.starts_with.ensures) (rw c.in_err-len.was at c.read_string.ensures))

pub overflow_add-at-then-starts_with : goal.overflow_add-at-then-starts_with
overflow_add-at-then-starts_with c = let b = (rw c.if-starts_with.true at c.starts_with.ensures) in omega (arith, b.within)

pub lay_headed-requires : goal.lay_headed-requires
lay_headed-requires c = let b = (rw c.if-starts_with.true at c.starts_with.ensures) in b.within

pub returns-then-starts_with : goal.returns-then-starts_with
returns-then-starts_with c = bound-given (rw c.if-starts_with.true at c.starts_with.ensures) c.args.op (omega (arith, c.type_inv)) (rw c.in_ok-len.was at c.read_string.ensures) c.lay_operator-e.ensures c.lay_headed.ensures

pub returns : goal.returns
returns c = bound-other c.args.s.now c.args.at (rw c.if-starts_with.false at c.starts_with.ensures)
