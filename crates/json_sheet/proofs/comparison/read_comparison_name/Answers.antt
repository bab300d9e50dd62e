-- `json_sheet::comparison::read_comparison_name` meets its contract.
use native.Mathlib.Omega.{arith}
use Rattle.json_sheet.proofs.Comparing.{name-other, name-unread, name-long, name-unknown, name-known}
use Rattle.json_sheet.proofs.comparison.read_comparison_name.Goals as goal

pub overflow_add-at : goal.overflow_add-at
overflow_add-at c = omega (arith, (rw c.if-starts_with.true at c.starts_with.ensures).within)

pub read_string-requires : goal.read_string-requires
read_string-requires c = (rw c.if-starts_with.true at c.starts_with.ensures).within

pub returns-in_err-len : goal.returns-in_err-len
returns-in_err-len c = rw c.from_residual.ensures (name-unread (rw c.if-starts_with.true at c.starts_with.ensures) (rw c.in_err-len.was at c.read_string.ensures))

pub returns-then-len-gt-WORD_BYTES : goal.returns-then-len-gt-WORD_BYTES
returns-then-len-gt-WORD_BYTES c = name-long (rw c.if-starts_with.true at c.starts_with.ensures) (rw c.in_ok-len.was at c.read_string.ensures) (omega arith)

pub overflow_add-at-then-starts_with : goal.overflow_add-at-then-starts_with
overflow_add-at-then-starts_with c = omega (arith, (rw c.if-starts_with.true at c.starts_with.ensures).within)

pub lay_text-requires : goal.lay_text-requires
lay_text-requires c = (rw c.if-starts_with.true at c.starts_with.ensures).within

pub returns-then-n-eq0 : goal.returns-then-n-eq0
returns-then-n-eq0 c = name-unknown (rw c.if-starts_with.true at c.starts_with.ensures) (rw c.in_ok-len.was at c.read_string.ensures) c.lay_text.ensures (omega arith) c.comparison_of-n.ensures.0 c.if-n-eq0.true

pub returns-then-starts_with : goal.returns-then-starts_with
returns-then-starts_with c = (name-known (rw c.if-starts_with.true at c.starts_with.ensures) (rw c.in_ok-len.was at c.read_string.ensures) c.lay_text.ensures (omega arith) c.comparison_of-n.ensures.0 c.if-n-eq0.false, c.comparison_of-n.ensures.1)

pub returns : goal.returns
returns c = name-other c.args.s.now c.args.at (rw c.if-starts_with.false at c.starts_with.ensures)
