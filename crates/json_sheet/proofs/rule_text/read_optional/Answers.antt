-- `json_sheet::rule_text::read_optional` meets its contract.
use native.Mathlib.Omega.{arith}
use Rattle.json_sheet.proofs.RuleTexts.{text-unread, text-given, null-given, null-unread, text-other}
use Rattle.json_sheet.proofs.rule_text.read_optional.Goals as goal

pub overflow_add-at : goal.overflow_add-at
overflow_add-at c = omega (arith, (rw c.if-starts_with.true at c.starts_with.ensures).within)

pub read_string-requires : goal.read_string-requires
read_string-requires c = (rw c.if-starts_with.true at c.starts_with.ensures).within

pub returns-in_err-len : goal.returns-in_err-len
returns-in_err-len c = rw c.from_residual.ensures (text-unread (rw c.if-starts_with.true at c.starts_with.ensures) (rw c.in_err-len.was at c.read_string.ensures))

pub returns-then-starts_with : goal.returns-then-starts_with
returns-then-starts_with c = text-given (rw c.if-starts_with.true at c.starts_with.ensures) (rw c.in_ok-len.was at c.read_string.ensures)

pub overflow_add-at-then-starts_with-2 : goal.overflow_add-at-then-starts_with-2
overflow_add-at-then-starts_with-2 c = omega (arith, (rw c.if-starts_with-2.true at c.starts_with-2.ensures).within)

pub is_spelled-requires : goal.is_spelled-requires
is_spelled-requires c = (rw c.if-starts_with-2.true at c.starts_with-2.ensures).within

pub overflow_add-result-then-is_spelled : goal.overflow_add-result-then-is_spelled
overflow_add-result-then-is_spelled c = omega (arith, (rw c.if-is_spelled.true at c.is_spelled.ensures).1)

pub returns-then-is_spelled : goal.returns-then-is_spelled
returns-then-is_spelled c = null-given (rw c.if-starts_with-2.true at c.starts_with-2.ensures) (rw c.if-is_spelled.true at c.is_spelled.ensures)

pub returns-then-starts_with-2 : goal.returns-then-starts_with-2
returns-then-starts_with-2 c = null-unread (rw c.if-starts_with-2.true at c.starts_with-2.ensures) (rw c.if-is_spelled.false at c.is_spelled.ensures)

pub returns : goal.returns
returns c = text-other c.args.s.now c.args.at (rw c.if-starts_with.false at c.starts_with.ensures) (rw c.if-starts_with-2.false at c.starts_with-2.ensures)
