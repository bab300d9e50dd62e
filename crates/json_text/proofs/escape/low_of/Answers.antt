-- `json_text::escape::low_of` meets its contract.
use native.Mathlib.Omega.{arith}
use Rattle.json_text.proofs.Chars.{low-alone, low-other, low-bad, low_below, low-above, low-is}
use Rattle.json_text.proofs.escape.low_of.Goals as goal

pub overflow_add-at : goal.overflow_add-at
overflow_add-at c = omega (arith, (rw c.if-starts_with.true at c.starts_with.ensures).within)

pub overflow_add-at-then-starts_with-2 : goal.overflow_add-at-then-starts_with-2
overflow_add-at-then-starts_with-2 c = omega (arith, (rw c.if-starts_with-2.true at c.starts_with-then-starts_with.ensures).within)

pub returns-in_err-low : goal.returns-in_err-low
returns-in_err-low c = rw c.from_residual.ensures (low-bad c.args.s.now c.args.at c.args.high c.requires.0 c.requires.1 (rw c.if-starts_with.true at c.starts_with.ensures) (rw c.if-starts_with-2.true at c.starts_with-then-starts_with.ensures) (rw c.in_err-low.was at c.hex4.ensures))

pub returns-then-low-lt56320 : goal.returns-then-low-lt56320
returns-then-low-lt56320 c = low_below c.args.s.now c.args.at c.args.high c.requires.0 c.requires.1 (rw c.if-starts_with.true at c.starts_with.ensures) (rw c.if-starts_with-2.true at c.starts_with-then-starts_with.ensures) (rw c.in_ok-low.was at c.hex4.ensures) c.if-low-lt56320.true

pub returns-then-low-gt57343 : goal.returns-then-low-gt57343
returns-then-low-gt57343 c = low-above c.args.s.now c.args.at c.args.high c.requires.0 c.requires.1 (rw c.if-starts_with.true at c.starts_with.ensures) (rw c.if-starts_with-2.true at c.starts_with-then-starts_with.ensures) (rw c.in_ok-low.was at c.hex4.ensures) c.if-low-gt57343.true

pub overflow_sub-result : goal.overflow_sub-result
overflow_sub-result c = omega arith

pub returns-then-starts_with-2 : goal.returns-then-starts_with-2
returns-then-starts_with-2 c = low-is c.args.s.now c.args.at c.args.high c.requires.0 c.requires.1 (rw c.if-starts_with.true at c.starts_with.ensures) (rw c.if-starts_with-2.true at c.starts_with-then-starts_with.ensures) (rw c.in_ok-low.was at c.hex4.ensures) (omega arith) (omega arith) (omega arith)

pub returns-then-starts_with : goal.returns-then-starts_with
returns-then-starts_with c = low-other c.args.s.now c.args.at c.args.high c.requires.0 c.requires.1 (rw c.if-starts_with.true at c.starts_with.ensures) (rw c.if-starts_with-2.false at c.starts_with-then-starts_with.ensures)

pub returns : goal.returns
returns c = low-alone c.args.s.now c.args.at c.args.high c.requires.0 c.requires.1 (rw c.if-starts_with.false at c.starts_with.ensures)
