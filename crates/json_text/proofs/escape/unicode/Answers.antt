-- `json_text::escape::unicode` meets its contract.
use native.Mathlib.Omega.{arith}
use Rattle.json_text.proofs.Chars.{unicode-bad, unicode-low, unicode-high, unicode-alone, unicode-pair, unicode-unpaired}
use Rattle.json_text.proofs.escape.unicode.Goals as goal

pub returns-in_err-n : goal.returns-in_err-n
returns-in_err-n c = rw c.from_residual.ensures (unicode-bad c.args.s.now c.args.at (rw c.in_err-n.was at c.hex4.ensures))

pub returns-then-n-lt55296 : goal.returns-then-n-lt55296
returns-then-n-lt55296 c = unicode-low c.args.s.now c.args.at (rw c.in_ok-n.was at c.hex4.ensures) c.if-n-lt55296.true

pub returns-then-n-gt57343 : goal.returns-then-n-gt57343
returns-then-n-gt57343 c = unicode-high c.args.s.now c.args.at (rw c.in_ok-n.was at c.hex4.ensures) c.if-n-gt57343.true

pub returns-then-n-gt56319 : goal.returns-then-n-gt56319
returns-then-n-gt56319 c = unicode-alone c.args.s.now c.args.at (rw c.in_ok-n.was at c.hex4.ensures) c.if-n-gt56319.true (omega arith)

pub returns-in-Some : goal.returns-in-Some
returns-in-Some c = unicode-pair c.args.s.now c.args.at (rw c.in_ok-n.was at c.hex4.ensures) (rw c.in-Some.is at c.low_of.ensures)

pub returns-in-None : goal.returns-in-None
returns-in-None c = unicode-unpaired c.args.s.now c.args.at (rw c.in_ok-n.was at c.hex4.ensures) (rw c.in-None.is at c.low_of.ensures)
