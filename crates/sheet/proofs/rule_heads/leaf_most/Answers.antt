-- `sheet::rule_heads::leaf_most` meets its contract: test by test.
use native.Mathlib.Omega.{arith}
use borrow.Author.Tests.{le-leb, lt-leb}
use Rattle.sheet.proofs.rule_heads.leaf_most.Goals as goal

pub returns-then-number-le-TRUE : goal.returns-then-number-le-TRUE
returns-then-number-le-TRUE c = simp (le-leb c.args.number 3 (omega (arith, c.if-number-le-TRUE.true)))

pub returns-else-number-le-TRUE : goal.returns-else-number-le-TRUE
returns-else-number-le-TRUE c = simp (lt-leb c.args.number 3 (omega (arith, c.if-number-le-TRUE.false)))
