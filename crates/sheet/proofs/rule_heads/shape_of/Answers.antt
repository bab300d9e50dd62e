-- `sheet::rule_heads::shape_of` meets its contract: test by test.
use borrow.Author.Tests.{le-leb, lt-leb}
use Rattle.sheet.proofs.OperatorLaws.{shape_by_tests, shape-tests}
use Rattle.sheet.specs.Pieces.{shape_for}
use Rattle.sheet.proofs.rule_heads.shape_of.Goals as goal

pub returns-then-op-le-LITERAL : goal.returns-then-op-le-LITERAL
unfolding shape_by_tests shape_for
returns-then-op-le-LITERAL c = simp (shape-tests, le-leb _ _ c.if-op-le-LITERAL.true)

pub returns-then-op-le-ANY : goal.returns-then-op-le-ANY
unfolding shape_by_tests shape_for
returns-then-op-le-ANY c = simp (shape-tests, lt-leb _ _ c.if-op-le-LITERAL.false, le-leb _ _ c.if-op-le-ANY.true)

pub returns-then-op-le-NOT : goal.returns-then-op-le-NOT
unfolding shape_by_tests shape_for
returns-then-op-le-NOT c = simp (shape-tests, lt-leb _ _ c.if-op-le-LITERAL.false, lt-leb _ _ c.if-op-le-ANY.false, le-leb _ _ c.if-op-le-NOT.true)

pub returns-then-op-le-EXISTS : goal.returns-then-op-le-EXISTS
unfolding shape_by_tests shape_for
returns-then-op-le-EXISTS c = simp (shape-tests, lt-leb _ _ c.if-op-le-LITERAL.false, lt-leb _ _ c.if-op-le-ANY.false, lt-leb _ _ c.if-op-le-NOT.false, le-leb _ _ c.if-op-le-EXISTS.true)

pub returns-then-op-le-ENDS_WITH : goal.returns-then-op-le-ENDS_WITH
unfolding shape_by_tests shape_for
returns-then-op-le-ENDS_WITH c = simp (shape-tests, lt-leb _ _ c.if-op-le-LITERAL.false, lt-leb _ _ c.if-op-le-ANY.false, lt-leb _ _ c.if-op-le-NOT.false, lt-leb _ _ c.if-op-le-EXISTS.false, le-leb _ _ c.if-op-le-ENDS_WITH.true)

pub returns-then-op-le-COMPARE : goal.returns-then-op-le-COMPARE
unfolding shape_by_tests shape_for
returns-then-op-le-COMPARE c = simp (shape-tests, lt-leb _ _ c.if-op-le-LITERAL.false, lt-leb _ _ c.if-op-le-ANY.false, lt-leb _ _ c.if-op-le-NOT.false, lt-leb _ _ c.if-op-le-EXISTS.false, lt-leb _ _ c.if-op-le-ENDS_WITH.false, le-leb _ _ c.if-op-le-COMPARE.true)

pub returns-then-op-le-TRUTHY : goal.returns-then-op-le-TRUTHY
unfolding shape_by_tests shape_for
returns-then-op-le-TRUTHY c = simp (shape-tests, lt-leb _ _ c.if-op-le-LITERAL.false, lt-leb _ _ c.if-op-le-ANY.false, lt-leb _ _ c.if-op-le-NOT.false, lt-leb _ _ c.if-op-le-EXISTS.false, lt-leb _ _ c.if-op-le-ENDS_WITH.false, lt-leb _ _ c.if-op-le-COMPARE.false, le-leb _ _ c.if-op-le-TRUTHY.true)

pub returns : goal.returns
unfolding shape_by_tests shape_for
returns c = simp (shape-tests, lt-leb _ _ c.if-op-le-LITERAL.false, lt-leb _ _ c.if-op-le-ANY.false, lt-leb _ _ c.if-op-le-NOT.false, lt-leb _ _ c.if-op-le-EXISTS.false, lt-leb _ _ c.if-op-le-ENDS_WITH.false, lt-leb _ _ c.if-op-le-COMPARE.false, lt-leb _ _ c.if-op-le-TRUTHY.false)
