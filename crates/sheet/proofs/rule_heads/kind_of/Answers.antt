-- `sheet::rule_heads::kind_of` meets its contract: test by test.
use borrow.Author.Tests.{le-leb, lt-leb}
use Rattle.sheet.specs.Pieces.{kind_of}
use Rattle.sheet.proofs.rule_heads.kind_of.Goals as goal

pub returns-then-number-le-TRUE : goal.returns-then-number-le-TRUE
unfolding kind_of
returns-then-number-le-TRUE c = simp (le-leb _ _ c.if-number-le-TRUE.true)

pub returns-then-number-le-NUMBER : goal.returns-then-number-le-NUMBER
unfolding kind_of
returns-then-number-le-NUMBER c = simp (lt-leb _ _ c.if-number-le-TRUE.false, le-leb _ _ c.if-number-le-NUMBER.true)

pub returns-then-number-le-STRING : goal.returns-then-number-le-STRING
unfolding kind_of
returns-then-number-le-STRING c = simp (lt-leb _ _ c.if-number-le-TRUE.false, lt-leb _ _ c.if-number-le-NUMBER.false, le-leb _ _ c.if-number-le-STRING.true)

pub returns-then-number-le-ARRAY : goal.returns-then-number-le-ARRAY
unfolding kind_of
returns-then-number-le-ARRAY c = simp (lt-leb _ _ c.if-number-le-TRUE.false, lt-leb _ _ c.if-number-le-NUMBER.false, lt-leb _ _ c.if-number-le-STRING.false, le-leb _ _ c.if-number-le-ARRAY.true)

pub returns : goal.returns
unfolding kind_of
returns c = simp (lt-leb _ _ c.if-number-le-TRUE.false, lt-leb _ _ c.if-number-le-NUMBER.false, lt-leb _ _ c.if-number-le-STRING.false, lt-leb _ _ c.if-number-le-ARRAY.false)
