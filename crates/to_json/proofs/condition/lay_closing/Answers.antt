-- `to_json::condition::lay_closing` meets its contract.
use Rattle.to_json.proofs.PartLaws.{closing-literal, closing-many, closing-not, closing-values, closing-quantifier}
use Rattle.to_json.proofs.Laying.{closed_none, closed-by}
use Rattle.text.specs.Ascii.{ascii}
use native.Mathlib.Omega.{arith}
use Rattle.to_json.proofs.condition.lay_closing.Goals as goal

pub returns-then-op-le-LITERAL : goal.returns-then-op-le-LITERAL
returns-then-op-le-LITERAL c = closed_none _ (closing-literal _ c.if-op-le-LITERAL.true) (omega arith)

pub returns-then-op-lt-NOT : goal.returns-then-op-lt-NOT
unfolding ascii
returns-then-op-lt-NOT c = closed-by _ (closing-many _ c.if-op-le-LITERAL.false c.if-op-lt-NOT.true) c.lay.ensures

pub returns-then-op-le-NOT : goal.returns-then-op-le-NOT
unfolding ascii
returns-then-op-le-NOT c = closed-by _ (closing-not _ c.if-op-lt-NOT.false c.if-op-le-NOT.true) c.lay_byte.ensures

pub returns-then-op-le-TRUTHY : goal.returns-then-op-le-TRUTHY
returns-then-op-le-TRUTHY c = closed_none _ (closing-values _ c.if-op-le-NOT.false c.if-op-le-TRUTHY.true) (omega arith)

pub returns : goal.returns
unfolding ascii
returns c = closed-by _ (closing-quantifier _ c.if-op-le-TRUTHY.false) c.lay-2.ensures
