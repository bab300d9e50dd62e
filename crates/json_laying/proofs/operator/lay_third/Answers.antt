-- `json_laying::operator::lay_third` meets its contract.
use native.Mathlib.Omega.{arith}
use Rattle.text.specs.Ascii.{ascii}
use Rattle.sheet.specs.Operators.{operator_name}
use Rattle.json_laying.proofs.OperatorNames.{laid-named, laid-last}
use Rattle.json_laying.proofs.operator.lay_third.Goals as goal

pub returns-then-op-le15 : goal.returns-then-op-le15
unfolding operator_name ascii
returns-then-op-le15 c = laid-named _ 15 c.if-op-le15.true (omega arith) c.lay.ensures

pub returns-then-op-le16 : goal.returns-then-op-le16
unfolding operator_name ascii
returns-then-op-le16 c = laid-named _ 16 c.if-op-le16.true (omega arith) c.lay-then-op-le16.ensures

pub returns-then-op-le17 : goal.returns-then-op-le17
unfolding operator_name ascii
returns-then-op-le17 c = laid-named _ 17 c.if-op-le17.true (omega arith) c.lay-then-op-le17.ensures

pub returns-then-op-le18 : goal.returns-then-op-le18
unfolding operator_name ascii
returns-then-op-le18 c = laid-named _ 18 c.if-op-le18.true (omega arith) c.lay-then-op-le18.ensures

pub returns-then-op-le19 : goal.returns-then-op-le19
unfolding operator_name ascii
returns-then-op-le19 c = laid-named _ 19 c.if-op-le19.true (omega arith) c.lay-then-op-le19.ensures

pub returns-then-op-le20 : goal.returns-then-op-le20
unfolding operator_name ascii
returns-then-op-le20 c = laid-named _ 20 c.if-op-le20.true (omega arith) c.lay-then-op-le20.ensures

pub returns : goal.returns
unfolding ascii
returns c = laid-last _ c.if-op-le20.false c.lay-2.ensures
