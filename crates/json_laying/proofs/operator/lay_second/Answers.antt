-- `json_laying::operator::lay_second` meets its contract.
use native.Mathlib.Omega.{arith}
use Rattle.text.specs.Ascii.{ascii}
use Rattle.sheet.specs.Operators.{operator_name}
use Rattle.json_laying.proofs.OperatorNames.{laid-named, laid-above}
use Rattle.json_laying.proofs.operator.lay_second.Goals as goal

pub returns-then-op-le8 : goal.returns-then-op-le8
unfolding operator_name ascii
returns-then-op-le8 c = laid-named _ 8 c.if-op-le8.true (omega arith) c.lay.ensures

pub returns-then-op-le9 : goal.returns-then-op-le9
unfolding operator_name ascii
returns-then-op-le9 c = laid-named _ 9 c.if-op-le9.true (omega arith) c.lay-then-op-le9.ensures

pub returns-then-op-le10 : goal.returns-then-op-le10
unfolding operator_name ascii
returns-then-op-le10 c = laid-named _ 10 c.if-op-le10.true (omega arith) c.lay-then-op-le10.ensures

pub returns-then-op-le11 : goal.returns-then-op-le11
unfolding operator_name ascii
returns-then-op-le11 c = laid-named _ 11 c.if-op-le11.true (omega arith) c.lay-then-op-le11.ensures

pub returns-then-op-le12 : goal.returns-then-op-le12
unfolding operator_name ascii
returns-then-op-le12 c = laid-named _ 12 c.if-op-le12.true (omega arith) c.lay-then-op-le12.ensures

pub returns-then-op-le13 : goal.returns-then-op-le13
unfolding operator_name ascii
returns-then-op-le13 c = laid-named _ 13 c.if-op-le13.true (omega arith) c.lay-then-op-le13.ensures

pub returns : goal.returns
unfolding operator_name ascii
returns c = laid-above _ 13 c.if-op-le13.false (omega arith) c.lay-2.ensures
