-- `json_laying::operator::lay_first` meets its contract.
use native.Mathlib.Omega.{arith}
use Rattle.text.specs.Ascii.{ascii}
use Rattle.sheet.specs.Operators.{operator_name}
use Rattle.json_laying.proofs.OperatorNames.{laid-low, laid-named, laid-above}
use Rattle.json_laying.proofs.operator.lay_first.Goals as goal

pub returns-then-op-le1 : goal.returns-then-op-le1
unfolding ascii
returns-then-op-le1 c = laid-low _ c.if-op-le1.true c.lay.ensures

pub returns-then-op-le2 : goal.returns-then-op-le2
unfolding operator_name ascii
returns-then-op-le2 c = laid-named _ 2 c.if-op-le2.true (omega arith) c.lay-then-op-le2.ensures

pub returns-then-op-le3 : goal.returns-then-op-le3
unfolding operator_name ascii
returns-then-op-le3 c = laid-named _ 3 c.if-op-le3.true (omega arith) c.lay-then-op-le3.ensures

pub returns-then-op-le4 : goal.returns-then-op-le4
unfolding operator_name ascii
returns-then-op-le4 c = laid-named _ 4 c.if-op-le4.true (omega arith) c.lay-then-op-le4.ensures

pub returns-then-op-le5 : goal.returns-then-op-le5
unfolding operator_name ascii
returns-then-op-le5 c = laid-named _ 5 c.if-op-le5.true (omega arith) c.lay-then-op-le5.ensures

pub returns-then-op-le6 : goal.returns-then-op-le6
unfolding operator_name ascii
returns-then-op-le6 c = laid-named _ 6 c.if-op-le6.true (omega arith) c.lay-then-op-le6.ensures

pub returns : goal.returns
unfolding operator_name ascii
returns c = laid-above _ 6 c.if-op-le6.false (omega arith) c.lay-2.ensures
