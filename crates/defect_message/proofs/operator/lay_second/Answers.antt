use Rattle.text.specs.Ascii.{ascii}
use Rattle.sheet.specs.Operators.{operator_name}
use Rattle.defect_path.proofs.Names.{op-in}
use Rattle.defect_message.proofs.operator.lay_second.Goals as goal

pub returns-in-8 : goal.returns-in-8
unfolding operator_name ascii
returns-in-8 c = rw c.in-8.is c.lay.ensures

pub returns-in-9 : goal.returns-in-9
unfolding operator_name ascii
returns-in-9 c = rw c.in-9.is c.lay-in-9.ensures

pub returns-in-10 : goal.returns-in-10
unfolding operator_name ascii
returns-in-10 c = rw c.in-10.is c.lay-in-10.ensures

pub returns-in-11 : goal.returns-in-11
unfolding operator_name ascii
returns-in-11 c = rw c.in-11.is c.lay-in-11.ensures

pub returns-in-12 : goal.returns-in-12
unfolding operator_name ascii
returns-in-12 c = rw c.in-12.is c.lay-in-12.ensures

pub returns-in-13 : goal.returns-in-13
unfolding operator_name ascii
returns-in-13 c = rw c.in-13.is c.lay-in-13.ensures

pub returns-in_default : goal.returns-in_default
unfolding operator_name ascii
returns-in_default c = rw (op-in _ c.requires.0 c.requires.1 c.in_default.in_default-own.rest.0.0.0.0.0.1 c.in_default.in_default-own.rest.0.0.0.0.1 c.in_default.in_default-own.rest.0.0.0.1 c.in_default.in_default-own.rest.0.0.1 c.in_default.in_default-own.rest.0.1 c.in_default.in_default-own.rest.1) c.lay-in_default.ensures
