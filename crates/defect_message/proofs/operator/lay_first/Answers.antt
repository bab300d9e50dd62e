use Rattle.text.specs.Ascii.{ascii}
use Rattle.sheet.specs.Operators.{operator_name}
use Rattle.defect_path.proofs.Names.{name-first}
use Rattle.defect_message.proofs.operator.lay_first.Goals as goal

pub returns-in-2 : goal.returns-in-2
unfolding operator_name ascii
returns-in-2 c = rw c.in-2.is c.lay.ensures

pub returns-in-3 : goal.returns-in-3
unfolding operator_name ascii
returns-in-3 c = rw c.in-3.is c.lay-in-3.ensures

pub returns-in-4 : goal.returns-in-4
unfolding operator_name ascii
returns-in-4 c = rw c.in-4.is c.lay-in-4.ensures

pub returns-in-5 : goal.returns-in-5
unfolding operator_name ascii
returns-in-5 c = rw c.in-5.is c.lay-in-5.ensures

pub returns-in-6 : goal.returns-in-6
unfolding operator_name ascii
returns-in-6 c = rw c.in-6.is c.lay-in-6.ensures

pub returns-in-7 : goal.returns-in-7
unfolding operator_name ascii
returns-in-7 c = rw c.in-7.is c.lay-in-7.ensures

pub returns-in_default : goal.returns-in_default
unfolding operator_name ascii
returns-in_default c = rw (name-first _ c.requires c.in_default.in_default-own.rest.0.0.0.0.0.1 c.in_default.in_default-own.rest.0.0.0.0.1 c.in_default.in_default-own.rest.0.0.0.1 c.in_default.in_default-own.rest.0.0.1 c.in_default.in_default-own.rest.0.1 c.in_default.in_default-own.rest.1) c.lay-in_default.ensures
