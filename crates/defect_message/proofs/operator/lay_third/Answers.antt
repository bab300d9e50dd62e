use Rattle.text.specs.Ascii.{ascii}
use Rattle.sheet.specs.Operators.{operator_name}
use Rattle.defect_path.proofs.Names.{name-last}
use Rattle.defect_message.proofs.operator.lay_third.Goals as goal

pub returns-in-15 : goal.returns-in-15
unfolding operator_name ascii
returns-in-15 c = rw c.in-15.is c.lay.ensures

pub returns-in-16 : goal.returns-in-16
unfolding operator_name ascii
returns-in-16 c = rw c.in-16.is c.lay-in-16.ensures

pub returns-in-17 : goal.returns-in-17
unfolding operator_name ascii
returns-in-17 c = rw c.in-17.is c.lay-in-17.ensures

pub returns-in-18 : goal.returns-in-18
unfolding operator_name ascii
returns-in-18 c = rw c.in-18.is c.lay-in-18.ensures

pub returns-in-19 : goal.returns-in-19
unfolding operator_name ascii
returns-in-19 c = rw c.in-19.is c.lay-in-19.ensures

pub returns-in-20 : goal.returns-in-20
unfolding operator_name ascii
returns-in-20 c = rw c.in-20.is c.lay-in-20.ensures

pub returns-in_default : goal.returns-in_default
unfolding operator_name ascii
returns-in_default c = rw (name-last _ c.requires c.in_default.in_default-own.rest.0.0.0.0.0.1 c.in_default.in_default-own.rest.0.0.0.0.1 c.in_default.in_default-own.rest.0.0.0.1 c.in_default.in_default-own.rest.0.0.1 c.in_default.in_default-own.rest.0.1 c.in_default.in_default-own.rest.1) c.lay-in_default.ensures
