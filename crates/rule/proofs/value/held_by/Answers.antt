-- `rule::value::held_by` meets its contract, a head at a time.
use Rattle.rule.proofs.value.held_by.Goals as goal

pub returns-in-Constant : goal.returns-in-Constant
returns-in-Constant c = rw c.in-Constant.is

pub returns-in-Number : goal.returns-in-Number
returns-in-Number c = rw c.in-Number.is

pub returns-in-Text : goal.returns-in-Text
returns-in-Text c = rw c.in-Text.is

pub returns-in-Array : goal.returns-in-Array
returns-in-Array c = rw c.in-Array.is

pub returns-in-Object : goal.returns-in-Object
returns-in-Object c = rw c.in-Object.is
