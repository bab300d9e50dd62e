-- `sheet::rule_heads::value_row` meets its contract: kind by kind.
use Rattle.sheet.specs.Pieces.{value_row}
use Rattle.sheet.proofs.rule_heads.value_row.Goals as goal

pub returns-in-Constant : goal.returns-in-Constant
unfolding value_row
returns-in-Constant c = rw c.in-Constant.is

pub returns-in-Number : goal.returns-in-Number
unfolding value_row
returns-in-Number c = rw c.in-Number.is

pub returns-in-Text : goal.returns-in-Text
unfolding value_row
returns-in-Text c = rw c.in-Text.is

pub returns-in-Array : goal.returns-in-Array
unfolding value_row
returns-in-Array c = rw c.in-Array.is

pub returns-in-Object : goal.returns-in-Object
unfolding value_row
returns-in-Object c = rw c.in-Object.is
