-- `sheet::rule_heads::value_from` meets its contract: kind by kind.
use Rattle.sheet.specs.Pieces.{value_from}
use Rattle.sheet.proofs.rule_heads.value_from.Goals as goal

pub returns-in-Constant : goal.returns-in-Constant
unfolding value_from
returns-in-Constant c = rw c.in-Constant.is

pub returns-in-Number : goal.returns-in-Number
unfolding value_from
returns-in-Number c = rw c.in-Number.is

pub returns-in-Text : goal.returns-in-Text
unfolding value_from
returns-in-Text c = rw c.in-Text.is

pub returns-in-Array : goal.returns-in-Array
unfolding value_from
returns-in-Array c = rw c.in-Array.is

pub returns-in-Object : goal.returns-in-Object
unfolding value_from
returns-in-Object c = rw c.in-Object.is
