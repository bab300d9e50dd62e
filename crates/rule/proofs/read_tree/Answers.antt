-- `rule::read_tree` meets its contract: a value under `T`, a condition under `R`.
use Rattle.rule.proofs.read_tree.Goals as goal

pub returns-then-is_template : goal.returns-then-is_template
returns-then-is_template c = rw c.if-is_template.true c.read_value.ensures

pub returns : goal.returns
returns c = rw c.if-is_template.false c.read_headed.ensures
