-- `sheet::rule_heads::is_right` meets its contract: the text of a number is tested, and no other.
use Rattle.sheet.proofs.rule_heads.is_right.Goals as goal

pub returns-then-numeric : goal.returns-then-numeric
returns-then-numeric c = rw c.if-numeric.true c.is_number.ensures
