-- `walk::path::is_ordinal` meets its contract.
use Rattle.walk.proofs.Digits.{ordinal-empty, ordinal-zero, ordinal-other}
use borrow.Author.Rules.{rules}
use Rattle.walk.proofs.path.is_ordinal.Goals as goal

pub returns-then-segment-eq0 : goal.returns-then-segment-eq0
returns-then-segment-eq0 c = search (ordinal-empty, rules)

pub returns-then-segment-eq48 : goal.returns-then-segment-eq48
returns-then-segment-eq48 c = search (ordinal-zero, rules)

pub returns : goal.returns
returns c = search (ordinal-other, rules)
