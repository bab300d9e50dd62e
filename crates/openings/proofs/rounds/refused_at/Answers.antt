-- `openings::rounds::refused_at` meets its contract, fault by fault.
use borrow.Author.Rules.{rules}
use Rattle.value_checks.specs.Verdicts.{refused_at}
use Rattle.openings.proofs.rounds.refused_at.Goals as goal

pub returns-in-Name : goal.returns-in-Name
unfolding refused_at
returns-in-Name c = search rules

pub returns-in-Message : goal.returns-in-Message
unfolding refused_at
returns-in-Message c = search rules

pub returns-in-Deep : goal.returns-in-Deep
unfolding refused_at
returns-in-Deep c = search rules

pub returns-in-Literal : goal.returns-in-Literal
unfolding refused_at
returns-in-Literal c = search rules

pub returns-in-Operator : goal.returns-in-Operator
unfolding refused_at
returns-in-Operator c = search rules

pub returns-in-Empty : goal.returns-in-Empty
unfolding refused_at
returns-in-Empty c = search rules

pub returns-in-Operand : goal.returns-in-Operand
unfolding refused_at
returns-in-Operand c = search rules

pub returns-in-Reference : goal.returns-in-Reference
unfolding refused_at
returns-in-Reference c = rw c.in-Reference.is

pub returns-in-Affix : goal.returns-in-Affix
unfolding refused_at
returns-in-Affix c = search rules

pub returns-in-Instant : goal.returns-in-Instant
unfolding refused_at
returns-in-Instant c = search rules

pub returns-in-Bind : goal.returns-in-Bind
unfolding refused_at
returns-in-Bind c = search rules

pub returns-in-Collection : goal.returns-in-Collection
unfolding refused_at
returns-in-Collection c = rw c.in-Collection.is
