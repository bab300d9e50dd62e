-- `walk::field_path::last_step` meets its contract.
use Rattle.walk.proofs.PathLaws.{last-free, last-into, last_leaf, last-refuse}
use borrow.Author.Rules.{rules}
use Rattle.walk.proofs.field_path.last_step.Goals as goal

pub returns-in-Refuse : goal.returns-in-Refuse
returns-in-Refuse c = search (last-refuse, rules)

pub returns-in-Leaf : goal.returns-in-Leaf
returns-in-Leaf c = search (last_leaf, rules)

pub returns-in-Free : goal.returns-in-Free
returns-in-Free c = search (last-free, rules)

pub returns-in-Into : goal.returns-in-Into
returns-in-Into c = search (last-into, rules)
