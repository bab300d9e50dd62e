use Rattle.walk.proofs.PathLaws.{end-length, walk-free, walk-into, walk-last, walk-leaf, walk_refused}
use borrow.Author.Rules.{rules}
use Rattle.walk.proofs.field_path.+walk_field_path.Goals as goal

pub slice_bounds-walk_step-end : goal.slice_bounds-walk_step-end
slice_bounds-walk_step-end t c = search (end-length, rules)

pub returns-then-end-path : goal.returns-then-end-path
returns-then-end-path t c = search (walk-last, rules)

pub returns-in-Refuse : goal.returns-in-Refuse
returns-in-Refuse t c = search (walk_refused, rules)

pub returns-in-Leaf : goal.returns-in-Leaf
returns-in-Leaf t c = search (walk-leaf, rules)

pub returns-in-Free : goal.returns-in-Free
returns-in-Free t c = search (walk-free, rules)

pub returns-in-Into : goal.returns-in-Into
returns-in-Into t c = search (walk-into, rules)
