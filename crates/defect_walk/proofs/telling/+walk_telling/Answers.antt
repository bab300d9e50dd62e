use Rattle.walk.specs.DotLaws.{ends-length}
use Rattle.defect_walk.proofs.TellingLaws.{ends-within, tells-refused, tells-free, tells-last, tells-behind, tells-arrived, tells-into}
use borrow.Author.Rules.{rules}
use Rattle.defect_walk.proofs.telling.+walk_telling.Goals as goal

pub slice_bounds-walk_step-end : goal.slice_bounds-walk_step-end
slice_bounds-walk_step-end t c = search (ends-length, rules)

pub returns-then-end-path : goal.returns-then-end-path
returns-then-end-path t c = search (tells-last, rules)

pub returns-then-end-path-2 : goal.returns-then-end-path-2
returns-then-end-path-2 t c = search (tells-arrived, rules)

pub overflow_add-end : goal.overflow_add-end
overflow_add-end t c = search (ends-within, rules)

pub overflow_add-at : goal.overflow_add-at
overflow_add-at t c = search (ends-within, rules)

pub overflow_add-at-in-Into : goal.overflow_add-at-in-Into
overflow_add-at-in-Into t c = search (ends-within, rules)

pub walk_telling-requires : goal.walk_telling-requires
walk_telling-requires t c = search (ends-within, rules)

pub returns-in-Refuse : goal.returns-in-Refuse
returns-in-Refuse t c = search (tells-refused, rules)

pub returns-else-end-path : goal.returns-else-end-path
returns-else-end-path t c = search (tells-behind, rules)

pub returns-in-Free : goal.returns-in-Free
returns-in-Free t c = search (tells-free, rules)

pub returns-else-end-path-2 : goal.returns-else-end-path-2
returns-else-end-path-2 t c = search (tells-into, rules)
