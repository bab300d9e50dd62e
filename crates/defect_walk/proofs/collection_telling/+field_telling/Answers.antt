use Rattle.walk.specs.DotLaws.{ends-length}
use Rattle.defect_walk.proofs.TellingLaws.{ends-within}
use Rattle.defect_walk.proofs.CollectionLaws.{field-refused, field-free, field-last, field-into}
use borrow.Author.Rules.{rules}
use Rattle.defect_walk.proofs.collection_telling.+field_telling.Goals as goal

pub slice_bounds-field_step-end : goal.slice_bounds-field_step-end
slice_bounds-field_step-end t c = search (ends-length, rules)

pub returns-then-end-path : goal.returns-then-end-path
returns-then-end-path t c = search (field-last, rules)

pub overflow_add-end : goal.overflow_add-end
overflow_add-end t c = search (ends-within, rules)

pub overflow_add-at : goal.overflow_add-at
overflow_add-at t c = search (ends-within, rules)

pub overflow_add-at-in-Ok-Some : goal.overflow_add-at-in-Ok-Some
overflow_add-at-in-Ok-Some t c = search (ends-within, rules)

pub field_telling-requires : goal.field_telling-requires
field_telling-requires t c = search (ends-within, rules)

pub returns-in-Err : goal.returns-in-Err
returns-in-Err t c = search (field-refused, rules)

pub returns-in-Ok-None : goal.returns-in-Ok-None
returns-in-Ok-None t c = let free = rw c.in-Ok-None.field-0-is at c.in-Ok-None.is in search (field-free, free, rules)

pub returns-else-end-path : goal.returns-else-end-path
returns-else-end-path t c = search (field-into, rules)
