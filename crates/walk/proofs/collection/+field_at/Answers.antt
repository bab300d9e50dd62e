use Rattle.walk.proofs.PathLaws.{end-length, field-free, field-into, field-last, field-refused}
use borrow.Author.Rules.{rules}
use Rattle.walk.proofs.collection.+field_at.Goals as goal

pub slice_bounds-field_step-end : goal.slice_bounds-field_step-end
slice_bounds-field_step-end t c = search (end-length, rules)

pub returns-then-end-path : goal.returns-then-end-path
returns-then-end-path t c = search (field-last, rules)

pub returns-in-Err : goal.returns-in-Err
returns-in-Err t c = search (field-refused, rules)

pub returns-in-Ok-None : goal.returns-in-Ok-None
returns-in-Ok-None t c = search (field-free, rules)

pub returns-in-Ok-Some : goal.returns-in-Ok-Some
returns-in-Ok-Some t c = search (field-into, rules)
