-- `walk::collection::field_step` meets its contract.
use Rattle.walk.proofs.CollectionLaws.{field-any, field-closed, field-item, field-json, field-member, field-no-ordinal, field_open, field-other, field-union}
use borrow.Author.Rules.{rules}
use Rattle.walk.proofs.collection.field_step.Goals as goal

pub returns-then-kind-eq-JSON : goal.returns-then-kind-eq-JSON
returns-then-kind-eq-JSON c = search (field-json, rules)

pub returns-then-kind-eq-UNION : goal.returns-then-kind-eq-UNION
returns-then-kind-eq-UNION c = search (field-union, rules)

pub returns-then-members : goal.returns-then-members
returns-then-members c = search (field_open, rules)

pub returns-in_default : goal.returns-in_default
returns-in_default c = search (field-closed, rules)

pub returns-then-kind-eq-OBJECT : goal.returns-then-kind-eq-OBJECT
returns-then-kind-eq-OBJECT c = search (field-member, rules)

pub returns-in_default-element : goal.returns-in_default-element
returns-in_default-element c = search (field-any, rules)

pub returns-then-is_ordinal : goal.returns-then-is_ordinal
returns-then-is_ordinal c = search (field-item, rules)

pub returns-else-is_ordinal : goal.returns-else-is_ordinal
returns-else-is_ordinal c = search (field-no-ordinal, rules)

pub returns-else-kind-eq-ARRAY : goal.returns-else-kind-eq-ARRAY
returns-else-kind-eq-ARRAY c = search (field-other, rules)
