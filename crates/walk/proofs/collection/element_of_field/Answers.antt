-- `walk::collection::element_of_field` meets its contract.
use Rattle.walk.proofs.CollectionLaws.{declared, element-array, element-map, element-other}
use borrow.Author.Rules.{rules}
use Rattle.walk.proofs.collection.element_of_field.Goals as goal

pub returns-then-kind-eq-ARRAY : goal.returns-then-kind-eq-ARRAY
returns-then-kind-eq-ARRAY c = search (element-array, declared, rules)

pub returns-then-kind-eq-MAP : goal.returns-then-kind-eq-MAP
returns-then-kind-eq-MAP c = search (element-map, declared, rules)

pub returns : goal.returns
returns c = search (element-other, rules)
