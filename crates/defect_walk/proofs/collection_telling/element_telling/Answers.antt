use Rattle.defect_walk.proofs.CollectionLaws.{element-array, element-map, element-other}
use borrow.Author.Rules.{rules}
use Rattle.defect_walk.proofs.collection_telling.element_telling.Goals as goal

pub returns-then-kind-eq-ARRAY : goal.returns-then-kind-eq-ARRAY
returns-then-kind-eq-ARRAY c = search (element-array, rules)

pub returns-then-kind-eq-MAP : goal.returns-then-kind-eq-MAP
returns-then-kind-eq-MAP c = search (element-map, rules)

pub returns : goal.returns
returns c = search (element-other, rules)
