-- `walk::step::service_step` meets its contract.
use Rattle.walk.proofs.StepLaws.{service-array, service-json, service-map, service-object, service-scalar, service-union}
use borrow.Author.Rules.{rules}
use Rattle.walk.proofs.step.service_step.Goals as goal

pub returns-then-kind-eq-ARRAY : goal.returns-then-kind-eq-ARRAY
returns-then-kind-eq-ARRAY c = search (service-array, rules)

pub returns-then-kind-eq-MAP : goal.returns-then-kind-eq-MAP
returns-then-kind-eq-MAP c = search (service-map, rules)

pub returns-then-kind-eq-JSON : goal.returns-then-kind-eq-JSON
returns-then-kind-eq-JSON c = search (service-json, rules)

pub returns-then-kind-eq-OBJECT : goal.returns-then-kind-eq-OBJECT
returns-then-kind-eq-OBJECT c = search (service-object, rules)

pub returns-then-kind-eq-UNION : goal.returns-then-kind-eq-UNION
returns-then-kind-eq-UNION c = search (service-union, rules)

pub returns : goal.returns
returns c = search (service-scalar, rules)
