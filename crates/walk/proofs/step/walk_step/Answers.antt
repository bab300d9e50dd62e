-- `walk::step::walk_step` meets its contract.
use Rattle.walk.proofs.StepLaws.{walk-empty, walk-json, walk-object, walk-plain, walk-service}
use borrow.Author.Rules.{rules}
use Rattle.walk.proofs.step.walk_step.Goals as goal

pub returns-then-segment-eq0 : goal.returns-then-segment-eq0
returns-then-segment-eq0 c = search (walk-empty, rules)

pub returns-then-service : goal.returns-then-service
returns-then-service c = search (walk-service, rules)

pub returns-then-kind-eq-JSON : goal.returns-then-kind-eq-JSON
returns-then-kind-eq-JSON c = search (walk-json, rules)

pub returns-then-kind-eq-OBJECT : goal.returns-then-kind-eq-OBJECT
returns-then-kind-eq-OBJECT c = search (walk-object, rules)

pub returns : goal.returns
returns c = search (walk-plain, rules)
