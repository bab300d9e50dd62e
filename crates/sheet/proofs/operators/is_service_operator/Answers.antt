-- `sheet::operators::is_service_operator` meets its contract.
use Rattle.sheet.proofs.OperatorLaws.{service-operator-range}
use Rattle.sheet.proofs.operators.is_service_operator.Goals as goal

pub returns : goal.returns
returns c = service-operator-range _
