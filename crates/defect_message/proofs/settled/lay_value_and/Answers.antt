use Rattle.defect_message.proofs.SettledSteps.{value-laid}
use native.Mathlib.Omega.{arith}
use Rattle.defect_message.proofs.settled.lay_value_and.Goals as goal

pub returns : goal.returns
returns c = value-laid (omega arith) c.lay_value-next.ensures c.lay.ensures
