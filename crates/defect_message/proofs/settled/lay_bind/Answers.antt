use Rattle.defect_message.proofs.SettledSteps.{bind-bad, bind-laid}
use Rattle.defect_message.proofs.settled.lay_bind.Goals as goal

pub returns-in_default : goal.returns-in_default
returns-in_default c = bind-bad c.bind_of.ensures c.in_default.is

pub returns : goal.returns
returns c = bind-laid c.bind_of.ensures c.in-Some.is c.bytes_of.ensures c.lay.ensures
