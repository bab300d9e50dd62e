-- `constants::mark` meets its contract.
use Rattle.constants.proofs.MarkSteps.{marked-none, marked-one}
use Rattle.constants.proofs.mark.Goals as goal

pub returns-in_default : goal.returns-in_default
returns-in_default c = marked-none c.args.count c.args.entry c.args.marks.now c.in_default.is

pub returns : goal.returns
returns c = marked-one c.args.count c.args.entry c.in-Some.is c.mark_of.ensures c.put_u32.ensures
