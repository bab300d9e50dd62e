use Rattle.defect_message.proofs.SettledSteps.{behind-none, behind-some}
use native.Mathlib.Omega.{arith}
use Rattle.defect_message.proofs.settled.lay_behind_first.Goals as goal

pub returns-then-text-eq0 : goal.returns-then-text-eq0
returns-then-text-eq0 c = behind-none c.args.text.now (omega arith) c.lay_quoted.ensures

pub returns : goal.returns
returns c = behind-some c.args.text.now c.lay_quoted-2.ensures
