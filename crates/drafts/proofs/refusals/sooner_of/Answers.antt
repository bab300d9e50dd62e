-- `drafts::refusals::sooner_of` meets its contract.
use native.Mathlib.Omega.{arith}
use Rattle.drafts.proofs.LentSteps.{sooner-none, sooner-one, sooner-both}
use Rattle.drafts.proofs.refusals.sooner_of.Goals as goal

pub returns-then-a-eq0 : goal.returns-then-a-eq0
returns-then-a-eq0 c = sooner-none _ _ c.if-a-eq0.true

pub returns-then-b-eq0 : goal.returns-then-b-eq0
returns-then-b-eq0 c = sooner-one _ _ c.if-a-eq0.false c.if-b-eq0.true

pub returns-then-a-b : goal.returns-then-a-b
returns-then-a-b c = sooner-both _ _ _ c.if-a-eq0.false c.if-b-eq0.false (omega arith)

pub returns-else-a-b : goal.returns-else-a-b
returns-else-a-b c = sooner-both _ _ _ c.if-a-eq0.false c.if-b-eq0.false (omega arith)
