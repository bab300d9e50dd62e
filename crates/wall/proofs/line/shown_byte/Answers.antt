-- `wall::line::shown_byte` meets its contract: below the blank, above `~`, and between.
use Rattle.wall.proofs.LineSteps.{shown-below, shown-above, shown-same}
use native.Mathlib.Omega.{arith}
use Rattle.wall.proofs.line.shown_byte.Goals as goal

pub returns-then-b-lt32 : goal.returns-then-b-lt32
returns-then-b-lt32 c = shown-below _ (omega arith)

pub returns-then-b-gt126 : goal.returns-then-b-gt126
returns-then-b-gt126 c = shown-above _ (omega arith)

pub returns : goal.returns
returns c = shown-same _ (omega arith) (omega arith)
