use Rattle.wall.proofs.LineSteps.{no-blanks, more-blanks, all-blanks}
use Rattle.buffer.specs.WroteLaws.{wrote_kept}
use native.Mathlib.Omega.{arith}
use borrow.Author.Rules.{rules}
use Rattle.wall.proofs.line.put_blanks.Goals as goal

pub loop-init : goal.loop-init
loop-init c = no-blanks _ _

pub loop-preserved : goal.loop-preserved
loop-preserved c = search (more-blanks, rules)

pub shape_of-out : goal.shape_of-out
shape_of-out c = wrote_kept c.loop.invariant

pub returns : goal.returns
returns c = all-blanks c.loop.counter c.args.count (omega arith) (omega arith) c.loop.invariant
