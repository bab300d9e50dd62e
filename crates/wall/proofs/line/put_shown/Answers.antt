use Rattle.wall.proofs.LineSteps.{more-shown, all_shown}
use Rattle.buffer.specs.WroteLaws.{wrote_nothing, wrote_kept}
use borrow.Author.Rules.{rules}
use Rattle.wall.proofs.line.put_shown.Goals as goal

pub loop-b-init : goal.loop-b-init
loop-b-init c = wrote_nothing _ _

pub loop-b-preserved : goal.loop-b-preserved
loop-b-preserved c = search (more-shown, rules)

pub shape_of-out : goal.shape_of-out
shape_of-out c = wrote_kept c.loop-b.invariant

pub returns : goal.returns
returns c = search (all_shown, rules)
