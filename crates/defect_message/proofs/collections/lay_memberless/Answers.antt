use Rattle.text.specs.Ascii.{ascii}
use Rattle.defect_message.proofs.CollectionSteps.{memberless-laid}
use native.Mathlib.Omega.{arith}
use Rattle.defect_message.proofs.collections.lay_memberless.Goals as goal

pub returns : goal.returns
unfolding ascii
returns c = memberless-laid _ _ (omega arith) c.lay_between-next.ensures c.lay_quoted.ensures
