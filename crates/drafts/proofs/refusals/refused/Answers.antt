-- `drafts::refusals::refused` meets its contract: the number, and no length.
use Rattle.call.specs.Call.{numbers_with}
use mathlib.Core.Path.{refl}
use Rattle.drafts.proofs.refusals.refused.Goals as goal

pub returns : goal.returns
unfolding numbers_with
returns c = refl
