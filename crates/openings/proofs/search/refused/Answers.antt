-- `openings::search::refused` meets its contract: the number, and zeros.
use mathlib.Core.Path.{refl}
use Rattle.call.specs.Call.{numbers_with}
use Rattle.openings.proofs.search.refused.Goals as goal

pub returns : goal.returns
unfolding numbers_with
returns c = refl
