-- `wall::refused` meets its contract: the number, and no page.
use Rattle.call.specs.Call.{numbers_with}
use mathlib.Core.Path.{refl}
use Rattle.wall.proofs.refused.Goals as goal

pub returns : goal.returns
unfolding numbers_with
returns c = refl
