-- `number::magnitude::by_level` meets its contract: one case for each level.
use mathlib.Core.Path.{refl}
use Rattle.number.specs.FirstDigit.{decided, compared_at}
use Rattle.number.proofs.magnitude.by_level.Goals as goal

pub returns-in-Less : goal.returns-in-Less
unfolding decided compared_at
returns-in-Less c = rw c.in-Less.is (refl, refl)

pub returns-in-Equal : goal.returns-in-Equal
unfolding decided compared_at
returns-in-Equal c = rw c.in-Equal.is c.compare.ensures

pub returns-in-Greater : goal.returns-in-Greater
unfolding decided compared_at
returns-in-Greater c = rw c.in-Greater.is (refl, refl)
