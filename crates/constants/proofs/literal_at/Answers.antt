-- `constants::literal_at` meets its contract. By `search`, so that an edit of the value is refused for what it says.
use borrow.Author.Rules.{rules}
use Rattle.value_checks.specs.Frames.{literal_by}
use Rattle.constants.proofs.ConstantSteps.{literal-is, literal-not}
use Rattle.constants.proofs.literal_at.Goals as goal

pub returns-in-Ok : goal.returns-in-Ok
returns-in-Ok c = search (literal-is, rules)

pub returns-in-Err : goal.returns-in-Err
unfolding literal_by
returns-in-Err c = literal-not c.instant_form.ensures (rw c.in-Err.is)
