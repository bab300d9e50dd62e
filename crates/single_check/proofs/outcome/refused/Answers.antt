use borrow.Author.Rules.{rules}
use Rattle.validation.specs.Result.{numbers_of}
use Rattle.single_check.proofs.outcome.refused.Goals as goal

pub returns : goal.returns
unfolding numbers_of
returns c = search rules
