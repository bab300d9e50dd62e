-- `drafts::step::remove_from` meets its contract.
use Rattle.text.specs.Parts.{part_of}
use Rattle.drafts.proofs.StepSteps.{removed-from}
use Rattle.drafts.proofs.step.remove_from.Goals as goal

pub returns : goal.returns
unfolding part_of
returns c = removed-from c.bytes_of.ensures c.put-copied.ensures c.bytes_of-copy.ensures c.remove_field.ensures
