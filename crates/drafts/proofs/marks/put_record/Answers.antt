-- `drafts::marks::put_record` meets its contract.
use Rattle.drafts.specs.DraftCalls.{seven_of}
use Rattle.drafts.proofs.MarkSteps.{record-put}
use Rattle.drafts.proofs.marks.put_record.Goals as goal

pub returns : goal.returns
unfolding seven_of
returns c = record-put _ c.put_numbers.ensures
