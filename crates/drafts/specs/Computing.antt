-- Opens every definition that the refusals of a start rest on: under `unfolding computing` a worked example holds by computation.
use Rattle.call.specs.Call as Call
use Rattle.validation.specs.Computing as Validation
use Rattle.drafts.specs.Lent.{is_any}
use Rattle.drafts.specs.DraftCalls.{sheet_in, schema_in, is_unset, is_mislabelled, is_malformed, has_room, early_refusals, start_refusals}

unfoldable pub computing : Unit {0}
unfolding is_any sheet_in schema_in is_unset is_mislabelled is_malformed has_room early_refusals start_refusals Call.first_refusal Validation.computing
computing = tt
