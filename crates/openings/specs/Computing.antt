-- Opens every definition that a search rests on: under `unfolding computing` a worked example holds by computation.
use Rattle.call.specs.Call as Call
use Rattle.buffer.specs.Bytes.{little_endian, bytes_of}
use Rattle.widening.specs.Opening.{is_in, opened_field, opened_items, opened_members, opened_holder, opened_arguments, opened}
use Rattle.validation.specs.Computing as Validation
use Rattle.validation.specs.Openings.{judged_open, after_round, rounds, rising_to, fewest_marks}
use Rattle.openings.specs.Call.{check_of, open_refusals, marks_for, marks_in, open_figures, or_no_marks, scratch_left}

unfoldable pub computing : Unit {0}
unfolding little_endian bytes_of is_in opened_field opened_items opened_members opened_holder opened_arguments opened judged_open after_round rounds rising_to fewest_marks check_of open_refusals marks_for marks_in open_figures or_no_marks scratch_left Call.refused_or Call.heard_by Call.numbers_with Call.if_told Validation.computing
computing = tt
