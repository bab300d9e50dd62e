-- Opens every definition that a tally rests on: under `unfolding computing` a worked example holds by computation.
use Rattle.call.specs.Call as Call
use Rattle.validation.specs.Computing as Validation
use Rattle.rule_book.specs.Book.{sheet_in, no_more, sheets_in, sheets_of, write_book}
use Rattle.rule_book.specs.Tally.{asked_of, single, book_refusals, answers_of, count_of, sum, passed_in, defect_numbers, tally_of, or_no_sheets, tally_in, tally_figures}

unfoldable pub computing : Unit {0}
unfolding sheet_in no_more sheets_in sheets_of write_book asked_of single book_refusals answers_of count_of sum passed_in defect_numbers tally_of or_no_sheets tally_in tally_figures Call.refused_or Call.heard_by Call.numbers_with Validation.computing
computing = tt
