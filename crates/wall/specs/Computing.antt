-- Opens every definition that the pages rest on: under `unfolding computing` a worked example holds by computation.
use mathlib.Core.List.{flatten}
use Rattle.rule_book.specs.Computing as Book
use Rattle.wall.specs.Pages.{blanks, column, in_columns, shown, cut, line_of, line, result_line, results, blank_line, heading, foot, page, pages_from, page_count, lines_of, pages_of}
use Rattle.wall.specs.Wall.{wall_answers, wall_refusals, wall_figures}

unfoldable pub computing : Unit {0}
unfolding flatten blanks column in_columns shown cut line_of line result_line results blank_line heading foot page pages_from page_count lines_of pages_of wall_answers wall_refusals wall_figures Book.computing
computing = tt
