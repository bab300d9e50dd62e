use borrow.Author.Rules.{rules}
use Rattle.single_check.specs.Sheets.{is_let_in}
use Rattle.single_check.proofs.sheets.is_let_in.Goals as goal

pub returns-in-Any : goal.returns-in-Any
unfolding is_let_in
returns-in-Any c = search rules

pub returns-in-Rules : goal.returns-in-Rules
unfolding is_let_in
returns-in-Rules c = search rules

pub returns-in-Templates : goal.returns-in-Templates
unfolding is_let_in
returns-in-Templates c = search rules
