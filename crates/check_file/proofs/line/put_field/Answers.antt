-- `check_file::line::put_field` meets its contract.
use Rattle.check_file.proofs.Writing.{wrote-field}
use borrow.Author.Rules.{rules}
use Rattle.check_file.proofs.line.put_field.Goals as goal

pub returns : goal.returns
returns c = search (wrote-field, rules)
