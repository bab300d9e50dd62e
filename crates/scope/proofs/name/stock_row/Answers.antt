-- `scope::name::stock_row` meets its contract.
use Rattle.scope.proofs.NameLaws.{stock-row-is}
use borrow.Author.Rules.{rules}
use Rattle.scope.proofs.name.stock_row.Goals as goal

pub returns : goal.returns
returns c = search (stock-row-is, rules)
