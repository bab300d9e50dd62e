-- `json_text::quote::lay_escaped_byte` meets its contract.
use borrow.Author.Rules.{rules}
use Rattle.json_text.proofs.Quoting.{laid-quotation, laid-backslash, laid-itself, laid-control}
use Rattle.json_text.proofs.quote.lay_escaped_byte.Goals as goal

pub returns-then-b-eq34 : goal.returns-then-b-eq34
returns-then-b-eq34 c = search (laid-quotation, rules)

pub returns-then-b-eq92 : goal.returns-then-b-eq92
returns-then-b-eq92 c = search (laid-backslash, rules)

pub returns-then-b-ge32 : goal.returns-then-b-ge32
returns-then-b-ge32 c = search (laid-itself, rules)

pub returns : goal.returns
returns c = search (laid-control, rules)
