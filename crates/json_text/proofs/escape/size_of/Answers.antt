-- `json_text::escape::size_of` meets its contract.
use borrow.Author.Rules.{rules}
use Rattle.json_text.proofs.EncodeLaws.{size-1, size-2, size-of-3, size-of-4}
use Rattle.json_text.proofs.escape.size_of.Goals as goal

pub returns-then-c-le127 : goal.returns-then-c-le127
returns-then-c-le127 c = search (size-1, rules)

pub returns-then-c-le2047 : goal.returns-then-c-le2047
returns-then-c-le2047 c = search (size-2, rules)

pub returns-then-c-le65535 : goal.returns-then-c-le65535
returns-then-c-le65535 c = search (size-of-3, rules)

pub returns : goal.returns
returns c = search (size-of-4, rules)
