-- `json_text::escape::hex_digit` meets its contract.
use borrow.Author.Rules.{rules}
use Rattle.json_text.proofs.Hex.{no_digit, digit-there}
use Rattle.json_text.proofs.escape.hex_digit.Goals as goal

pub returns-then-s-at : goal.returns-then-s-at
returns-then-s-at c = search (no_digit, rules)

pub returns : goal.returns
returns c = search (digit-there, rules)
