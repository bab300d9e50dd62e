-- `json_text::token::is_of_number` meets its contract.
use borrow.Author.Rules.{rules}
use Rattle.json_text.proofs.Tokens.{of-number-0, of-number-1, of-number-2, of-number-3, of-number-4, of-number-5}
use Rattle.json_text.proofs.token.is_of_number.Goals as goal

pub returns-then-is_digit : goal.returns-then-is_digit
returns-then-is_digit c = search (of-number-0, rules)

pub returns-then-b-eq43 : goal.returns-then-b-eq43
returns-then-b-eq43 c = search (of-number-1, rules)

pub returns-then-b-eq45 : goal.returns-then-b-eq45
returns-then-b-eq45 c = search (of-number-2, rules)

pub returns-then-b-eq46 : goal.returns-then-b-eq46
returns-then-b-eq46 c = search (of-number-3, rules)

pub returns-then-b-eq69 : goal.returns-then-b-eq69
returns-then-b-eq69 c = search (of-number-4, rules)

pub returns : goal.returns
returns c = search (of-number-5, rules)
