-- `json_text::escape::hex_value` meets its contract.
use borrow.Author.Rules.{rules}
use Rattle.json_text.proofs.Hex.{below-digits, a-digit, above-digits, upper-digit, above-upper, lower-digit, above_lower}
use Rattle.json_text.proofs.escape.hex_value.Goals as goal

pub returns-then-b-lt48 : goal.returns-then-b-lt48
returns-then-b-lt48 c = search (below-digits, rules)

pub returns-then-b-le57 : goal.returns-then-b-le57
returns-then-b-le57 c = search (a-digit, rules)

pub returns-then-b-lt65 : goal.returns-then-b-lt65
returns-then-b-lt65 c = search (above-digits, rules)

pub returns-then-b-le70 : goal.returns-then-b-le70
returns-then-b-le70 c = search (upper-digit, rules)

pub returns-then-b-lt97 : goal.returns-then-b-lt97
returns-then-b-lt97 c = search (above-upper, rules)

pub returns-then-b-le102 : goal.returns-then-b-le102
returns-then-b-le102 c = search (lower-digit, rules)

pub returns : goal.returns
returns c = search (above_lower, rules)
