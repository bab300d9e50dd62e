-- `json_text::quote::hex_of` meets its contract.
use borrow.Author.Rules.{rules}
use Rattle.json_text.proofs.Quoting.{hex-digit, hex-letter}
use Rattle.json_text.proofs.quote.hex_of.Goals as goal

pub returns-then-n-le9 : goal.returns-then-n-le9
returns-then-n-le9 c = search (hex-digit, rules)

pub returns : goal.returns
returns c = search (hex-letter, rules)
