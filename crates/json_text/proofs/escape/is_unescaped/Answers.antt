-- `json_text::escape::is_unescaped` meets its contract.
use borrow.Author.Rules.{rules}
use Rattle.json_text.proofs.Chars.{plain-20, plain-22, plain-5_c}
use Rattle.json_text.proofs.escape.is_unescaped.Goals as goal

pub returns-then-c-lt32 : goal.returns-then-c-lt32
returns-then-c-lt32 c = search (plain-20, rules)

pub returns-then-c-eq34 : goal.returns-then-c-eq34
returns-then-c-eq34 c = search (plain-22, rules)

pub returns : goal.returns
returns c = search (plain-5_c, rules)
