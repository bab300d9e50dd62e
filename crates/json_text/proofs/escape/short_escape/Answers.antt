-- `json_text::escape::short_escape` meets its contract.
use borrow.Author.Rules.{rules}
use Rattle.json_text.proofs.Chars.{short-22, short-5_c, short-2_f, short-8, short-C, short-A, short-D, short-9, short_none}
use Rattle.json_text.proofs.escape.short_escape.Goals as goal

pub returns-then-b-eq34 : goal.returns-then-b-eq34
returns-then-b-eq34 c = search (short-22, rules)

pub returns-then-b-eq92 : goal.returns-then-b-eq92
returns-then-b-eq92 c = search (short-5_c, rules)

pub returns-then-b-eq47 : goal.returns-then-b-eq47
returns-then-b-eq47 c = search (short-2_f, rules)

pub returns-then-b-eq98 : goal.returns-then-b-eq98
returns-then-b-eq98 c = search (short-8, rules)

pub returns-then-b-eq102 : goal.returns-then-b-eq102
returns-then-b-eq102 c = search (short-C, rules)

pub returns-then-b-eq110 : goal.returns-then-b-eq110
returns-then-b-eq110 c = search (short-A, rules)

pub returns-then-b-eq114 : goal.returns-then-b-eq114
returns-then-b-eq114 c = search (short-D, rules)

pub returns-then-b-eq116 : goal.returns-then-b-eq116
returns-then-b-eq116 c = search (short-9, rules)

pub returns : goal.returns
returns c = search (short_none, rules)
