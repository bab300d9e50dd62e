-- `json_text::escape::escape` meets its contract.
use borrow.Author.Rules.{rules}
use Rattle.json_text.proofs.Chars.{escape_end, escape_unicode, escape-refused, escape-none, escape-short}
use Rattle.json_text.proofs.escape.escape.Goals as goal

pub returns-then-s-at : goal.returns-then-s-at
returns-then-s-at c = search (escape_end, rules)

pub returns-in-Some : goal.returns-in-Some
returns-in-Some c = escape_unicode c.args.s.now c.args.at c.if-s-at.false c.if-b-eq117.true (rw c.in-Some.is at c.unicode.ensures)

pub returns-in-None : goal.returns-in-None
returns-in-None c = escape-refused c.args.s.now c.args.at c.if-s-at.false c.if-b-eq117.true (rw c.in-None.is at c.unicode.ensures)

pub returns-then-c-eq0 : goal.returns-then-c-eq0
returns-then-c-eq0 c = escape-none c.args.s.now c.args.at c.if-s-at.false c.if-b-eq117.false c.short_escape-c.ensures c.if-c-eq0.true

pub returns : goal.returns
returns c = escape-short c.args.s.now c.args.at c.if-s-at.false c.if-b-eq117.false c.short_escape-c.ensures c.if-c-eq0.false
