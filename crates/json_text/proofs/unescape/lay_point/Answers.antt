-- `json_text::unescape::lay_point` meets its contract.
use native.Mathlib.Omega.{arith}
use borrow.Author.Rules.{rules}
use Rattle.json_text.proofs.Laying.{laid-1, laid-2, laid-3, laid-4}
use Rattle.json_text.proofs.unescape.lay_point.Goals as goal

pub returns-then-c-le127 : goal.returns-then-c-le127
returns-then-c-le127 c = search (laid-1, rules)

pub returns-then-c-le2047 : goal.returns-then-c-le2047
returns-then-c-le2047 c = laid-2 c.args.c (omega arith) (omega arith) (omega arith) c.lay_byte-p.ensures c.lay_byte-then-c-le2047.ensures

pub returns-then-c-le65535 : goal.returns-then-c-le65535
returns-then-c-le65535 c = laid-3 c.args.c (omega arith) (omega arith) (omega arith) c.lay_byte-p-then-c-le65535.ensures c.lay_byte-q.ensures c.lay_byte-then-c-le65535.ensures

pub returns : goal.returns
returns c = laid-4 c.args.c (omega arith) (omega arith) c.lay_byte-p-2.ensures c.lay_byte-q-2.ensures c.lay_byte-r.ensures c.lay_byte-2.ensures
