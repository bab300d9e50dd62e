-- `json_sheet::comparison::comparison_of` meets its contract.
use native.Mathlib.Omega.{arith}
use Rattle.json_sheet.proofs.Naming.{passed, found, nothing}
use Rattle.text.specs.Ascii.{ascii}
use Rattle.json_sheet.proofs.Comparing.{comparisons}
use Rattle.json_sheet.proofs.comparison.comparison_of.Goals as goal

pub returns-then-same_bytes : goal.returns-then-same_bytes
unfolding ascii
returns-then-same_bytes c = (found (comparisons c.args.word.now) c.same_bytes.ensures c.if-same_bytes.true, omega arith)

pub returns-then-same_bytes-2 : goal.returns-then-same_bytes-2
unfolding ascii
returns-then-same_bytes-2 c = (found (passed (comparisons c.args.word.now) c.same_bytes.ensures c.if-same_bytes.false) c.same_bytes-2.ensures c.if-same_bytes-2.true, omega arith)

pub returns-then-same_bytes-3 : goal.returns-then-same_bytes-3
unfolding ascii
returns-then-same_bytes-3 c = (found (passed (passed (comparisons c.args.word.now) c.same_bytes.ensures c.if-same_bytes.false) c.same_bytes-2.ensures c.if-same_bytes-2.false) c.same_bytes-3.ensures c.if-same_bytes-3.true, omega arith)

pub returns-then-same_bytes-4 : goal.returns-then-same_bytes-4
unfolding ascii
returns-then-same_bytes-4 c = (found (passed (passed (passed (comparisons c.args.word.now) c.same_bytes.ensures c.if-same_bytes.false) c.same_bytes-2.ensures c.if-same_bytes-2.false) c.same_bytes-3.ensures c.if-same_bytes-3.false) c.same_bytes-4.ensures c.if-same_bytes-4.true, omega arith)

pub returns-then-same_bytes-5 : goal.returns-then-same_bytes-5
unfolding ascii
returns-then-same_bytes-5 c = (found (passed (passed (passed (passed (comparisons c.args.word.now) c.same_bytes.ensures c.if-same_bytes.false) c.same_bytes-2.ensures c.if-same_bytes-2.false) c.same_bytes-3.ensures c.if-same_bytes-3.false) c.same_bytes-4.ensures c.if-same_bytes-4.false) c.same_bytes-5.ensures c.if-same_bytes-5.true, omega arith)

pub returns-then-same_bytes-6 : goal.returns-then-same_bytes-6
unfolding ascii
returns-then-same_bytes-6 c = (found (passed (passed (passed (passed (passed (comparisons c.args.word.now) c.same_bytes.ensures c.if-same_bytes.false) c.same_bytes-2.ensures c.if-same_bytes-2.false) c.same_bytes-3.ensures c.if-same_bytes-3.false) c.same_bytes-4.ensures c.if-same_bytes-4.false) c.same_bytes-5.ensures c.if-same_bytes-5.false) c.same_bytes-6.ensures c.if-same_bytes-6.true, omega arith)

pub returns : goal.returns
unfolding ascii
returns c = (nothing (passed (passed (passed (passed (passed (passed (comparisons c.args.word.now) c.same_bytes.ensures c.if-same_bytes.false) c.same_bytes-2.ensures c.if-same_bytes-2.false) c.same_bytes-3.ensures c.if-same_bytes-3.false) c.same_bytes-4.ensures c.if-same_bytes-4.false) c.same_bytes-5.ensures c.if-same_bytes-5.false) c.same_bytes-6.ensures c.if-same_bytes-6.false), omega arith)
