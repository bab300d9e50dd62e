use Rattle.text.specs.Ascii.{ascii}
use Rattle.json_sheet.proofs.Naming.{passed, found, nothing, operators-other}
use Rattle.json_sheet.proofs.key.operator_of_other.Goals as goal

pub returns-then-same_bytes : goal.returns-then-same_bytes
unfolding ascii
returns-then-same_bytes c = found (operators-other c.args.word.now c.requires.0 c.requires.1 c.requires.2 c.requires.3) c.same_bytes.ensures c.if-same_bytes.true

pub returns-then-same_bytes-2 : goal.returns-then-same_bytes-2
unfolding ascii
returns-then-same_bytes-2 c = found (passed (operators-other c.args.word.now c.requires.0 c.requires.1 c.requires.2 c.requires.3) c.same_bytes.ensures c.if-same_bytes.false) c.same_bytes-2.ensures c.if-same_bytes-2.true

pub returns-then-same_bytes-3 : goal.returns-then-same_bytes-3
unfolding ascii
returns-then-same_bytes-3 c = found (passed (passed (operators-other c.args.word.now c.requires.0 c.requires.1 c.requires.2 c.requires.3) c.same_bytes.ensures c.if-same_bytes.false) c.same_bytes-2.ensures c.if-same_bytes-2.false) c.same_bytes-3.ensures c.if-same_bytes-3.true

pub returns-then-same_bytes-4 : goal.returns-then-same_bytes-4
unfolding ascii
returns-then-same_bytes-4 c = found (passed (passed (passed (operators-other c.args.word.now c.requires.0 c.requires.1 c.requires.2 c.requires.3) c.same_bytes.ensures c.if-same_bytes.false) c.same_bytes-2.ensures c.if-same_bytes-2.false) c.same_bytes-3.ensures c.if-same_bytes-3.false) c.same_bytes-4.ensures c.if-same_bytes-4.true

pub returns : goal.returns
unfolding ascii
returns c = nothing (passed (passed (passed (passed (operators-other c.args.word.now c.requires.0 c.requires.1 c.requires.2 c.requires.3) c.same_bytes.ensures c.if-same_bytes.false) c.same_bytes-2.ensures c.if-same_bytes-2.false) c.same_bytes-3.ensures c.if-same_bytes-3.false) c.same_bytes-4.ensures c.if-same_bytes-4.false)
