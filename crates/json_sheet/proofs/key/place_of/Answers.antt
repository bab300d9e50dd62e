use Rattle.json_sheet.proofs.Naming.{passed, found, nothing, places}
use Rattle.json_sheet.proofs.key.place_of.Goals as goal

pub returns-then-same_bytes : goal.returns-then-same_bytes
returns-then-same_bytes c = found (places c.args.word.now c.args.first.now c.args.second.now c.args.third.now) c.same_bytes.ensures c.if-same_bytes.true

pub returns-then-same_bytes-2 : goal.returns-then-same_bytes-2
returns-then-same_bytes-2 c = found (passed (places c.args.word.now c.args.first.now c.args.second.now c.args.third.now) c.same_bytes.ensures c.if-same_bytes.false) c.same_bytes-2.ensures c.if-same_bytes-2.true

pub returns-then-same_bytes-3 : goal.returns-then-same_bytes-3
returns-then-same_bytes-3 c = found (passed (passed (places c.args.word.now c.args.first.now c.args.second.now c.args.third.now) c.same_bytes.ensures c.if-same_bytes.false) c.same_bytes-2.ensures c.if-same_bytes-2.false) c.same_bytes-3.ensures c.if-same_bytes-3.true

pub returns : goal.returns
returns c = nothing (passed (passed (passed (places c.args.word.now c.args.first.now c.args.second.now c.args.third.now) c.same_bytes.ensures c.if-same_bytes.false) c.same_bytes-2.ensures c.if-same_bytes-2.false) c.same_bytes-3.ensures c.if-same_bytes-3.false)
