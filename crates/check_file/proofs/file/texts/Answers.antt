-- `check_file::file::texts` meets its contract: counts that do not add up, no line end after the label, or the three texts.
use Prim.Native.Nat.{◌+◌}
use Rattle.check_file.proofs.Apart.{placed-length, placed-byte, placed-all}
use native.Mathlib.Omega.{arith}
use Rattle.check_file.proofs.file.texts.Goals as goal

pub returns-then-middle-rule_bytes : goal.returns-then-middle-rule_bytes
returns-then-middle-rule_bytes c =
    let line = c.args.at + c.to_size-label_bytes.result in
    let middle = line + 1 + c.to_size-schema_bytes.result in
    placed-length c.args.file.now c.args.at c.args.kind c.args.semantics c.args.label c.args.schema c.args.rule line middle (middle + c.to_size-rule_bytes.result) c.requires
    (omega (arith, c.to_size-label_bytes.ensures)) (omega (arith, c.to_size-schema_bytes.ensures)) (omega (arith, c.to_size-rule_bytes.ensures)) c.if-middle-rule_bytes.true

pub returns-then-file-line-eq10 : goal.returns-then-file-line-eq10
returns-then-file-line-eq10 c =
    let line = c.args.at + c.to_size-label_bytes.result in
    let middle = line + 1 + c.to_size-schema_bytes.result in
    placed-all c.args.file.now c.args.at c.args.kind c.args.semantics c.args.label c.args.schema c.args.rule line middle (middle + c.to_size-rule_bytes.result) c.requires
    (omega (arith, c.to_size-label_bytes.ensures)) (omega (arith, c.to_size-schema_bytes.ensures)) (omega (arith, c.to_size-rule_bytes.ensures)) c.to_size-label_bytes.result c.to_size-schema_bytes.result c.to_size-rule_bytes.result c.to_size-label_bytes.ensures c.to_size-schema_bytes.ensures c.to_size-rule_bytes.ensures c.if-middle-rule_bytes.false c.if-file-line-eq10.true

pub returns : goal.returns
returns c =
    let line = c.args.at + c.to_size-label_bytes.result in
    let middle = line + 1 + c.to_size-schema_bytes.result in
    placed-byte c.args.file.now c.args.at c.args.kind c.args.semantics c.args.label c.args.schema c.args.rule line middle (middle + c.to_size-rule_bytes.result) c.requires
    (omega (arith, c.to_size-label_bytes.ensures)) (omega (arith, c.to_size-schema_bytes.ensures)) (omega (arith, c.to_size-rule_bytes.ensures)) c.if-middle-rule_bytes.false c.if-file-line-eq10.false
