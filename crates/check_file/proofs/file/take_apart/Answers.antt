-- `check_file::file::take_apart` meets its contract: a file that is too long, one of the five numbers missing, or what the texts are.
use Rattle.check_file.proofs.Apart.{too_long, missing-1, missing-2, missing-3, missing-4, missing-5, taken-apart}
use Rattle.check_file.proofs.file.take_apart.Goals as goal

pub returns-then-file-gt-MAX_FILE_BYTES : goal.returns-then-file-gt-MAX_FILE_BYTES
returns-then-file-gt-MAX_FILE_BYTES c = too_long c.args.file.now c.if-file-gt-MAX_FILE_BYTES.true

pub returns-in_err-kind : goal.returns-in_err-kind
returns-in_err-kind c = rw c.from_residual.ensures (missing-1 c.args.file.now c.if-file-gt-MAX_FILE_BYTES.false (rw c.in_err-kind.was at c.field.ensures))

pub returns-in_err-semantics : goal.returns-in_err-semantics
returns-in_err-semantics c = rw c.from_residual-in_err-semantics.ensures (let r1 = rw c.in_ok-kind.was at c.field.ensures in
    missing-2 c.args.file.now c.if-file-gt-MAX_FILE_BYTES.false r1 (rw c.in_err-semantics.was at c.field-2.ensures))

pub returns-in_err-label : goal.returns-in_err-label
returns-in_err-label c = rw c.from_residual-in_err-label.ensures (let r1 = rw c.in_ok-kind.was at c.field.ensures in
    let r2 = rw c.in_ok-semantics.was at c.field-2.ensures in
    missing-3 c.args.file.now c.if-file-gt-MAX_FILE_BYTES.false r1 r2 (rw c.in_err-label.was at c.field-3.ensures))

pub returns-in_err-schema : goal.returns-in_err-schema
returns-in_err-schema c = rw c.from_residual-in_err-schema.ensures (let r1 = rw c.in_ok-kind.was at c.field.ensures in
    let r2 = rw c.in_ok-semantics.was at c.field-2.ensures in
    let r3 = rw c.in_ok-label.was at c.field-3.ensures in
    missing-4 c.args.file.now c.if-file-gt-MAX_FILE_BYTES.false r1 r2 r3 (rw c.in_err-schema.was at c.field-4.ensures))

pub returns-in_err-rule : goal.returns-in_err-rule
returns-in_err-rule c = rw c.from_residual-in_err-rule.ensures (let r1 = rw c.in_ok-kind.was at c.field.ensures in
    let r2 = rw c.in_ok-semantics.was at c.field-2.ensures in
    let r3 = rw c.in_ok-label.was at c.field-3.ensures in
    let r4 = rw c.in_ok-schema.was at c.field-4.ensures in
    missing-5 c.args.file.now c.if-file-gt-MAX_FILE_BYTES.false r1 r2 r3 r4 (rw c.in_err-rule.was at c.field-5.ensures))

pub texts-requires : goal.texts-requires
texts-requires c = let r5 = rw c.in_ok-rule.was at c.field-5.ensures in r5.within

pub returns : goal.returns
returns c =
    let r1 = rw c.in_ok-kind.was at c.field.ensures in
    let r2 = rw c.in_ok-semantics.was at c.field-2.ensures in
    let r3 = rw c.in_ok-label.was at c.field-3.ensures in
    let r4 = rw c.in_ok-schema.was at c.field-4.ensures in
    let r5 = rw c.in_ok-rule.was at c.field-5.ensures in
    taken-apart c.args.file.now c.if-file-gt-MAX_FILE_BYTES.false r1 r2 r3 r4 r5 c.texts.result c.texts.ensures
