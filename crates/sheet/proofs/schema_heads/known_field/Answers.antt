-- `sheet::schema_heads::known_field` meets its contract: what comes before the texts says where they are, and where the entry ends.
use native.Mathlib.Omega.{arith}
use Rattle.sheet.proofs.Heads.{field-no-marks, field-no-texts, texts-no-length, texts-no-tag-length}
use Rattle.sheet.proofs.Known.{refused, no-name, no-tag, known}
use Rattle.sheet.proofs.schema_heads.known_field.Goals as goal

pub returns-in_err-marks : goal.returns-in_err-marks
returns-in_err-marks c = rw c.from_residual.ensures (let marks = rw c.in_err-marks.was at c.field_marks.ensures in
    refused c.args.s.now c.args.at (field-no-marks c.args.s.now c.args.at marks))

pub returns-in_err-len : goal.returns-in_err-len
returns-in_err-len c = rw c.from_residual-in_err-len.ensures (let marks = rw c.in_ok-marks.was at c.field_marks.ensures in
    let item = rw c.in_err-len.was at c.item.ensures in
    refused c.args.s.now c.args.at (field-no-texts marks.0 (texts-no-length c.args.s.now c.in_ok-marks.a item)))

pub returns-in_err-tag_len : goal.returns-in_err-tag_len
returns-in_err-tag_len c = rw c.from_residual-in_err-tag_len.ensures (let marks = rw c.in_ok-marks.was at c.field_marks.ensures in
    let item = rw c.in_ok-len.was at c.item.ensures in
    let text-length = rw c.in_err-tag_len.was at c.text_length.ensures in
    refused c.args.s.now c.args.at (field-no-texts marks.0 (texts-no-tag-length item.0 text-length)))

pub overflow_add-start : goal.overflow_add-start
overflow_add-start c =
    let text-length = rw c.in_ok-tag_len.was at c.text_length.ensures in
    omega (arith, text-length.within)

pub overflow_add-end : goal.overflow_add-end
overflow_add-end c =
    let item = rw c.in_ok-len.was at c.item.ensures in
    let text-length = rw c.in_ok-tag_len.was at c.text_length.ensures in
    omega (arith, text-length.within, item.2)

pub returns-then-s-end : goal.returns-then-s-end
returns-then-s-end c =
    let marks = rw c.in_ok-marks.was at c.field_marks.ensures in
    let item = rw c.in_ok-len.was at c.item.ensures in
    let text-length = rw c.in_ok-tag_len.was at c.text_length.ensures in
    no-name marks.0 item.0 _ text-length (omega arith)

pub returns-then-s-end-2 : goal.returns-then-s-end-2
returns-then-s-end-2 c =
    let marks = rw c.in_ok-marks.was at c.field_marks.ensures in
    let item = rw c.in_ok-len.was at c.item.ensures in
    let text-length = rw c.in_ok-tag_len.was at c.text_length.ensures in
    no-tag marks.0 item.0 _ text-length c.tag_bytes-bytes.ensures (omega arith)

pub returns : goal.returns
returns c =
    let marks = rw c.in_ok-marks.was at c.field_marks.ensures in
    let item = rw c.in_ok-len.was at c.item.ensures in
    let text-length = rw c.in_ok-tag_len.was at c.text_length.ensures in
    known marks.0 item.0 _ text-length marks.2 c.tag_bytes-bytes.ensures c.tag_at-tag.ensures (omega arith)
