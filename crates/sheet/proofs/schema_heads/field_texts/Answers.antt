-- `sheet::schema_heads::field_texts` meets its contract: two lengths, a comma, two texts and the end of the line.
use Rattle.text.specs.Parts.{part_of}
use native.Mathlib.Omega.{arith}
use Rattle.sheet.proofs.Heads.{texts-no-length, texts-no-tag-length, texts-no-tag, texts-read, texts-no-end, texts-no-name, texts-no-comma}
use Rattle.sheet.proofs.Sizes.{texts-placed}
use Rattle.sheet.proofs.schema_heads.field_texts.Goals as goal

pub returns-in_err-len : goal.returns-in_err-len
returns-in_err-len c = rw c.from_residual.ensures (let item = rw c.in_err-len.was at c.item.ensures in
    texts-no-length c.args.s.now c.args.at item)

pub returns-in_err-tag_len : goal.returns-in_err-tag_len
returns-in_err-tag_len c = rw c.from_residual-in_err-tag_len.ensures (let item = rw c.in_ok-len.was at c.item.ensures in
    let text-length = rw c.in_err-tag_len.was at c.text_length.ensures in
    texts-no-tag-length item.0 text-length)

pub overflow_add-start : goal.overflow_add-start
overflow_add-start c =
    let starts_with = rw c.if-starts_with.true at c.starts_with.ensures in
    omega (arith, starts_with.within)

pub is_text-requires : goal.is_text-requires
is_text-requires c =
    let starts_with = rw c.if-starts_with.true at c.starts_with.ensures in
    starts_with.within

pub overflow_add-start-then-is_text : goal.overflow_add-start-then-is_text
overflow_add-start-then-is_text c =
    let is-text = rw c.if-is_text.true at c.is_text.ensures in
    omega (arith, is-text.1)

pub optional_text-requires : goal.optional_text-requires
optional_text-requires c =
    let is-text = rw c.if-is_text.true at c.is_text.ensures in
    is-text.1

pub returns-in_err-tag : goal.returns-in_err-tag
returns-in_err-tag c = rw c.from_residual-in_err-tag.ensures (let item = rw c.in_ok-len.was at c.item.ensures in
    let text-length = rw c.in_ok-tag_len.was at c.text_length.ensures in
    let starts_with = rw c.if-starts_with.true at c.starts_with.ensures in
    let is-text = rw c.if-is_text.true at c.is_text.ensures in
    let optional-text = rw c.in_err-tag.was at c.optional_text.ensures in
    texts-no-tag item.0 text-length starts_with is-text optional-text)

pub overflow_add-result : goal.overflow_add-result
overflow_add-result c =
    let starts-with2 = rw c.if-starts_with-2.true at c.starts_with-then-is_text.ensures in
    omega (arith, starts-with2.within)

pub returns-then-starts_with-2 : goal.returns-then-starts_with-2
unfolding part_of
returns-then-starts_with-2 c =
    let item = rw c.in_ok-len.was at c.item.ensures in
    let text-length = rw c.in_ok-tag_len.was at c.text_length.ensures in
    let starts_with = rw c.if-starts_with.true at c.starts_with.ensures in
    let is-text = rw c.if-is_text.true at c.is_text.ensures in
    let optional-text = rw c.in_ok-tag.was at c.optional_text.ensures in
    let starts-with2 = rw c.if-starts_with-2.true at c.starts_with-then-is_text.ensures in (
      texts-read item.0 text-length starts_with is-text c.in_ok-tag.end _ optional-text.0 optional-text.1 starts-with2,
      texts-placed item.0 item.2 text-length,
    )

pub returns-else-starts_with-2 : goal.returns-else-starts_with-2
returns-else-starts_with-2 c =
    let item = rw c.in_ok-len.was at c.item.ensures in
    let text-length = rw c.in_ok-tag_len.was at c.text_length.ensures in
    let starts_with = rw c.if-starts_with.true at c.starts_with.ensures in
    let is-text = rw c.if-is_text.true at c.is_text.ensures in
    let optional-text = rw c.in_ok-tag.was at c.optional_text.ensures in
    let starts-with2 = rw c.if-starts_with-2.false at c.starts_with-then-is_text.ensures in
    texts-no-end item.0 text-length starts_with is-text c.in_ok-tag.end _ optional-text.0 starts-with2

pub returns-else-is_text : goal.returns-else-is_text
returns-else-is_text c =
    let item = rw c.in_ok-len.was at c.item.ensures in
    let text-length = rw c.in_ok-tag_len.was at c.text_length.ensures in
    let starts_with = rw c.if-starts_with.true at c.starts_with.ensures in
    let is-text = rw c.if-is_text.false at c.is_text.ensures in
    texts-no-name item.0 text-length starts_with is-text

pub returns-else-starts_with : goal.returns-else-starts_with
returns-else-starts_with c =
    let item = rw c.in_ok-len.was at c.item.ensures in
    let text-length = rw c.in_ok-tag_len.was at c.text_length.ensures in
    let starts_with = rw c.if-starts_with.false at c.starts_with.ensures in
    texts-no-comma item.0 text-length starts_with
