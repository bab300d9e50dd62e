-- `sheet::rule_heads::rule_texts` meets its contract: two lengths, a comma, two texts and the end of the line.
use Rattle.sheet.specs.Places.{rule_of}
use native.Mathlib.Omega.{arith}
use Rattle.sheet.proofs.Heads.{rule-no-name-length, rule-no-message-length, rule-no-name, rule-no-message, rule-texts-read, rule-no-end, rule-no-comma}
use Rattle.sheet.proofs.rule_heads.rule_texts.Goals as goal

pub returns-in_err-name_len : goal.returns-in_err-name_len
returns-in_err-name_len c = rw c.from_residual.ensures (let text-length = rw c.in_err-name_len.was at c.text_length.ensures in
    rule-no-name-length c.args.s.now c.args.at text-length)

pub returns-in_err-message_len : goal.returns-in_err-message_len
returns-in_err-message_len c = rw c.from_residual-in_err-message_len.ensures (let text-length = rw c.in_ok-name_len.was at c.text_length.ensures in
    let text-length2 = rw c.in_err-message_len.was at c.text_length-2.ensures in
    rule-no-message-length text-length text-length2)

pub overflow_add-b : goal.overflow_add-b
overflow_add-b c =
    let starts_with = rw c.if-starts_with.true at c.starts_with.ensures in
    omega (arith, starts_with.within)

pub optional_text-requires : goal.optional_text-requires
optional_text-requires c =
    let starts_with = rw c.if-starts_with.true at c.starts_with.ensures in
    starts_with.within

pub returns-in_err-name : goal.returns-in_err-name
returns-in_err-name c = rw c.from_residual-in_err-name.ensures (let text-length = rw c.in_ok-name_len.was at c.text_length.ensures in
    let text-length2 = rw c.in_ok-message_len.was at c.text_length-2.ensures in
    let starts_with = rw c.if-starts_with.true at c.starts_with.ensures in
    let optional-text = rw c.in_err-name.was at c.optional_text.ensures in
    rule-no-name text-length text-length2 starts_with optional-text)

pub optional_text-requires-then-starts_with : goal.optional_text-requires-then-starts_with
optional_text-requires-then-starts_with c =
    let optional-text = rw c.in_ok-name.was at c.optional_text.ensures in
    optional-text.2

pub returns-in_err-message : goal.returns-in_err-message
returns-in_err-message c = rw c.from_residual-in_err-message.ensures (let text-length = rw c.in_ok-name_len.was at c.text_length.ensures in
    let text-length2 = rw c.in_ok-message_len.was at c.text_length-2.ensures in
    let starts_with = rw c.if-starts_with.true at c.starts_with.ensures in
    let optional-text = rw c.in_ok-name.was at c.optional_text.ensures in
    let optional-text2 = rw c.in_err-message.was at c.optional_text-then-starts_with.ensures in
    rule-no-message text-length text-length2 starts_with c.in_ok-name.c _ optional-text.0 optional-text2)

pub overflow_add-result : goal.overflow_add-result
overflow_add-result c =
    let starts-with2 = rw c.if-starts_with-2.true at c.starts_with-then-starts_with.ensures in
    omega (arith, starts-with2.within)

pub returns-then-starts_with-2 : goal.returns-then-starts_with-2
unfolding rule_of
returns-then-starts_with-2 c =
    let text-length = rw c.in_ok-name_len.was at c.text_length.ensures in
    let text-length2 = rw c.in_ok-message_len.was at c.text_length-2.ensures in
    let starts_with = rw c.if-starts_with.true at c.starts_with.ensures in
    let optional-text = rw c.in_ok-name.was at c.optional_text.ensures in
    let optional-text2 = rw c.in_ok-message.was at c.optional_text-then-starts_with.ensures in
    let starts-with2 = rw c.if-starts_with-2.true at c.starts_with-then-starts_with.ensures in
    rule-texts-read text-length text-length2 starts_with c.in_ok-name.c _ optional-text.0 c.in_ok-message.end _ optional-text2.0 optional-text.1 optional-text2.1 starts-with2

pub returns-else-starts_with-2 : goal.returns-else-starts_with-2
returns-else-starts_with-2 c =
    let text-length = rw c.in_ok-name_len.was at c.text_length.ensures in
    let text-length2 = rw c.in_ok-message_len.was at c.text_length-2.ensures in
    let starts_with = rw c.if-starts_with.true at c.starts_with.ensures in
    let optional-text = rw c.in_ok-name.was at c.optional_text.ensures in
    let optional-text2 = rw c.in_ok-message.was at c.optional_text-then-starts_with.ensures in
    let starts-with2 = rw c.if-starts_with-2.false at c.starts_with-then-starts_with.ensures in
    rule-no-end text-length text-length2 starts_with c.in_ok-name.c _ optional-text.0 c.in_ok-message.end _ optional-text2.0 starts-with2

pub returns-else-starts_with : goal.returns-else-starts_with
returns-else-starts_with c =
    let text-length = rw c.in_ok-name_len.was at c.text_length.ensures in
    let text-length2 = rw c.in_ok-message_len.was at c.text_length-2.ensures in
    let starts_with = rw c.if-starts_with.false at c.starts_with.ensures in
    rule-no-comma text-length text-length2 starts_with
