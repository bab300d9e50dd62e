-- `text::is_short_ascii` meets its contract: eight bytes at most, or the first and the last eight, which overlap.
use native.Mathlib.Omega.{arith}
use mathlib.Core.Bool.{false≢true}
use Rattle.text.proofs.Passes.{ascii-ends, ascii-text}
use Rattle.text.proofs.is_short_ascii.Goals as goal

pub returns-then-s-at-lt8 : goal.returns-then-s-at-lt8
returns-then-s-at-lt8 c t = absurd (false≢true t)

pub returns-then-len-le8 : goal.returns-then-len-le8
returns-then-len-le8 c t =
    ascii-text c.args.s.now c.args.at c.args.len c.requires (λ k h. c.is_ascii_8.ensures t k (omega arith))

pub returns-then-is_ascii_8 : goal.returns-then-is_ascii_8
returns-then-is_ascii_8 c t =
    let s = c.args.s.now in
    let at = c.args.at in
    let len = c.args.len in
    ascii-text s at len c.requires
    (ascii-ends s at 8 len (omega arith) (omega arith) (c.is_ascii_8-then-len-le16.ensures c.if-is_ascii_8.true) (c.is_ascii_8-then-is_ascii_8.ensures t))

pub returns-else-is_ascii_8 : goal.returns-else-is_ascii_8
returns-else-is_ascii_8 c t = absurd (false≢true t)

pub returns-else-len-le16 : goal.returns-else-len-le16
returns-else-len-le16 c t = absurd (false≢true t)
