-- `text::starts_with` meets its contract: the byte there, or nothing past the end.
use Rattle.text.specs.ReadAtLaws.{byte_reads, byte-end}
use Rattle.text.proofs.starts_with.Goals as goal

pub returns-then-at-s : goal.returns-then-at-s
returns-then-at-s c = byte_reads c.args.b c.args.s.now c.args.at c.if-at-s.true

pub returns-else-at-s : goal.returns-else-at-s
returns-else-at-s c = byte-end c.args.b c.args.s.now c.args.at c.if-at-s.false
