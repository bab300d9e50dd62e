-- `text::part::bytes_of` meets its contract: nothing, all that is left, or the part itself.
use Rattle.text.specs.Parts.{part_of}
use Rattle.text.proofs.Parts.{part_out, part-rest, part-whole}
use Rattle.text.proofs.part.bytes_of.Goals as goal

pub returns-then-s-start : goal.returns-then-s-start
unfolding part_of
returns-then-s-start c = part_out c.args.s.now c.args.p.start c.args.p.len c.if-s-start.true

pub returns-then-s-start-2 : goal.returns-then-s-start-2
unfolding part_of
returns-then-s-start-2 c = part-rest c.args.s.now c.args.p.start c.args.p.len c.if-s-start-2.true

pub returns : goal.returns
unfolding part_of
returns c = part-whole c.args.s.now c.args.p.start c.args.p.len
