-- `wall::line::put_line` meets its contract: five numbers and the path.
use Rattle.text.specs.Parts.{part_of}
use Rattle.buffer.specs.WroteLaws.{wrote_kept}
use lib.ListN.{take}
use mathlib.Core.Path.{◌∙◌}
use Rattle.wall.proofs.LineSteps.{line-written}
use Rattle.wall.proofs.line.put_line.Goals as goal

pub shape_of-out : goal.shape_of-out
shape_of-out c = wrote_kept c.put_path.ensures ∙ wrote_kept c.put_field-next-5.ensures ∙ wrote_kept c.put_field-next-4.ensures ∙ wrote_kept c.put_field-next-3.ensures ∙ wrote_kept c.put_field-next-2.ensures ∙ wrote_kept c.put_field-next.ensures

pub returns : goal.returns
unfolding part_of
returns c = let a = c.args in
    line-written a.serial a.o.number a.o.family a.o.place a.o.passed (take a.o.path_length a.path.now)
    c.put_field-next.ensures c.put_field-next-2.ensures c.put_field-next-3.ensures c.put_field-next-4.ensures c.put_field-next-5.ensures c.bytes_of.ensures c.put_path.ensures
