-- `leaves::passes` meets its contract.
use mathlib.Core.Path.{sym}
use lib.Seq.{length-take-le}
use Rattle.text_samples.proofs.passes.Goals as goal

pub slice_bounds-is_utf8-end : goal.slice_bounds-is_utf8-end
slice_bounds-is_utf8-end c = sym (length-take-le _ _ c.bytes_of-n.ensures)

pub slice_bounds-is_blank-end : goal.slice_bounds-is_blank-end
slice_bounds-is_blank-end c = sym (length-take-le _ _ c.bytes_of-n.ensures)
