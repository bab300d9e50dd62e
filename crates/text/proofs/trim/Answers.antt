-- `text::trim` meets its contract.
use mathlib.Core.Path.{sym}
use lib.Seq.{length-take-le}
use Rattle.text.proofs.End.{part-trimmed}
use Rattle.text.proofs.trim.Goals as goal

pub slice_bounds-result-end : goal.slice_bounds-result-end
slice_bounds-result-end c = sym (length-take-le _ _ c.end_of-end.ensures.within)

pub returns : goal.returns
returns c =
    part-trimmed c.args.s.now c.start_of-start.result
    c.end_of-end.result c.start_of-start.ensures c.end_of-end.ensures
