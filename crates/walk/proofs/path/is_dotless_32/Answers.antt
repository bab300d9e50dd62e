-- `walk::path::is_dotless_32` meets its contract: four eights, all of them tested.
use Rattle.walk.proofs.Dots.{dotless-four}
use Rattle.walk.proofs.path.is_dotless_32.Goals as goal

pub returns : goal.returns
returns c t =
    dotless-four c.args.path.now c.args.i c.is_dotless_8.ensures c.is_dotless_8-2.ensures c.is_dotless_8-3.ensures c.is_dotless_8-4.ensures t
