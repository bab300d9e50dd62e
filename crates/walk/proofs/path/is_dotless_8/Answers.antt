-- `walk::path::is_dotless_8` meets its contract.
use native.Mathlib.Nat.{add-zero}
use Rattle.walk.proofs.Dots.{all, all-dotless}
use Rattle.walk.proofs.path.is_dotless_8.Goals as goal

pub returns : goal.returns
unfolding all
returns c t =
    let path = c.args.path.now in
    let i = c.args.i in
    all-dotless path i 8 (rw (add-zero i) t)
