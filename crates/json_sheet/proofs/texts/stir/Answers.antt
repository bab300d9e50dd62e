-- `json_sheet::texts::stir` meets its contract.
use mathlib.Core.Path.{refl}
use Rattle.json_keys.specs.Texts.{stir}
use Rattle.json_sheet.proofs.texts.stir.Goals as goal

pub returns : goal.returns
unfolding stir
returns c = refl
