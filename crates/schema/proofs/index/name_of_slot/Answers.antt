-- `schema::index::name_of_slot` meets its contract: two words say where the name is.
use native.Mathlib.Omega.{arith}
use Rattle.schema.proofs.Slots.{part-is}
use Rattle.schema.proofs.index.name_of_slot.Goals as goal

pub returns : goal.returns
returns c =
    part-is _ _ _ (omega (arith, c.name_word-more.ensures, c.place_word-place.ensures)) (omega (arith, c.name_word-more.ensures))
