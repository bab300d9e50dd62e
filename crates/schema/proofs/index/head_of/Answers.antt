-- `schema::index::head_of` meets its contract: the head is read where the slot's word says.
use Rattle.schema.proofs.index.head_of.Goals as goal

pub returns : goal.returns
returns c = rw c.place_word.ensures at c.known_field.ensures
