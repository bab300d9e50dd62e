-- `schema::index::put_slot` meets its contract: two words are set, and every other keeps its value.
use native.Mathlib.Omega.{arith}
use lib.ListN.{length-set}
use Rattle.schema.proofs.Slots.{slot-put}
use Rattle.schema.proofs.index.put_slot.Goals as goal

pub bounds-words-i-2 : goal.bounds-words-i-2
bounds-words-i-2 c = simp length-set (omega arith)

pub shape_of-words : goal.shape_of-words
shape_of-words c = simp length-set

pub returns : goal.returns
returns c =
    let a = c.args in
    slot-put a.words.now a.k a.start a.entry a.child a.name _ _ c.requires (omega arith) (omega arith)
