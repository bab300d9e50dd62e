-- `schema::index::place_word` meets its contract. A slot past the length has no words.
use mathlib.Core.Path.{sym}
use native.Mathlib.Omega.{arith}
use lib.ListN.{get_or-eq_default}
use Rattle.schema.proofs.index.place_word.Goals as goal

pub returns-then-words-k : goal.returns-then-words-k
returns-then-words-k c = sym (get_or-eq_default c.args.words.now 0 (omega arith))
