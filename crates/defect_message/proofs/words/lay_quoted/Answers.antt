use Rattle.text.specs.Ascii.{ascii}
use Rattle.message.specs.Words.{in_quotes}
use Rattle.defect_message.proofs.LayingLaws.{laid-three}
use native.Mathlib.Omega.{arith}
use Rattle.defect_message.proofs.words.lay_quoted.Goals as goal

pub returns : goal.returns
unfolding in_quotes ascii
returns c = laid-three (omega arith) c.lay_byte-start.ensures c.lay-end.ensures c.lay_byte.ensures
