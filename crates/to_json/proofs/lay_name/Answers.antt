-- `to_json::lay_name` meets its contract.
use Rattle.to_json.proofs.Laying.{texted-laid}
use Rattle.text.specs.Ascii.{ascii}
use Rattle.text.specs.Parts.{optional_of}
use Rattle.to_json.specs.Parts.{name_text}
use native.Mathlib.Omega.{arith}
use Rattle.to_json.proofs.lay_name.Goals as goal

pub returns-in-Some : goal.returns-in-Some
unfolding optional_of name_text ascii
returns-in-Some c = rw c.in-Some.is (texted-laid (ascii "{\"name\":") (ascii ",\"assert\":") (omega arith) c.lay-a.ensures c.lay_quoted-b.ensures c.lay.ensures c.bytes_of.ensures)

pub returns-in-None : goal.returns-in-None
unfolding optional_of name_text ascii
returns-in-None c = rw c.in-None.is c.lay-in-None.ensures
