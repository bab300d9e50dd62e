-- `json_text::string::plain_end` meets its contract.
use lib.ListN.{length}
use Rattle.json_text.specs.StringAt.{PlainTo}
use Rattle.json_text.proofs.string.plain_end.Given as goal

abbrev pub invariant-loop-i : goal.invariant-loop-i
invariant-loop-i l = PlainTo l.s l.at l.i
