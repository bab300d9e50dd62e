-- `json_sheet::keys::batch_differs` meets its contract: the keys in the table, and those that are left, make all of them.
use Rattle.json_keys.specs.TableLaws.{Sofar}
use Rattle.json_sheet.proofs.keys.batch_differs.Given as goal

abbrev pub invariant-loop-n : goal.invariant-loop-n
invariant-loop-n l = Sofar l.s l.heads l.links l.places l.from l.i l.n
