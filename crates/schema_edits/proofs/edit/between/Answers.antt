use native.Mathlib.Omega.{arith}
use Rattle.schema_edits.proofs.EditSteps.{between_none, between-some}
use Rattle.schema_edits.proofs.edit.between.Goals as goal

pub returns-then-end-from : goal.returns-then-end-from
returns-then-end-from c = between_none c.args.s.now c.args.from c.args.end (omega arith) c.bytes_of.ensures

pub returns : goal.returns
returns c = between-some c.args.s.now c.args.from c.args.end c.bytes_of-2.ensures
