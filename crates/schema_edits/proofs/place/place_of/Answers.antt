use native.Mathlib.Omega.{arith}
use Rattle.schema_edits.proofs.SheetSteps.{place-long, place-headless, placed}
use Rattle.schema_edits.proofs.place.place_of.Goals as goal

pub returns-then-s-gt-MAX_SHEET_BYTES : goal.returns-then-s-gt-MAX_SHEET_BYTES
returns-then-s-gt-MAX_SHEET_BYTES c = place-long c.args.s.now c.args.name.now (omega arith)

pub returns-in_default : goal.returns-in_default
returns-in_default c = place-headless c.args.s.now _ c.args.name.now c.schema_head.ensures c.in_default.is

pub returns : goal.returns
returns c = placed c.args.s.now _ c.args.name.now c.schema_head.ensures c.in-Some.is c.find_place.result c.find_place.ensures
