use Prim.Native.Nat.{◌+◌, ◌-◌}
use mathlib.Core.Path.{◌≡◌, ◌∙◌}
use Rattle.validation.specs.Openings.{max_marks}
use Rattle.openings.proofs.RoundSteps.{search-starts, search-ends, search-passes, search-too-far, search-again, search-unread, search-on}
use native.Mathlib.Omega.{arith}
use Rattle.openings.proofs.rounds.find_marks.Goals as goal

pub loop-init : goal.loop-init
loop-init c = search-starts

pub shape_of-sheet-in_default : goal.shape_of-sheet-in_default
shape_of-sheet-in_default c = c.loop.invariant.sheet_size

pub shape_of-marks-in_default : goal.shape_of-marks-in_default
shape_of-marks-in_default c = c.loop.invariant.marks_size

pub shape_of-words-in_default : goal.shape_of-words-in_default
shape_of-words-in_default c = c.loop.invariant.front.size

pub returns-in_default : goal.returns-in_default
returns-in_default c = search-passes c.loop.invariant (omega arith) (rw c.in_default.is at c.check_round.ensures)

pub shape_of-sheet-then-at-gt-MAX_SCHEMA_ENTRIES : goal.shape_of-sheet-then-at-gt-MAX_SCHEMA_ENTRIES
shape_of-sheet-then-at-gt-MAX_SCHEMA_ENTRIES c = c.loop.invariant.sheet_size

pub shape_of-marks-then-at-gt-MAX_SCHEMA_ENTRIES : goal.shape_of-marks-then-at-gt-MAX_SCHEMA_ENTRIES
shape_of-marks-then-at-gt-MAX_SCHEMA_ENTRIES c = c.loop.invariant.marks_size

pub shape_of-words-then-at-gt-MAX_SCHEMA_ENTRIES : goal.shape_of-words-then-at-gt-MAX_SCHEMA_ENTRIES
shape_of-words-then-at-gt-MAX_SCHEMA_ENTRIES c = c.loop.invariant.front.size

pub returns-then-at-gt-MAX_SCHEMA_ENTRIES : goal.returns-then-at-gt-MAX_SCHEMA_ENTRIES
returns-then-at-gt-MAX_SCHEMA_ENTRIES c =
    let r = rw c.in-Err.is at c.check_round.ensures in
    search-too-far c.loop.invariant (omega arith) r (omega (arith, c.if-at-gt-MAX_SCHEMA_ENTRIES.true))

pub bounds-marks-at : goal.bounds-marks-at
bounds-marks-at c = omega (arith, c.if-at-gt-MAX_SCHEMA_ENTRIES.false, c.loop.invariant.marks_size, c.requires.0)

pub shape_of-sheet-then-marks-at-ne0 : goal.shape_of-sheet-then-marks-at-ne0
shape_of-sheet-then-marks-at-ne0 c = c.loop.invariant.sheet_size

pub shape_of-marks-then-marks-at-ne0 : goal.shape_of-marks-then-marks-at-ne0
shape_of-marks-then-marks-at-ne0 c = c.loop.invariant.marks_size

pub shape_of-words-then-marks-at-ne0 : goal.shape_of-words-then-marks-at-ne0
shape_of-words-then-marks-at-ne0 c = c.loop.invariant.front.size

pub returns-then-marks-at-ne0 : goal.returns-then-marks-at-ne0
returns-then-marks-at-ne0 c =
    let r = rw c.in-Err.is at c.check_round.ensures in
    search-again c.loop.invariant (omega arith) r c.if-at-gt-MAX_SCHEMA_ENTRIES.false c.if-marks-at-ne0.true

pub bounds-marks-at-in-loop : goal.bounds-marks-at-in-loop
bounds-marks-at-in-loop c = omega (arith, c.if-at-gt-MAX_SCHEMA_ENTRIES.false, c.loop.invariant.marks_size, c.requires.0)

pub read_schema-requires : goal.read_schema-requires
read_schema-requires c = omega (arith, c.loop.invariant.front.size, c.requires.1)

pub shape_of-sheet-in_default-read_schema : goal.shape_of-sheet-in_default-read_schema
shape_of-sheet-in_default-read_schema c = c.open_mark.ensures.size ∙ c.loop.invariant.sheet_size

pub shape_of-words-in_default-read_schema : goal.shape_of-words-in_default-read_schema
shape_of-words-in_default-read_schema c = c.read_schema.ensures.kept.size ∙ c.loop.invariant.front.size

pub returns-in_default-read_schema : goal.returns-in_default-read_schema
returns-in_default-read_schema c =
    let r = rw c.in-Err.is at c.check_round.ensures in
    search-unread c.loop.invariant (omega arith) r c.if-at-gt-MAX_SCHEMA_ENTRIES.false c.if-marks-at-ne0.false (c.loop.invariant.marks_size ∙ c.requires.0) c.open_mark.ensures c.read_schema.ensures c.in_default-read_schema.is

pub loop-preserved : goal.loop-preserved
loop-preserved c =
    let r = rw c.in-Err.is at c.check_round.ensures in
    let one : max_marks + 1 - (c.loop.counter + 1) ≡ max_marks + 1 - c.loop.counter - 1 = omega arith in
    rw one (search-on c.loop.invariant (omega arith) r c.if-at-gt-MAX_SCHEMA_ENTRIES.false c.if-marks-at-ne0.false (c.loop.invariant.marks_size ∙ c.requires.0) c.open_mark.ensures c.read_schema.ensures c.in-Some.is)

pub shape_of-sheet : goal.shape_of-sheet
shape_of-sheet c = c.loop.invariant.sheet_size

pub shape_of-marks : goal.shape_of-marks
shape_of-marks c = c.loop.invariant.marks_size

pub shape_of-words : goal.shape_of-words
shape_of-words c = c.loop.invariant.front.size

pub returns : goal.returns
returns c = search-ends c.loop.invariant (omega arith)
