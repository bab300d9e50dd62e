-- `drafts::refusals::has_room` meets its contract.
use Rattle.drafts.proofs.LentSteps.{short-path, short-scratch, short-records, by-buffer}
use Rattle.drafts.proofs.refusals.has_room.Goals as goal

pub returns-then-path-lt-PATH_BYTES : goal.returns-then-path-lt-PATH_BYTES
returns-then-path-lt-PATH_BYTES c = short-path c.args.count c.args.buffer c.args.records c.args.path c.args.scratch c.if-path-lt-PATH_BYTES.true

pub returns-then-scratch-lt-SCRATCH_WORDS : goal.returns-then-scratch-lt-SCRATCH_WORDS
returns-then-scratch-lt-SCRATCH_WORDS c = short-scratch c.args.count c.args.buffer c.args.records c.args.path c.args.scratch c.if-path-lt-PATH_BYTES.false c.if-scratch-lt-SCRATCH_WORDS.true

pub returns-then-records-count : goal.returns-then-records-count
returns-then-records-count c = short-records c.args.count c.args.buffer c.args.records c.args.path c.args.scratch c.if-path-lt-PATH_BYTES.false c.if-scratch-lt-SCRATCH_WORDS.false c.if-records-count.true

pub returns : goal.returns
returns c = by-buffer c.args.count c.args.buffer c.args.records c.args.path c.args.scratch c.if-path-lt-PATH_BYTES.false c.if-scratch-lt-SCRATCH_WORDS.false c.if-records-count.false
