-- `schema::read::read_holder` meets its contract: the members are announced, then read.
use Rattle.sheet.specs.Places.{holder_of}
use Rattle.schema.proofs.Slots.{kept-all}
use Rattle.schema.proofs.SchemaSteps.{holder-crowded, holder-none, holder-good}
use Rattle.schema.proofs.read.read_holder.Goals as goal

pub returns-then-first-count : goal.returns-then-first-count
unfolding holder_of
returns-then-first-count c =
    record { kept = kept-all c.args.words.now; answer = holder-crowded c.args.sheet.now c.args.from (holder_of c.args.head) c.if-first-count.true }

pub returns-in_err-to : goal.returns-in_err-to
unfolding holder_of
returns-in_err-to c = rw c.from_residual.ensures (record { kept = c.read_members.ensures.kept; answer = holder-none c.args.sheet.now c.args.from (holder_of c.args.head) c.if-first-count.false (rw c.in_err-to.was at c.read_members.ensures.answer) })

pub returns : goal.returns
unfolding holder_of
returns c =
    record { kept = c.read_members.ensures.kept; answer = holder-good c.args.sheet.now c.args.from (holder_of c.args.head) c.if-first-count.false c.args.words.now _ _ (rw c.in_ok-to.was at c.read_members.ensures.answer) }
