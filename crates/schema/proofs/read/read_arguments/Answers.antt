-- `schema::read::read_arguments` meets its contract, by whether there are arguments.
use mathlib.Core.Path.{ap}
use Rattle.sheet.specs.Places.{holder_of, arguments_of}
use Rattle.schema.proofs.Slots.{kept-all}
use Rattle.schema.proofs.SchemaSteps.{arguments-absent, arguments-none, arguments-good}
use Rattle.schema.proofs.read.read_arguments.Goals as goal

pub returns-in_default : goal.returns-in_default
unfolding arguments_of
returns-in_default c =
    record { kept = kept-all c.args.words.now; answer = arguments-absent c.args.sheet.now c.args.words.now c.args.from (arguments_of c.args.head) (ap arguments_of c.in_default.is) c.requires.at }

pub returns-in_err-holder : goal.returns-in_err-holder
unfolding arguments_of
returns-in_err-holder c = rw c.from_residual.ensures (record { kept = c.read_holder.ensures.kept; answer = arguments-none c.args.sheet.now c.args.from (arguments_of c.args.head) (holder_of c.in-Some.h) (ap arguments_of c.in-Some.is) (rw c.in_err-holder.was at c.read_holder.ensures.answer) })

pub returns : goal.returns
unfolding arguments_of
returns c =
    record { kept = c.read_holder.ensures.kept; answer = arguments-good c.args.sheet.now c.args.from (arguments_of c.args.head) (holder_of c.in-Some.h) (ap arguments_of c.in-Some.is) c.args.words.now _ _ _ (rw c.in_ok-holder.was at c.read_holder.ensures.answer) }
