-- `host_numbers::instant_fields` meets its contract: too few bytes, no instant, or the seven fields written.
use mathlib.Core.Path.{refl}
use Rattle.timestamp.specs.Order.{list_of}
use Rattle.host_numbers.proofs.Instants.{instant-short, instant-unread, instant-written}
use Rattle.host_numbers.proofs.instant_fields.Goals as goal

pub returns-then-fields-lt-INSTANT_BYTES : goal.returns-then-fields-lt-INSTANT_BYTES
returns-then-fields-lt-INSTANT_BYTES c = instant-short c.args.text.now c.args.fields.now c.if-fields-lt-INSTANT_BYTES.true

pub returns-in_default : goal.returns-in_default
returns-in_default c = instant-unread c.args.text.now c.args.fields.now c.if-fields-lt-INSTANT_BYTES.false (rw c.in_default.is at c.parse.ensures)

pub returns : goal.returns
unfolding list_of
returns c = instant-written c.args.text.now c.if-fields-lt-INSTANT_BYTES.false (rw c.in-Some.is at c.parse.ensures) refl c.put_numbers.ensures
