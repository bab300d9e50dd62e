use Rattle.schema_edits.proofs.PlaceSteps.{name-unread, name-known}
use Rattle.schema_edits.proofs.place.field_name.Goals as goal

pub returns-in_default : goal.returns-in_default
returns-in_default c = name-unread c.args.field.now _ c.known_field.ensures c.in_default.is

pub returns : goal.returns
returns c = name-known c.args.field.now _ c.known_field.ensures c.in-Some.is c.bytes_of.ensures
