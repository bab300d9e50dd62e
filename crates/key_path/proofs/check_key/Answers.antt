-- `key_path::check_key` meets its contract.
use Rattle.key_path.proofs.KeySteps.{told-readable, told-unreadable}
use Rattle.key_path.proofs.check_key.Goals as goal

pub returns-in-Ok : goal.returns-in-Ok
returns-in-Ok c = told-readable _ _ _ _ _ _ c.reader_of.ensures c.unbound-scope.ensures c.read_fields.ensures c.in-Ok.is c.accepted.ensures

pub returns-in-Err : goal.returns-in-Err
returns-in-Err c = told-unreadable _ _ _ _ _ _ c.reader_of.ensures c.unbound-scope.ensures c.read_fields.ensures c.in-Err.is c.unreadable.ensures
