-- `timestamp::is_separator` meets its contract.
use Rattle.timestamp.proofs.Laws.{separator-yes, separator-other}
use Rattle.timestamp.proofs.is_separator.Goals as goal

pub returns-in-32 : goal.returns-in-32
returns-in-32 c = separator-yes _ c.in-32.is

pub returns-in_default : goal.returns-in_default
returns-in_default c = separator-other _ c.in_default.in_default-own.rest.1
