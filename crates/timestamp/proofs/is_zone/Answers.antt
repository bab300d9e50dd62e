-- `timestamp::is_zone` meets its contract.
use Rattle.timestamp.proofs.Laws.{zone-yes, zone-other}
use Rattle.timestamp.proofs.is_zone.Goals as goal

pub returns-in-90 : goal.returns-in-90
returns-in-90 c = zone-yes _ c.in-90.is

pub returns-in_default : goal.returns-in_default
returns-in_default c = zone-other _ c.in_default.in_default-own.rest.1
