-- `openings::rounds::check_round` meets its contract: it finds what the verdict shows.
use Rattle.openings.proofs.RoundSteps.{passes-round, refuses-round}
use Rattle.openings.proofs.rounds.check_round.Goals as goal

pub returns-in_default : goal.returns-in_default
returns-in_default c = passes-round _ c.unbound-scope.ensures c.judge-a.ensures c.in_default.is

pub returns : goal.returns
returns c = refuses-round _ c.unbound-scope.ensures c.judge-a.ensures c.in-Err.is c.refused_at.ensures
